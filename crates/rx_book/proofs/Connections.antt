-- The connection that an opening forces: it comes directly after the opening, and is its hub's only one after all that is forced.
use Rattle.rx_book.proofs.Common.{◌≡◌, ℕ, ◌+◌, ◌<◌, ◌≤◌, Bool, true, false, List, [], ◌∷◌, ◌++◌, length, Option, Some, None, cond, slice_get, refl, sym, ap}
use Rattle.rx_book.proofs.Common.{subst, ◌∙◌, inl, inr, ◌⊎◌, arith, length-append, append_assoc, append-nil, ◌≢◌, ◌&&◌, not, option_map_or, option_to_list}
use Rattle.rx_book.proofs.Common.{false≢true, both_ways, cases_order, and_parts, and_from, eq-eqb, false_from_ne_true, not-true, slice_get_within, same_Some}
use Rattle.rx_book.proofs.Common.{Kept, Place, Kind, Leaf, Pass, Flat, Switch, Until, Sub, Event, Open, Connect, is_auto_hub, is_subscriber_of, at, is_open}
use Rattle.rx_book.proofs.Common.{open_subscribers, open_connections, connecting, due, none_waits, IsConnected}
use Rattle.rx_book.proofs.Common.{IsConnectDue, IsDue, IsForced, IsSettled, stays, more, MayFollow, IsForcedOn, IsLawful, filter_nonempty, slice_get-append}
use Rattle.rx_book.proofs.Common.{slice_get_last, at-append, at_within, is_open_within, stays_closed_after, is_open_new, may_subscribe, one_where_subscribed}
use Rattle.rx_book.proofs.Common.{connection_listed, first_connection, settled_connected, kept_subscribed, connected_first, forced_connected, opened_settled}
use Rattle.rx_book.proofs.Common.{opened_stays, has_connection, forces_connect, connects_none, opening_connects, makes_connection, connection_made}
use Rattle.std.proofs.Common.{rules}

-- what is forced ------------------------------------------------------------------------------------

due_connects_none : (base : Kept) → {h : List Event} {e : Event} → IsDue base h e → makes_connection e ≡ false
due_connects_none base x1 = search rules

-- no connection comes in or after a history in which no hub waits for one
pub record HasNoMore (h k : List Event) : Type 0 where
  pub none_wait : IsConnected k
  pub none_come : (n : ℕ) → length h ≤ n → at makes_connection k n ≡ false

past_none : (h : List Event) (n : ℕ) → length h ≤ n → at makes_connection h n ≡ false
past_none h n past = search (rules, false_from_ne_true, at_within)

forced_none : (base : Kept) → {h : List Event} {e : Event} → IsConnected h → IsForced base h e → makes_connection e ≡ false
forced_none base none (connecting {g = g} d) = absurd (none g d)
forced_none base none (due quiet d) = due_connects_none base d

one_more : (base : Kept) → {h k : List Event} {e : Event} → HasNoMore h k → IsForced base k e → HasNoMore h (k ++ e ∷ [])
one_more base {h = h} {k = k} {e = e} before f = record { none_wait = forced_connected base k e 0 (none_waits before.none_wait) f; none_come = none_come } where
  none_come : (n : ℕ) → length h ≤ n → at makes_connection (k ++ e ∷ []) n ≡ false
  none_come n past = by_place (cases_order n (length k)) where
    by_place : (n ≡ length k) ⊎ ((n < length k) ⊎ (length k < n)) → at makes_connection (k ++ e ∷ []) n ≡ false
    by_place (inl same) = ap (λ (o : Option Event). option_map_or makes_connection o false) (ap (slice_get (k ++ e ∷ [])) same ∙ slice_get_last k e) ∙
        forced_none base before.none_wait f
    by_place (inr (inl l)) = at-append makes_connection k (e ∷ []) n l ∙ before.none_come n past
    by_place (inr (inr l)) = past_none (k ++ e ∷ []) n (omega (arith, length-append k (e ∷ [])))

pub no_more : (base : Kept) → {h k : List Event} → IsConnected h → IsForcedOn base h k → HasNoMore h k
no_more base {h = h} none stays = record { none_wait = none; none_come = past_none h }
no_more base none (more on f) = one_more base (no_more base none on) f

-- where a connection alone is forced, it comes first
connects_first : (base : Kept) → {h k : List Event} {g : ℕ} → ((e : Event) → IsForced base h e → e ≡ Connect g) → IsForcedOn base h k →
    (k ≡ h) ⊎ IsForcedOn base (h ++ Connect g ∷ []) k
connects_first base alone stays = inl refl
connects_first base {h = h} {g = g} alone (more {k = k} {e = e} on f) = search (rules, more, stays, connects_first base alone on)

added_on : (base : Kept) → {h k : List Event} → IsForcedOn base h k → (added : List Event) × (k ≡ h ++ added)
added_on base {h = h} stays = ([], sym (append-nil h))
added_on base {h = h} (more {e = e} on f) =
    let before = added_on base on in
    (before.0 ++ e ∷ [], ap (λ (q : List Event). q ++ e ∷ []) before.1 ∙ append_assoc h before.0 (e ∷ []))

-- the opening of a subscriber -----------------------------------------------------------------------

module _ (base : Kept) (h : List Event) (place : Place) (g : ℕ) (law : IsLawful base h) (next : MayFollow base h (Open place (Sub g)))
    (forces : forces_connect h (Sub g) ≡ true) where
  abbrev m : List Event
  m = h ++ Open place (Sub g) ∷ []

  long : length m ≡ length h + 1
  long = length-append h (Open place (Sub g) ∷ [])

  parts : (at is_auto_hub h g ≡ true) × (not (has_connection h g) ≡ true)
  parts = and_parts (at is_auto_hub h g) (not (has_connection h g)) forces

  -- an open connection there was open before
  older : (c : ℕ) → slice_get m c ≡ Some (Connect g) → is_open m c ≡ true → ⊥
  older c connects alive = by_place (cases_order c (length h)) where
    by_place : (c ≡ length h) ⊎ ((c < length h) ⊎ (length h < c)) → ⊥
    by_place (inl same) =
        let is : Open place (Sub g) ≡ Connect g = same_Some _ _ (sym (slice_get_last h (Open place (Sub g))) ∙ ap (slice_get m) (sym same) ∙ connects) in
        absurd (cc)
    by_place (inr (inr l)) = let w = is_open_within m c alive in let n = long in absurd (omega arith)
    by_place (inr (inl l)) = by_test (is_open h c) refl where
      by_test : (b : Bool) → is_open h c ≡ b → ⊥
      by_test true was = connection_listed h g c (sym (slice_get-append h (Open place (Sub g) ∷ []) c l) ∙ connects) was
          (connects_none h g (not-true (has_connection h g) parts.1))
      by_test false was = both_ways (is_open m c) (stays_closed_after h (Open place (Sub g) ∷ []) c l was) alive

  unconnected : open_connections m g ≡ []
  unconnected = by_list (open_connections m g) refl where
    by_list : (cs : List ℕ) → open_connections m g ≡ cs → cs ≡ []
    by_list [] found = refl
    by_list (c ∷ cs) found = let first = first_connection m g c cs found in absurd (older c first.0 first.1)

  subscribes : at (is_subscriber_of g) m (length h) ≡ true
  subscribes = rw (slice_get_last h (Open place (Sub g))) (eq-eqb g g refl)

  -- its hub waits for a connection, and nothing else is forced
  waits : IsConnectDue m g
  waits = record {
    auto = at-append is_auto_hub h (Open place (Sub g) ∷ []) g (at_within is_auto_hub h g parts.0) ∙ parts.0;
    subscriber = length h;
    subscribes = subscribes;
    subscribed = is_open_new base h (Open place (Sub g)) next;
    waits = search (rules, slice_get_within, long);
    unconnected = unconnected;
  }

  only : (k : ℕ) → IsConnectDue m k → k ≡ g
  only = kept_subscribed base h place g law (settled_connected base h (opened_settled base next))

  alone : (e : Event) → IsForced base m e → e ≡ Connect g
  alone e (connecting {g = k} d) = ap (λ q. Connect q) (only k d)
  alone e (due none d) = absurd (none g waits)

  module _ (k : List Event) (on : IsForcedOn base m k) (law_on : IsLawful base k) (settled : IsSettled base k) where
    connected : IsForcedOn base (m ++ Connect g ∷ []) k
    connected = by_first (connects_first base alone on) where
      by_first : (k ≡ m) ⊎ IsForcedOn base (m ++ Connect g ∷ []) k → IsForcedOn base (m ++ Connect g ∷ []) k
      by_first (inr later) = later
      by_first (inl same) = absurd (settled.none (Connect g) (connecting (subst (λ (q : List Event). IsConnectDue q g) (sym same) waits)))

    -- the history goes on from the opening, and from the connection
    kept : (n : ℕ) → n < length m → slice_get k n ≡ slice_get m n
    kept n l = let grown = added_on base on in ap (λ (q : List Event). slice_get q n) grown.1 ∙ slice_get-append m grown.0 n l

    here : slice_get k (length m) ≡ Some (Connect g)
    here =
        let grown = added_on base connected in
        let within : length m < length (m ++ Connect g ∷ []) = omega (arith, length-append m (Connect g ∷ [])) in
        ap (λ (q : List Event). slice_get q (length m)) grown.1 ∙ slice_get-append (m ++ Connect g ∷ []) grown.0 (length m) within ∙
        slice_get_last m (Connect g)

    pub connection_comes : at makes_connection k (length h + 1) ≡ true
    connection_comes = ap (λ n. at makes_connection k n) (sym long) ∙ ap (λ (o : Option Event). option_map_or makes_connection o false) here

    -- each open connection of the hub is this one
    new_one : (c : ℕ) → slice_get k c ≡ Some (Connect g) → is_open k c ≡ true → c ≡ length h + 1
    new_one c connects alive = by_place (cases_order c (length m)) where
      by_test : c < length m → (b : Bool) → is_open m c ≡ b → ⊥
      by_test l true was = older c (sym (kept c l) ∙ connects) was
      by_test l false was =
          let grown = added_on base on in
          both_ways (is_open k c) (ap (λ (q : List Event). is_open q c) grown.1 ∙ stays_closed_after m grown.0 c l was) alive

      by_place : (c ≡ length m) ⊎ ((c < length m) ⊎ (length m < c)) → c ≡ length h + 1
      by_place (inl same) = same ∙ long
      by_place (inr (inl l)) = absurd (by_test l (is_open m c) refl)
      by_place (inr (inr l)) =
          let quiet = no_more base (connected_first base m g only) connected in
          let out : at makes_connection k c ≡ false = quiet.none_come c (omega (arith, length-append m (Connect g ∷ []))) in
          absurd (both_ways (at makes_connection k c) out (ap (λ (o : Option Event). option_map_or makes_connection o false) connects))

    subscribed : open_subscribers k g ≢ []
    subscribed none =
        let near : length h < length m = let n = long in omega arith in
        let alive = opened_stays base h k place (Sub g) law next on in
        let within = is_open_within k (length h) alive in
        let listed : at (is_subscriber_of g) k (length h) ≡ true =
        ap (λ (o : Option Event). option_map_or (is_subscriber_of g) o false) (kept (length h) near) ∙ subscribes in
        filter_nonempty (λ n. at (is_subscriber_of g) k n && is_open k n) 0 (length k) (length h) (omega arith) (omega arith) (and_from _ _ listed alive) none

    pub connection_stays : open_connections k g ≡ (length h + 1) ∷ []
    connection_stays = by_list (open_connections k g) refl (one_where_subscribed base k g law_on settled auto subscribed) where
      auto : at is_auto_hub k g ≡ true
      auto = let l = at_within is_auto_hub m g waits.auto in ap (λ (o : Option Event). option_map_or is_auto_hub o false) (kept g l) ∙ waits.auto

      by_list : (cs : List ℕ) → open_connections k g ≡ cs → length (open_connections k g) ≡ 1 → cs ≡ (length h + 1) ∷ []
      by_list [] found one = absurd (let n = ap (length {A = ℕ}) found in omega arith)
      by_list (c ∷ []) found one = let first = first_connection k g c [] found in ap (λ (n : ℕ). n ∷ []) (new_one c first.0 first.1)
      by_list (c ∷ d ∷ cs) found one = absurd (let n = ap (length {A = ℕ}) found in omega arith)

-- what is answered of it ----------------------------------------------------------------------------

listed_one : (o : Option ℕ) (n : ℕ) → option_to_list o ≡ n ∷ [] → o ≡ Some n
listed_one x0 n listed = search rules

module _ (base : Kept) (h : List Event) (place : Place) (law : IsLawful base h) (k : List Event) (law_on : IsLawful base k) (settled : IsSettled base k) where
  -- the connection that comes directly after the opening is the open one of its hub, where one was forced, and else there is none
  pub connection_answered : (kind : Kind) (connects : Bool) (o : Option ℕ) → MayFollow base h (Open place kind) →
      IsForcedOn base (h ++ Open place kind ∷ []) k → connects ≡ forces_connect h kind →
      ((g : ℕ) → kind ≡ Sub g → connects ≡ true → option_to_list o ≡ open_connections k g) → (connects ≡ false → o ≡ None) → o ≡ connection_made h k
  connection_answered kind false o next on is forced quiet =
      let m = h ++ Open place kind ∷ [] in
      let settled_before = opened_settled base next in
      let none_waits_then : IsConnected m = λ g d. false≢true (is ∙ opening_connects h place kind g law settled_before (may_subscribe base next) d) in
      let out : at makes_connection k (length h + 1) ≡ false =
      (no_more base none_waits_then on).none_come (length h + 1) (omega (arith, length-append h (Open place kind ∷ []))) in
      quiet refl ∙ sym (ap (λ (b : Bool). cond b (Some (length h + 1)) None) out)
  connection_answered (Sub g) true o next on is forced quiet =
      let one = connection_stays base h place g law next (sym is) k on law_on settled in
      let here : at makes_connection k (length h + 1) ≡ true = connection_comes base h place g law next (sym is) k on law_on settled in
      listed_one o (length h + 1) (forced g refl refl ∙ one) ∙ sym (ap (λ (b : Bool). cond b (Some (length h + 1)) None) here)
  connection_answered Leaf true o next on is forced quiet = absurd (false≢true (sym is))
  connection_answered Pass true o next on is forced quiet = absurd (false≢true (sym is))
  connection_answered Flat true o next on is forced quiet = absurd (false≢true (sym is))
  connection_answered Switch true o next on is forced quiet = absurd (false≢true (sym is))
  connection_answered Until true o next on is forced quiet = absurd (false≢true (sym is))
