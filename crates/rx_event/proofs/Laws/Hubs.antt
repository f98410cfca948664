-- Hubs: at most one connection of each is open, and in a settled history a RefCount hub has one just where it has a subscriber.
use Rattle.rx_event.proofs.Laws.Common.{subst, ◌≡◌, ℕ, ◌+◌, ◌<◌, ◌≤◌, true, false, List, [], ◌∷◌, ◌++◌, length, Option, Some, refl, sym, ap, ◌∙◌, arith, inl}
use Rattle.rx_event.proofs.Laws.Common.{inr, ◌⊎◌, ◌==◌, take, drop, slice_get, length-append, ◌&&◌, option_map_or, cases_order, false≢true, and_parts, and_from}
use Rattle.rx_event.proofs.Laws.Common.{eq-eqb, eqb-true, length-take-le, slice_get_within, same_Some, none-some, list_any, Kept, Place, Root, Source, Inner}
use Rattle.rx_event.proofs.Laws.Common.{Notifier, Kind, Sub, Event, Open, Connect, Close, makes_hub, is_auto_hub, is_manual_hub, is_connect_of}
use Rattle.rx_event.proofs.Laws.Common.{is_subscriber_of, at, places, parent, ancestors, is_within, is_open, open_subscribers, open_connections, cut, left}
use Rattle.rx_event.proofs.Laws.Common.{connecting, due, IsDue, IsConnectDue, IsSettled, IsInOrderAt, MayFollow, IsLawful, ◌≢◌, IsHubbed, IsInOrder}
use Rattle.std.proofs.Common.{take-append-drop, rules}
use Rattle.std.proofs.lemmas.List.{length-take}
use Rattle.rx_event.proofs.Laws.Lists.{first_passes, filter_nonempty, filter_few}
use Rattle.rx_event.proofs.Laws.Places.{slice_get-append, slice_get_last, at-append, at_within}
use Rattle.rx_event.proofs.Laws.Parents.{parent-lt, parent_name, ancestors-append, is_within-le, within_cases}
use Rattle.rx_event.proofs.Laws.Lawful.{in_base, since_base, FoundAt, found_at}
use Rattle.rx_event.proofs.Laws.Openness.{is_open_within, open_old}
use Rattle.rx_event.proofs.Laws.Steps.{by_events, forced_kind}

-- a connection --------------------------------------------------------------------------------------

connect_found : (g : ℕ) (o : Option Event) → option_map_or (is_connect_of g) o false ≡ true → o ≡ Some (Connect g)
connect_found g o connects = grind arith

-- what connects g is its Connect
pub at_connect : (h : List Event) (g c : ℕ) → at (is_connect_of g) h c ≡ true → slice_get h c ≡ Some (Connect g)
at_connect h g c connects = connect_found g (slice_get h c) connects

due_connect : (base : Kept) → {h : List Event} {g : ℕ} → IsDue base h (Connect g) → ⊥
due_connect base d = elim d [ ]

-- a hub is connected where no connection of it is open
pub may_connect : (base : Kept) → {h : List Event} {g : ℕ} → MayFollow base h (Connect g) → open_connections h g ≡ []
may_connect base x1 = search (rules, due_connect)

-- also by any event that connects it
pub connect_free : (base : Kept) → (h : List Event) (e : Event) (g : ℕ) → MayFollow base h e → is_connect_of g e ≡ true → open_connections h g ≡ []
connect_free base h x2 g next connects = search (rules, eqb-true, may_connect, false≢true)

-- one connection ----------------------------------------------------------------------------------

-- Two open connections of one hub
pub record TwoConnections (h : List Event) (g a b : ℕ) : Type 0 where
  pub one : at (is_connect_of g) h a ≡ true
  pub one_open : is_open h a ≡ true
  pub other : at (is_connect_of g) h b ≡ true
  pub other_open : is_open h b ≡ true

-- are the same
pub one_connection : (base : Kept) → (h : List Event) → IsLawful base h → (g a b : ℕ) → TwoConnections h g a b → a ≡ b
one_connection base =
    by_events base (λ h. (g a b : ℕ) → TwoConnections h g a b → a ≡ b) (λ s g a b two. s.one_connection g a b two.one two.one_open two.other two.other_open)
    (λ h e law next. after next)
  where
    clash : {h : List Event} {e : Event} → MayFollow base h e → (g a : ℕ) {b : ℕ} → a < length h → b ≡ length h → at (is_connect_of g) (h ++ e ∷ []) a ≡ true →
        is_open (h ++ e ∷ []) a ≡ true → at (is_connect_of g) (h ++ e ∷ []) b ≡ true → ⊥
    clash {h} {e} next g a l last one one_open other =
        let new : is_connect_of g e ≡ true =
        sym (ap (λ o. option_map_or (is_connect_of g) o false) (ap (slice_get (h ++ e ∷ [])) last ∙ slice_get_last h e)) ∙ other in
        let connects : at (is_connect_of g) h a ≡ true = sym (at-append (is_connect_of g) h (e ∷ []) a l) ∙ one in
        filter_nonempty (λ n. at (is_connect_of g) h n && is_open h n) 0 (length h) a (omega arith) (omega arith)
        (and_from _ _ connects (open_old h e a l one_open)) (connect_free base h e g next new)

    after : {h : List Event} {e : Event} → MayFollow base h e → ((g a b : ℕ) → TwoConnections h g a b → a ≡ b) → (g a b : ℕ) →
        TwoConnections (h ++ e ∷ []) g a b → a ≡ b
    after {h} {e} next before g a b two = by_place (cases_order a (length h)) (cases_order b (length h)) where
      within : (n : ℕ) → is_open (h ++ e ∷ []) n ≡ true → n < length h + 1
      within n o = let l = is_open_within (h ++ e ∷ []) n o in omega (arith, length-append h (e ∷ []))

      by_place : (a ≡ length h) ⊎ ((a < length h) ⊎ (length h < a)) → (b ≡ length h) ⊎ ((b < length h) ⊎ (length h < b)) → a ≡ b
      by_place (inl p) (inl q) = p ∙ sym q
      by_place (inr (inr l)) q = absurd (let w = within a two.one_open in omega arith)
      by_place (inl p) (inr (inr l)) = absurd (let w = within b two.other_open in omega arith)
      by_place (inr (inl l)) (inr (inr m)) = absurd (let w = within b two.other_open in omega arith)
      by_place (inr (inl l)) (inl q) = absurd (clash next g a l q two.one two.one_open two.other)
      by_place (inl p) (inr (inl l)) = absurd (clash next g b l p two.other two.other_open two.one)
      by_place (inr (inl l)) (inr (inl m)) = before g a b (record {
        one = sym (at-append (is_connect_of g) h (e ∷ []) a l) ∙ two.one;
        one_open = open_old h e a l two.one_open;
        other = sym (at-append (is_connect_of g) h (e ∷ []) b m) ∙ two.other;
        other_open = open_old h e b m two.other_open;
      })

-- so a hub has at most one
pub one_open_connection : (base : Kept) → (h : List Event) → IsLawful base h → (g : ℕ) → length (open_connections h g) ≤ 1
one_open_connection base h law g = filter_few (λ n. at (is_connect_of g) h n && is_open h n) 0 (length h) same where
  same : (a b : ℕ) → (at (is_connect_of g) h a && is_open h a) ≡ true → (at (is_connect_of g) h b && is_open h b) ≡ true → a ≡ b
  same a b one other =
      let p : (at (is_connect_of g) h a ≡ true) × (is_open h a ≡ true) = and_parts _ _ one in
      let q : (at (is_connect_of g) h b ≡ true) × (is_open h b ≡ true) = and_parts _ _ other in
      one_connection base h law g a b (record { one = p.0; one_open = p.1; other = q.0; other_open = q.1 })

-- the hub of a connection ------------------------------------------------------------------------

pub auto_made : (o : Option Event) → option_map_or is_auto_hub o false ≡ true → option_map_or makes_hub o false ≡ true
auto_made o auto = grind arith

pub manual_made : (o : Option Event) → option_map_or is_manual_hub o false ≡ true → option_map_or makes_hub o false ≡ true
manual_made o manual = grind arith

-- what is connected is a hub
pub may_connect_hub : (base : Kept) → {h : List Event} {g : ℕ} → MayFollow base h (Connect g) → at makes_hub h g ≡ true
may_connect_hub base x1 = search (rules, auto_made, due_connect, manual_made)

pub hub_before : (base : Kept) → (h : List Event) → IsLawful base h → (c g : ℕ) → slice_get h c ≡ Some (Connect g) → at makes_hub (take c h) g ≡ true
hub_before base h law c g at_c = by_case (found_at base h law c (Connect g) at_c) where
  by_case : FoundAt base h c (Connect g) → at makes_hub (take c h) g ≡ true
  by_case (in_base found same) = ap (λ k. at makes_hub k g) same ∙ law.started.connects c g found
  by_case (since_base next) = may_connect_hub base next

-- so a connection has a larger number than its hub
pub connection_hub : (base : Kept) → (h : List Event) → IsLawful base h → (g c : ℕ) → slice_get h c ≡ Some (Connect g) → g < c
connection_hub base h law g c at_c =
    let l : g < length (take c h) = at_within makes_hub (take c h) g (hub_before base h law c g at_c) in
    let room = slice_get_within h c (Connect g) at_c in
    let long : length (take c h) ≡ c = length-take-le c h (omega arith) in omega arith

-- settled histories -------------------------------------------------------------------------------

-- in a settled history no RefCount hub has a subscriber and no connection
pub subscribed_connected : (base : Kept) → (h : List Event) (g : ℕ) → IsSettled base h → at is_auto_hub h g ≡ true → open_connections h g ≡ [] →
    open_subscribers h g ≡ []
subscribed_connected base h g settled auto unconnected = by_list (open_subscribers h g) refl where
  none_due : (k : ℕ) → IsConnectDue h k → ⊥
  none_due k d = settled.none (Connect k) (connecting d)

  waiting : (s : ℕ) → at (is_subscriber_of g) h s ≡ true → is_open h s ≡ true → ⊥
  waiting s subscribes subscribed = none_due g (record {
    auto = auto;
    subscriber = s;
    subscribes = subscribes;
    subscribed = subscribed;
    waits = λ t ended. settled.none _ (due none_due (cut subscribed ended));
    unconnected = unconnected;
  })

  by_list : (ss : List ℕ) → open_subscribers h g ≡ ss → ss ≡ []
  by_list [] e = refl
  by_list (s ∷ ss) e =
      let first : (at (is_subscriber_of g) h s && is_open h s) ≡ true = first_passes (λ n. at (is_subscriber_of g) h n && is_open h n) (places h) s ss e in
      let parts : (at (is_subscriber_of g) h s ≡ true) × (is_open h s ≡ true) = and_parts _ _ first in absurd (waiting s parts.0 parts.1)

-- nor a connection and no subscriber
pub unsubscribed_unconnected : (base : Kept) → (h : List Event) (g : ℕ) → IsSettled base h → at is_auto_hub h g ≡ true → open_subscribers h g ≡ [] →
    open_connections h g ≡ []
unsubscribed_unconnected base h g settled auto unsubscribed = by_list (open_connections h g) refl where
  none_due : (k : ℕ) → IsConnectDue h k → ⊥
  none_due k d = settled.none (Connect k) (connecting d)

  by_list : (cs : List ℕ) → open_connections h g ≡ cs → cs ≡ []
  by_list [] e = refl
  by_list (c ∷ cs) e =
      let first : (at (is_connect_of g) h c && is_open h c) ≡ true = first_passes (λ n. at (is_connect_of g) h n && is_open h n) (places h) c cs e in
      let parts : (at (is_connect_of g) h c ≡ true) × (is_open h c ≡ true) = and_parts _ _ first in
      absurd (settled.none (Close c) (due none_due (left parts.1 (at_connect h g c parts.0) auto unsubscribed)))

-- so it has one connection where it has a subscriber
pub one_where_subscribed : (base : Kept) → (h : List Event) (g : ℕ) → IsLawful base h → IsSettled base h → at is_auto_hub h g ≡ true →
    open_subscribers h g ≢ [] → length (open_connections h g) ≡ 1
one_where_subscribed base h g law settled auto subscribed = by_list (open_connections h g) refl (one_open_connection base h law g) where
  by_list : (cs : List ℕ) → open_connections h g ≡ cs → length cs ≤ 1 → length cs ≡ 1
  by_list [] e few = absurd (subscribed (subscribed_connected base h g settled auto e))
  by_list (c ∷ []) e few = refl
  by_list (c ∷ d ∷ cs) e few = absurd (omega arith)

-- the order of hubs -------------------------------------------------------------------------------

pub subscriber_found : (g : ℕ) (o : Option Event) → option_map_or (is_subscriber_of g) o false ≡ true → (place : Place) × (o ≡ Some (Open place (Sub g)))
subscriber_found g x1 subscribes = search (rules, false≢true, eqb-true)

-- the hub of what is opened is there, and in order
pub may_subscribe : (base : Kept) → {h : List Event} {place : Place} {kind : Kind} → MayFollow base h (Open place kind) → IsHubbed h place kind
may_subscribe base x1 = search (rules, false≢true, forced_kind)

hubbed_before : (base : Kept) → (h : List Event) → IsLawful base h → (n : ℕ) (place : Place) (kind : Kind) → slice_get h n ≡ Some (Open place kind) →
    IsHubbed (take n h) place kind
hubbed_before base h law n place kind at_n = by_case (found_at base h law n (Open place kind) at_n) where
  by_case : FoundAt base h n (Open place kind) → IsHubbed (take n h) place kind
  by_case (in_base found same) = subst (λ k. IsHubbed k place kind) (sym same) (law.started.hubbed n place kind found)
  by_case (since_base next) = may_subscribe base next

-- the hub of a subscriber is in the history
pub subscriber_hub : (base : Kept) → (h : List Event) → IsLawful base h → (g s : ℕ) → at (is_subscriber_of g) h s ≡ true → g < length h
subscriber_hub base h law g s subscribes =
    let found = subscriber_found g (slice_get h s) subscribes in
    let hubbed : IsHubbed (take s h) found.0 (Sub g) = hubbed_before base h law s found.0 (Sub g) found.1 in
    let l : g < length (take s h) = at_within makes_hub (take s h) g hubbed.0 in omega (arith, length-take s h)

-- the connections above an old node were there when it was a new one
older_order : (h : List Event) {g : ℕ} (s : ℕ) {q : ℕ} (a : ℕ) {k : ℕ} → IsInOrderAt (take s h) g q → q < s → s < length h → is_within h a q ≡ true →
    slice_get h a ≡ Some (Connect k) → g < k
older_order h s {q} a {k} order l m within connects =
    let same : take s h ++ drop s h ≡ h = take-append-drop s h in
    let room : length (take s h) ≡ s = length-take-le s h (omega arith) in
    let above : ancestors (take s h) q ≡ ancestors h q = sym (ancestors-append (take s h) (drop s h) q (omega arith)) ∙ ap (λ t. ancestors t q) same in
    let le : a ≤ q = is_within-le h a q within in
    let here : slice_get (take s h) a ≡ slice_get h a = sym (slice_get-append (take s h) (drop s h) a (omega arith)) ∙ ap (λ t. slice_get t a) same in
    order a k (ap (list_any (λ b. a == b)) above ∙ within) (here ∙ connects)

-- every connection above a subscriber is of a later hub, so that no item goes round in a circle
pub hubs_in_order : {base : Kept} {h : List Event} → IsLawful base h → (g s a : ℕ) {k : ℕ} → at (is_subscriber_of g) h s ≡ true → is_within h a s ≡ true →
    slice_get h a ≡ Some (Connect k) → g < k
hubs_in_order {base} {h} law g s a {k} subscribes within connects =
    let found : (place : Place) × (slice_get h s ≡ Some (Open place (Sub g))) = subscriber_found g (slice_get h s) subscribes in
    by_place found.0 found.1 (hubbed_before base h law s found.0 (Sub g) found.1).1 (within_cases h a s within) where
      named : (place : Place) (q p : ℕ) → slice_get h s ≡ Some (Open place (Sub g)) → IsInOrderAt (take s h) g q → Some q ≡ Some p → parent h s ≡ Some p →
          is_within h a p ≡ true → g < k
      named place q p at_s order name below above =
          let number : q ≡ p = same_Some q p name in
          let l : p < s = parent-lt h s p below in
          older_order h s a order (omega arith) (slice_get_within h s (Open place (Sub g)) at_s) (ap (is_within h a) number ∙ above) connects

      by_place : (place : Place) → slice_get h s ≡ Some (Open place (Sub g)) → IsInOrder (take s h) g place →
          (a ≡ s) ⊎ ((p : ℕ) × (parent h s ≡ Some p) × (is_within h a p ≡ true)) → g < k
      by_place place at_s order (inl same) = absurd (false≢true (ap (is_connect_of k) (same_Some (Open place (Sub g)) (Connect k) (sym at_s ∙
          ap (slice_get h) (sym same) ∙ connects)) ∙ eq-eqb k k refl))
      by_place Root at_s order (inr (p, below, above)) = absurd (none-some p (parent_name h s p (Open Root (Sub g)) below at_s))
      by_place (Source q) at_s order (inr (p, below, above)) =
          named (Source q) q p at_s order (parent_name h s p (Open (Source q) (Sub g)) below at_s) below above
      by_place (Inner q) at_s order (inr (p, below, above)) = named (Inner q) q p at_s order (parent_name h s p (Open (Inner q) (Sub g)) below at_s) below above
      by_place (Notifier q) at_s order (inr (p, below, above)) =
          named (Notifier q) q p at_s order (parent_name h s p (Open (Notifier q) (Sub g)) below at_s) below above
