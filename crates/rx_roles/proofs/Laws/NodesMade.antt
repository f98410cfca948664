-- What a step comes to whose event makes a node: that node, the connection of its hub if that waits for one, and no note.
use Rattle.rx_event.proofs.Laws.Common.{◌≡◌, ◌≢◌, ℕ, ◌+◌, ◌<◌, ◌≤◌, Bool, true, false, cond, List, [], ◌∷◌, ◌++◌, length, Some, refl}
use Rattle.rx_event.proofs.Laws.Common.{sym, ap, ◌∙◌, arith, subst}
use Rattle.rx_event.proofs.Laws.Common.{append-nil, length-append, ◌⊎◌, inl, inr, ◌==◌, ◌&&◌, ◌||◌, slice_get, slice_get_past, list_any}
use Rattle.rx_event.proofs.Laws.Common.{and_parts, both_ways, false≢true, or_cases, ne_eqb, eq-eqb, eqb-true, none-some, same_Some, or_false}
use Rattle.rx_event.proofs.Laws.Common.{Kept, at, is_open, makes_node, hub_subscribed, is_auto_hub, is_connect_of, is_subscriber_of, open_subscribers}
use Rattle.rx_event.proofs.Laws.Common.{open_connections}
use Rattle.rx_event.proofs.Laws.Common.{MayFollow, IsLawful, IsForcedOn, IsConnected, IsConnectDue, IsSettled, forced, connecting, notes, mail_of}
use Rattle.rx_event.proofs.Laws.Common.{stops_of}
use Rattle.rx_event.proofs.Laws.Common.{places, is_firing_of}
use Rattle.rx_event.specs.declared.event.Event.{Event}
use Rattle.rx_event.specs.declared.event.Event.TheVariants.{Open, Connect, Close}
use Rattle.rx_event.specs.declared.event.Kind.TheVariants.{Sub}
use Rattle.rx_event.specs.Events.{is_connect}
use Rattle.rx_event.specs.Gone.{AreJust}
use Rattle.rx_event.specs.Claims.Stays.{ends_or_declines, FiresNone}
use Rattle.rx_event.proofs.Laws.Calm.{EndsNone, ends_none_on, settled_ends_none, subscriber_listed}
use Rattle.rx_event.proofs.Laws.Connections.{last_connection, waited_or_now}
use Rattle.rx_event.proofs.Laws.Counts.{notes-push}
use Rattle.rx_event.proofs.Laws.Dues.{IsDueOn, none_more, one_more, IsClosing, by_end, by_close, closing_of, Fails, at_on, kept_on, lawful_on}
use Rattle.rx_event.proofs.Laws.Dues.{begun_on}
use Rattle.rx_event.proofs.Laws.Hubs.{one_where_subscribed}
use Rattle.rx_event.proofs.Laws.Lawful.{IsLawful-push}
use Rattle.rx_event.proofs.Laws.Lists.{first_passes}
use Rattle.rx_event.proofs.Laws.Places.{slice_get-append, slice_get_last, at-append, at_within}
use Rattle.rx_event.proofs.Laws.StaysOpen.{opened_stays, connected_stays}
use Rattle.rx_event.proofs.Laws.Waits.{settled_connected}
use Rattle.rx_roles.specs.Roles.{is_among}
use Rattle.rx_roles.proofs.Laws.JustThose.{just_none, just_more}
use Rattle.rx_roles.proofs.Laws.NodesAfterStep.{step_grows, StepMakes, is_new, is_new-push, is_new_one, is_new_on, Begun, at_once, connects_first, begun}

-- from h a step came to k whose event makes a node
pub record IsMaking (base : Kept) (h : List Event) (e : Event) (k : List Event) : Type 0 where
  pub law : IsLawful base h
  pub rests : IsSettled base h
  pub next : MayFollow base h e
  pub node : makes_node e ≡ true
  pub steps : IsForcedOn base (h ++ e ∷ []) k
  pub settled : IsSettled base k

-- the event's node, and the connection that comes directly after it, if one does
abbrev pub made_with : ℕ → Bool → List ℕ
made_with n connected = n ∷ cond connected ((n + 1) ∷ []) []

abbrev pub made_by : (earlier later : List Event) → List ℕ
made_by h k = made_with (length h) (at is_connect k (length h + 1))

-- the second event of a step connects the hub that its first one subscribes to
pub record SecondConnects (h : List Event) (e : Event) (k : List Event) : Type 0 where
  pub hub : ℕ
  pub subscribes : hub_subscribed e ≡ Some hub
  pub connects : slice_get k (length h + 1) ≡ Some (Connect hub)

-- the event ends, fires, tells and projects nothing --------------------------------------------------

pub calm : (e : Event) → makes_node e ≡ true → ends_or_declines e ≡ false
calm (Open place kind) is = refl
calm (Connect g) is = refl
calm _ is = absurd (false≢true is)

no_stops : (h : List Event) (e : Event) → makes_node e ≡ true → stops_of h e ≡ []
no_stops h (Open place kind) is = refl
no_stops h (Connect g) is = refl
no_stops h _ is = absurd (false≢true is)

no_mail : (h : List Event) (e : Event) → makes_node e ≡ true → mail_of h e ≡ []
no_mail h (Open place kind) is = refl
no_mail h (Connect g) is = refl
no_mail h _ is = absurd (false≢true is)

pub unfired : (h : List Event) (e : Event) → makes_node e ≡ true → FiresNone h e
unfired h e is u = ap (list_any (is_firing_of u)) (no_stops h e is)

silent_push : (h : List Event) (e : Event) → mail_of h e ≡ [] → notes (h ++ e ∷ []) ≡ notes h
silent_push h e none = notes-push h e ∙ ap (λ ms. notes h ++ ms) none ∙ append-nil (notes h)

-- where no node is due to end, what is due tells nothing
pub silent_on : (base : Kept) {b k : List Event} → IsDueOn base b k → IsLawful base b → IsConnected b → EndsNone base b → notes k ≡ notes b
silent_on base none_more law whole ends_none = refl
silent_on base {b} (one_more {k = k} {e = e} on d) law whole ends_none = by_closing (closing_of base d) ∙ silent_on base on law whole ends_none where
  by_closing : {x : Event} → IsClosing base k x → notes (k ++ x ∷ []) ≡ notes k
  by_closing (by_end c {t = t} x o) = let s = begun_on base on law whole c t x in absurd (ends_none s.node t s.ends_due)
  by_closing (by_close c g at_c none o) = silent_push k (Close c) refl

own_stays : (base : Kept) (h : List Event) (e : Event) (k : List Event) → IsLawful base h → IsSettled base h → MayFollow base h e → makes_node e ≡ true →
    IsForcedOn base (h ++ e ∷ []) k → is_open k (length h) ≡ true
own_stays base h (Open place kind) k law settled next is steps = opened_stays base h k place kind law next steps
own_stays base h (Connect g) k law settled next is steps = connected_stays base h k g law settled next steps
own_stays base h _ k law settled next is steps = absurd (false≢true is)

pub subscribes_to : (e : Event) (g : ℕ) → hub_subscribed e ≡ Some g → is_subscriber_of g e ≡ true
subscribes_to (Open place (Sub k)) g is = eq-eqb k g (same_Some k g is)
subscribes_to _ g is = absurd (none-some g is)

connect_fails : Fails is_connect
connect_fails = record { at_end = λ c t. refl; at_close = λ c. refl }

connect_of_fails : (g : ℕ) → Fails (is_connect_of g)
connect_of_fails g = record { at_end = λ c t. refl; at_close = λ c. refl }

auto_fails : Fails is_auto_hub
auto_fails = record { at_end = λ c t. refl; at_close = λ c. refl }

none_other : AreJust (λ n. false) []
none_other = just_none (λ n. refl)

module _ {base : Kept} {h : List Event} {e : Event} {k : List Event} (w : IsMaking base h e k) where
  abbrev b : List Event
  b = h ++ e ∷ []

  pub law_b : IsLawful base b
  law_b = IsLawful-push base h e w.law w.next

  lawful : IsLawful base k
  lawful = by_begun (begun base law_b w.steps w.settled) where
    by_begun : Begun base b k → IsLawful base k
    by_begun (at_once whole on) = lawful_on base on law_b whole
    by_begun (connects_first {g = g} d whole on) = lawful_on base on (IsLawful-push base b (Connect g) law_b (forced (connecting d))) whole

  pub ends_none : EndsNone base b
  ends_none = ends_none_on base h e w.law w.next (calm e w.node) (unfired h e w.node) (settled_ends_none base h w.rests)

  long_b : length b ≡ length h + 1
  long_b = length-append h (e ∷ [])

  -- the hub that waits is that of the event's subscriber
  pub own_hub : {g : ℕ} → IsConnectDue b g → hub_subscribed e ≡ Some g
  own_hub {g} d = by_reason (waited_or_now base h e w.law w.next g d) where
    by_reason : IsConnectDue h g ⊎ (hub_subscribed e ≡ Some g) → hub_subscribed e ≡ Some g
    by_reason (inl before) = absurd (settled_connected base h w.rests g before)
    by_reason (inr now) = now

  -- notes
  pub made_silent : notes k ≡ notes h
  made_silent = by_begun (begun base law_b w.steps w.settled) ∙ silent_push h e (no_mail h e w.node) where
    by_begun : Begun base b k → notes k ≡ notes b
    by_begun (at_once whole on) = silent_on base on law_b whole ends_none
    by_begun (connects_first {g = g} d whole on) =
        let next = forced (connecting d) in
        silent_on base on (IsLawful-push base b (Connect g) law_b next) whole (ends_none_on base b (Connect g) law_b next refl (λ u. refl) ends_none) ∙
        silent_push b (Connect g) refl

  -- the connection stays open, since its subscriber does
  module _ {g : ℕ} (d : IsConnectDue b g) (on : IsDueOn base (b ++ Connect g ∷ []) k) where
    abbrev start : List Event
    start = b ++ Connect g ∷ []

    long : length start ≡ length h + 2
    long = let l = length-append b (Connect g ∷ []) in let m = long_b in omega arith

    connects_here : slice_get k (length h + 1) ≡ Some (Connect g)
    connects_here = ap (slice_get k) (sym long_b) ∙ kept_on base on (length b) (Connect g) (slice_get_last b (Connect g))

    own_here : slice_get k (length h) ≡ Some e
    own_here = kept_on base on (length h) e (slice_get-append b (Connect g ∷ []) (length h) (let m = long_b in omega arith) ∙ slice_get_last h e)

    subscribed : open_subscribers k g ≢ []
    subscribed none =
        subscriber_listed k g (length h) (rw own_here (subscribes_to e g (own_hub d))) (own_stays base h e k w.law w.rests w.next w.node w.steps) none

    auto : at is_auto_hub k g ≡ true
    auto = at_on base is_auto_hub auto_fails on g ∙ at-append is_auto_hub b (Connect g ∷ []) g (at_within is_auto_hub b g d.auto) ∙ d.auto

    connection_stays : is_open k (length h + 1) ≡ true
    connection_stays = by_list (open_connections k g) refl (one_where_subscribed base k g lawful w.settled auto subscribed) where
      here : at (is_connect_of g) k (length h + 1) ≡ true
      here = rw connects_here (eq-eqb g g refl)

      by_list : (cs : List ℕ) → open_connections k g ≡ cs → length cs ≡ 1 → is_open k (length h + 1) ≡ true
      by_list [] found one = absurd (omega arith)
      by_list (c ∷ cs) found one =
          let parts : (at (is_connect_of g) k c ≡ true) × (is_open k c ≡ true) =
          and_parts _ _ (first_passes (λ n. at (is_connect_of g) k n && is_open k n) (places k) c cs found) in
          let last : length h + 1 ≤ c = last_connection k lawful g c (length h + 1) parts.0 parts.1 here in
          let within : c < length start = at_within (is_connect_of g) start c (sym (at_on base (is_connect_of g) (connect_of_fails g) on c) ∙ parts.0) in
          let same : c ≡ length h + 1 = (let l = long in omega arith) in
          ap (is_open k) (sym same) ∙ parts.1

  -- the nodes ------------------------------------------------------------------------------------------

  one_new : (n : ℕ) → is_new h b n ≡ ((length h == n) || false)
  one_new n = is_new_one h e n ∙ ap (λ (a : Bool). a && (length h == n)) w.node ∙ sym (or_false (length h == n))

  own_alone : (n : ℕ) → is_among n (length h ∷ []) ≡ true → is_open k n ≡ true
  own_alone n is =
      let same : length h ≡ n = eqb-true (length h) n (sym (or_false (length h == n)) ∙ is) in
      ap (is_open k) (sym same) ∙ own_stays base h e k w.law w.rests w.next w.node w.steps

  -- alone
  makes_one : IsDueOn base b k → StepMakes h k (made_with (length h) false)
  makes_one on = record {
    grown = step_grows base e w.steps;
    makes = just_more (length h) (none_other) refl (λ n. is_new_on base h on n ∙ one_new n);
    opens = own_alone;
  }

  -- with a connection
  makes_two : {g : ℕ} → IsConnectDue b g → IsDueOn base (b ++ Connect g ∷ []) k → StepMakes h k (made_with (length h) true)
  makes_two {g} d on = record {
    grown = step_grows base e w.steps;
    makes = just_more (length h) (just_more {others = λ n. false} (length h + 1) none_other refl (λ n. refl)) apart two_new;
    opens = λ n is. by_part n (or_cases (length h == n) (is_among n ((length h + 1) ∷ [])) is);
  } where
    apart : ((length h + 1 == length h) || false) ≡ false
    apart = or_false (length h + 1 == length h) ∙ ne_eqb (length h + 1) (length h) (λ is. omega arith)

    two_new : (n : ℕ) → is_new h k n ≡ ((length h == n) || ((length h + 1 == n) || false))
    two_new n =
        is_new_on base h on n ∙ is_new-push h b (Connect g) n (let m = long_b in omega arith) ∙
        (λ i. (is_new_one h e n ∙ ap (λ (a : Bool). a && (length h == n)) w.node) i || (long_b i == n)) ∙
        ap (λ (a : Bool). (length h == n) || a) (sym (or_false (length h + 1 == n)))

    by_part : (n : ℕ) → ((length h == n) ≡ true) ⊎ (is_among n ((length h + 1) ∷ []) ≡ true) → is_open k n ≡ true
    by_part n (inl own) = own_alone n (or_false (length h == n) ∙ own)
    by_part n (inr connection) =
        let same : length h + 1 ≡ n = eqb-true (length h + 1) n (sym (or_false (length h + 1 == n)) ∙ connection) in
        ap (is_open k) (sym same) ∙ connection_stays d on

  -- a connection comes second just where one was forced
  pub second_there : {g : ℕ} → IsConnectDue b g → IsDueOn base (b ++ Connect g ∷ []) k → at is_connect k (length h + 1) ≡ true
  second_there d on = rw (connects_here d on) refl

  pub none_second : IsDueOn base b k → at is_connect k (length h + 1) ≡ false
  none_second on = at_on base is_connect connect_fails on (length h + 1) ∙ rw (slice_get_past b (length h + 1) (let m = long_b in omega arith)) refl

  pub step_makes : StepMakes h k (made_by h k)
  step_makes = by_begun (begun base law_b w.steps w.settled) where
    by_begun : Begun base b k → StepMakes h k (made_by h k)
    by_begun (at_once whole on) = subst (λ (c : Bool). StepMakes h k (made_with (length h) c)) (sym (none_second on)) (makes_one on)
    by_begun (connects_first d whole on) = subst (λ (c : Bool). StepMakes h k (made_with (length h) c)) (sym (second_there d on)) (makes_two d on)

  -- the event itself stands there
  pub own_event : slice_get k (length h) ≡ Some e
  own_event = by_begun (begun base law_b w.steps w.settled) where
    by_begun : Begun base b k → slice_get k (length h) ≡ Some e
    by_begun (at_once whole on) = kept_on base on (length h) e (slice_get_last h e)
    by_begun (connects_first d whole on) = own_here d on

  -- what comes second is the connection of the hub of the event's subscriber, a RefCount hub that had none
  pub second_event : at is_connect k (length h + 1) ≡ true → SecondConnects h e k
  second_event second = by_begun (begun base law_b w.steps w.settled) where
    by_begun : Begun base b k → SecondConnects h e k
    by_begun (at_once whole on) = absurd (both_ways (at is_connect k (length h + 1)) (none_second on) second)
    by_begun (connects_first {g = g} d whole on) = record { hub = g; subscribes = own_hub d; connects = connects_here d on }
