-- Which hubs wait for a connection after one more event, and that one step connects one hub at most.
use Rattle.rx_event.proofs.Laws.Common.{◌≡◌, ℕ, ◌+◌, ◌<◌, ◌≤◌, Bool, true, false, List, [], ◌∷◌, ◌++◌, length, Option, Some, None, cond, refl, sym, ap, ◌∙◌}
use Rattle.rx_event.proofs.Laws.Common.{arith, inl, inr, ◌⊎◌, ◌==◌, slice_get, length-append, ◌&&◌, not, option_map_or, cases_Bool, cases_order, both_ways}
use Rattle.rx_event.proofs.Laws.Common.{false≢true, and_parts, and_from, eq-eqb, eqb-true, sum_by_push, slice_get_within, same_Some, none-some, Terminal, Kept}
use Rattle.rx_event.proofs.Laws.Common.{Place, Leaf, Pass, Flat, Switch, Until, Sub, Event, Open, Connect, End, Close, is_manual_hub, is_auto_hub}
use Rattle.rx_event.proofs.Laws.Common.{is_connect_of, is_subscriber_of, at, places, parent, ancestors, is_open, shuts, open_subscribers, open_connections}
use Rattle.rx_event.proofs.Laws.Common.{open_count, mirrored, fired, failed, completed, cut, left, connecting, due, IsDue, IsForced, IsConnectDue, IsConnected}
use Rattle.rx_event.proofs.Laws.Common.{IsSettled, SourceEnded, IsAllowed, stays, more, forced, IsForcedOn, IsLawful, or_false, hub_subscribed}
use Rattle.rx_event.specs.Events.{is_connect}
use Rattle.rx_event.specs.Totals.{connect_count}
use Rattle.rx_event.specs.Forced.{none_waits, one_waits, MayWait}
use Rattle.rx_event.proofs.Laws.Lists.{first_passes, filter_nonempty}
use Rattle.rx_event.proofs.Laws.Places.{slice_get-append, slice_get_last, at-append, at_within}
use Rattle.rx_event.proofs.Laws.Parents.{ancestors_step}
use Rattle.rx_event.proofs.Laws.Openness.{is_open_within, is_open_cut, is_cut, is_open_last}
use Rattle.rx_event.proofs.Laws.Hubs.{at_connect, subscriber_hub}
use Rattle.rx_event.proofs.Laws.Lawful.{may_end}
use Rattle.rx_event.proofs.Laws.Steps.{forced_kind, may_close}
use Rattle.rx_event.proofs.Laws.Totals.{open_count_falls-end, open_count_falls-close}
use Rattle.std.proofs.lemmas.Bool.{not-false}
use Rattle.std.proofs.Common.{rules}

pub at_before : (q : Event → Bool) (h : List Event) (e : Event) (n : ℕ) → q e ≡ false → at q (h ++ e ∷ []) n ≡ true → at q h n ≡ true
at_before q h e n out found = by_place (cases_order n (length h)) where
  by_place : (n ≡ length h) ⊎ ((n < length h) ⊎ (length h < n)) → at q h n ≡ true
  by_place (inl last) = search (rules, slice_get_last, both_ways)
  by_place (inr (inl l)) = sym (at-append q h (e ∷ []) n l) ∙ found
  by_place (inr (inr l)) = absurd (let w = at_within q (h ++ e ∷ []) n found in omega (arith, length-append h (e ∷ [])))

-- what has ended has ended
pub source_ended-push : (base : Kept) → (h : List Event) (e : Event) (s : ℕ) (t : Terminal) → SourceEnded h s t → SourceEnded (h ++ e ∷ []) s t
source_ended-push base h e s t x = record {
  hub = x.hub;
  connection = x.connection;
  place = x.place;
  subscribes = at-append (is_subscriber_of x.hub) h (e ∷ []) s (at_within (is_subscriber_of x.hub) h s x.subscribes) ∙ x.subscribes;
  connects = slice_get-append h (e ∷ []) x.connection (slice_get_within h x.connection _ x.connects) ∙ x.connects;
  later = x.later;
  ended = slice_get-append h (e ∷ []) x.place (slice_get_within h x.place _ x.ended) ∙ x.ended;
}

-- what one event does to who waits ------------------------------------------------------------------

-- an open connection
pub record IsConnection (base : Kept) (h : List Event) (g c : ℕ) : Type 0 where
  pub connects : slice_get h c ≡ Some (Connect g)
  pub is_alive : is_open h c ≡ true

-- a connection stands below nothing
pub alone : (h : List Event) (c g : ℕ) → slice_get h c ≡ Some (Connect g) → ancestors h c ≡ c ∷ []
unfolding parent
alone h c g at_c = ancestors_step h c ∙ rw at_c refl

-- so only an event on itself takes it away
pub cut_alone : (h : List Event) (e : Event) (c g : ℕ) → slice_get h c ≡ Some (Connect g) → is_cut h e c ≡ shuts h c e
cut_alone h e c g at_c = rw (alone h c g at_c) (or_false (shuts h c e))

-- what is left when a hub comes to wait: a connection that the event closed
data HowWaits (base : Kept) (h : List Event) (e : Event) (g : ℕ) : Type 0 where
  waited : IsConnectDue h g → HowWaits base h e g
  lost : {c : ℕ} → IsConnection base h g c → shuts h c e ≡ true → HowWaits base h e g

subscribed_before : (h : List Event) (e : Event) (g : ℕ) → is_subscriber_of g e ≡ false → (d : IsConnectDue (h ++ e ∷ []) g) →
    (at (is_subscriber_of g) h d.subscriber ≡ true) × (is_open h d.subscriber ≡ true)
subscribed_before h e g out d = search (rules, at_before, is_open_cut, at_within, and_parts, not)

how_waits : (base : Kept) → (h : List Event) (e : Event) (g : ℕ) → is_subscriber_of g e ≡ false → at is_auto_hub h g ≡ true → IsConnectDue (h ++ e ∷ []) g →
    HowWaits base h e g
how_waits base h e g out auto d = by_list (open_connections h g) refl where
  before : (at (is_subscriber_of g) h d.subscriber ≡ true) × (is_open h d.subscriber ≡ true)
  before = subscribed_before h e g out d

  by_cut : (c : ℕ) → IsConnection base h g c → (b : Bool) → is_open (h ++ e ∷ []) c ≡ b → HowWaits base h e g
  by_cut c x true o =
      let within = is_open_within h c x.is_alive in
      let later : at (is_connect_of g) (h ++ e ∷ []) c ≡ true = at-append (is_connect_of g) h (e ∷ []) c within ∙ rw x.connects (eq-eqb g g refl) in
      absurd (filter_nonempty (λ n. at (is_connect_of g) (h ++ e ∷ []) n && is_open (h ++ e ∷ []) n) 0 (length (h ++ e ∷ [])) c (omega arith)
      (let n = length-append h (e ∷ []) in omega arith) (and_from _ _ later o) d.unconnected)
  by_cut c x false gone =
      let now : (is_open h c && not (is_cut h e c)) ≡ false = sym (is_open_cut h e c (is_open_within h c x.is_alive)) ∙ gone in
      lost {c = c} x (sym (cut_alone h e c g x.connects) ∙ not-false (is_cut h e c) (rw x.is_alive at now))

  by_list : (cs : List ℕ) → open_connections h g ≡ cs → HowWaits base h e g
  by_list [] unconnected = waited (record {
    auto = auto;
    subscriber = d.subscriber;
    subscribes = before.0;
    subscribed = before.1;
    waits = λ t ended. d.waits t (source_ended-push base h e d.subscriber t ended);
    unconnected = unconnected;
  })
  by_list (c ∷ cs) found =
      let first : (at (is_connect_of g) h c && is_open h c) ≡ true = first_passes (λ n. at (is_connect_of g) h n && is_open h n) (places h) c cs found in
      let parts : (at (is_connect_of g) h c ≡ true) × (is_open h c ≡ true) = and_parts _ _ first in
      by_cut c (record { connects = at_connect h g c parts.0; is_alive = parts.1 }) (is_open (h ++ e ∷ []) c) refl

-- ends and closings ---------------------------------------------------------------------------------

-- an end of a connection ends its subscribers' source, so what waits after an end waited before
pub waited_end : (base : Kept) → (h : List Event) (n : ℕ) (t : Terminal) (g : ℕ) → IsConnectDue (h ++ End n t ∷ []) g → IsConnectDue h g
waited_end base h n t g d = by_way (how_waits base h (End n t) g refl (at_before is_auto_hub h (End n t) g refl d.auto) d) where
  by_way : HowWaits base h (End n t) g → IsConnectDue h g
  by_way (waited w) = w
  by_way (lost {c = c} x shut) =
      let within = is_open_within h c x.is_alive in
      absurd (d.waits t (record {
        hub = g;
        connection = c;
        place = length h;
        subscribes = d.subscribes;
        connects = slice_get-append h (End n t ∷ []) c within ∙ x.connects;
        later = is_open_within h d.subscriber (subscribed_before h (End n t) g refl d).1;
        ended = slice_get_last h (End n t) ∙ ap (λ (m : ℕ). Some (End m t)) (eqb-true n c shut);
      }))

pub kept_end : (base : Kept) → (h : List Event) (n : ℕ) (t : Terminal) → IsConnected h → IsConnected (h ++ End n t ∷ [])
kept_end base h n t none g d = none g (waited_end base h n t g d)

same_hub : (g k : ℕ) → Connect g ≡ Connect k → g ≡ k
same_hub g k e = cc

closed_unsubscribed : (base : Kept) → {h : List Event} {c g : ℕ} → IsDue base h (Close c) → slice_get h c ≡ Some (Connect g) → open_subscribers h g ≡ []
closed_unsubscribed base {h = h} {c = c} {g = g} (left {g = k} o at_c a no_subscriber) connects =
    rw (same_hub g k (same_Some _ _ (sym connects ∙ at_c))) no_subscriber

-- a connection is closed where it has no subscriber
pub waited_close : (base : Kept) → (h : List Event) (n g : ℕ) → IsDue base h (Close n) → IsConnectDue (h ++ Close n ∷ []) g → IsConnectDue h g
waited_close base h n g f d = by_way (how_waits base h (Close n) g refl (at_before is_auto_hub h (Close n) g refl d.auto) d) where
  before : (at (is_subscriber_of g) h d.subscriber ≡ true) × (is_open h d.subscriber ≡ true)
  before = subscribed_before h (Close n) g refl d

  by_way : HowWaits base h (Close n) g → IsConnectDue h g
  by_way (waited w) = w
  by_way (lost {c = c} x shut) =
      let empty = closed_unsubscribed base f (ap (slice_get h) (eqb-true n c shut) ∙ x.connects) in
      absurd (filter_nonempty (λ m. at (is_subscriber_of g) h m && is_open h m) 0 (length h) d.subscriber (omega arith)
      (let w = is_open_within h d.subscriber before.1 in omega arith) (and_from _ _ before.0 before.1) empty)

kept_close : (base : Kept) → (h : List Event) (n : ℕ) → IsConnected h → IsDue base h (Close n) → IsConnected (h ++ Close n ∷ [])
kept_close base h n none f g d = none g (waited_close base h n g f d)

-- no rule but a hub's makes a hub wait
pub kept_due : (base : Kept) → (h : List Event) (e : Event) → IsConnected h → IsDue base h e → IsConnected (h ++ e ∷ [])
kept_due base h e none (mirrored {p = p} {t = t} o k c) = kept_end base h p t none
kept_due base h e none (fired {u = u} o k c) = kept_end base h u _ none
kept_due base h e none (failed {f = m} o k c) = kept_end base h m _ none
kept_due base h e none (completed {f = m} o k n c d w) = kept_end base h m _ none
kept_due base h e none (cut {s = s} {t = t} o c) = kept_end base h s t none
kept_due base h e none (left {c = c} o at_c a n) = kept_close base h c none (left o at_c a n)

-- no hub is both
pub is_both : (o : Option Event) → option_map_or is_manual_hub o false ≡ true → option_map_or is_auto_hub o false ≡ true → ⊥
is_both x0 m a = search (rules, false≢true)

allowed_unsubscribed : (base : Kept) → {h : List Event} {c g : ℕ} → IsAllowed base h (Close c) → slice_get h c ≡ Some (Connect g) →
    at is_auto_hub h g ≡ true → ⊥
allowed_unsubscribed base x4 connects auto = search (rules, false≢true, Option, Event, slice_get, is_both, same_hub, same_Some)

-- a caller closes no connection of a RefCount hub
pub waited_close_allowed : (base : Kept) → (h : List Event) (n g : ℕ) → IsAllowed base h (Close n) → IsConnectDue (h ++ Close n ∷ []) g → IsConnectDue h g
waited_close_allowed base h n g f d = by_way (how_waits base h (Close n) g refl (at_before is_auto_hub h (Close n) g refl d.auto) d) where
  by_way : HowWaits base h (Close n) g → IsConnectDue h g
  by_way (waited w) = w
  by_way (lost {c = c} x shut) =
      absurd (allowed_unsubscribed base f (ap (slice_get h) (eqb-true n c shut) ∙ x.connects) (at_before is_auto_hub h (Close n) g refl d.auto))

pub kept_close_allowed : (base : Kept) → (h : List Event) (n : ℕ) → IsConnected h → IsAllowed base h (Close n) → IsConnected (h ++ Close n ∷ [])
kept_close_allowed base h n none f g d = none g (waited_close_allowed base h n g f d)

-- other events --------------------------------------------------------------------------------------

-- the event ends and closes nothing, but for what an inner of a Switch takes the place of
abbrev pub closes_none : Event → Bool
closes_none (End n t) = false
closes_none (Close n) = false
closes_none _ = true

-- what is no end and no closing takes no connection away
pub spares : (base : Kept) → (h : List Event) (e : Event) (c g : ℕ) → closes_none e ≡ true → slice_get h c ≡ Some (Connect g) → shuts h c e ≡ true → ⊥
spares base h x2 c g none connects shut = search (rules, and_parts, false≢true, option_map_or)

-- so a hub that waits after it is that of the new subscriber, or waited before
pub waited_before : (base : Kept) → (h : List Event) (e : Event) (g : ℕ) → closes_none e ≡ true → is_subscriber_of g e ≡ false → at is_auto_hub h g ≡ true →
    IsConnectDue (h ++ e ∷ []) g → IsConnectDue h g
waited_before base h e g none out auto d = by_way (how_waits base h e g out auto d) where
  by_way : HowWaits base h e g → IsConnectDue h g
  by_way (waited w) = w
  by_way (lost {c = c} x shut) = absurd (spares base h e c g none x.connects shut)

-- a RefCount hub with a subscriber is older than its subscriber
pub auto_before : (base : Kept) → (h : List Event) (e : Event) (g : ℕ) → IsLawful base h → is_subscriber_of g e ≡ false → IsConnectDue (h ++ e ∷ []) g →
    at is_auto_hub h g ≡ true
auto_before base h e g law out d =
    let old : g < length h = subscriber_hub base h law g d.subscriber (at_before (is_subscriber_of g) h e d.subscriber out d.subscribes) in
    sym (at-append is_auto_hub h (e ∷ []) g old) ∙ d.auto

-- what is no end, no closing and no subscriber makes no hub wait
pub kept_unsubscribed : (base : Kept) → (h : List Event) (e : Event) → IsLawful base h → IsConnected h → closes_none e ≡ true → hub_subscribed e ≡ None →
    IsConnected (h ++ e ∷ [])
kept_unsubscribed base h e law none keeps out g d =
    none g (waited_before base h e g keeps (no_subscriber e out) (auto_before base h e g law (no_subscriber e out) d) d)
  where
    no_subscriber : (x : Event) → hub_subscribed x ≡ None → is_subscriber_of g x ≡ false
    no_subscriber (Open place (Sub k)) is = absurd (none-some k (sym is))
    no_subscriber _ is = refl

-- a subscriber makes its own hub wait at most
pub kept_subscribed : (base : Kept) → (h : List Event) (place : Place) (g : ℕ) → IsLawful base h → IsConnected h → (k : ℕ) →
    IsConnectDue (h ++ Open place (Sub g) ∷ []) k → k ≡ g
kept_subscribed base h place g law none k d = by_hub (cases_Bool (g == k)) where
  by_hub : ((g == k) ≡ true) ⊎ ((g == k) ≡ false) → k ≡ g
  by_hub (inl same) = sym (eqb-true g k same)
  by_hub (inr apart) = absurd (none k (waited_before base h (Open place (Sub g)) k refl apart (auto_before base h (Open place (Sub g)) k law apart d) d))

-- how many hubs may wait after a caller's event: one after a subscriber, else none
pub waits_after : (base : Kept) → (h : List Event) (e : Event) → IsLawful base h → IsConnected h → IsAllowed base h e →
    MayWait (h ++ e ∷ []) (option_map_or (λ g. 1) (hub_subscribed e) 0)
waits_after base h (Open place (Sub g)) law none a = one_waits {g = g} (kept_subscribed base h place g law none)
waits_after base h (Open place Leaf) law none a = none_waits (kept_unsubscribed base h (Open place Leaf) law none refl refl)
waits_after base h (Open place Pass) law none a = none_waits (kept_unsubscribed base h (Open place Pass) law none refl refl)
waits_after base h (Open place Flat) law none a = none_waits (kept_unsubscribed base h (Open place Flat) law none refl refl)
waits_after base h (Open place Switch) law none a = none_waits (kept_unsubscribed base h (Open place Switch) law none refl refl)
waits_after base h (Open place Until) law none a = none_waits (kept_unsubscribed base h (Open place Until) law none refl refl)
waits_after base h (End n t) law none a = none_waits (kept_end base h n t none)
waits_after base h (Close n) law none a = none_waits (kept_close_allowed base h n none a)
waits_after base h e law none a = none_waits (kept_unsubscribed base h e law none refl refl)

-- a settled history has no hub that waits
pub settled_connected : (base : Kept) → (h : List Event) → IsSettled base h → IsConnected h
settled_connected base h settled g d = settled.none (Connect g) (connecting d)

-- one step ------------------------------------------------------------------------------------------

-- after the connection of the one hub that waits, none waits
pub connected_first : (base : Kept) → (h : List Event) (g : ℕ) → ((k : ℕ) → IsConnectDue h k → k ≡ g) → IsConnected (h ++ Connect g ∷ [])
connected_first base h g only k d =
    filter_nonempty (λ n. at (is_connect_of k) (h ++ Connect g ∷ []) n && is_open (h ++ Connect g ∷ []) n) 0 (length (h ++ Connect g ∷ [])) (length h)
    (omega arith) (let n = length-append h (Connect g ∷ []) in omega arith) (and_from _ _ connects (is_open_last h (Connect g) refl)) d.unconnected
  where
    same : k ≡ g
    same = only k (waited_before base h (Connect g) k refl refl (at_before is_auto_hub h (Connect g) k refl d.auto) d)

    connects : at (is_connect_of k) (h ++ Connect g ∷ []) (length h) ≡ true
    connects = rw (slice_get_last h (Connect g)) (eq-eqb g k (sym same))

count_push : (h : List Event) (e : Event) → connect_count (h ++ e ∷ []) ≡ connect_count h + cond (is_connect e) 1 0
count_push h e = sum_by_push (λ (x : Event). cond (is_connect x) 1 0) h e

-- what a step has connected, and what may still wait
record StepConnects (h k : List Event) (most : ℕ) : Type 0 where
  pub waiting : ℕ
  pub may_wait : MayWait k waiting
  pub counted : connect_count k + waiting ≤ connect_count h + most

due_connects : (base : Kept) → {h : List Event} {e : Event} → IsDue base h e → is_connect e ≡ false
due_connects base given = grind arith

connects_after : (base : Kept) → (h k : List Event) (e : Event) (most : ℕ) → StepConnects h k most → IsForced base k e → StepConnects h (k ++ e ∷ []) most
connects_after base h k e most s (due none d) =
    record {
      waiting = 0;
      may_wait = none_waits (kept_due base k e none d);
      counted =
          let n = count_push k e in
          let z : cond {A = ℕ} (is_connect e) 1 0 ≡ 0 = ap (λ b. cond {A = ℕ} b 1 0) (due_connects base d) in
          let b = s.counted in
          omega arith;
    }
connects_after base h k e most s (connecting {g = g} d) = by_waiting s.may_wait s.counted where
  by_waiting : {w : ℕ} → MayWait k w → connect_count k + w ≤ connect_count h + most → StepConnects h (k ++ Connect g ∷ []) most
  by_waiting (none_waits none) b = absurd (none g d)
  by_waiting (one_waits {g = j} only) b =
      record {
        waiting = 0;
        may_wait = none_waits (connected_first base k g (λ i w. only i w ∙ sym (only g d)));
        counted = let n = count_push k (Connect g) in omega arith;
      }

connects : (base : Kept) → {h k : List Event} → IsForcedOn base h k → (most : ℕ) → MayWait h most → StepConnects h k most
connects base (stays {h = h}) most may = record { waiting = most; may_wait = may; counted = omega arith }
connects base (more {h = h} {k = k} {e = e} before f) most may = connects_after base h k e most (connects base before most may) f

-- what is forced connects as many hubs as may wait at most
pub forced_connects : (base : Kept) → (h k : List Event) (most : ℕ) → MayWait h most → IsForcedOn base h k → connect_count k ≤ connect_count h + most
forced_connects base h k most may f = let s = connects base f most may in let b = s.counted in omega arith

-- a forced event leaves no hub that waits
pub forced_connected : (base : Kept) → (h : List Event) (e : Event) (most : ℕ) → MayWait h most → IsForced base h e → IsConnected (h ++ e ∷ [])
forced_connected base h e most may (due none d) = kept_due base h e none d
forced_connected base h e most may (connecting {g = g} d) = by_waiting may where
  by_waiting : {w : ℕ} → MayWait h w → IsConnected (h ++ Connect g ∷ [])
  by_waiting (none_waits none) = absurd (none g d)
  by_waiting (one_waits only) = connected_first base h g (λ i w. only i w ∙ sym (only g d))

-- and where it connects none, it closes a node at least
pub forced_closes : (base : Kept) → (h : List Event) (e : Event) → IsForced base h e → is_connect e ≡ false → open_count (h ++ e ∷ []) + 1 ≤ open_count h
forced_closes base h x2 f other = search (rules, open_count_falls-end, may_end, forced, open_count_falls-close, may_close, false≢true, forced_kind)
