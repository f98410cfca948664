-- Connections, one event after the other: the last of a hub and its last end tell all others, and what each event changes.
use Rattle.rx_event.proofs.Laws.Common.{◌≡◌, ℕ, zero, suc, ◌+◌, ◌<◌, ◌≤◌, Bool, true, false, List, [], ◌∷◌, ◌++◌, length, Some, cond, refl, sym, ap, subst, ◌∙◌}
use Rattle.rx_event.proofs.Laws.Common.{inl, inr, ◌⊎◌, arith, slice_get, filter, append-nil, length-append, ◌&&◌, option_map_or, sum_by, range_with_len}
use Rattle.rx_event.proofs.Laws.Common.{sum_by_push, sum_by-cons, cases_order, and_parts, and_from, slice_get_within, same_Some, Terminal, Kept, shown, Event}
use Rattle.rx_event.proofs.Laws.Common.{Open, Connect, End, Close, is_auto_hub, is_connect_of, is_subscriber_of, at, places, is_open, open_subscribers, cut}
use Rattle.rx_event.proofs.Laws.Common.{left, due, SourceEnded, IsDue, IsConnectDue, Started, forced, allowed, MayFollow, IsLawful, hub_subscribed}
use Rattle.std.proofs.Common.{◌↔◌, rules}
use Rattle.std.proofs.lemmas.List.Elements.{filter-append}
use Rattle.rx_event.specs.Claims.Connections.{EndsConnection, EndsLast, HowLeft, left_before, subscriber_gone, connected_now, EndsSource, falling}
use Rattle.rx_event.proofs.Laws.Lists.{filter_nonempty, first_passes}
use Rattle.rx_event.proofs.Laws.Places.{slice_get-append, slice_get_last, at-append, at_within, cases_push}
use Rattle.rx_event.proofs.Laws.Openness.{is_open_within, open_old}
use Rattle.rx_event.proofs.Laws.Lawful.{may_end, ended_after}
use Rattle.rx_event.proofs.Laws.Steps.{by_events}
use Rattle.rx_event.proofs.Laws.Hubs.{at_connect, connect_free, connection_hub, subscriber_found}
use Rattle.rx_event.proofs.Laws.Sums.{below_push}
use Rattle.rx_event.proofs.Laws.Waits.{waited_end, waited_close, waited_close_allowed, waited_before, auto_before}
use Rattle.rx_event.proofs.Laws.OneEnd.{one_end}
use Rattle.rx_event.proofs.Laws.Calm.{subscriber_listed}

-- the last connection -------------------------------------------------------------------------------

-- an open connection of a hub is the last one that was made
pub last_connection : {base : Kept} → (h : List Event) → IsLawful base h → (g c d : ℕ) → at (is_connect_of g) h c ≡ true → is_open h c ≡ true →
    at (is_connect_of g) h d ≡ true → d ≤ c
last_connection {base} =
    by_events base (λ h. (g c d : ℕ) → at (is_connect_of g) h c ≡ true → is_open h c ≡ true → at (is_connect_of g) h d ≡ true → d ≤ c) start
    (λ h e law next. after next)
  where
    start : Started base → (g c d : ℕ) → at (is_connect_of g) (shown base) c ≡ true → is_open (shown base) c ≡ true →
        at (is_connect_of g) (shown base) d ≡ true → d ≤ c
    start s g c d one alive other =
        let same = s.one_connection g c d one alive other (s.alive d (Connect g) (at_connect (shown base) g d other) refl) in omega arith

    clash : {h : List Event} {e : Event} → MayFollow base h e → (g c : ℕ) {d : ℕ} → c < length h → d ≡ length h → at (is_connect_of g) (h ++ e ∷ []) c ≡ true →
        is_open (h ++ e ∷ []) c ≡ true → at (is_connect_of g) (h ++ e ∷ []) d ≡ true → ⊥
    clash {h} {e} next g c l last one alive other =
        let new : is_connect_of g e ≡ true =
        sym (ap (λ o. option_map_or (is_connect_of g) o false) (ap (slice_get (h ++ e ∷ [])) last ∙ slice_get_last h e)) ∙ other in
        let connects : at (is_connect_of g) h c ≡ true = sym (at-append (is_connect_of g) h (e ∷ []) c l) ∙ one in
        filter_nonempty (λ n. at (is_connect_of g) h n && is_open h n) 0 (length h) c (omega arith) (omega arith)
        (and_from _ _ connects (open_old h e c l alive)) (connect_free base h e g next new)

    after : {h : List Event} {e : Event} → MayFollow base h e →
        ((g c d : ℕ) → at (is_connect_of g) h c ≡ true → is_open h c ≡ true → at (is_connect_of g) h d ≡ true → d ≤ c) → (g c d : ℕ) →
        at (is_connect_of g) (h ++ e ∷ []) c ≡ true → is_open (h ++ e ∷ []) c ≡ true → at (is_connect_of g) (h ++ e ∷ []) d ≡ true → d ≤ c
    after {h} {e} next before g c d one alive other = by_place (cases_order c (length h)) (cases_order d (length h)) where
      within : d < length h + 1
      within = let l = at_within (is_connect_of g) (h ++ e ∷ []) d other in omega (arith, length-append h (e ∷ []))

      by_place : (c ≡ length h) ⊎ ((c < length h) ⊎ (length h < c)) → (d ≡ length h) ⊎ ((d < length h) ⊎ (length h < d)) → d ≤ c
      by_place (inl p) q = let w = within in omega arith
      by_place (inr (inr l)) q = let w = within in omega arith
      by_place (inr (inl l)) (inl q) = absurd (clash next g c l q one alive other)
      by_place (inr (inl l)) (inr (inr m)) = absurd (let w = within in omega arith)
      by_place (inr (inl l)) (inr (inl m)) = before g c d (sym (at-append (is_connect_of g) h (e ∷ []) c l) ∙ one) (open_old h e c l alive)
          (sym (at-append (is_connect_of g) h (e ∷ []) d m) ∙ other)

-- the last end ----------------------------------------------------------------------------------------

-- a node subscribes to one hub
pub one_hub : (h : List Event) (s g k : ℕ) → at (is_subscriber_of g) h s ≡ true → at (is_subscriber_of k) h s ≡ true → g ≡ k
one_hub h s g k one other = search (rules, subscriber_found, slice_get, same_Some)

-- what has ended its source ends a connection of its hub
pub ends_of_source : (h : List Event) (g s : ℕ) (t : Terminal) → at (is_subscriber_of g) h s ≡ true → (x : SourceEnded h s t) → EndsConnection h g x.place t
ends_of_source h g s t subscribes x = search (rules, one_hub)

-- and where that stands after it, it has
pub source_ended_by : (h : List Event) (g s place : ℕ) (t : Terminal) → at (is_subscriber_of g) h s ≡ true → EndsConnection h g place t → s < place →
    SourceEnded h s t
source_ended_by h g s place t subscribes x l = search rules

-- an open subscriber is cut by the last end, where that stands after it, and by no other
pub cut_by_last : {base : Kept} {h : List Event} → IsLawful base h → {g place : ℕ} {t : Terminal} → EndsLast h g place t → (s : ℕ) (u : Terminal) →
    at (is_subscriber_of g) h s ≡ true → is_open h s ≡ true → SourceEnded h s u ↔ ((s < place) × (u ≡ t))
cut_by_last {h = h} law {g} {place} {t} x s u subscribes alive = (to, back) where
  to : SourceEnded h s u → (s < place) × (u ≡ t)
  to y =
      let le = x.last y.place u (ends_of_source h g s u subscribes y) in
      let after = y.later in
      let l : s < place = omega arith in
      (l, one_end h law s s u t (cut alive y) (cut alive (source_ended_by h g s place t subscribes x.ends l)))

  back : (s < place) × (u ≡ t) → SourceEnded h s u
  back p = subst (λ (v : Terminal). SourceEnded h s v) (sym p.1) (source_ended_by h g s place t subscribes x.ends p.0)

-- one event more --------------------------------------------------------------------------------------

-- what has ended had ended, or the event ends a connection of its hub
pub source_ended_or_now : (base : Kept) → (h : List Event) (e : Event) → IsLawful base h → MayFollow base h e → (s : ℕ) (t : Terminal) →
    SourceEnded (h ++ e ∷ []) s t → SourceEnded h s t ⊎ EndsSource h e s t
source_ended_or_now base h e law next s t x = by_place (cases_push h e (End x.connection t) x.place x.ended) where
  old : s < length h
  old = let w = slice_get_within (h ++ e ∷ []) x.place _ x.ended in let l = x.later in omega (arith, length-append h (e ∷ []))

  subscribes : at (is_subscriber_of x.hub) h s ≡ true
  subscribes = sym (at-append (is_subscriber_of x.hub) h (e ∷ []) s old) ∙ x.subscribes

  connects : x.connection < length h → slice_get h x.connection ≡ Some (Connect x.hub)
  connects l = sym (slice_get-append h (e ∷ []) x.connection l) ∙ x.connects

  by_place : (slice_get h x.place ≡ Some (End x.connection t)) ⊎ (e ≡ End x.connection t) → SourceEnded h s t ⊎ EndsSource h e s t
  by_place (inl found) =
      let before = ended_after base h law x.place x.connection t found in
      let within = slice_get_within h x.place _ found in
      inl (record {
        hub = x.hub;
        connection = x.connection;
        place = x.place;
        subscribes = subscribes;
        connects = connects (omega arith);
        later = x.later;
        ended = found;
      })
  by_place (inr same) =
      let was = may_end base (subst (λ (y : Event). MayFollow base h y) same next) in
      inr (record {
        hub = x.hub;
        connection = x.connection;
        subscribes = subscribes;
        connects = connects (is_open_within h x.connection was);
        ends = same;
      })

subscribes_now : (g : ℕ) (e : Event) → is_subscriber_of g e ≡ true → hub_subscribed e ≡ Some g
subscribes_now g e is = grind arith

-- What waits is the hub of the new subscriber, or waited before
pub waited_or_now : (base : Kept) → (h : List Event) (e : Event) → IsLawful base h → MayFollow base h e → (g : ℕ) → IsConnectDue (h ++ e ∷ []) g →
    IsConnectDue h g ⊎ (hub_subscribed e ≡ Some g)
waited_or_now base h e law next g d = by_test (is_subscriber_of g e) refl where
  closed : (n : ℕ) → MayFollow base h (Close n) → IsConnectDue (h ++ Close n ∷ []) g → IsConnectDue h g
  closed n (forced (due none f)) w = waited_close base h n g f w
  closed n (allowed s a) w = waited_close_allowed base h n g a w

  by_event : (x : Event) → MayFollow base h x → is_subscriber_of g x ≡ false → IsConnectDue (h ++ x ∷ []) g → IsConnectDue h g
  by_event (End n t) may out w = waited_end base h n t g w
  by_event (Close n) may out w = closed n may w
  by_event (Open place kind) may out w = waited_before base h (Open place kind) g refl out (auto_before base h (Open place kind) g law out w) w
  by_event e may out w = waited_before base h e g refl out (auto_before base h e g law out w) w

  by_test : (b : Bool) → is_subscriber_of g e ≡ b → IsConnectDue h g ⊎ (hub_subscribed e ≡ Some g)
  by_test true is = inr (subscribes_now g e is)
  by_test false out = inl (by_event e next out d)

-- A connection that is due to be closed was so before, or a subscriber has gone, or it is new
pub left_or_now : (base : Kept) → (h : List Event) (e : Event) → IsLawful base h → MayFollow base h e → (c : ℕ) → IsDue base (h ++ e ∷ []) (Close c) →
    HowLeft base h e c
left_or_now base h e law next c (left {g = g} alive connects auto none) = by_place (cases_order c (length h)) where
  before : c < length h → HowLeft base h e c
  before l = by_list (open_subscribers h g) refl where
    made : slice_get h c ≡ Some (Connect g)
    made = sym (slice_get-append h (e ∷ []) c l) ∙ connects

    older : g < length h
    older = let m = connection_hub base h law g c made in omega arith

    by_test : (s : ℕ) → at (is_subscriber_of g) h s ≡ true → is_open h s ≡ true → (b : Bool) → is_open (h ++ e ∷ []) s ≡ b → HowLeft base h e c
    by_test s subscribes was false gone = subscriber_gone g s made subscribes was gone
    by_test s subscribes was true still =
        absurd (subscriber_listed (h ++ e ∷ []) g s (at-append (is_subscriber_of g) h (e ∷ []) s (is_open_within h s was) ∙ subscribes) still none)

    by_list : (ss : List ℕ) → open_subscribers h g ≡ ss → HowLeft base h e c
    by_list [] found = left_before (left (open_old h e c l alive) made (sym (at-append is_auto_hub h (e ∷ []) g older) ∙ auto) found)
    by_list (s ∷ ss) found =
        let first : (at (is_subscriber_of g) h s && is_open h s) ≡ true =
        first_passes (λ n. at (is_subscriber_of g) h n && is_open h n) (places h) s ss found in
        let parts : (at (is_subscriber_of g) h s ≡ true) × (is_open h s ≡ true) = and_parts _ _ first in
        by_test s parts.0 parts.1 (is_open (h ++ e ∷ []) s) refl

  by_place : (c ≡ length h) ⊎ ((c < length h) ⊎ (length h < c)) → HowLeft base h e c
  by_place (inl same) = connected_now g (same_Some e (Connect g) (sym (slice_get_last h e) ∙ ap (slice_get (h ++ e ∷ [])) (sym same) ∙ connects)) same
  by_place (inr (inl l)) = before l
  by_place (inr (inr past)) = absurd (let w = is_open_within (h ++ e ∷ []) c alive in omega (arith, length-append h (e ∷ [])))

-- the other way round ---------------------------------------------------------------------------------

-- what is gone over from the last to the first has the same sum
pub sum_by-falling : (passes : ℕ → Bool) (number : ℕ → ℕ) (n : ℕ) → sum_by number (falling passes n) ≡ sum_by number (filter passes (range_with_len 0 n))
sum_by-falling passes number zero = refl
sum_by-falling passes number (suc n) = by_test (passes n) refl (sum_by-falling passes number n) where
  below : List ℕ
  below = filter passes (range_with_len 0 n)

  split : (b : Bool) → passes n ≡ b → filter passes (range_with_len 0 (suc n)) ≡ below ++ cond b (n ∷ []) []
  split b is = ap (filter passes) (below_push n) ∙ filter-append passes (range_with_len 0 n) (n ∷ []) ∙ ap (λ c. below ++ cond c (n ∷ []) []) is

  by_test : (b : Bool) → passes n ≡ b → sum_by number (falling passes n) ≡ sum_by number below →
      sum_by number (cond b (n ∷ falling passes n) (falling passes n)) ≡ sum_by number (filter passes (range_with_len 0 (suc n)))
  by_test true is rest =
      let whole : sum_by number (filter passes (range_with_len 0 (suc n))) ≡ sum_by number below + number n =
      ap (sum_by number) (split true is) ∙ sum_by_push number below n in
      let first : sum_by number (n ∷ falling passes n) ≡ number n + sum_by number (falling passes n) = sum_by-cons number n (falling passes n) in omega arith
  by_test false is rest = rest ∙ sym (ap (sum_by number) (split false is ∙ append-nil below))
