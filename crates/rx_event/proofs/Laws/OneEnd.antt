-- All that is due in a lawful history ends in one way: as what was ended in this step did, or by a completion.
use Rattle.rx_event.proofs.Laws.Common.{◌≡◌, ℕ, ◌<◌, ◌≤◌, Bool, true, false, List, [], ◌∷◌, ◌++◌, length, Option, Some, None, cond, refl, sym, ap, ◌∙◌, arith}
use Rattle.rx_event.proofs.Laws.Common.{inl, inr, ◌⊎◌, slice_get, not, ◌&&◌, ◌||◌, list_any, option_map_or, cases_lt, both_ways, false≢true, and_parts}
use Rattle.rx_event.proofs.Laws.Common.{or_cases, eq-eqb, eqb-true, slice_get_within, same_Some, none-some, Terminal, Completed, Error, Kept, node_kept}
use Rattle.rx_event.proofs.Laws.Common.{completes_source, source_completed, due_at, marks_of, is_child_of, Inner, Event, Open, Item}
use Rattle.rx_event.proofs.Laws.Common.{Decline, End, Close, is_mirroring, is_merging, is_until, is_inner_of, is_subscriber_of, pays, at, parent}
use Rattle.rx_event.proofs.Laws.Common.{is_open, shuts, is_fired, is_firing_of, stops_of, mirrored, fired, failed, completed, cut, due, SourceEnded, IsDue}
use Rattle.rx_event.proofs.Laws.Common.{IsForced, forced, allowed, opened_with, MayFollow, IsLawful, or_false, ChildEnded, not-true as not_false}
use Rattle.rx_event.proofs.Laws.MarksAfter.{source_completed-push, ended_older, child_new, adds_child, is_fired-push}
use Rattle.rx_event.proofs.Laws.MarksNew.{source_completed_is, fired_past}
use Rattle.rx_event.proofs.Laws.MarksFound.{source_completed_true, is_child_parent}
use Rattle.rx_event.proofs.Laws.Lawful.{shown_within, ended_after}
use Rattle.rx_event.specs.Bases.{Completes}
use Rattle.rx_event.proofs.Laws.Places.{slice_get-append, slice_get_last, at-append, cases_push}
use Rattle.rx_event.proofs.Laws.Parents.{parent-append, parent-lt, parent_within, parent_name, ancestors_step}
use Rattle.rx_event.proofs.Laws.Openness.{open_old, is_open_cut, is_cut}
use Rattle.rx_event.proofs.Laws.Steps.{by_events, forced_kind}
use Rattle.rx_event.proofs.Laws.Stands.{event_at}
use Rattle.rx_event.proofs.Laws.Waits.{settled_connected}
use Rattle.rx_event.proofs.Laws.Projections.{owed-push}
use Rattle.rx_event.proofs.Laws.MarksDue.{due_by_marks, due_at_due}
use Rattle.rx_event.proofs.Laws.MarksEnds.{may_close_none, source_parent}
use Rattle.rx_event.proofs.Laws.MarksInner.{switched_parent}
use Rattle.std.proofs.Common.{rules}

-- how what the event makes due ends, if it makes anything due
abbrev pub end_by : Event → Option Terminal
end_by (End c t) = Some t
end_by (Item leaf v) = Some Completed
end_by (Decline f) = Some Completed
end_by _ = None

-- how the event ends a node
abbrev pub ends_as : Event → Option Terminal
ends_as (End c t) = Some t
ends_as _ = None

-- the event completes a node, or declines what one owes
abbrev pub completes : Event → Bool
completes (End c Completed) = true
completes (Decline f) = true
completes _ = false

-- why the end of n is due now, where it was not before: by an end, by a completion or a declining, or since n was fired
pub data IsReason (h : List Event) (e : Event) (n : ℕ) (u : Terminal) : Type 0 where
  ends_so : ends_as e ≡ Some u → IsReason h e n u
  completes_one : completes e ≡ true → u ≡ Completed → IsReason h e n u
  fires_it : list_any (is_firing_of n) (stops_of h e) ≡ true → u ≡ Completed → IsReason h e n u

-- a child that ended had ended, or ends by this event
pub child_ended_before : (base : Kept) → (h : List Event) (e : Event) → IsLawful base h → (n : ℕ) (u : Terminal) → ChildEnded (h ++ e ∷ []) n u →
    (ChildEnded h n u × (n < length h)) ⊎ (ends_as e ≡ Some u)
child_ended_before base h e law n u c = by_place (cases_push h e (End c.child u) c.ended.place c.ended.found) where
  by_place : (slice_get h c.ended.place ≡ Some (End c.child u)) ⊎ (e ≡ End c.child u) → (ChildEnded h n u × (n < length h)) ⊎ (ends_as e ≡ Some u)
  by_place (inr same) = inr (ap ends_as same)
  by_place (inl found) =
      let l : c.child < length h = ended_older h law c.ended.place (End c.child u) found c.child u refl in
      let below : parent h c.child ≡ Some n = sym (parent-append h (e ∷ []) c.child l) ∙ c.below in
      inl (
        record { child = c.child; below = below; ended = record { place = c.ended.place; found = found } },
        (let p = parent-lt h c.child n below in omega arith),
      )

pub source_ended_before : (base : Kept) → (h : List Event) (e : Event) → IsLawful base h → (n : ℕ) (u : Terminal) → SourceEnded (h ++ e ∷ []) n u →
    (SourceEnded h n u × (n < length h)) ⊎ (ends_as e ≡ Some u)
source_ended_before base h e law n u s = by_place (cases_push h e (End s.connection u) s.place s.ended) where
  by_place : (slice_get h s.place ≡ Some (End s.connection u)) ⊎ (e ≡ End s.connection u) → (SourceEnded h n u × (n < length h)) ⊎ (ends_as e ≡ Some u)
  by_place (inr same) = inr (ap ends_as same)
  by_place (inl found) =
      let l : s.place < length h = slice_get_within h s.place _ found in
      let before : s.connection < s.place = ended_after base h law s.place s.connection u found in
      let after = s.later in
      let old : n < length h = omega arith in
      inl (
        record {
          hub = s.hub;
          connection = s.connection;
          place = s.place;
          subscribes = sym (at-append (is_subscriber_of s.hub) h (e ∷ []) n old) ∙ s.subscribes;
          connects = sym (slice_get-append h (e ∷ []) s.connection (omega arith)) ∙ s.connects;
          later = s.later;
          ended = found;
        },
        old,
      )

-- a completion of a FlatMap or Switch -----------------------------------------------------------------

-- where no child of n is open, the event opens none
opens_none : (base : Kept) → (h : List Event) (e : Event) → IsLawful base h → MayFollow base h e → (n : ℕ) →
    ((c : ℕ) → parent (h ++ e ∷ []) c ≡ Some n → is_open (h ++ e ∷ []) c ≡ false) → adds_child n e ≡ true → ⊥
opens_none base h e law next n closed adds =
    let new = and_parts (is_open (h ++ e ∷ []) (length h)) (is_child_of (h ++ e ∷ []) n (length h)) (child_new base h e law next n ∙ adds) in
    both_ways (is_open (h ++ e ∷ []) (length h)) (closed (length h) (is_child_parent (h ++ e ∷ []) n (length h) new.1)) new.0

pays_none : (h : List Event) (e : Event) (n : ℕ) → completes e ≡ false → (adds_child n e ≡ true → ⊥) → pays n e ≡ false
pays_none h x1 n silent opens = search (rules, false≢true)

-- what takes a child of n away, but not n
child_shut : {base : Kept} → {h : List Event} {e : Event} → IsLawful base h → MayFollow base h e → (n k : ℕ) → parent h k ≡ Some n → shuts h k e ≡ true →
    completes e ≡ false → (adds_child n e ≡ true → ⊥) → (code : ℕ) × (e ≡ End k (Error code))
child_shut {e = End c Completed} law next n k below shut silent opens = absurd (false≢true (sym silent))
child_shut {e = End c (Error code)} law next n k below shut silent opens = (code, ap (λ q. End q (Error code)) (eqb-true c k shut))
child_shut {base} {h} {e = Close c} law next n k below shut silent opens =
    let made = event_at h k (parent_within h k n below) in
    absurd (none-some n (sym (may_close_none base next made.0 (ap (slice_get h) (eqb-true c k shut) ∙ made.1)) ∙ parent_name h k n made.0 below made.1))
child_shut {base} {h} {e = Open (Inner f) kind} law next n k below shut silent opens =
    let inner : at (is_inner_of f) h k ≡ true = (and_parts _ _ shut).1 in
    let same : f ≡ n = same_Some f n (sym (switched_parent base h law f k inner) ∙ below) in absurd (opens (eq-eqb f n same))
child_shut law next n k below shut silent opens = absurd (false≢true shut)

now_closed : (o c : Bool) → (o && not c) ≡ false → c ≡ false → o ≡ false
now_closed o c gone whole = grind arith

not_completing : (h : List Event) (n : ℕ) (e : Event) → completes e ≡ false → completes_source h n e ≡ false
not_completing h n x2 silent = search (rules, false≢true)

-- a completion that is due without such an event was due before
completed_before : (base : Kept) → (h : List Event) (e : Event) → IsLawful base h → MayFollow base h e → (n : ℕ) → completes e ≡ false →
    Completes base (h ++ e ∷ []) n → IsDue base h (End n Completed)
completed_before base h e law next n silent now = whole_case (cases_lt n (length h)) where
  unfailed : (code : ℕ) → ChildEnded (h ++ e ∷ []) n (Error code) → ⊥
  unfailed code child = now.fails_not code (now.alive, now.merging, child)

  opens : adds_child n e ≡ true → ⊥
  opens = opens_none base h e law next n now.childless

  from_child : (k : ℕ) → k < length h → parent h k ≡ Some n → parent (h ++ e ∷ []) k ≡ Some n
  from_child k l below = parent-append h (e ∷ []) k l ∙ below

  failed_after : (code : ℕ) → ChildEnded h n (Error code) → ⊥
  failed_after code c = unfailed code (record {
    child = c.child;
    below = from_child c.child (parent_within h c.child n c.below) c.below;
    ended =
        record {
          place = c.ended.place;
          found = slice_get-append h (e ∷ []) c.ended.place (slice_get_within h c.ended.place _ c.ended.found) ∙ c.ended.found;
        };
  })

  shut_apart : (k : ℕ) → parent h k ≡ Some n → shuts h k e ≡ true → ⊥
  shut_apart k below shut =
      let w = child_shut law next n k below shut silent opens in
      unfailed w.0 (record {
        child = k;
        below = from_child k (parent_within h k n below) below;
        ended = record { place = length h; found = slice_get_last h e ∙ ap (λ x. Some x) w.1 };
      })

  cut_apart : (k : ℕ) → parent h k ≡ Some n → is_cut h e n ≡ false → (b : Bool) → shuts h k e ≡ b → is_cut h e k ≡ false
  cut_apart k below whole true shut = absurd (shut_apart k below shut)
  cut_apart k below whole false unshut = rw (ancestors_step h k, below, unshut) whole

  source_old : source_completed base h n ≡ true
  source_old = sym (or_false (source_completed base h n)) ∙ ap (λ x. source_completed base h n || x) (sym (not_completing h n e silent)) ∙
      sym (source_completed-push base h e law next n) ∙ now.source

  whole_case : (n < length h) ⊎ (length h ≤ n) → IsDue base h (End n Completed)
  whole_case (inr past) = absurd (by_child (source_completed_is base h n)) where
    child : list_any (completes_source h n) h ≡ true → ⊥
    child some =
        let r = source_completed_true base h n some in
        let below = parent-lt h r.0 n (source_parent base h law n r.0 r.1) in
        let w = parent_within h r.0 n (source_parent base h law n r.0 r.1) in absurd (omega arith)

    by_child : source_completed base h n ≡ (option_map_or (λ k. k.source_completed) (node_kept base n) false || list_any (completes_source h n) h) → ⊥
    by_child split = child (sym (ap (λ k. option_map_or (λ x. x.source_completed) k false || list_any (completes_source h n) h)
        (law.started.unkept n (let w = shown_within base h law in omega arith))) ∙ sym split ∙ source_old)
  whole_case (inl n_old) =
      let stays = and_parts (is_open h n) (not (is_cut h e n)) (sym (is_open_cut h e n n_old) ∙ now.alive) in
      let whole : is_cut h e n ≡ false = not_false (is_cut h e n) stays.1 in
      let push = owed-push base h e law next n in
      let unpaid : cond {A = ℕ} (pays n e) 1 0 ≡ 0 = ap (λ b. cond {A = ℕ} b 1 0) (pays_none h e n silent opens) in
      let paid = now.paid in
      completed stays.0 (sym (at-append is_merging h (e ∷ []) n n_old) ∙ now.merging) failed_after source_old (λ k below.
      let k_old = parent_within h k n below in
      let gone = now.childless k (from_child k k_old below) in
      now_closed (is_open h k) (is_cut h e k) (sym (is_open_cut h e k k_old) ∙ gone) (cut_apart k below whole (shuts h k e) refl)) (omega arith)

-- what is due after the event was due before, or the event is its reason
pub due_before : (base : Kept) → (h : List Event) (e : Event) → IsLawful base h → MayFollow base h e → (n : ℕ) (u : Terminal) →
    IsDue base (h ++ e ∷ []) (End n u) → IsDue base h (End n u) ⊎ IsReason h e n u
due_before base h e law next n u (mirrored o m c) = by_case (child_ended_before base h e law n u c) where
  by_case : (ChildEnded h n u × (n < length h)) ⊎ (ends_as e ≡ Some u) → IsDue base h (End n u) ⊎ IsReason h e n u
  by_case (inr now) = inr (ends_so now)
  by_case (inl old) = inl (mirrored (open_old h e n old.1 o) (sym (at-append is_mirroring h (e ∷ []) n old.1) ∙ m) old.0)
due_before base h e law next n u (failed {c = code} o m c) = by_case (child_ended_before base h e law n (Error code) c) where
  by_case : (ChildEnded h n (Error code) × (n < length h)) ⊎ (ends_as e ≡ Some (Error code)) → IsDue base h (End n (Error code)) ⊎ IsReason h e n (Error code)
  by_case (inr now) = inr (ends_so now)
  by_case (inl old) = inl (failed (open_old h e n old.1 o) (sym (at-append is_merging h (e ∷ []) n old.1) ∙ m) old.0)
due_before base h e law next n u (fired o m f) = by_fired (or_cases (is_fired h n) (list_any (is_firing_of n) (stops_of h e)) (sym (is_fired-push h e n) ∙ f))
  where
    by_old : is_fired h n ≡ true → (n < length h) ⊎ (length h ≤ n) → IsDue base h (End n Completed) ⊎ IsReason h e n Completed
    by_old before (inl l) = inl (fired (open_old h e n l o) (sym (at-append is_until h (e ∷ []) n l) ∙ m) before)
    by_old before (inr past) = absurd (both_ways (is_fired h n) (fired_past base h law n past) before)

    by_fired : (is_fired h n ≡ true) ⊎ (list_any (is_firing_of n) (stops_of h e) ≡ true) → IsDue base h (End n Completed) ⊎ IsReason h e n Completed
    by_fired (inr now) = inr (fires_it now refl)
    by_fired (inl before) = by_old before (cases_lt n (length h))
due_before base h e law next n u (completed o m unfailed source closed paid) = by_test (completes e) refl where
  by_test : (b : Bool) → completes e ≡ b → IsDue base h (End n Completed) ⊎ IsReason h e n Completed
  by_test true now = inr (completes_one now refl)
  by_test false silent = inl (completed_before base h e law next n silent
      (record { alive = o; merging = m; fails_not = λ code fails. unfailed code fails.2; source = source; childless = closed; paid = paid }))
due_before base h e law next n u (cut o s) = by_case (source_ended_before base h e law n u s) where
  by_case : (SourceEnded h n u × (n < length h)) ⊎ (ends_as e ≡ Some u) → IsDue base h (End n u) ⊎ IsReason h e n u
  by_case (inr now) = inr (ends_so now)
  by_case (inl old) = inl (cut (open_old h e n old.1 o) old.0)

due_or_now : (base : Kept) → (h : List Event) (e : Event) (n : ℕ) (u : Terminal) → IsDue base h (End n u) ⊎ IsReason h e n u →
    IsDue base h (End n u) ⊎ (end_by e ≡ Some u)
due_or_now base h e n u x5 = search (rules, ends_as, none-some, completes, false≢true)

-- what an event makes due ends as what was due before it
end_alike : {base : Kept} → {h : List Event} (e : Event) → MayFollow base h e →
    ((n m : ℕ) (t u : Terminal) → IsDue base h (End n t) → IsDue base h (End m u) → t ≡ u) →
    (n : ℕ) (t u : Terminal) → IsDue base h (End n t) → end_by e ≡ Some u → u ≡ t
end_alike {base} {h} e (allowed settled a) before n t u d now = absurd (settled.none (End n t) (due (settled_connected base h settled) d))
end_alike e (opened_with at_n l o) before n t u d now = absurd (none-some u now)
end_alike {base} {h} e (forced f) before n t u d now = by_forced e f now where
  by_forced : (x : Event) → IsForced base h x → end_by x ≡ Some u → u ≡ t
  by_forced (End c v) (due none x) same = same_Some u v (sym same) ∙ before c n v t x d
  by_forced (Item leaf v) f same = absurd (false≢true (forced_kind base f))
  by_forced (Decline g) f same = absurd (false≢true (forced_kind base f))
  by_forced _ f same = absurd (none-some u same)

-- the ways in which two that are due now came to be so
same_end : {base : Kept} → {h : List Event} {e : Event} → MayFollow base h e →
    ((n m : ℕ) (t u : Terminal) → IsDue base h (End n t) → IsDue base h (End m u) → t ≡ u) →
    (n m : ℕ) (t u : Terminal) → IsDue base h (End n t) ⊎ (end_by e ≡ Some t) → IsDue base h (End m u) ⊎ (end_by e ≡ Some u) → t ≡ u
same_end next before n m t u x6 x7 = search (rules, same_Some, end_alike)

-- two ends that are due in a lawful history are alike
pub one_end : {base : Kept} → (h : List Event) → IsLawful base h → (n m : ℕ) (t u : Terminal) → IsDue base h (End n t) → IsDue base h (End m u) → t ≡ u
one_end {base} =
    by_events base (λ h. (n m : ℕ) (t u : Terminal) → IsDue base h (End n t) → IsDue base h (End m u) → t ≡ u) (λ s n m t u a c. absurd (s.undue n t a))
    (λ h e law next before n m t u a b. same_end next before n m t u (due_or_now base h e n t (due_before base h e law next n t a))
    (due_or_now base h e m u (due_before base h e law next m u b)))

-- what is due to end a node in a lawful history, but for the end of a connection, is what its marks say
pub due_by_marks_alone : {base : Kept} {h : List Event} → IsLawful base h → {n : ℕ} {made : Event} {t : Terminal} → is_open h n ≡ true →
    slice_get h n ≡ Some made → ¬ SourceEnded h n t → IsDue base h (End n t) → due_at made (marks_of base h n) n ≡ Some (End n t)
due_by_marks_alone {base} {h} law {n} {made} {t} o at_n whole d =
    let w = due_by_marks base h n made t at_n whole d in
    w.1 ∙ ap (λ v. Some (End n v)) (one_end h law n n w.0 t (due_at_due base h n made (End n w.0) o at_n w.1) d)
