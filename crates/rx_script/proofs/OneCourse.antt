-- A scenario and a stock have one canonical course.
use Rattle.rx_script.proofs.Common.{◌≡◌, ℕ, zero, suc, List, [], ◌∷◌, ◌++◌, map, Option, Some, None, refl, sym, ap, subst, ◌∙◌, arith, append_assoc, append-nil}
use Rattle.rx_script.proofs.Common.{slice_get, option_map, same_Some, none-some, nothing_kept, Event, waiting_resources, IsSettled, Call, Taking, outside_of}
use Rattle.rx_script.proofs.Common.{first_forced, IsFirstStep, first_is_forced, Command, checkpoint, Action, command, cancel, Step, Script, Answer, Accepted}
use Rattle.rx_script.proofs.Common.{Refused, Cause, Book, PlacedStep, Executed, done_in, Ware, Stage, start, own_cause, call_of, after, in_one_order, cause_in}
use Rattle.rx_script.proofs.Common.{DrainsInOrder, nothing_left, least_taken, Executes, refused, refused_by_book, accepted, drained, checkpointed, Does, does}
use Rattle.rx_script.proofs.Common.{leaves, Plays, none_played, one_played, Course, IsCanonicalCourseOf}
use Rattle.std.specs.Option.{option_or}
use Rattle.rx_event.proofs.Laws.Finishes.{one_finish}
use Rattle.rx_agenda.proofs.Laws.{Agrees, determined_so_far, cancel_alike}
use Rattle.std.proofs.Common.{rules}

-- one step ---------------------------------------------------------------------------------------------------------------------------

-- where nothing is forced, nothing comes first
pub over_settled : (k : List Event) → IsSettled nothing_kept k → first_forced nothing_kept k ≡ None
over_settled k settled = by_first (first_forced nothing_kept k) refl where
  by_first : (o : Option Event) → first_forced nothing_kept k ≡ o → first_forced nothing_kept k ≡ None
  by_first None none = none
  by_first (Some e) found = absurd (settled.none e (first_is_forced nothing_kept k e found))

one_first_step : (h outside k j : List Event) → IsFirstStep nothing_kept h outside k → IsFirstStep nothing_kept h outside j → k ≡ j
one_first_step h outside k j one other = search (rules, one_finish, over_settled)

none_first : (ns : List ℕ) (r : ℕ) → ns ≡ [] → slice_get ns 0 ≡ Some r → {X : Type 0} → X
none_first ns r none found = absurd (none-some r (sym (ap (λ (l : List ℕ). slice_get l 0) none) ∙ found))

one_drain : {h k j : List Event} → DrainsInOrder h k → DrainsInOrder h j → k ≡ j
one_drain (nothing_left none) (nothing_left also) = refl
one_drain {h = h} (nothing_left none) (least_taken {r = r} found step rest) = none_first (waiting_resources h) r none found
one_drain {h = h} (least_taken {r = r} found step rest) (nothing_left none) = none_first (waiting_resources h) r none found
one_drain {h = h} {j = j} (least_taken {m = m} {r = r} found step rest) (least_taken {m = n} {r = q} also other on) =
    one_drain rest (subst (λ (x : List Event). DrainsInOrder x j) same on) where
      least : q ≡ r
      least = same_Some q r (sym also ∙ found)

      same : n ≡ m
      same = one_first_step h (outside_of h (Taking r)) n m (subst (λ (x : ℕ). IsFirstStep nothing_kept h (outside_of h (Taking x)) n) least other) step

-- why a step is refused, if it is
abbrev book_fate : Stage → Option Call → Option Cause
book_fate s None = None
book_fate s (Some call) = option_map Book (cause_in in_one_order s call)

abbrev fate : Stage → Command → Option Cause
fate s step = option_or (own_cause s step) (book_fate s (call_of s step))

-- a checkpoint leaves the history, and what else makes no call drains
abbrev Rests : Stage → Command → List Event → Type 0
Rests s checkpoint k = k ≡ s.history
Rests s _ k = DrainsInOrder s.history k

abbrev GoesTo : Stage → Command → Option Call → List Event → Type 0
GoesTo s step None k = Rests s step k
GoesTo s step (Some call) k = IsFirstStep nothing_kept s.history (outside_of s.history call) k

abbrev Leaves : Option Cause → Stage → Command → Answer → Stage → Type 0
Leaves (Some why) s step answer last = (answer ≡ Refused why) × (last ≡ s)
Leaves None s step answer last = (k : List Event) × GoesTo s step (call_of s step) k × (answer ≡ Accepted) × (last ≡ after s step k)

fated : {s last : Stage} {step : Command} {answer : Answer} → Executes in_one_order s step answer last → Leaves (fate s step) s step answer last
fated {s = s} (refused {step = step} {why = why} own) =
    let is : fate s step ≡ Some why = ap (λ (o : Option Cause). option_or o (book_fate s (call_of s step))) own in
    subst (λ (f : Option Cause). Leaves f s step (Refused why) s) (sym is) (refl, refl)
fated {s = s} (refused_by_book {step = step} {call = call} {why = why} own called stands) =
    let is : fate s step ≡ Some (Book why) =
    ap (λ (o : Option Cause). option_or o (book_fate s (call_of s step))) own ∙ ap (book_fate s) called ∙ ap (option_map Book) stands in
    subst (λ (f : Option Cause). Leaves f s step (Refused (Book why)) s) (sym is) (refl, refl)
fated {s = s} (accepted {step = step} {call = call} k own called none goes) =
    let is : fate s step ≡ None = ap (λ (o : Option Cause). option_or o (book_fate s (call_of s step))) own ∙ ap (book_fate s) called
    ∙ ap (option_map Book) none in
    let to : GoesTo s step (call_of s step) k = subst (λ (o : Option Call). GoesTo s step o k) (sym called) goes in
    subst (λ (f : Option Cause). Leaves f s step Accepted (after s step k)) (sym is) (k, to, refl, refl)
fated (drained {k = k} drains) = (k, drains, refl, refl)
fated {s = s} checkpointed = (s.history, refl, refl, refl)

one_rest : (s : Stage) (step : Command) (k j : List Event) → Rests s step k → Rests s step j → k ≡ j
one_rest s checkpoint k j one other = one ∙ sym other
one_rest s _ k j one other = one_drain one other

one_way_on : (s : Stage) (step : Command) (o : Option Call) (k j : List Event) → GoesTo s step o k → GoesTo s step o j → k ≡ j
one_way_on s step x2 k j one other = search (rules, one_rest, one_first_step)

one_left : (f : Option Cause) (s : Stage) (step : Command) {a b : Answer} {x y : Stage} → Leaves f s step a x → Leaves f s step b y → (a ≡ b) × (x ≡ y)
one_left x0 s step one other = search (rules, one_way_on)

one_executed : {s x y : Stage} {step : Command} {a b : Answer} → Executes in_one_order s step a x → Executes in_one_order s step b y → (a ≡ b) × (x ≡ y)
one_executed {s = s} {step = step} one other = one_left (fate s step) s step (fated one) (fated other)

-- one step after another -----------------------------------------------------------------------------------------------------------

one_did : {s x y : Stage} {action : Action} {a b : Answer} → Does in_one_order s action a x → Does in_one_order s action b y
    → ((c : Command) → action ≡ command c → a ≡ b) × (x ≡ y)
one_did (does one) (does other) = let same = one_executed one other in (λ c is. same.0, same.1)
one_did leaves leaves = (λ c is. absurd (cc), refl)

-- the same from the front
data PlaysOn : Stage → List (Step × Answer) → Stage → Type 0 where
  all_played : {p : Stage} → PlaysOn p [] p
  plays_one : {s : Step} {answer : Answer} {done : List (Step × Answer)} {p q last : Stage}
      → Does in_one_order p s.action answer q → PlaysOn q done last → PlaysOn p ((s, answer) ∷ done) last

played_on : {first p last : Stage} {done rest : List (Step × Answer)} → Plays in_one_order first done p → PlaysOn p rest last
    → PlaysOn first (done ++ rest) last
played_on none_played on = on
played_on {first = first} {last = last} {rest = rest} (one_played {done = done} s {answer = answer} plays did) on =
    subst (λ (l : List (Step × Answer)). PlaysOn first l last) (sym (append_assoc done ((s, answer) ∷ []) rest)) (played_on plays (plays_one did on))

one_played_on : {p x y : Stage} {done : List (Step × Answer)} → PlaysOn p done x → PlaysOn p done y → x ≡ y
one_played_on all_played all_played = refl
one_played_on {y = y} (plays_one {done = done} did on) (plays_one other beyond) =
    one_played_on on (subst (λ (q : Stage). PlaysOn q done y) (sym (one_did did other).1) beyond)

-- two runs are the same before this place, and here come to these two steps, which are the same
record MeetAt (one other : List Executed) (k : ℕ) (x y : Executed) : Type 0 where
  pub before : Agrees one other k
  pub at_one : slice_get one k ≡ Some x
  pub at_other : slice_get other k ≡ Some y
  pub same : x.placed ≡ y.placed

-- there a command is answered the same
answered_alike : (one other : List Executed) {k : ℕ} {x y : Executed} {first x_last y_last : Stage} {c : Command} → PlaysOn first (map done_in one) x_last
    → PlaysOn first (map done_in other) y_last → MeetAt one other k x y → x.placed.step.action ≡ command c → x.answer ≡ y.answer
answered_alike [] other plays others meet is = let at_x = meet.at_one in absurd (cc)
answered_alike (e ∷ es) [] plays others meet is = let at_y = meet.at_other in absurd (cc)
answered_alike (e ∷ es) (f ∷ fs) {k = zero} {x} {y} {first = first} {c = c} (plays_one {q = p} did on) (plays_one {q = q} done beyond) meet is =
    search (rules, one_did, in_one_order, same_Some)
answered_alike (e ∷ es) (f ∷ fs) {k = suc k} {x} {y} {first = first} {y_last = last} (plays_one {q = p} did on) (plays_one {q = q} done beyond) meet is =
    let further : MeetAt es fs k x y =
    record { before = λ j lt. meet.before (suc j) (omega arith); at_one = meet.at_one; at_other = meet.at_other; same = meet.same } in
    answered_alike es fs on (subst (λ (s : Stage). PlaysOn s (map done_in fs) last) (sym stage) beyond) further is where
      alike : e ≡ f
      alike = same_Some e f (meet.before 0 (omega arith))

      stage : p ≡ q
      stage = (one_did did (subst (λ (v : Executed). Does in_one_order first v.placed.step.action v.answer q) (sym alike) done)).1

-- So a scenario and a stock have one
pub one_canonical_course : (script : Script) (stock : List Ware) (c d : Course) → IsCanonicalCourseOf script stock c → IsCanonicalCourseOf script stock d
    → c ≡ d
one_canonical_course script stock c d one other = λ i. record { answers = answers i; last = last i } where
  plays : (x : Course) (is : IsCanonicalCourseOf script stock x) → PlaysOn (start stock) (map done_in is.executed) x.last
  plays x is = subst (λ (l : List (Step × Answer)). PlaysOn (start stock) l x.last) (append-nil (map done_in is.executed)) (played_on is.plays all_played)

  alike : (k : ℕ) → Agrees one.executed other.executed k → (x y : Executed) → slice_get one.executed k ≡ Some x → slice_get other.executed k ≡ Some y
      → x.placed ≡ y.placed → x.answer ≡ y.answer
  alike k agree x y at_x at_y same = by_action x.placed.step.action refl where
    by_action : (action : Action) → x.placed.step.action ≡ action → x.answer ≡ y.answer
    by_action (command what) is = answered_alike one.executed other.executed (plays c one) (plays d other)
        (record { before = agree; at_one = at_x; at_other = at_y; same = same }) is
    by_action (cancel label) is = cancel_alike agree y same label x.answer y.answer
        (one.answered k x label at_x is) (other.answered k y label at_y (ap (λ (p : PlacedStep). p.step.action) (sym same) ∙ is))

  executed : one.executed ≡ other.executed
  executed = determined_so_far script.steps script.until one.executed other.executed one.in_order other.in_order alike

  answers : c.answers ≡ d.answers
  answers = sym one.answers ∙ ap (map (λ (e : Executed). e.answer)) executed ∙ other.answers

  last : c.last ≡ d.last
  last = one_played_on (plays c one) (subst (λ (es : List Executed). PlaysOn (start stock) (map done_in es) d.last) (sym executed) (plays d other))
