-- A course that no full history cuts short has one in the one order beside it, with the same answers, at each of whose steps the names
-- stand for the same things.
use Rattle.rx_script.proofs.Common.{◌≡◌, ℕ, ◌+◌, Bool, true, false, List, [], ◌∷◌, ◌++◌, map, Option, Some, None, refl, sym, ap, ◌∙◌, slice_get, ◌||◌}
use Rattle.rx_script.proofs.Common.{option_map, list_any, option_map_or, map-append, false≢true, or_parts, same_Some, none-some, slice_get_within, nothing_kept}
use Rattle.rx_script.proofs.Common.{Event, Refusal, Full, first_cause, Call, outside_of, IsStepOf, call_by, AreSameSince, shown_nothing, TakesOn}
use Rattle.rx_script.proofs.Common.{takes_none, takes_one, slice_get-append, Take, causes, unlimited, settled_empty, NamesKnown, Drains, Answer, Accepted}
use Rattle.rx_script.proofs.Common.{Refused, Cause, Book, done_in, Command, drain, checkpoint, Action, Step, Script, Ware, Stage, start, own_cause, call_of}
use Rattle.rx_script.proofs.Common.{front_is_fresh, after, limited, in_one_order, cause_in, Executes, refused, refused_by_book, accepted, drained, checkpointed}
use Rattle.rx_script.proofs.Common.{Does, does, leaves, Plays, none_played, one_played, HasNoFull, Course, IsCourseOf, IsCanonicalCourseOf}
use Rattle.rx_event.specs.Refusals.{refusal_order}
use Rattle.rx_event.specs.Renumbered.{IsKnown, AreSame}
use Rattle.rx_event.proofs.Laws.Searches.{list_any_push}
use Rattle.rx_event.proofs.Laws.Begin.{started_empty}
use Rattle.rx_event.proofs.Laws.ReadWhole.{same_start}
use Rattle.rx_event.proofs.Laws.ReadSteps.{steps_same}
use Rattle.rx_event.proofs.Laws.ReadDrained.{drained_same}
use Rattle.rx_register.proofs.Laws.SameCauses.{same_cause, never_full}
use Rattle.rx_script.specs.Course.{book_cause, is_full}
use Rattle.rx_script.proofs.CoursesInOrder.{answer_in, answers_done}
use Rattle.rx_script.proofs.CallsOfSteps.{call_ready}
use Rattle.rx_script.proofs.StepsInOneOrder.{FirstStep, ordered_step, Drained, takes_drained, OrderedDrain, ordered_drain}
use Rattle.rx_script.proofs.SameStages.{AreSameStages, own_same, front_same, call_same, call_known}
use Rattle.rx_script.proofs.SameAfter.{stands_on, same_on, after_same}
use Rattle.std.proofs.Common.{rules}

-- what is known of a call's numbers
known_number : (h : List Event) (call : Call) → NamesKnown h call → IsKnown h call
known_number h x1 known = search rules

-- the book's cause is the same with no limit
cause_same : {r : ℕ → ℕ} (s : ℕ → ℕ) (x y : Stage) (limit : ℕ) (call : Call) → AreSameStages r s x y → NamesKnown x.history call
    → (book_cause limit x call ≡ Some Full → ⊥) → cause_in in_one_order y (call_by r call) ≡ book_cause limit x call
cause_same {r} s x y limit call a known room = ap (λ (fresh : Bool). first_cause (unlimited (causes nothing_kept y.history 0 fresh (call_by r call))))
    (ap (λ (w : Option Ware). option_map_or (λ v. v.is_fresh) w true) (front_same r s x y a))
    ∙ same_cause nothing_kept r s x.history y.history a.histories 0 (x.checked + limit) (front_is_fresh x) call known
    ∙ never_full (causes nothing_kept x.history (x.checked + limit) (front_is_fresh x) call) refusal_order room

-- one command ------------------------------------------------------------------------------------------------------------------------

-- it is answered the same
record ExecutedAlike (y : Stage) (command : Command) (answer : Answer) (last : Stage) : Type 0 where
  pub other : Stage
  pub reads : ℕ → ℕ
  pub reads_back : ℕ → ℕ
  pub done : Executes in_one_order y command answer other
  pub same : AreSameStages reads reads_back last other

took_on : {h k : List Event} → TakesOn nothing_kept h k → (n : ℕ) (e : Event) → slice_get h n ≡ Some e → slice_get k n ≡ Some e
took_on takes_none n e at_n = at_n
took_on (takes_one {k = k} {q = q} on next) n e at_n =
    let before = took_on on n e at_n in
    slice_get-append k (Take q ∷ []) n (slice_get_within k n e before) ∙ before

module _ (r s : ℕ → ℕ) (x y : Stage) (a : AreSameStages r s x y) where
  not_done : (command : Command) (why : Cause) → Executes in_one_order y command (Refused why) y → ExecutedAlike y command (Refused why) x
  not_done command why done = record { other = y; reads = r; reads_back = s; done = done; same = a }

  done_alike : (limit : ℕ) (command : Command) (call : Call) (k : List Event) → own_cause x command ≡ None → call_of x command ≡ Some call
      → book_cause limit x call ≡ None → IsStepOf nothing_kept x.history call k → ExecutedAlike y command Accepted (after x command k)
  done_alike limit command call k own called none step = record {
    other = after y command w.last;
    reads = since.reads;
    reads_back = since.reads_back;
    done = accepted w.last (own_same r s x y a command ∙ own) called_there free w.step;
    same = after_same r s x y k w.last a call since (record {
      same = since.same;
      older = since.older;
      settled = step.settled;
      settled_there = w.step.step.settled;
      stands = λ n e at_n. stands_on step.forced n e (slice_get-append x.history (outside_of x.history call) n (slice_get_within x.history n e at_n) ∙ at_n);
    }) step command called;
  } where
    known : NamesKnown x.history call
    known = call_known r s x y a command call called

    called_there : call_of y command ≡ Some (call_by r call)
    called_there = call_same r s x y a command ∙ ap (option_map (call_by r)) called

    free : cause_in in_one_order y (call_by r call) ≡ None
    free = cause_same s x y limit call a known (λ full. none-some Full (sym none ∙ full)) ∙ none

    w : FirstStep y.history (outside_of y.history (call_by r call))
    w = ordered_step y.history (front_is_fresh y) (call_by r call) a.histories.numbers.other_law a.settled_there
        (call_ready y command (call_by r call) called_there) free

    since : AreSameSince nothing_kept r x.history y.history k w.last
    since = steps_same call a.histories (known_number x.history call known) step w.step.step

  drained_alike : (k : List Event) → Drains nothing_kept x.history k → ExecutedAlike y drain Accepted (after x drain k)
  drained_alike k drains = record {
    other = after y drain o.last;
    reads = r;
    reads_back = s;
    done = drained o.drains;
    same = same_on r s r s x y k o.last a (record {
      same = drained_same y.history k o.last a.histories d.takes drains.none_waits o.drained.takes o.none;
      older = λ n l. refl;
      settled = d.settled;
      settled_there = o.drained.settled;
      stands = took_on d.takes;
    });
  } where
    d : Drained x.history k
    d = takes_drained a.histories.numbers.law a.settled drains.takes

    o : OrderedDrain y.history
    o = ordered_drain y.history a.histories.numbers.other_law a.settled_there

  -- a checkpoint changes neither history
  checked_alike : ExecutedAlike y checkpoint Accepted (after x checkpoint x.history)
  checked_alike = record {
    other = after y checkpoint y.history;
    reads = r;
    reads_back = s;
    done = checkpointed;
    same = record {
      histories = a.histories;
      settled = a.settled;
      settled_there = a.settled_there;
      nodes = a.nodes;
      hubs = a.hubs;
      resources = a.resources;
      leases = a.leases;
      stock = a.stock;
      nodes_made = a.nodes_made;
      hubs_made = a.hubs_made;
      resources_made = a.resources_made;
      leases_made = a.leases_made;
    };
  }

  executed_alike : {limit : ℕ} {command : Command} {answer : Answer} {last : Stage} → Executes (limited limit) x command answer last → is_full answer ≡ false
      → ExecutedAlike y command answer last
  executed_alike (refused {step = command} {why = why} own) room = not_done command why (refused (own_same r s x y a command ∙ own))
  executed_alike {limit = limit} (refused_by_book {step = command} {call = call} {why = why} own called stands) room =
      not_done command (Book why) (refused_by_book (own_same r s x y a command ∙ own) (call_same r s x y a command ∙ ap (option_map (call_by r)) called)
      (cause_same s x y limit call a (call_known r s x y a command call called)
      (λ full. false≢true (sym room ∙ ap (λ (z : Refusal). is_full (Refused (Book z))) (same_Some why Full (sym stands ∙ full)))) ∙ stands))
  executed_alike {limit = limit} (accepted {step = command} {call = call} k own called none step) room = done_alike limit command call k own called none step
  executed_alike (drained {k = k} drains) room = drained_alike k drains
  executed_alike checkpointed room = checked_alike

-- one step after another -----------------------------------------------------------------------------------------------------------

record DoneAlike (y : Stage) (action : Action) (answer : Answer) (last : Stage) : Type 0 where
  pub other : Stage
  pub reads : ℕ → ℕ
  pub reads_back : ℕ → ℕ
  pub did : Does in_one_order y action answer other
  pub same : AreSameStages reads reads_back last other

did_alike : {r s : ℕ → ℕ} {x y last : Stage} {limit : ℕ} {action : Action} {answer : Answer} → AreSameStages r s x y
    → Does (limited limit) x action answer last → is_full answer ≡ false → DoneAlike y action answer last
did_alike {r = r} {s = s} {x = x} {y = y} a (does command) room =
    let w = executed_alike r s x y a command room in
    record { other = w.other; reads = w.reads; reads_back = w.reads_back; did = does w.done; same = w.same }
did_alike {r = r} {s = s} {y = y} a leaves room = record { other = y; reads = r; reads_back = s; did = leaves; same = a }

record PlayedAlike (begun : Stage) (done : List (Step × Answer)) (last : Stage) : Type 0 where
  pub other : Stage
  pub reads : ℕ → ℕ
  pub reads_back : ℕ → ℕ
  pub plays : Plays in_one_order begun done other
  pub same : AreSameStages reads reads_back last other

played_alike : {r s : ℕ → ℕ} {limit : ℕ} {begun y last : Stage} {done : List (Step × Answer)} → AreSameStages r s begun y
    → Plays (limited limit) begun done last → list_any is_full (map answer_in done) ≡ false → PlayedAlike y done last
played_alike {r = r} {s = s} {y = y} a none_played room = record { other = y; reads = r; reads_back = s; plays = none_played; same = a }
played_alike {y = y} {last = last} a (one_played {done = done} step {answer = answer} {p = p} plays did) room =
    one_more (played_alike a plays (or_parts (list_any is_full (map answer_in done)) (is_full answer) parts).0) where
      parts : (list_any is_full (map answer_in done) || is_full answer) ≡ false
      parts = sym (list_any_push is_full (map answer_in done) answer) ∙ ap (list_any is_full) (sym (map-append answer_in done ((step, answer) ∷ []))) ∙ room

      one_more : PlayedAlike y done p → PlayedAlike y (done ++ (step, answer) ∷ []) last
      one_more before = record { other = w.other; reads = w.reads; reads_back = w.reads_back; plays = one_played step before.plays w.did; same = w.same } where
        w : DoneAlike before.other step.action answer last
        w = did_alike before.same did (or_parts (list_any is_full (map answer_in done)) (is_full answer) parts).1

same_empty : AreSame nothing_kept [] []
same_empty = search (rules, shown_nothing, same_start, started_empty)

begun_alike : (stock : List Ware) → AreSameStages same_empty.reads same_empty.reads_back (start stock) (start stock)
begun_alike stock = record {
  histories = same_empty.same;
  settled = settled_empty nothing_kept;
  settled_there = settled_empty nothing_kept;
  nodes = refl;
  hubs = refl;
  resources = refl;
  leases = refl;
  stock = refl;
  nodes_made = tt;
  hubs_made = tt;
  resources_made = tt;
  leases_made = tt;
}

-- the canonical course, with the same answers, and where it ends
pub record HasCanonical (script : Script) (stock : List Ware) (c : Course) : Type 0 where
  pub last : Stage
  pub reads : ℕ → ℕ
  pub reads_back : ℕ → ℕ
  pub canonical : IsCanonicalCourseOf script stock (record { answers = c.answers; last = last })
  pub same : AreSameStages reads reads_back c.last last

pub has_canonical : (script : Script) (stock : List Ware) (c : Course) → IsCourseOf script stock c → HasNoFull c.answers → HasCanonical script stock c
has_canonical script stock c is room =
    let w : PlayedAlike (start stock) (map done_in is.executed) c.last =
    played_alike (begun_alike stock) is.plays (ap (list_any is_full) (sym (answers_done is.executed) ∙ is.answers) ∙ room) in
    record {
      last = w.other;
      reads = w.reads;
      reads_back = w.reads_back;
      canonical = record { executed = is.executed; answers = is.answers; in_order = is.in_order; answered = is.answered; plays = w.plays };
      same = w.same;
    }
