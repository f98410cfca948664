-- A canonical course is a course of its scenario, wherever the limit of events leaves it room.
use Rattle.rx_script.proofs.Common.{◌≡◌, ℕ, ◌+◌, ◌≤◌, List, [], ◌∙◌, arith, nothing_kept, Event, waiting_resources, Takes, none_taken, next_taken, Answer}
use Rattle.rx_script.proofs.Common.{Command, Action, Step, Stage, front_is_fresh, limited, in_one_order, DrainsInOrder, nothing_left, least_taken, Executes}
use Rattle.rx_script.proofs.Common.{refused, refused_by_book, accepted, drained, checkpointed, Does, does, leaves, Plays, none_played, one_played}
use Rattle.rx_script.specs.Course.{CanonicalCoursesArePossible}
use Rattle.rx_script.proofs.StepsInOneOrder.{roomy, roomy_first}
use Rattle.std.proofs.Common.{rules}

-- what is drained in order is drained ------------------------------------------------------------------------------------------------

takes_on : {h m k : List Event} → Takes nothing_kept h m → DrainsInOrder m k → Takes nothing_kept h k
takes_on takes (nothing_left none) = takes
takes_on takes (least_taken found step rest) = takes_on (next_taken takes step.step) rest

none_left : {h k : List Event} → DrainsInOrder h k → waiting_resources k ≡ []
none_left (nothing_left none) = none
none_left (least_taken found step rest) = none_left rest

-- with so much room, and with more
abbrev FromOnUp : (ℕ → Type 0) → Type 0
FromOnUp P = (least : ℕ) × ((limit : ℕ) → least ≤ limit → P limit)

executed_too : {s last : Stage} {step : Command} {answer : Answer} → Executes in_one_order s step answer last
    → FromOnUp (λ limit. Executes (limited limit) s step answer last)
executed_too (refused own) = (0, λ limit room. refused own)
executed_too {s = s} (refused_by_book {call = call} own called stands) =
    (roomy s.history call, λ limit room. refused_by_book own called (roomy_first s.history (s.checked + limit) (front_is_fresh s) call (omega arith) ∙ stands))
executed_too {s = s} (accepted {call = call} k own called none step) = (
  roomy s.history call,
  λ limit room.
      accepted k own called (roomy_first s.history (s.checked + limit) (front_is_fresh s) call (omega arith) ∙ none) step.step,
)
executed_too (drained drains) = (0, λ limit room. drained (record { takes = takes_on none_taken drains; none_waits = none_left drains }))
executed_too checkpointed = (0, λ limit room. checkpointed)

did_too : {s last : Stage} {action : Action} {answer : Answer} → Does in_one_order s action answer last
    → FromOnUp (λ limit. Does (limited limit) s action answer last)
did_too (does done) = let w = executed_too done in (w.0, λ limit room. does (w.1 limit room))
did_too leaves = (0, λ limit room. leaves)

played_too : {first p : Stage} {done : List (Step × Answer)} → Plays in_one_order first done p → FromOnUp (λ limit. Plays (limited limit) first done p)
played_too none_played = (0, λ limit room. none_played)
played_too (one_played s plays did) =
    let before = played_too plays in
    let w = did_too did in
    (before.0 + w.0, λ limit room. one_played s (before.1 limit (omega arith)) (w.1 limit (omega arith)))

pub possible_too : CanonicalCoursesArePossible
possible_too script stock c is = search (rules, played_too)
