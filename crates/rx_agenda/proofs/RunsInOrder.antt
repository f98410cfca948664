-- Every run of an agenda executes the steps in order.
use Rattle.rx_agenda.proofs.Common.{◌≡◌, ◌+◌, ℕ, List, [], ◌∷◌, ◌++◌, map, length, refl, ap, subst, ◌∙◌, Some, None, map-append, Action, Step, list_of, Answer}
use Rattle.rx_agenda.proofs.Common.{Accepted, Refused, Agenda, empty_agenda, with_steps, followed_by, next_step, Cancels, Acts, does_command, does_cancel}
use Rattle.rx_agenda.proofs.Common.{HaveCome, none_yet, one_more, Origin, Turn, PlacedStep, Executed, opening_turn, held_by, IsHeld, done_in}
use Rattle.rx_agenda.specs.Claims.{RunsAreInOrder}
use Rattle.rx_agenda.proofs.PlacedSteps.{PlacedAgenda, seen, IsPending, PopsSeen, pops_seen, over_seen, takes_seen}
use Rattle.rx_agenda.proofs.EntriesRise.{IsReady}
use Rattle.rx_agenda.proofs.StepsJoin.{with_all, with_all-seen}
use Rattle.rx_agenda.proofs.LeastStepLeaves.{PopsWell, pops_well}
use Rattle.rx_agenda.proofs.HeldAndCancelled.{ActsWell, command_well, cancel_well, IsSoFar}
use Rattle.rx_agenda.proofs.StaysInOrder.{so_far_accepted, so_far_refused, no_agenda, so_far_none, in_order_at_end}

-- where a run is: the executed steps, placed, and the placed agenda
pub record Reaches (steps : List Step) (until : ℕ) (done : List (Step × Answer)) (a : Agenda) : Type 0 where
  pub executed : List Executed
  pub told : map done_in executed ≡ done
  pub agenda : PlacedAgenda
  pub is_seen : a ≡ seen agenda
  pub now : Turn
  pub so_far : IsSoFar steps until executed agenda now

-- the agenda after the step's action, placed
record ActsPlaced (Ever : PlacedStep → Type 0) (now : Turn) (next : Origin) (g : PlacedAgenda) (s : Step) (answer : Answer) (b : Agenda) : Type 0 where
  left : PlacedAgenda
  is_seen : b ≡ seen left
  well : ActsWell Ever now next g s answer left

acts_placed : {Ever : PlacedStep → Type 0} {now : Turn} {next : Origin} {g : PlacedAgenda} (s : Step) {answer : Answer} → IsReady Ever now next g
    → ((y : PlacedStep) → IsPending g y → Ever y) → {a : Agenda} (b : Agenda) (action : Action) → s.action ≡ action → a ≡ seen g → Acts a action answer b
    → ActsPlaced Ever now next g s answer b
acts_placed {Ever} {now} {next} {g} s {answer} r ever b action is same (does_command {c}) =
    record { left = g; is_seen = same; well = command_well Ever now next g s answer r c is }
acts_placed {Ever} {now} {next} {g} s {answer} r ever b action is same (does_cancel {label} cancels) =
    let t = takes_seen g label answer b (subst (λ (x : Agenda). Cancels x label answer b) same cancels) in
    record { left = t.left; is_seen = t.is_seen; well = cancel_well Ever now next g s answer r label t.left is ever t.takes_off }

module _ (steps : List Step) (until : ℕ) where
  -- what follows the step joins, or is dropped
  follows : {done : List (Step × Answer)} {a : Agenda} (b : Agenda) (here : Reaches steps until done a) {p : PlacedStep} (mid left : PlacedAgenda)
      (answer : Answer)
      → PopsWell (IsHeld steps here.executed) until here.now (held_by (length here.executed) here.so_far.at.place) here.agenda p mid
      → ActsWell (IsHeld steps here.executed) p.turn (held_by (length here.executed) here.so_far.at.place) mid p.step answer left
      → b ≡ seen left → Reaches steps until (done ++ (p.step, answer) ∷ []) (followed_by answer (list_of p.step.followers) b)
  follows b here {p} mid left Accepted pops acts same =
      let e : Executed = record { placed = p; answer = Accepted } in
      let next : PlacedAgenda = with_all p.turn (length here.executed + 1) 0 (list_of p.step.followers) left in
      record {
        executed = here.executed ++ e ∷ [];
        told = map-append done_in here.executed (e ∷ []) ∙ ap (λ l. l ++ (p.step, Accepted) ∷ []) here.told;
        agenda = next;
        is_seen = ap (with_steps (list_of p.step.followers)) same ∙ with_all-seen p.turn (length here.executed + 1) 0 (list_of p.step.followers) left;
        now = p.turn;
        so_far = so_far_accepted steps until here.executed here.agenda here.now here.so_far e mid left pops acts refl;
      }
  follows b here {p} mid left (Refused why) pops acts same =
      let e : Executed = record { placed = p; answer = Refused why } in
      record {
        executed = here.executed ++ e ∷ [];
        told = map-append done_in here.executed (e ∷ []) ∙ ap (λ l. l ++ (p.step, Refused why) ∷ []) here.told;
        agenda = left;
        is_seen = same;
        now = p.turn;
        so_far = so_far_refused steps until here.executed here.agenda here.now here.so_far e mid left pops acts (λ is. absurd (cc));
      }

  reaches_more : {done : List (Step × Answer)} (a rest b : Agenda) (s : Step) (answer : Answer) → Reaches steps until done a → next_step until a ≡ Some
      (s, rest)
      → Acts rest s.action answer b → Reaches steps until (done ++ (s, answer) ∷ []) (followed_by answer (list_of s.followers) b)
  reaches_more {done} a rest b s answer here comes acts =
      let g : PlacedAgenda = here.agenda in
      let comes_seen : next_step until (seen g) ≡ Some (s, rest) = subst (λ (x : Agenda). next_step until x ≡ Some (s, rest)) here.is_seen comes in
      let popped : PopsSeen until g s rest = pops_seen until g.timeline g.labels g.turn s rest comes_seen in
      let next : Origin = held_by (length here.executed) here.so_far.at.place in
      let well : PopsWell (IsHeld steps here.executed) until here.now next g popped.placed popped.left =
      pops_well (IsHeld steps here.executed) until here.now next g here.so_far.at.ready popped.placed popped.left popped.pops in
      let acted : ActsPlaced (IsHeld steps here.executed) popped.placed.turn next popped.left popped.placed.step answer b =
      acts_placed popped.placed.step well.ready
      (λ y at. here.so_far.held y (well.comes y at).0) b s.action (ap (λ (t : Step). t.action) popped.step) popped.is_seen acts in
      subst (λ (t : Step). Reaches steps until (done ++ (t, answer) ∷ []) (followed_by answer (list_of t.followers) b)) popped.step
      (follows b here popped.left acted.left answer well acted.well acted.is_seen)

  reaches : (done : List (Step × Answer)) (a : Agenda) → HaveCome until (with_steps steps empty_agenda) done a → Reaches steps until done a
  reaches done a none_yet = record {
    executed = [];
    told = refl;
    agenda = with_all opening_turn 0 0 steps no_agenda;
    is_seen = with_all-seen opening_turn 0 0 steps no_agenda;
    now = opening_turn;
    so_far = so_far_none steps until;
  }
  reaches done a (one_more {done = before} {a = mid} {rest} {b} {s} {answer} run comes acts) =
      reaches_more mid rest b s answer (reaches before mid run) comes acts

pub runs_in_order : RunsAreInOrder
runs_in_order steps until done left run over =
    let here = reaches steps until done left run in
    let over_seen_here : next_step until (seen here.agenda) ≡ None = subst (λ (x : Agenda). next_step until x ≡ None) here.is_seen over in
    let ends = over_seen until here.agenda.timeline here.agenda.labels here.agenda.turn over_seen_here in
    record {
      executed = here.executed;
      told = here.told;
      in_order = in_order_at_end steps until here.executed here.agenda here.now here.so_far ends.0 ends.1;
      cancels = here.so_far.cancels;
    }
