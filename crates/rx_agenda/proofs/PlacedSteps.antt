-- The agenda with each step placed: what it is where it is seen without the places.
use Rattle.rx_agenda.proofs.Common.{◌≡◌, ℕ, ◌+◌, List, [], ◌∷◌, ◌++◌, map, nat_eq, refl, sym, ap, ◌∙◌, ◌⊎◌, Option, Some, None, option_map, lookup, map-append}
use Rattle.rx_agenda.proofs.Common.{Work, Schedule, schedule, entry_seen, with_work, next_due, item_of, without, next_due-seen, without-seen, item_of-seen}
use Rattle.rx_agenda.proofs.Common.{Name, Step, Binding, bound, Agenda, with_label, with_step, next_step, Cancels, taken_off, none_waits, without_ticket}
use Rattle.rx_agenda.proofs.Common.{Answer, Accepted, Refused, NoStep, PlacedStep}
use Rattle.std.specs.Prelude.{option_and_then}
use Rattle.rx_time.specs.Schedule.{seen_as}
use Rattle.rx_agenda.specs.Agenda.{with_step_after}
use Rattle.rx_agenda.proofs.Members.{IsIn}
use Rattle.std.proofs.Common.{rules}

-- an entry of the timeline
abbrev pub Entry : Type 0
Entry = ℕ × Work PlacedStep

pub record PlacedAgenda : Type 0 where
  pub timeline : Schedule PlacedStep
  pub turn : List PlacedStep
  pub labels : List Binding

abbrev pub step_in : PlacedStep → Step
step_in x = x.step

abbrev pub seen : PlacedAgenda → Agenda
seen g = record { timeline = seen_as step_in g.timeline; turn = map step_in g.turn; labels = g.labels }

-- it waits, or it is one of this turn
abbrev pub IsWaiting : PlacedAgenda → PlacedStep → Type 0
IsWaiting g x = (e : Entry) × IsIn e g.timeline.work × (e.1.item ≡ x)

abbrev pub IsPending : PlacedAgenda → PlacedStep → Type 0
IsPending g x = IsIn x g.turn ⊎ IsWaiting g x

-- nothing is to come that was not before
abbrev pub IsWithin : PlacedAgenda → PlacedAgenda → Type 0
IsWithin left g = (y : PlacedStep) → IsPending left y → IsPending g y

-- a step joins
abbrev pub with_placed_after : Option ℕ → PlacedStep → PlacedAgenda → PlacedAgenda
with_placed_after None x g = record { timeline = g.timeline; turn = g.turn ++ x ∷ []; labels = g.labels }
with_placed_after (Some delay) x g =
    record { timeline = with_work (g.timeline.clock + delay) x g.timeline; turn = g.turn; labels = with_label x.step.label g.timeline.tickets g.labels }

abbrev pub with_placed : PlacedStep → PlacedAgenda → PlacedAgenda
with_placed x g = with_placed_after x.step.delay x g

with_placed_after-seen : (delay : Option ℕ) (x : PlacedStep) (g : PlacedAgenda) → with_step_after delay x.step (seen g) ≡ seen (with_placed_after delay x g)
with_placed_after-seen x0 x g = search (rules, map-append, entry_seen)

pub with_placed-seen : (x : PlacedStep) (g : PlacedAgenda) → with_step x.step (seen g) ≡ seen (with_placed x g)
with_placed-seen x g = with_placed_after-seen x.step.delay x g

-- the step that comes next -------------------------------------------------------------------------

-- what is left where the turn goes on, and where an entry begins a new one
abbrev pub without_first : List PlacedStep → PlacedAgenda → PlacedAgenda
without_first rest g = record { timeline = g.timeline; turn = rest; labels = g.labels }

abbrev pub without_entry : Entry → PlacedAgenda → PlacedAgenda
without_entry e g = record { timeline = schedule e.1.due g.timeline.tickets (without e.0 g.timeline.work); turn = []; labels = g.labels }

pub data Pops (until : ℕ) (g : PlacedAgenda) : PlacedStep → PlacedAgenda → Type 0 where
  of_turn : (x : PlacedStep) (rest : List PlacedStep) → g.turn ≡ x ∷ rest → Pops until g x (without_first rest g)
  of_timeline : (e : Entry) → g.turn ≡ [] → next_due until g.timeline.work ≡ Some e → Pops until g e.1.item (without_entry e g)

-- what comes next of an agenda comes next of the placed one
pub record PopsSeen (until : ℕ) (g : PlacedAgenda) (s : Step) (rest : Agenda) : Type 0 where
  pub placed : PlacedStep
  pub left : PlacedAgenda
  pub pops : Pops until g placed left
  pub step : placed.step ≡ s
  pub is_seen : rest ≡ seen left

abbrev pub unordered : Schedule PlacedStep → List PlacedStep → List Binding → PlacedAgenda
unordered timeline turn labels = record { timeline = timeline; turn = turn; labels = labels }

module _ (until : ℕ) (timeline : Schedule PlacedStep) (labels : List Binding) where
  pops_turn : (x : PlacedStep) (more : List PlacedStep) (s : Step) (rest : Agenda)
      → next_step until (seen (unordered timeline (x ∷ more) labels)) ≡ Some (s, rest)
      → PopsSeen until (unordered timeline (x ∷ more) labels) s rest
  pops_turn x more s rest comes =
      let pair : (x.step, seen (unordered timeline more labels)) ≡ (s, rest) = cc in
      record {
        placed = x;
        left = unordered timeline more labels;
        pops = of_turn x more refl;
        step = ap (λ (p : Step × Agenda). p.0) pair;
        is_seen = sym (ap (λ (p : Step × Agenda). p.1) pair);
      }

  abbrev begun : ℕ × Work Step → Step × Agenda
  begun e = (
    e.1.item,
    record {
      timeline = schedule e.1.due timeline.tickets (without e.0 (map (entry_seen step_in) timeline.work));
      turn = [];
      labels =
          labels;
    },
  )

  pops_timeline : (o : Option Entry) (s : Step) (rest : Agenda) → next_due until timeline.work ≡ o → option_map begun
      (option_map (entry_seen step_in) o) ≡ Some (s, rest)
      → PopsSeen until (unordered timeline [] labels) s rest
  pops_timeline None s rest is comes = absurd (cc)
  pops_timeline (Some e) s rest is comes =
      let pair : begun (entry_seen step_in e) ≡ (s, rest) = cc in
      let left : seen (without_entry e (unordered timeline [] labels)) ≡ (begun (entry_seen step_in e)).1 = rw (without-seen step_in e.0 timeline.work) refl in
      record {
        placed = e.1.item;
        left = without_entry e (unordered timeline [] labels);
        pops = of_timeline e refl is;
        step = ap (λ (p : Step × Agenda). p.0) pair;
        is_seen = sym (left ∙ ap (λ (p : Step × Agenda). p.1) pair);
      }

  pub pops_seen : (turn : List PlacedStep) (s : Step) (rest : Agenda) → next_step until (seen (unordered timeline turn labels)) ≡ Some (s, rest)
      → PopsSeen until (unordered timeline turn labels) s rest
  pops_seen [] s rest comes = pops_timeline (next_due until timeline.work) s rest refl
      (sym (ap (option_map begun) (next_due-seen step_in until timeline.work)) ∙ comes)
  pops_seen (x ∷ more) s rest comes = pops_turn x more s rest comes

  -- nothing comes next: the turn is over, and nothing that waits is due
  none_timeline : (o : Option Entry) → next_due until timeline.work ≡ o → option_map begun (option_map (entry_seen step_in) o) ≡ None
      → next_due until timeline.work ≡ None
  none_timeline x0 is over = search rules

  pub over_seen : (turn : List PlacedStep) → next_step until (seen (unordered timeline turn labels)) ≡ None
      → (turn ≡ []) × (next_due until timeline.work ≡ None)
  over_seen [] over = (refl, none_timeline (next_due until timeline.work) refl (sym (ap (option_map begun) (next_due-seen step_in until timeline.work)) ∙ over))
  over_seen (x ∷ more) over = absurd (cc)

-- a cancel -----------------------------------------------------------------------------------------

abbrev pub without_placed : ℕ → PlacedAgenda → PlacedAgenda
without_placed ticket g =
    record { timeline = schedule g.timeline.clock g.timeline.tickets (without ticket g.timeline.work); turn = g.turn; labels = g.labels }

-- a cancel takes an entry off, or leaves all
pub data Takes (g : PlacedAgenda) (label : Name) : Answer → PlacedAgenda → Type 0 where
  takes : (ticket : ℕ) (w : Work PlacedStep) → bound g.labels label ≡ Some ticket → lookup (nat_eq ticket) g.timeline.work ≡ Some w
      → Takes g label Accepted (without_placed ticket g)
  leaves : ((t : ℕ) → bound g.labels label ≡ Some t → lookup (nat_eq t) g.timeline.work ≡ None) → Takes g label (Refused NoStep) g

pub record TakesSeen (g : PlacedAgenda) (label : Name) (answer : Answer) (b : Agenda) : Type 0 where
  pub left : PlacedAgenda
  pub takes_off : Takes g label answer left
  pub is_seen : b ≡ seen left

some_entry : (g : PlacedAgenda) (label : Name) (ticket : ℕ) (s : Step) (o : Option (Work PlacedStep)) → lookup (nat_eq ticket) g.timeline.work ≡ o
    → option_map step_in (option_map (λ w. w.item) o) ≡ Some s → bound g.labels label ≡ Some ticket
    → TakesSeen g label Accepted (without_ticket ticket (seen g))
some_entry g label ticket s None is found known = absurd (cc)
some_entry g label ticket s (Some w) is found known = record {
  left = without_placed ticket g;
  takes_off = takes ticket w known is;
  is_seen = rw (without-seen step_in ticket g.timeline.work) refl;
}

no_work : (o : Option (Work PlacedStep)) → option_map step_in (option_map (λ w. w.item) o) ≡ None → o ≡ None
no_work x0 none = search rules

none_bound : (g : PlacedAgenda) (t : ℕ) → item_of t (map (entry_seen step_in) g.timeline.work) ≡ None → lookup (nat_eq t) g.timeline.work ≡ None
none_bound g t none = no_work (lookup (nat_eq t) g.timeline.work) (sym (item_of-seen step_in t g.timeline.work) ∙ none)

pub takes_seen : (g : PlacedAgenda) (label : Name) (answer : Answer) (b : Agenda) → Cancels (seen g) label answer b → TakesSeen g label answer b
takes_seen g label answer b (taken_off {ticket} {s} known found) =
    some_entry g label ticket s (lookup (nat_eq ticket) g.timeline.work) refl (sym (item_of-seen step_in ticket g.timeline.work) ∙ found) known
takes_seen g label answer b (none_waits none) = record { left = g; takes_off = leaves (λ t known. none_bound g t (gone t known)); is_seen = refl } where
  gone : (t : ℕ) → bound g.labels label ≡ Some t → item_of t (map (entry_seen step_in) g.timeline.work) ≡ None
  gone t known = sym (ap (option_and_then (λ ticket. item_of ticket (map (entry_seen step_in) g.timeline.work))) known) ∙ none
