-- A turn is given a line: one that is blank, or one more.
use Rattle.std.proofs.Common.{◌≡◌, ◌&&◌, ℕ, List, [], length, Option, None, refl, ap, ◌∙◌, arith}
use Rattle.std.specs.Prelude.{is_none}
use Rattle.rx_slots.specs.Lists.{Lists, list_at, head_of}
use Rattle.rx_turns.specs.declared.agenda.Task.{Task}
use Rattle.rx_turns.specs.Agendas.{DueLists, due_to, in_hand, has_nothing, LosesNothing}
use Rattle.std.proofs.lemmas.List.{get_or_past}
use Rattle.rx_turns.specs.declared.agenda.Turn.{Turn}
use Rattle.rx_turns.specs.declared.agenda.Row.{Row}
use Rattle.rx_turns.specs.Rows.{is_of, is_fresh, row_on, own_line, blank, KeepsRows, Grows, TellsAlike, AreListed}
use Rattle.rx_turns.proofs.Lines.{line_none}
use Rattle.rx_turns.proofs.Renamed.{absent}

pub listed_as : (old new : List Row) (lists : Lists) → length new ≡ length old → AreListed old lists → AreListed new lists
listed_as old new lists many listed =
    let fits = listed.fits in record { fits = omega (arith, fits, many); idle = λ k past. listed.idle k (omega (arith, past, many)) }

pub tells_kept : (old new : List Row) (lists : Lists) → AreListed old lists → KeepsRows old new lists → TellsAlike old new lists lists
tells_kept old new lists listed kept =
    record { due = kept.due; hands = kept.hands; apart = kept.apart; listed = listed_as old new lists kept.many listed; members = refl; begun = kept.begun }

pub tells_on : (old mid new : List Row) (lists lists' : Lists) → TellsAlike old mid lists lists' → KeepsRows mid new lists' → TellsAlike old new lists lists'
tells_on old mid new lists lists' told kept = record {
  due = λ t. kept.due t ∙ told.due t;
  hands = λ t. kept.hands t ∙ told.hands t;
  apart = kept.apart;
  listed = listed_as mid new lists' kept.many told.listed;
  members = told.members;
  begun = λ n are. kept.begun n (told.begun n are);
}

pub tells_grown : (old mid new : List Row) (lists lists' : Lists) → TellsAlike old mid lists lists → Grows mid new lists lists' →
    TellsAlike old new lists lists'
tells_grown old mid new lists lists' told grows = record {
  due = λ t. grows.due t ∙ told.due t;
  hands = λ t. grows.hands t ∙ told.hands t;
  apart = grows.apart;
  listed = grows.listed;
  members = grows.members;
  begun = λ n are k before. ap is_fresh (grows.read k) ∙ told.begun n are k before;
}

-- in the new line nothing is, and who had none has not this one either
pub none_grown : (t : Turn) (old new : List Row) (lists lists' : Lists) → Grows old new lists lists' → own_line t old ≡ length old → own_line t new ≡ length new
none_grown t old new lists lists' grows none = line_none t new (λ k _. ap (is_of t) (grows.read k) ∙ absent t old none k)

pub nothing_due_there : (old new : List Row) (lists lists' : Lists) → Grows old new lists lists' → AreListed old lists → list_at lists' (length old) ≡ []
nothing_due_there old new lists lists' grows listed = grows.listed_so (length old) ∙ listed.idle (length old) (omega arith)

pub nothing_served_there : (old new : List Row) (lists lists' : Lists) → Grows old new lists lists' → (row_on new (length old)).in_hand ≡ None
nothing_served_there old new lists lists' grows =
    ap (λ (r : Row). r.in_hand) (grows.read (length old) ∙ get_or_past old (length old) blank (omega arith))

-- a turn has nothing just where it had nothing
pub nothing_as : (turn : Turn) (a b : DueLists) → LosesNothing a b → has_nothing b turn ≡ has_nothing a turn
nothing_as turn a b loses =
    ap (λ (o : Option Task). is_none o && is_none (head_of (due_to b turn))) (loses.hands turn)
    ∙ ap (λ (xs : List ℕ). is_none (in_hand a turn) && is_none (head_of xs)) (loses.due turn)
