-- What a storm gives, and what it tells.
use Rattle.std.specs.Prelude.{◌≡◌, Option, Some, None, Result, Ok, Err, is_ok, ℕ, zero, suc, pos, ◌+◌, ◌-◌, ◌≤◌, min, Bool, List, [], ◌∷◌, ◌++◌, codes, length, map}
use Rattle.std.specs.Fmt.{decimal}
use Rattle.std.specs.Io.KnownBytes.{Appends}
use Rattle.rx_note.specs.declared.note.Terminal.TheVariants.{Completed}
use Rattle.rx_event.specs.declared.event.Event.{Event}
use Rattle.rx_event.specs.declared.event.Event.TheVariants.{Item as ItemAt}
use Rattle.rx_event.specs.Notes.{notes}
use Rattle.rx_event.specs.Totals.{accepted_count, taken_count, held_count, waiting_count}
use Rattle.rx_book.specs.State.{State, IsPromised}
use Rattle.rx_ledger.specs.declared.ledgers.Sums.{Sums}
use Rattle.rx_ledger.specs.declared.receipt.Receipt.{Receipt}
use Rattle.rx_ledger.specs.Shares.{Shares}
use Rattle.rx_device.specs.Device.{AppendsPrefix}
use Rattle.rx_crew.specs.declared.feeding.Pull.{Pull}
use Rattle.rx_crew.specs.declared.feeding.Pull.TheVariants.{Item, Done}
use Rattle.rx_crew.specs.declared.finishing.Totals.{Totals}
use Rattle.rx_crew.specs.declared.finishing.Mismatch.{Mismatch}
use Rattle.rx_crew.specs.Feeds.{event_of}
use Rattle.rx_crew.specs.Verdicts.{IsVerdictOnThreads}
use Rattle.rx_storm.specs.declared.outcome.Lack.{Lack}
use Rattle.rx_storm.specs.declared.figures.Figures.{Figures}

-- so many numbers, from the one given on, and then a completion
abbrev pub count_up : (from left : ℕ) → List Pull
count_up from zero = Done Completed ∷ []
count_up from (suc left) = Item (pos from) ∷ count_up (suc from) left

-- so many numbers, from the one given on, that a leaf emits
abbrev pub items_at : (leaf from count : ℕ) → List Event
items_at leaf from zero = []
items_at leaf from (suc count) = ItemAt leaf (pos from) ∷ items_at leaf (suc from) count

-- the events of which these are the receipts
abbrev pub events_of : List Receipt → List Event
events_of receipts = map (λ r. r.event) receipts

-- a thread emitted so many numbers at a leaf, from 0 on, and completed it: it has a receipt for each of these events, in
-- order, and its seat counts the items and one resource that was accepted
pub record HasEmitted (count : ℕ) (first seat : Shares) (receipts : List Receipt) : Type 0 where
  pub leaf : ℕ
  pub events : events_of receipts ≡ map (event_of leaf) (count_up 0 count)
  pub counted : seat ≡ record first { items = first.items + count; accepted = first.accepted + 1 }

-- of the numbers from the first one on and below the end a leaf emitted those below another: each has its receipt, and the
-- seat counts them
pub record HasBegun (leaf first end : ℕ) (seat seat' : Shares) (receipts receipts' : List Receipt) : Type 0 where
  pub count : ℕ
  pub within : first + count ≤ end
  pub events : events_of receipts' ≡ events_of receipts ++ items_at leaf first count
  pub counted : seat' ≡ record seat { items = seat.items + count }

-- a thread that was refused emitted so many of these numbers at a leaf, and did not complete it
pub record HasEmittedSome (count : ℕ) (first seat : Shares) (receipts : List Receipt) : Type 0 where
  pub leaf : ℕ
  pub emitted : ℕ
  pub within : emitted ≤ count
  pub events : events_of receipts ≡ items_at leaf 0 emitted
  pub counted : seat ≡ record first { items = first.items + emitted; accepted = first.accepted + 1 }

-- one figure a line, after its name
unfoldable pub first_lines : Figures → List ℕ
first_lines f =
    codes "accepted " ++ decimal f.accepted ++ codes "\ntaken " ++ decimal f.taken ++ codes "\nreleased "
    ++ decimal f.released ++ codes "\nfaults " ++ decimal f.faults ++ codes "\n"

unfoldable pub last_lines : Figures → List ℕ
last_lines f =
    codes "held " ++ decimal f.held ++ codes "\nwaiting " ++ decimal f.waiting ++ codes "\nnotes "
    ++ decimal f.notes ++ codes "\nevents " ++ decimal f.events ++ codes "\n"

abbrev pub figures_text : Figures → List ℕ
figures_text f = first_lines f ++ last_lines f

-- the figures of a book, and of so many releases with so many faults: its notes are those that were not handed out
-- yet, as far as 64 bits count
abbrev pub figures_of : State → (released faults : ℕ) → Figures
figures_of book released faults = record {
  accepted = accepted_count book.base book.history;
  taken = taken_count book.base book.history;
  released = released;
  faults = faults;
  held = held_count book.history;
  waiting = waiting_count book.history;
  notes = min (length (notes book.history) - book.given) 18446744073709551615;
  events = length book.history;
}

-- the book was closed: nothing is open, held or waiting any more, and all that was held or waited was taken
pub record IsClosing (old new : State) : Type 0 where
  pub none_open : new.keys ≡ []
  pub none_held : new.held ≡ []
  pub none_waits : new.waiting ≡ []
  pub accepted : accepted_count new.base new.history ≡ accepted_count old.base old.history
  pub taken : taken_count new.base new.history ≡
      taken_count old.base old.history + (held_count old.history + waiting_count old.history)

-- what a storm came to whose threads counted these shares together and have these receipts: a book that keeps its
-- promise, the verdict on the threads, the figures of the book, and that it was closed; the answer is whether there
-- is no mismatch
pub record IsStormEnd (shares : Sums) (receipts : List Receipt) (told : Figures) (answer : Bool) : Type 0 where
  pub book : State
  pub closed : State
  pub verdict : Result Totals Mismatch
  pub promised : IsPromised book
  pub judged : IsVerdictOnThreads book.base book.history shares receipts verdict
  pub agrees : answer ≡ is_ok verdict
  pub figures : told ≡ figures_of book told.released told.faults
  pub closing : IsClosing book closed

-- the figures of threads that did so were written, and nothing else
pub record TellsOf (shares : Sums) (receipts : List Receipt) (released faults : ℕ) (answer : Bool)
    (old new : Option (List ℕ)) : Type 0 where
  pub told : Figures
  pub released_is : told.released ≡ released
  pub faults_is : told.faults ≡ faults
  pub ended : IsStormEnd shares receipts told answer
  pub written : Appends old new (figures_text told)

-- a front of them was written
pub record TellsFrontOf (shares : Sums) (receipts : List Receipt) (released faults : ℕ)
    (old new : Option (List ℕ)) : Type 0 where
  pub told : Figures
  pub answer : Bool
  pub released_is : told.released ≡ released
  pub faults_is : told.faults ≡ faults
  pub ended : IsStormEnd shares receipts told answer
  pub written : AppendsPrefix old new (figures_text told)

-- the figures of a storm that answers so were written, and nothing else
pub record Tells (answer : Bool) (old new : Option (List ℕ)) : Type 0 where
  pub shares : Sums
  pub receipts : List Receipt
  pub released : ℕ
  pub faults : ℕ
  pub tells : TellsOf shares receipts released faults answer old new

-- a front of the figures of a storm was written
pub record TellsFront (old new : Option (List ℕ)) : Type 0 where
  pub shares : Sums
  pub receipts : List Receipt
  pub released : ℕ
  pub faults : ℕ
  pub tells : TellsFrontOf shares receipts released faults old new

-- what the storm lacked; else the figures, and whether seats and receipts agree with the book
abbrev pub storm_outcome : Option Lack → Figures → Result Totals Mismatch → Result (Figures × Bool) Lack
storm_outcome (Some lack) figures verdict = Err lack
storm_outcome None figures verdict = Ok (figures, is_ok verdict)
