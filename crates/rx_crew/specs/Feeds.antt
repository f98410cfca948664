-- What a source gives, and how a feed of it ends. Observable Contract: items, and then one end.
use Rattle.std.specs.Prelude.{◌≡◌, ℕ, ◌+◌, ◌<◌, ◌≤◌, Bool, true, false, List, [], ◌∷◌, ◌++◌, length, map, take, drop, count_by, Option, Some, None, Result}
use Rattle.rx_event.specs.declared.event.Event.{Event}
use Rattle.rx_event.specs.declared.refusal.Refusal.{Refusal}
use Rattle.rx_event.specs.declared.event.Event.TheVariants.{Item, End}
use Rattle.rx_event.specs.Events.{is_item}
use Rattle.rx_slots.specs.declared.Key.{Key}
use Rattle.rx_book.specs.State.{State}
use Rattle.rx_book.specs.Requests.{Request, next_request, end_request}
use Rattle.rx_book.specs.Answers.{IsCause, IsCauseOrWant, IsPlace, Answers}
use Rattle.rx_ledger.specs.Shares.{Shares}
use Rattle.rx_ledger.specs.declared.receipt.Receipt.{Receipt}
use Rattle.rx_crew.specs.declared.feeding.Pull.{Pull}
use Rattle.rx_crew.specs.declared.feeding.Pull.TheVariants.{Item as PullItem, Done as PullDone}
use Rattle.rx_crew.specs.declared.working.Stop.{Stop}
use Rattle.rx_crew.specs.declared.working.Stop.TheVariants.{Done, Turns, Refused}

-- there are pulls, of which just the last is the end
abbrev pub ends_once : List Pull → Bool
ends_once [] = false
ends_once (PullItem value ∷ rest) = ends_once rest
ends_once (PullDone terminal ∷ []) = true
ends_once (PullDone terminal ∷ next ∷ rest) = false

-- the event that a pull becomes at a leaf
abbrev pub event_of : ℕ → Pull → Event
event_of leaf (PullItem value) = Item leaf value
event_of leaf (PullDone terminal) = End leaf terminal

abbrev pub is_end : Pull → Bool
is_end (PullItem value) = false
is_end (PullDone terminal) = true

-- how many items a pull is
abbrev pub items_pulled : Pull → ℕ
items_pulled (PullItem value) = 1
items_pulled (PullDone terminal) = 0

-- what a pull asks of the book, and why it is refused: an item may take memory, an end takes none
abbrev pub pull_request : State → Key → Pull → Request
pull_request s leaf (PullItem value) = next_request s leaf value
pull_request s leaf (PullDone terminal) = end_request s leaf terminal

abbrev pub refuses_pull : State → Key → Pull → Refusal → Type 0
refuses_pull s leaf (PullItem value) = IsCauseOrWant s (next_request s leaf value)
refuses_pull s leaf (PullDone terminal) = IsCause s (end_request s leaf terminal)

-- what writing it answers: the place of its event, or the refusal
abbrev pub AnswersPull : State → Key → Pull → State → Result ℕ Refusal → Type 0
AnswersPull old leaf pull = Answers (IsPlace old) (refuses_pull old leaf pull) old (pull_request old leaf pull)

-- the receipt of a pull that was written at this place
abbrev pub receipt_of : (place leaf : ℕ) → Pull → Receipt
receipt_of place leaf pull = record { place = place; event = event_of leaf pull }

-- the receipts are of the first so many pulls, in order
abbrev pub AreOfPulls : (leaf count : ℕ) → List Pull → List Receipt → Type 0
AreOfPulls leaf count pulls receipts = map (λ r. r.event) receipts ≡ map (event_of leaf) (take count pulls)

abbrev pub items_in : List Receipt → ℕ
items_in receipts = count_by (λ r. is_item r.event) receipts

-- after so many receipts: all pulls were given; or there were as many as turns; or one more was pulled, which was refused
abbrev pub IsFed : Stop → (receipts turns : ℕ) → (before after : List Pull) → Type 0
IsFed Done receipts turns before after = (receipts ≤ turns) × (receipts ≡ length before) × (after ≡ [])
IsFed Turns receipts turns before after = (receipts ≡ turns) × (receipts < length before) × (after ≡ drop receipts before)
IsFed (Refused why) receipts turns before after =
    (receipts < turns) × (receipts < length before) × (after ≡ drop (receipts + 1) before)

-- a pull's event was written: there is one receipt more, of that event, and the seat counts it if it is an item
pub record IsPullEmitted (leaf : ℕ) (pull : Pull) (seat seat' : Shares) (receipts receipts' : List Receipt) : Type 0 where
  pub receipt : Receipt
  pub event : receipt.event ≡ event_of leaf pull
  pub added : receipts' ≡ receipts ++ receipt ∷ []
  pub counted : seat' ≡ record seat { items = seat.items + items_pulled pull }

-- what becomes of a turn's pull, by why the feed stops with it: it goes on after an item; or it stops after the end; or it
-- stops where the pull was refused, which leaves the seat and the receipts
abbrev pub PullBecomes : Option Stop → (leaf : ℕ) (pull : Pull) (seat seat' : Shares) (receipts receipts' : List Receipt) → Type 0
PullBecomes None leaf pull seat seat' receipts receipts' = (is_end pull ≡ false) × IsPullEmitted leaf pull seat seat' receipts receipts'
PullBecomes (Some Done) leaf pull seat seat' receipts receipts' = (is_end pull ≡ true) × IsPullEmitted leaf pull seat seat' receipts receipts'
PullBecomes (Some Turns) leaf pull seat seat' receipts receipts' = ⊥
PullBecomes (Some (Refused why)) leaf pull seat seat' receipts receipts' = (seat' ≡ seat) × (receipts' ≡ receipts)

-- one turn: just one pull is taken, and this becomes of it
pub record IsFeedTurn (leaf : ℕ) (stop : Option Stop) (before after : List Pull) (seat seat' : Shares) (receipts receipts' : List Receipt) : Type 0 where
  pub pull : Pull
  pub pulled : before ≡ pull ∷ after
  pub becomes : PullBecomes stop leaf pull seat seat' receipts receipts'
