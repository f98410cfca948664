-- What the numbers of the calls stand for.
use Rattle.std.specs.Prelude.{ℕ, ◌==◌, Option, Some, None, if◌then◌else◌}
use Rattle.rx_event.specs.declared.refusal.Refusal.{Refusal}
use Rattle.rx_event.specs.declared.refusal.Refusal.TheVariants.{NoMemory, Full, Gone, WrongKind, PlaceTaken, NothingOwed, NotRoot, NoHub, HubOrder}
use Rattle.rx_event.specs.declared.refusal.Refusal.TheVariants.{Connected, NotConnected, NotFresh, NotHeld, HasChild, TooMany, NoLease, Leased, MailLeft}
use Rattle.rx_slots.specs.declared.Key.{Key}
use Rattle.rx_book.specs.declared.answer.At.{At}
use Rattle.rx_book.specs.declared.answer.At.TheVariants.{Root, Source, Inner, Notifier}
use Rattle.rx_cellar.specs.declared.shapes.NumberedKey.{NumberedKey}

-- each refusal has a status of its own
abbrev pub refusal_status : Refusal → ℕ
refusal_status NoMemory = 4
refusal_status Full = 16
refusal_status Gone = 17
refusal_status WrongKind = 18
refusal_status PlaceTaken = 19
refusal_status NothingOwed = 20
refusal_status NotRoot = 21
refusal_status NoHub = 22
refusal_status HubOrder = 23
refusal_status Connected = 24
refusal_status NotConnected = 25
refusal_status NotFresh = 26
refusal_status NotHeld = 27
refusal_status HasChild = 28
refusal_status TooMany = 29
refusal_status NoLease = 30
refusal_status Leased = 31
refusal_status MailLeft = 32

abbrev pub key_of : NumberedKey → Key
key_of n = record { slot = n.slot; number = n.number }

abbrev pub key_numbered : Key → NumberedKey
key_numbered k = record { slot = k.slot; number = k.number }

abbrev pub no_node : NumberedKey
no_node = record { slot = 0; number = 0 }

abbrev pub place_at : ℕ → NumberedKey → Option At
place_at code above = if code == 0 then Some Root else if code == 1 then Some (Source (key_of above)) else if code == 2 then Some (Inner (key_of above))
    else if code == 3 then Some (Notifier (key_of above)) else None
