-- The word for each refusal, in reports, traces and answers.
use Rattle.std.specs.Prelude.{ℕ, List, codes}
use Rattle.rx_event.specs.declared.refusal.Refusal.{Refusal}
use Rattle.rx_event.specs.declared.refusal.Refusal.TheVariants.{NoMemory, Full, Gone, WrongKind, PlaceTaken, NothingOwed, NotRoot, NoHub, HubOrder}
use Rattle.rx_event.specs.declared.refusal.Refusal.TheVariants.{Connected, NotConnected, NotFresh, NotHeld, HasChild, TooMany, NoLease, Leased, MailLeft}

abbrev pub refusal_word : Refusal → List ℕ
refusal_word NoMemory = codes "NoMemory"
refusal_word Full = codes "Full"
refusal_word Gone = codes "Gone"
refusal_word WrongKind = codes "WrongKind"
refusal_word PlaceTaken = codes "PlaceTaken"
refusal_word NothingOwed = codes "NothingOwed"
refusal_word NotRoot = codes "NotRoot"
refusal_word NoHub = codes "NoHub"
refusal_word HubOrder = codes "HubOrder"
refusal_word Connected = codes "Connected"
refusal_word NotConnected = codes "NotConnected"
refusal_word NotFresh = codes "NotFresh"
refusal_word NotHeld = codes "NotHeld"
refusal_word HasChild = codes "HasChild"
refusal_word TooMany = codes "TooMany"
refusal_word NoLease = codes "NoLease"
refusal_word Leased = codes "Leased"
refusal_word MailLeft = codes "MailLeft"
