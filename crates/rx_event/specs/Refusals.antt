-- The order in which a call's causes of refusal are looked at.
use Rattle.std.specs.Prelude.{◌≡◌, ◌⊎◌, ◌∷◌, if◌then◌else◌}
use Rattle.rx_event.specs.Imports.{Bool, Option, Some, None, List, [], Refusal, Full, Gone, WrongKind, PlaceTaken, NothingOwed}
use Rattle.rx_event.specs.Imports.{NotRoot, NoHub, HubOrder, Connected, NotConnected, NotFresh, NotHeld, HasChild, MailLeft, TooMany, NoLease, Leased}
use Rattle.rx_event.specs.declared.refusal.Refusal.TheVariants.{NoMemory}

abbrev pub refusal_order : List Refusal
refusal_order = NoHub ∷ Gone ∷ WrongKind ∷ PlaceTaken ∷ NothingOwed ∷ NotRoot ∷ HubOrder ∷ Connected ∷ NotConnected ∷ NotFresh ∷ NoLease ∷ NotHeld ∷ Leased
    ∷ HasChild ∷ MailLeft ∷ TooMany ∷ Full ∷ NoMemory ∷ []

-- the first of these that stands
abbrev pub first_of_these : (Refusal → Bool) → List Refusal → Option Refusal
first_of_these stands [] = None
first_of_these stands (cause ∷ rest) = if stands cause then Some cause else first_of_these stands rest

-- the first cause that stands: the answer of a call of which just these causes stand
abbrev pub first_cause : (Refusal → Bool) → Option Refusal
first_cause stands = first_of_these stands refusal_order

-- a call that may take memory is refused for its first cause, or where none stands for want of memory
abbrev pub IsRefusal : (Refusal → Bool) → Refusal → Type 0
IsRefusal stands why = (first_cause stands ≡ Some why) ⊎ ((first_cause stands ≡ None) × (why ≡ NoMemory))
