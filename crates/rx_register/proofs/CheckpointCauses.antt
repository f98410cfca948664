-- What stands first against a checkpoint.
use Rattle.std.proofs.Common.{◌≡◌, ℕ, ◌-◌, ◌<◌, ◌≤◌, Some, None, List, length, refl, arith, rules}
use Rattle.std.proofs.lemmas.Bool.{lt-ltb, le-ltb}
use Rattle.rx_event.specs.declared.event.Event.{Event}
use Rattle.rx_event.specs.declared.refusal.Refusal.TheVariants.{MailLeft, TooMany}
use Rattle.rx_event.specs.Notes.{notes}
use Rattle.rx_event.specs.Refusals.{first_cause}
use Rattle.rx_event.specs.Causes.{checkpoint_causes}

-- notes that were told and not handed out
pub left_over : (h : List Event) (told : ℕ) → told ≤ length (notes h) → (told ≡ 0 → ⊥) →
    first_cause (checkpoint_causes h (length (notes h) - told)) ≡ Some MailLeft
left_over h told l some = rw (lt-ltb (length (notes h) - told) (length (notes h)) (omega arith)) refl

pub too_many : (h : List Event) (told : ℕ) → told ≡ 0 → 9223372036854775807 < length h →
    first_cause (checkpoint_causes h (length (notes h) - told)) ≡ Some TooMany
too_many h told none many = search (rules, le-ltb, length, lt-ltb)

pub nothing_stands : (h : List Event) (told : ℕ) → told ≡ 0 → length h ≤ 9223372036854775807 →
    first_cause (checkpoint_causes h (length (notes h) - told)) ≡ None
nothing_stands h told none few = search (rules, le-ltb, length)
