-- What is left out needs no engine, what stays does not name it, and what the base shows stays as it is.
use Rattle.rx_event.proofs.Laws.Common.{◌≡◌, ℕ, Bool, true, false, List, Some, slice_get, Kept, shown}
use Rattle.rx_omitted.specs.Imports.{Event}
use Rattle.rx_omitted.specs.Named.{named_in, Stay_all}
use Rattle.rx_omitted.specs.Omitted.{what_stays, NeedsNone}

pub record Omits (base : Kept) (omit : ℕ → Bool) (h : List Event) : Type 0 where
  pub front : what_stays omit (shown base) ≡ shown base
  pub each : (n : ℕ) (e : Event) → slice_get h n ≡ Some e → omit n ≡ true → NeedsNone omit h n e
  pub apart : (n : ℕ) (e : Event) → slice_get h n ≡ Some e → omit n ≡ false → Stay_all omit (named_in e)
