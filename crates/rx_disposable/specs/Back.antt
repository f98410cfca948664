-- What a refused value comes back with.
use Rattle.rx_disposable.specs.declared.back.Back.{Back}
use Rattle.rx_disposable.specs.declared.back.Why.{Why}

-- the value, handed back for this reason
abbrev pub refusal : {T : Type 0} → Why → T → Back T
refusal why value = record { why = why; value = value }
