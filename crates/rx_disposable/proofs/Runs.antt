-- What runs of calls of `next` give.
use Rattle.std.proofs.Common.{ℕ, length, ap}
use Rattle.std.specs.Iterator.{YieldsFirst}
use Rattle.std.specs.Iterator.Runs.{YieldsInOrder}
use Rattle.std.proofs.iter.runs.Sources.{from_front, as_is}

-- members give what is left of them, in order
pub members_run : {T : Type 0} → YieldsInOrder (YieldsFirst {A = ℕ × T} (λ rest. rest)) (λ rest. rest)
members_run {T} p s =
    as_is p p.from (from_front (YieldsFirst {A = ℕ × T} (λ rest. rest)) (λ x. x) (λ rest. rest) (λ s t h. ap length h.0) (λ s x t h. h) p s)
