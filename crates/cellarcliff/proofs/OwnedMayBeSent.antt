-- What a handle owns may go to another thread as what it keeps may.
use Rattle.std.proofs.Common.{Option, None, Some}
use Rattle.std.below.std_heap.proofs.GlobalAllocator.TheSendSync.{the_frees}
use base.Shift.{Keyless}
use base.Fraction.{full_share}
use denote.Param.Send.{IsSend, part_keyless}
use denote.RattleType.{RattleType}
use denote.RawPtr.{Ptr, block_ptr, null_ptr, lies_at}
use Rattle.cellarcliff.specs.Ownership.{owns_unless_null}

lies : (R : RattleType) → IsSend R → (p : Ptr) (x : R.Denot) → Keyless (lies_at R full_share p x)
lies R s (block_ptr b o) x = part_keyless R s full_share x b o
lies R s null_ptr x = tt

pub owns_unless_null-Keyless : (R : RattleType) → IsSend R → (p : Ptr) (k : Option R.Denot) → Keyless (owns_unless_null R p k)
owns_unless_null-Keyless R s p None = λ _. tt
owns_unless_null-Keyless R s p (Some x) = (lies R s p x, the_frees.frees _ _ p)
