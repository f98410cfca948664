-- A handle owns a box of what is kept, or nothing: so it may go to another thread as that may.
use denote.Builtin.{RawPtr}
use denote.Param.Send.{IsSend, owning_send, sendable}
use Rattle.cellarcliff.specs.contracts.live_handle.LiveHandle.{the_row, the_type}
use Rattle.cellarcliff.specs.contracts.kept.Kept as kept
use Rattle.cellarcliff.proofs.kept.Kept.TheSendSync.{the_send}
use Rattle.cellarcliff.proofs.OwnedMayBeSent.{owns_unless_null-Keyless}

pub send : IsSend the_row
send =
    let ps : IsSend RawPtr = search sendable in
    owning_send the_type (ps, tt) (λ d. owns_unless_null-Keyless kept.the_row the_send d.at d.kept) (λ k x w. tt)
