use Rattle.rx_audit.proofs.Common.{◌≡◌, IfOk-weaker, nothing_kept}
use Rattle.rx_audit.specs.Verdict.{IsRefusedAfter}
use Rattle.rx_register.specs.CallBehind.{refusal_of}
use Rattle.rx_audit.proofs.verdict.refused_after.Goals as goal

pub returns : goal.returns
returns c = let h = c.args.events.now in IfOk-weaker c.refusal.result (λ why. why ≡ refusal_of nothing_kept h c.args.event)
    (IsRefusedAfter h c.args.event) (λ why is law. is) c.refusal.ensures.value
