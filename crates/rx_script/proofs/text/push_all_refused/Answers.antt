use Rattle.rx_script.proofs.Texts.{pushed_refused}
use Rattle.rx_script.proofs.text.push_all_refused.Goals as goal

pub loop-executed-preserved : goal.loop-executed-preserved
loop-executed-preserved c = pushed_refused _ _ _ _ _ c.loop-executed-test.true c.loop-executed.invariant c.in_ok-push_refused.ensures
