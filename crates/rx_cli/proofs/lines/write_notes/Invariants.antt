use Rattle.std.proofs.Common.{length}
use Rattle.rx_live.specs.Live.{session}
use Rattle.rx_live.specs.Answers.{to_tell}
use denote.Text.{Utf8}
use denote.Shadow.{shadow}
use Rattle.rx_cli.proofs.lines.write_notes.Given as goal

abbrev pub invariant-loop-output : goal.invariant-loop-output
invariant-loop-output g l = shadow (Utf8 l.lead)

abbrev pub decreases-loop-output : goal.decreases-loop-output
decreases-loop-output g l = length (to_tell (session l.live))
