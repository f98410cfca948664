use Rattle.rx_live.specs.Live.{session}
use Rattle.rx_live.specs.Steps.{names_left}
use denote.Text.{Utf8}
use denote.Shadow.{shadow}
use Rattle.rx_cli.proofs.lines.write_releases.Given as goal

abbrev pub invariant-loop-name : goal.invariant-loop-name
invariant-loop-name g l = shadow (Utf8 l.lead)

abbrev pub decreases-loop-name : goal.decreases-loop-name
decreases-loop-name g l = names_left (session l.live)
