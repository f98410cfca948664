use Rattle.std.proofs.Common.{◌≡◌, suc, ap, length, arith}
use Rattle.rx_live.specs.Live.{session}
use Rattle.rx_live.specs.Answers.{to_tell}
use Rattle.rx_cli.proofs.lines.write_notes.Goals as goal

pub loop-output-smaller : goal.loop-output-smaller
loop-output-smaller g c =
    let told : length (to_tell (session c.loop-output.live)) ≡ suc (length (to_tell (session c.next_note.new.self))) =
    ap length c.loop-output-test.ensures.tells.next
    in omega (arith, told)
