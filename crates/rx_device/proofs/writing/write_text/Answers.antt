use Rattle.std.proofs.lemmas.Grind.{common_steps}
use Rattle.std.proofs.Common.{rules}
use Rattle.rx_device.proofs.OneMoreWrite.{written_more, moves_on}
use Rattle.rx_device.proofs.writing.write_text.Goals as goal

pub loop-done-preserved : goal.loop-done-preserved
loop-done-preserved g c = search (rules, common_steps, written_more, moves_on)
