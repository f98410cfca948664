use Rattle.rx_cli.proofs.Common.{subst, IsTextWritten}
use Rattle.rx_cli.proofs.usage.refuse_bytes.Goals as goal

pub returns-clause-line : goal.returns-clause-line
returns-clause-line g c = subst (IsTextWritten g.E.Write.contents c.args.errors.now c.tell.new.errors) c.as_bytes.ensures.value c.tell.ensures.told
