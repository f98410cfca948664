use Rattle.rx_cli.proofs.Fronts.{told_in_any_case}
use Rattle.rx_cli.proofs.telling.tell.Goals as goal

pub returns-clause-told : goal.returns-clause-told
returns-clause-told g c =
    told_in_any_case g.E.Write.contents c.args.errors.now c.write_text.new.writer c.args.text.now
    c.write_text.result c.write_text.ensures.ok c.write_text.ensures.err c.write_text.ensures.failed
