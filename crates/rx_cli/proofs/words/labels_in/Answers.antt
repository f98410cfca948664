use Rattle.rx_cli.proofs.Common.{◌∙◌, ap, codes, found_of, first_value-rows, labels_by}
use Rattle.rx_cli.proofs.words.labels_in.Goals as goal

pub returns : goal.returns
returns c = c.labels_by.ensures ∙ ap labels_by (c.get_str.ensures ∙ first_value-rows (found_of c.args.options.now) (codes "names"))
