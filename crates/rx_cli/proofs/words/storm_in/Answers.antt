use Rattle.rx_cli.proofs.Common.{◌∙◌, ap, codes, refl, found_of, first_value-rows, number_by}
use Rattle.rx_cli.proofs.words.storm_in.Goals as goal

pub returns-clause-is : goal.returns-clause-is
returns-clause-is c =
    let found = found_of c.args.options.now in
    let sources_is = c.number_by.ensures.is ∙ ap (number_by 1 64) (c.get_str.ensures ∙ first_value-rows found (codes "sources")) in
    let workers_is = c.number_by-2.ensures.is ∙ ap (number_by 1 16) (c.get_str-2.ensures ∙ first_value-rows found (codes "workers")) in
    let items_is = c.number_by-3.ensures.is ∙ ap (number_by 0 10000) (c.get_str-3.ensures ∙ first_value-rows found (codes "items")) in
    rw (sources_is, workers_is, items_is) refl
