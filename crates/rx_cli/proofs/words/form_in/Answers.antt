use Rattle.rx_cli.proofs.Common.{◌∙◌, ap₂, codes, found_of, first_value-rows, form_by}
use Rattle.rx_cli.proofs.words.form_in.Goals as goal

pub returns : goal.returns
returns c =
    let found = found_of c.args.options.now in
    let dump_is = c.get_str.ensures ∙ first_value-rows found (codes "dump") in
    let names_is = c.get_str-2.ensures ∙ first_value-rows found (codes "names") in
    c.form_by.ensures ∙ ap₂ form_by dump_is names_is
