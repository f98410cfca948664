use Rattle.rx_cli.proofs.Common.{◌∙◌, codes, found_of, first_value-rows, run_by}
use Rattle.rx_cli.proofs.words.run_in.Goals as goal

pub returns-clause-is : goal.returns-clause-is
returns-clause-is c =
    let found = found_of c.args.options.now in
    let trace_is = c.get_str.ensures ∙ first_value-rows found (codes "trace") in
    let strict_is = c.get_str-2.ensures ∙ first_value-rows found (codes "strict") in
    c.run_by.ensures.is ∙ (λ i. run_by (trace_is i) (strict_is i) (c.form_in.ensures i))
