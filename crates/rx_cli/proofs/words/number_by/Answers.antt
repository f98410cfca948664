use Rattle.rx_cli.proofs.Common.{◌∙◌, ◌≤◌, ap, sym, subst, option_map, number_by}
use Rattle.rx_cli.proofs.Numbers.{number_read}
use Rattle.rx_cli.proofs.words.number_by.Goals as goal

pub returns-clause-is : goal.returns-clause-is
returns-clause-is c =
    let read = c.unwrap_or-number.ensures in
    let low = subst (λ n. c.args.least ≤ n) read c.if-number-least.false in
    let high = subst (λ n. n ≤ c.args.most) read c.if-most-number.false in
    read ∙ number_read c.args.least c.args.most c.in-Some.text.now c.parse.result c.parse.ensures.value.0 low high
    ∙ ap (λ t. number_by c.args.least c.args.most (option_map (λ s. s.now) t)) (sym c.in-Some.is)
