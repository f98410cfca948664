use Rattle.std.proofs.Common.{sym, ◌∙◌}
use Rattle.rx_cellar.proofs.WordsFilled.{one_filled, none_filled, word_set}
use Rattle.rx_cellar.proofs.rest.fill_few_closings.Goals as goal

pub returns-in_default : goal.returns-in_default
returns-in_default c = none_filled c.args.engine.now.wishes.closings c.args.words.now (sym c.nth_closing.ensures ∙ c.in_default.is)

pub returns-then-closing_count-eq1 : goal.returns-then-closing_count-eq1
returns-then-closing_count-eq1 c =
    word_set c.in-Some.word c.args.words.now
    ∙ one_filled c.args.engine.now.wishes.closings c.args.words.now c.in-Some.word (sym c.nth_closing.ensures ∙ c.in-Some.is)
    (sym c.closing_count.ensures ∙ c.if-closing_count-eq1.true)
