use Rattle.rx_script.proofs.Common.{◌≡◌, ◌∙◌, sym, true, false, is_held, is_taken}
use Rattle.rx_script.proofs.TalliesOfWholeHistory.{held_here}
use Rattle.rx_script.proofs.LinesMade.{where_held, where_taken, where_waiting}
use Rattle.rx_script.proofs.report.whereabouts_of.Goals as goal

pub returns-then-is_held : goal.returns-then-is_held
returns-then-is_held g c = λ h whole. let r = c.args.res.number in let held : is_held h r ≡ true = sym (held_here h _ _ whole _ c.requires.kept
    c.requires.known) ∙ sym c.is_held.ensures ∙ c.if-is_held.true in sym (where_held h r held)

pub returns-then-is_taken : goal.returns-then-is_taken
returns-then-is_taken g c = λ h whole. let r = c.args.res.number in let unheld : is_held h r ≡ false = sym (held_here h _ _ whole _ c.requires.kept
    c.requires.known) ∙ sym c.is_held.ensures ∙ c.if-is_held.false in let taken : is_taken h r ≡ true = sym (c.is_taken.ensures h
    whole.tallies.counts) ∙ c.if-is_taken.true in sym (where_taken h r unheld taken)

pub returns : goal.returns
returns g c = λ h whole. let r = c.args.res.number in let unheld : is_held h r ≡ false = sym (held_here h _ _ whole _ c.requires.kept
    c.requires.known) ∙ sym c.is_held.ensures ∙ c.if-is_held.false in let untaken : is_taken h r ≡ false = sym (c.is_taken.ensures h
    whole.tallies.counts) ∙ c.if-is_taken.false in sym (where_waiting h r unheld untaken)
