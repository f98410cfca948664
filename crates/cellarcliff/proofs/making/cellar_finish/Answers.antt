use Rattle.std.proofs.Common.{rules, ◌≡◌, ◌∙◌, true, false, refl, sym, subst}
use Rattle.rx_engine.specs.LettingGo.{is_over}
use Rattle.rx_turns.specs.declared.turns.Turns.{Turns}
use Rattle.cellarcliff.specs.Calls.{finishes, is_untaken}
use Rattle.cellarcliff.proofs.making.cellar_finish.Goals as goal

pub returns-then-not-is_done : goal.returns-then-not-is_done
returns-then-not-is_done c =
    let h = c.if-not-is_done.true in
    let no : c.is_done.result ≡ false = search rules in
    is_untaken c.in-Some.ensures.taken (c.put.ensures.kept ∙ sym c.in-Some.ensures.taken)
    (subst (λ (k : Turns). is_over k.cellar.engine ≡ false) c.deref.ensures (sym c.is_done.ensures ∙ no)) refl

pub returns : goal.returns
returns c =
    let h = c.if-not-is_done.false in
    let yes : c.is_done.result ≡ true = search rules in
    finishes c.in-Some.ensures.taken c.in-Some.ensures.left
    (subst (λ (k : Turns). is_over k.cellar.engine ≡ true) c.deref.ensures (sym c.is_done.ensures ∙ yes)) refl
