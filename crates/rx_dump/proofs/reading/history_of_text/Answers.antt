use Rattle.rx_dump.proofs.Common.{◌≡◌, [], ◌∷◌, subst, sym, ◌∙◌, arith, rules, Token, begin_array, List, AreEvents}
use Rattle.rx_dump.proofs.Openings.{text_opened}
use Rattle.rx_dump.proofs.reading.history_of_text.Goals as goal

pub returns : goal.returns
returns c =
    let opens : c.in_ok-reader.reader ≡ begin_array ∷ c.opens_array.new.reader = grind arith in
    let over : c.events_of.new.reader ≡ [] = search rules in
    text_opened c.args.text.now _ _ (sym c.in_ok-reader.ensures.ok ∙ opens)
    (subst (λ (ts : List Token). AreEvents c.opens_array.new.reader ts c.in_ok-history.history.items) over c.in_ok-history.ensures)
