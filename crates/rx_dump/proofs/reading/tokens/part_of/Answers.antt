use Rattle.rx_dump.proofs.Common.{sym, ap, subst, Token, token_of, view, IsAlone}
use Rattle.rx_dump.proofs.Alone.{word_alone, number_alone}
use Rattle.rx_dump.proofs.reading.tokens.part_of.Goals as goal

pub returns-in_ok-try_from_str-in-String : goal.returns-in_ok-try_from_str-in-String
returns-in_ok-try_from_str-in-String c =
    let word = c.in_ok-try_from_str-in-String in
    subst (λ (t : Token). IsAlone t (view word.field-0)) (sym (ap token_of c.in-String.is)) (word_alone c.in-String.text.now _ word.ensures)

pub returns-in-Some : goal.returns-in-Some
returns-in-Some c =
    subst (λ (t : Token). IsAlone t (view c.in-Some.number)) (sym (ap token_of c.in-Number.is))
    (number_alone c.in-Number.text.now _ c.in-Some.ensures)
