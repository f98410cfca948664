use Rattle.rx_trace.proofs.Common.{◌≡◌, ◌∙◌, ◌&&◌, ap, sym, not, contains, nat_eq, is_held, has_res_key-is_held}
use Rattle.rx_trace.proofs.told.waits.Goals as goal

pub returns-then-is_held : goal.returns-then-is_held
returns-then-is_held g c =
    let held : c.is_held.result ≡ is_held c.args.book.now.history c.args.res.number =
    c.is_held.ensures ∙ has_res_key-is_held c.args.book.now c.args.res c.requires.kept c.requires.known in
    sym (ap (λ b. not b && not (contains nat_eq c.args.handed.now.numbers c.args.res.number)) (sym held ∙ c.if-is_held.true))

pub returns : goal.returns
returns g c =
    let held : c.is_held.result ≡ is_held c.args.book.now.history c.args.res.number =
    c.is_held.ensures ∙ has_res_key-is_held c.args.book.now c.args.res c.requires.kept c.requires.known in
    ap not c.has.ensures ∙ sym (ap (λ b. not b && not (contains nat_eq c.args.handed.now.numbers c.args.res.number)) (sym held ∙ c.if-is_held.false))
