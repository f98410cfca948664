use Rattle.rx_audit.proofs.Common.{nat_lt, not, Bool, ◌&&◌, sym, ap, ◌∙◌, lt-ltb, and_true, and_false}
use Rattle.std.proofs.lemmas.Bool.{le-ltb}
use Rattle.rx_audit.proofs.forced.leads_no_less.Goals as goal

pub returns-then-word-other : goal.returns-then-word-other
returns-then-word-other c = let w = c.args.word in
    sym (ap (λ (b : Bool). nat_lt 0 w && not b) (lt-ltb w c.args.other c.if-word-other.true) ∙ and_false (nat_lt 0 w))

pub returns : goal.returns
returns c = let w = c.args.word in
    sym (ap (λ (b : Bool). nat_lt 0 w && not b) (le-ltb w c.args.other c.if-word-other.false) ∙ and_true (nat_lt 0 w))
