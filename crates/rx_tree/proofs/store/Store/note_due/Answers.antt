use Rattle.rx_tree.proofs.Common.{◌≡◌, cond, true, false, is_some, sym, ap, ◌∙◌, option_map_or, terminal_due, Node, nodes_of, shown, is_due, with_last}
use Rattle.rx_tree.proofs.MarksWritten.{node_found}
use Rattle.rx_tree.proofs.store.Store.note_due.Goals as goal

pub returns-then-is_some-clause-chain : goal.returns-then-is_some-clause-chain
returns-then-is_some-clause-chain g c =
    let s = c.args.self.now in
    let found = node_found s c.args.key c.requires.«open» c.at.result.now c.at.ensures.value in
    let due : is_due (nodes_of s) c.args.key ≡ true =
    ap (λ o. option_map_or (λ (x : Node). is_some (terminal_due x.made x.marks)) o false) found ∙ ap is_some (sym c.terminal_due.ensures) ∙
    sym c.is_some.ensures ∙ c.if-is_some.true in
    c.note.ensures.chain ∙ sym (ap (λ b. cond b (with_last c.args.key (shown s).chain) (shown s).chain) due)
