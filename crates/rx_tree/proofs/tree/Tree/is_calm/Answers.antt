use Rattle.rx_tree.proofs.Common.{◌≡◌, true, Option, is_some, option_map, sym, ap, ◌∙◌, false≢true, Entry, Key, entry_at, Node, nodes_of}
use Rattle.rx_tree.proofs.Common.{first_of}
use Rattle.rx_tree.proofs.MarkSteps.{chain_none, chain_first, first_stands}
use Rattle.rx_tree.proofs.tree.Tree.is_calm.Goals as goal
use Rattle.std.proofs.Common.{rules}

some_key : (key_of : Entry Node → Key) (o : Option (Entry Node)) → is_some o ≡ true → is_some (option_map key_of o) ≡ true
some_key key_of x1 some = search rules

pub returns-in-Noted : goal.returns-in-Noted
returns-in-Noted g c =
    let s = c.self.inside.store in
    let slot = c.in-Noted.field-0 in
    let at = sym c.place.ensures ∙ c.in-Noted.is in
    let first = chain_first s c.self.invariant.tied slot at in
    let some = some_key (λ e. record { slot = slot; number = e.number }) (entry_at (nodes_of s) slot) (first_stands s c.self.invariant.tied slot at) in
    rw (← c.self.view_is) (λ t. absurd (false≢true t), λ none. absurd (false≢true (sym (ap is_some first ∙ ap (λ ks. is_some (first_of ks)) none) ∙ some)))

pub returns-in_default : goal.returns-in_default
returns-in_default g c = search (rules, chain_none)
