use Rattle.rx_tree.proofs.Common.{◌≡◌, false, Some, IsSome, option_map, IfSome, refl, ap, subst, ◌∙◌, find, with_number, found_there, find-value_at, Stored}
use Rattle.rx_tree.proofs.Common.{alone, nodes_of, resources_of, is_held}
use Rattle.rx_slots.proofs.Laws.OthersKept.{KeepsOthers-take}
use Rattle.rx_tree.proofs.StoreLemmas.{find-project, found-project, takes-project, changes-project, part-taken, resources_keep_links}
use Rattle.rx_tree.proofs.CountSteps.{some_waiting, counted_taken}
use Rattle.rx_tree.proofs.store.Store.take_resource.Goals as goal
use Rattle.std.proofs.Common.{rules}

pub take_at-stored-requires : goal.take_at-stored-requires
take_at-stored-requires g c = search (rules, found_there, found-project)

pub returns-clause-value : goal.returns-clause-value
returns-clause-value g c =
    let a = c.args.self.now.resources in
    let key = c.args.key in
    let found : IsSome (find a key) = found-project (λ r. r.stowed) a key c.requires.found in
    find-project (λ r. r.stowed) a key ∙ ap (option_map (λ r. r.stowed)) (find-value_at a key found ∙ c.take_at-stored.ensures.value)

pub returns-clause-taken : goal.returns-clause-taken
returns-clause-taken g c = let a = c.args.self.now.resources in let key = c.args.key in let e = c.take_at-stored.ensures in let found : IsSome (find a
    key) = found-project (λ r. r.stowed) a key c.requires.found in takes-project (λ r. r.stowed) a _ key e.changes (ap (with_number key.number)
    e.changes.changed) (KeepsOthers-take a _ key found e.changes) e.count e.room

pub returns-clause-links : goal.returns-clause-links
returns-clause-links g c = resources_keep_links c.args.self.now c.take_at-stored.new.self
    (part-taken (λ r. r.link) (λ j. alone (Stored j)) _ _ c.args.key.slot c.take_at-stored.ensures.changes c.requires.link)

pub returns-clause-counted : goal.returns-clause-counted
returns-clause-counted g c = let a = c.args.self.now in let b = record c.args.self.now {
  resources = c.take_at-stored.new.self;
  waiting_count = c.less-self.result;
} in let found : find (resources_of a) c.args.key ≡ Some c.take_at-stored.result.stowed = returns-clause-value g c in
    counted_taken a b c.requires.counted _ _ found (subst (λ o. IfSome o (λ stowed. is_held (nodes_of a) stowed ≡ false)) found c.requires.waits)
    (changes-project (λ r. r.stowed) _ _ _ _ c.take_at-stored.ensures.changes) refl c.less-self.ensures refl

pub less-self-requires : goal.less-self-requires
less-self-requires g c = let a = c.args.self.now in let b = record c.args.self.now { resources = c.take_at-stored.new.self } in let s =
    c.args.self.now.resources in let key = c.args.key in let there : IsSome (find s key) = found-project (λ r. r.stowed) s key c.requires.found in let
    found : find (resources_of a) key ≡ Some c.take_at-stored.result.stowed = find-project (λ r. r.stowed) s key ∙ ap (option_map (λ r. r.stowed))
    (find-value_at s key there ∙ c.take_at-stored.ensures.value) in some_waiting a b c.requires.counted key _ found (subst (λ o. IfSome o (λ stowed.
    is_held (nodes_of a) stowed ≡ false)) found c.requires.waits) (changes-project (λ r. r.stowed) _ _ key.slot _ c.take_at-stored.ensures.changes)
