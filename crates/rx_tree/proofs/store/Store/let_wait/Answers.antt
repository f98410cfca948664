use Rattle.rx_tree.proofs.Common.{refl, ap, ◌∙◌, Waiting, Held, nodes_of, resources_of, next_of, previous_of}
use Rattle.rx_tree.proofs.InPlace.{there_project, held_read}
use Rattle.rx_tree.proofs.There.{next_stands, previous_stands}
use Rattle.rx_tree.proofs.LeafSteps.{waits_merged, waits_already}
use Rattle.rx_tree.proofs.store.Store.let_wait.Goals as goal
use Rattle.std.proofs.Common.{rules}

pub merge_held-requires-clause-last : goal.merge_held-requires-clause-last
merge_held-requires-clause-last g c =
    let s = c.args.self.now in
    previous_stands (nodes_of s) (resources_of s) (next_of s) (previous_of s) c.requires.tied Waiting refl

pub merge_held-requires-clause-from_first : goal.merge_held-requires-clause-from_first
merge_held-requires-clause-from_first g c = let s = c.args.self.now in next_stands (nodes_of s) (resources_of s) (next_of s) (previous_of s)
    c.requires.tied (Held _) c.requires.there

pub merge_held-requires-clause-from_last : goal.merge_held-requires-clause-from_last
merge_held-requires-clause-from_last g c = let s = c.args.self.now in previous_stands (nodes_of s) (resources_of s) (next_of s) (previous_of s)
    c.requires.tied (Held _) c.requires.there

pub returns-in-Stored-clause-waits : goal.returns-in-Stored-clause-waits
returns-in-Stored-clause-waits g c = search (rules, waits_merged, held_read)

pub returns-in_default : goal.returns-in_default
returns-in_default g c =
    let s = c.args.self.now in
    record {
      waits = waits_already s s c.requires.tied c.args.slot (λ j e. c.in_default.not-Stored j (c.place.ensures ∙
          ap (λ l. l.next) (held_read s c.args.slot _ c.at.ensures.value c.behind-self.view_is) ∙ e)) refl refl;
      rest = search rules;
    }

pub at-requires : goal.at-requires
at-requires g c = record { there = there_project (λ l. l.node) c.args.self.now.nodes c.args.slot c.requires.there }
