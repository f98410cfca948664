use Rattle.rx_tree.proofs.Common.{◌≡◌, ◌<◌, true, is_some, IfSome, sym, ap, subst, ◌∙◌, true≢false, Children, Descends, from_top, one_down}
use Rattle.rx_tree.proofs.Common.{stands, nodes_of, resources_of, next_of, previous_of}
use Rattle.rx_tree.proofs.InPlace.{there_project, children_read}
use Rattle.rx_tree.proofs.LeafRings.{first_child_at, no_child}
use Rattle.rx_tree.proofs.There.{slot_stands, next_stands}
use Rattle.rx_tree.proofs.store.Store.child.Goals as goal
use Rattle.std.proofs.Common.{rules}

pub returns-in-Sibling-clause-below : goal.returns-in-Sibling-clause-below
returns-in-Sibling-clause-below g c =
    let s = c.args.self.now in
    let h = first_child_at (nodes_of s) (resources_of s) (next_of s) (previous_of s) c.requires.tied c.args.key c.requires.open c.in-Sibling.slot
    (ap (λ l. l.next) (sym (children_read s c.args.key.slot _ c.at.ensures.value c.behind-self.view_is)) ∙ (sym c.place.ensures ∙ c.in-Sibling.is)) in
    subst (λ o. IfSome o (λ child. Descends (nodes_of s) c.args.key child)) (sym h.at ∙ c.node_key.ensures)
    (one_down c.args.key h.child h.node from_top h.found h.above)

pub returns-in-Sibling-clause-there : goal.returns-in-Sibling-clause-there
returns-in-Sibling-clause-there g c = search (rules, first_child_at, nodes_of, resources_of, children_read)

pub returns-in-Sibling-clause-later : goal.returns-in-Sibling-clause-later
returns-in-Sibling-clause-later g c = let s = c.args.self.now in let h = first_child_at (nodes_of s) (resources_of s) (next_of s) (previous_of s)
    c.requires.tied _ c.requires.open _ (ap (λ l. l.next) (sym (children_read s c.args.key.slot _ c.at.ensures.value c.behind-self.view_is)) ∙
    (sym c.place.ensures ∙ c.in-Sibling.is)) in subst (λ o. IfSome o (λ
    child. c.args.key.number < child.number)) (sym h.at ∙ c.node_key.ensures) h.later

pub returns-in-Sibling-clause-none : goal.returns-in-Sibling-clause-none
returns-in-Sibling-clause-none g c none = absurd (true≢false (ap is_some none))

pub node_key-requires : goal.node_key-requires
node_key-requires g c = let s = c.args.self.now in record {
  there = subst (λ q. stands (nodes_of s) (resources_of s) q ≡ true) (ap (λ l. l.next) (sym
      (children_read s c.args.key.slot _ c.at.ensures.value c.behind-self.view_is)) ∙ (sym c.place.ensures ∙ c.in-Sibling.is)) (next_stands (nodes_of s)
      (resources_of s) (next_of s) (previous_of s)
      c.requires.tied (Children _) (slot_stands (nodes_of s) _ c.requires.«open»));
}

pub returns-in_default : goal.returns-in_default
returns-in_default g c =
    let s = c.args.self.now in
    record {
      below = tt;
      there = tt;
      later = tt;
      none = λ _. no_child (nodes_of s) (resources_of s) (next_of s) (previous_of s) c.requires.tied
          c.args.key.slot (λ j e. c.in_default.not-Sibling j (c.place.ensures ∙ ap (λ l. l.next)
          (children_read s c.args.key.slot _ c.at.ensures.value c.behind-self.view_is) ∙ e));
    }

pub at-requires : goal.at-requires
at-requires g c = record {
  there = there_project (λ l. l.node) c.args.self.now.nodes c.args.key.slot (slot_stands
      (nodes_of c.args.self.now) c.args.key c.requires.«open»);
}
