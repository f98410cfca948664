use Rattle.rx_tree.proofs.Common.{refl, is_some, IfSome, IfNone, sym, ap, subst, ◌∙◌, Children, nodes_of, resources_of, next_of, previous_of, IsChild}
use Rattle.rx_tree.proofs.Common.{IsFirst, HasNone}
use Rattle.rx_tree.proofs.InPlace.{key_at-project, there_project, children_read}
use Rattle.rx_tree.proofs.Siblings.{children_ring, first_some, first_there, first_none}
use Rattle.rx_tree.proofs.There.{slot_stands}
use Rattle.rx_tree.proofs.tree.Tree.first_child.Goals as goal

pub returns-in-Sibling-clause-some : goal.returns-in-Sibling-clause-some
returns-in-Sibling-clause-some g c =
    let s = c.self.inside.store in
    let ring = children_ring (nodes_of s) (resources_of s) (next_of s) (previous_of s) c.self.invariant.tied c.args.key
    (ap is_some (sym c.node.ensures ∙ c.in_ok-_node.was)) in
    rw (← c.self.view_is) (subst (λ o. IfSome o (IsFirst (IsChild (nodes_of s) c.args.key) 0)) (sym (c.key_at.ensures ∙ sym (key_at-project
    (λ l. l.node) s.nodes _)))
    (first_some (nodes_of s) (resources_of s) (next_of s) (previous_of s) c.self.invariant.tied (IsChild (nodes_of s) c.args.key)
    (Children c.args.key.slot) refl refl ring c.in-Sibling.slot (ap (λ l. l.next) (sym
    (children_read s c.args.key.slot _ c.at.ensures.value c.behind-self.view_is)) ∙ (sym c.place.ensures ∙ c.in-Sibling.is))))

pub returns-in-Sibling-clause-none : goal.returns-in-Sibling-clause-none
returns-in-Sibling-clause-none g c =
    let s = c.self.inside.store in
    let ring = children_ring (nodes_of s) (resources_of s) (next_of s) (previous_of s) c.self.invariant.tied c.args.key
    (ap is_some (sym c.node.ensures ∙ c.in_ok-_node.was)) in
    rw (← c.self.view_is) (subst (λ o. IfNone o (HasNone (IsChild (nodes_of s) c.args.key) 0)) (sym (c.key_at.ensures ∙ sym (key_at-project
    (λ l. l.node) s.nodes _)))
    (first_there (nodes_of s) (resources_of s) (next_of s) (previous_of s) c.self.invariant.tied (IsChild (nodes_of s) c.args.key)
    (Children c.args.key.slot) refl refl ring c.in-Sibling.slot (ap (λ l. l.next) (sym
    (children_read s c.args.key.slot _ c.at.ensures.value c.behind-self.view_is)) ∙ (sym c.place.ensures ∙ c.in-Sibling.is))))

pub returns-in_default : goal.returns-in_default
returns-in_default g c =
    let s = c.self.inside.store in
    let ring = children_ring (nodes_of s) (resources_of s) (next_of s) (previous_of s) c.self.invariant.tied c.args.key
    (ap is_some (sym c.node.ensures ∙ c.in_ok-_node.was)) in
    rw (← c.self.view_is) (record {
      some = tt;
      none = first_none (nodes_of s) (resources_of s) (next_of s) (previous_of s) c.self.invariant.tied (IsChild (nodes_of s) c.args.key)
          (Children c.args.key.slot) refl refl ring (λ slot e. c.in_default.not-Sibling slot (c.place.ensures ∙ ap (λ l. l.next)
          (children_read s c.args.key.slot _ c.at.ensures.value c.behind-self.view_is) ∙ e));
    })

pub at-requires : goal.at-requires
at-requires g c =
    let s = c.self.inside.store in
    record {
      there = there_project (λ l. l.node) s.nodes c.args.key.slot
          (slot_stands (nodes_of s) c.args.key (ap is_some (sym c.node.ensures ∙ c.in_ok-_node.was)));
    }
