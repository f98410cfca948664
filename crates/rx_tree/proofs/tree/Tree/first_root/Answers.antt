use Rattle.rx_tree.proofs.Common.{◌∙◌, refl, IfSome, IfNone, sym, subst, Roots, nodes_of, resources_of, next_of, previous_of, IsRoot, IsFirst, HasNone}
use Rattle.rx_tree.proofs.InPlace.{key_at-project}
use Rattle.rx_tree.proofs.Siblings.{roots_ring, first_some, first_there, first_none}
use Rattle.rx_tree.proofs.tree.Tree.first_root.Goals as goal

pub returns-in-Sibling-clause-some : goal.returns-in-Sibling-clause-some
returns-in-Sibling-clause-some g c = let s = c.self.inside.store in let ring = roots_ring (nodes_of s) (resources_of s) (next_of s) (previous_of s)
    c.self.invariant.tied in rw (← c.self.view_is) (subst (λ o. IfSome o (IsFirst (IsRoot (nodes_of s)) 0)) (sym (c.key_at.ensures ∙ sym (key_at-project
    (λ l. l.node) s.nodes _))) (first_some
    (nodes_of s) (resources_of s) (next_of s) (previous_of s) c.self.invariant.tied (IsRoot (nodes_of s)) Roots refl refl ring _ (sym c.place.ensures
    ∙ c.in-Sibling.is)))

pub returns-in-Sibling-clause-none : goal.returns-in-Sibling-clause-none
returns-in-Sibling-clause-none g c = let s = c.self.inside.store in let ring = roots_ring (nodes_of s) (resources_of s) (next_of s) (previous_of s)
    c.self.invariant.tied in rw (← c.self.view_is) (subst (λ o. IfNone o (HasNone (IsRoot (nodes_of s)) 0)) (sym (c.key_at.ensures ∙ sym (key_at-project
    (λ l. l.node) s.nodes _))) (first_there
    (nodes_of s) (resources_of s) (next_of s) (previous_of s) c.self.invariant.tied (IsRoot (nodes_of s)) Roots refl refl ring _ (sym c.place.ensures
    ∙ c.in-Sibling.is)))

pub returns-in_default : goal.returns-in_default
returns-in_default g c =
    let s = c.self.inside.store in
    let ring = roots_ring (nodes_of s) (resources_of s) (next_of s) (previous_of s) c.self.invariant.tied in
    rw (← c.self.view_is) (record {
      some = tt;
      none = first_none (nodes_of s) (resources_of s) (next_of s) (previous_of s) c.self.invariant.tied (IsRoot (nodes_of s)) Roots refl refl ring
          (λ slot e. c.in_default.not-Sibling slot (c.place.ensures ∙ e));
    })
