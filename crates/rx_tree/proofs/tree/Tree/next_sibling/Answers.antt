use Rattle.rx_tree.proofs.Common.{refl, ◌+◌, is_some, IfSome, IfNone, sym, ap, subst, ◌∙◌, Key, nodes_of, resources_of, next_of, previous_of, IsChild}
use Rattle.rx_tree.proofs.Common.{IsFirst, HasNone}
use Rattle.rx_tree.proofs.InPlace.{key_at-project, there_project, sibling_read}
use Rattle.rx_tree.proofs.Siblings.{sibling_some, sibling_there, sibling_none, named_above_one, named_above_none}
use Rattle.rx_tree.proofs.There.{slot_stands}
use Rattle.rx_tree.proofs.tree.Tree.next_sibling.Goals as goal

pub returns-in_err-_parent-clause-none : goal.returns-in_err-_parent-clause-none
returns-in_err-_parent-clause-none g c = let s = c.self.inside.store in rw (← c.self.view_is) (subst (λ o. IfNone o ((parent : Key) → IsChild
    (nodes_of s) parent c.args.key → HasNone (IsChild (nodes_of s) parent) (c.args.key.number + 1))) (sym c.from_residual-in_err-_parent.ensures) (λ
    parent is. absurd (named_above_none (nodes_of s) (resources_of s) (next_of s) (previous_of s) c.self.invariant.tied _ c.in_ok-node.field-0 parent
    (sym c.node.ensures ∙ c.in_ok-node.was) c.in_err-_parent.was is)))

pub returns-in-Sibling-clause-some : goal.returns-in-Sibling-clause-some
returns-in-Sibling-clause-some g c = let s = c.self.inside.store in rw (← c.self.view_is) (subst (λ o. IfSome o (λ next. (parent : Key) → IsChild
    (nodes_of s) parent c.args.key → IsFirst (IsChild (nodes_of s) parent) (c.args.key.number + 1) next)) (sym (c.key_at.ensures ∙ sym (key_at-project
    (λ l. l.node) s.nodes _))) (sibling_some
    (nodes_of s) (resources_of s) (next_of s) (previous_of s) c.self.invariant.tied _ _ (ap (λ l. l.next) (sym
    (sibling_read s c.args.key.slot _ c.at.ensures.value c.behind-self.view_is)) ∙ (sym c.place.ensures
    ∙ c.in-Sibling.is))))

pub returns-in-Sibling-clause-none : goal.returns-in-Sibling-clause-none
returns-in-Sibling-clause-none g c = let s = c.self.inside.store in rw (← c.self.view_is) (subst (λ o. IfNone o ((parent : Key) → IsChild (nodes_of s)
    parent c.args.key → HasNone (IsChild (nodes_of s) parent) (c.args.key.number + 1))) (sym (c.key_at.ensures ∙ sym (key_at-project
    (λ l. l.node) s.nodes _))) (sibling_there (nodes_of s)
    (resources_of s) (next_of s) (previous_of s) c.self.invariant.tied _ _ (ap (λ l. l.next) (sym
    (sibling_read s c.args.key.slot _ c.at.ensures.value c.behind-self.view_is)) ∙ (sym c.place.ensures
    ∙ c.in-Sibling.is))))

pub returns-in-Sibling-clause-alone : goal.returns-in-Sibling-clause-alone
returns-in-Sibling-clause-alone g c = let s = c.self.inside.store in rw (← c.self.view_is) (λ none. absurd (named_above_one (nodes_of s) (resources_of
    s) (next_of s) (previous_of s) c.self.invariant.tied _ c.in_ok-node.field-0 _ (sym c.node.ensures ∙ c.in_ok-node.was) c.in_ok-_parent.was none))

pub returns-in_default : goal.returns-in_default
returns-in_default g c =
    let s = c.self.inside.store in
    rw (← c.self.view_is) (record {
      some = tt;
      none = sibling_none (nodes_of s) (resources_of s) (next_of s) (previous_of s) c.self.invariant.tied c.args.key
          (λ slot e. c.in_default.not-Sibling slot (c.place.ensures ∙ ap (λ l. l.next)
          (sibling_read s c.args.key.slot _ c.at.ensures.value c.behind-self.view_is) ∙ e));
      alone = λ none. refl;
    })

pub at-requires : goal.at-requires
at-requires g c =
    let s = c.self.inside.store in
    record {
      there = there_project (λ l. l.node) s.nodes c.args.key.slot
          (slot_stands (nodes_of s) c.args.key (ap is_some (sym c.node.ensures ∙ c.in_ok-node.was)));
    }
