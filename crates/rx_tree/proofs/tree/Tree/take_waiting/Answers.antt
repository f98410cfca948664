use Rattle.rx_tree.proofs.Common.{◌∙◌, ◌≡◌, false, Some, IfSome, is_some, refl, sym, ap, subst, find, project, nodes_of, is_held}
use Rattle.rx_tree.proofs.RemoveSteps.{stored_before, stored_after}
use Rattle.rx_tree.proofs.WaitSteps.{all_held, first_there, first_waits, waits_of, left_alone, taken_tied, taken_chain, takes}
use Rattle.rx_tree.proofs.CountSteps.{counted_relinked}
use Rattle.rx_tree.proofs.tree.Tree.take_waiting.Goals as goal

pub resource_key-key-requires : goal.resource_key-key-requires
resource_key-key-requires g c =
    record { there = first_there c.self.inside.store c.self.invariant.tied c.in-Stored.slot (sym c.place.ensures ∙ c.in-Stored.is) }

pub leave-requires-clause-before : goal.leave-requires-clause-before
leave-requires-clause-before g c = let s = c.self.inside.store in let at = sym c.place.ensures ∙ c.in-Stored.is in let w = first_waits s
    c.self.invariant.tied _ at c.resource_key-key.result c.resource_key-key.ensures in stored_before s _ c.self.invariant.tied w.stowed w.found

pub leave-requires-clause-after : goal.leave-requires-clause-after
leave-requires-clause-after g c = let s = c.self.inside.store in let at = sym c.place.ensures ∙ c.in-Stored.is in let w = first_waits s
    c.self.invariant.tied _ at c.resource_key-key.result c.resource_key-key.ensures in stored_after s _ c.self.invariant.tied w.stowed w.found

pub take_resource-stowed-requires : goal.take_resource-stowed-requires
take_resource-stowed-requires g c = let s = c.self.inside.store in let at = sym c.place.ensures ∙ c.in-Stored.is in let w = first_waits s
    c.self.invariant.tied _ at
    c.resource_key-key.result c.resource_key-key.ensures in let l = c.leave.new.self in let still = subst (λ r. find r c.resource_key-key.result ≡
    Some w.stowed) (sym c.leave.ensures.rest.resources) w.found in record {
      counted = counted_relinked s _ c.leave.ensures.rest c.self.invariant.counted;
      found = ap is_some still;
      waits = subst (λ o. IfSome o (λ stowed. is_held (nodes_of l) stowed ≡ false)) (sym still)
          (subst (λ n. is_held n w.stowed ≡ false) (sym c.leave.ensures.rest.nodes) w.waits);
      link = left_alone s c.self.invariant.tied _ w.stowed w.found w.waits _ c.leave.ensures.leaves c.leave.ensures.rest;
    }

pub invariant_of-self : goal.invariant_of-self
invariant_of-self g c =
    let s = c.self.inside.store in let at = sym c.place.ensures ∙ c.in-Stored.is in
    let w = first_waits s c.self.invariant.tied c.in-Stored.slot at c.resource_key-key.result c.resource_key-key.ensures in
    let found = subst (λ r. find r c.resource_key-key.result ≡ Some c.take_resource-stowed.result) c.leave.ensures.rest.resources
    c.take_resource-stowed.ensures.value in
    let waits = waits_of s c.self.invariant.tied c.in-Stored.slot c.resource_key-key.result w c.take_resource-stowed.result found in
    record {
      tied = taken_tied s c.self.invariant.tied c.resource_key-key.result c.take_resource-stowed.result found waits c.leave.new.self c.leave.ensures.leaves
          c.leave.ensures.rest c.take_resource-stowed.new.self c.take_resource-stowed.ensures.taken c.take_resource-stowed.ensures.links
          (ap (project (λ l. l.node)) c.take_resource-stowed.ensures.nodes);
      counted = c.take_resource-stowed.ensures.counted;
    }

pub returns-in-Stored-clause-some : goal.returns-in-Stored-clause-some
returns-in-Stored-clause-some g c =
    let s = c.self.inside.store in let at = sym c.place.ensures ∙ c.in-Stored.is in
    let w = first_waits s c.self.invariant.tied c.in-Stored.slot at c.resource_key-key.result c.resource_key-key.ensures in
    let found = subst (λ r. find r c.resource_key-key.result ≡ Some c.take_resource-stowed.result) c.leave.ensures.rest.resources
    c.take_resource-stowed.ensures.value in
    let waits = waits_of s c.self.invariant.tied c.in-Stored.slot c.resource_key-key.result w c.take_resource-stowed.result found in
    rw (← c.self.view_is)
    (takes s c.self.invariant.tied c.resource_key-key.result c.take_resource-stowed.result found waits c.leave.new.self c.leave.ensures.leaves
    c.leave.ensures.rest c.take_resource-stowed.new.self c.take_resource-stowed.ensures.taken c.take_resource-stowed.ensures.links
    (ap (project (λ l. l.node)) c.take_resource-stowed.ensures.nodes))

pub returns-in-Stored-clause-chain : goal.returns-in-Stored-clause-chain
returns-in-Stored-clause-chain g c =
    let s = c.self.inside.store in let at = sym c.place.ensures ∙ c.in-Stored.is in
    let w = first_waits s c.self.invariant.tied c.in-Stored.slot at c.resource_key-key.result c.resource_key-key.ensures in
    let found = subst (λ r. find r c.resource_key-key.result ≡ Some c.take_resource-stowed.result) c.leave.ensures.rest.resources
    c.take_resource-stowed.ensures.value in
    let waits = waits_of s c.self.invariant.tied c.in-Stored.slot c.resource_key-key.result w c.take_resource-stowed.result found in
    rw (← c.self.view_is)
    (taken_chain s c.self.invariant.tied c.resource_key-key.result c.take_resource-stowed.result found waits c.leave.new.self c.leave.ensures.leaves
    c.leave.ensures.rest c.take_resource-stowed.new.self c.take_resource-stowed.ensures.taken c.take_resource-stowed.ensures.links
    (ap (project (λ l. l.node)) c.take_resource-stowed.ensures.nodes))

pub returns-in_default : goal.returns-in_default
returns-in_default g c =
    let none = all_held c.self.inside.store c.self.invariant.tied (λ slot e. c.in_default.not-Stored slot (c.place.ensures ∙ e)) in
    record { some = tt; none = rw (← c.self.view_is) none; kept = refl; nodes = refl; chain = refl }
