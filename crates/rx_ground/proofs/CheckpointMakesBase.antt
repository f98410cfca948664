-- What a checkpoint asks for, and what it makes of a ground.
use Rattle.rx_ground.proofs.Common.{◌≡◌, ℕ, ◌≤◌, List, [], None, map, length, subst, ◌∙◌, arith, ltb-false, Ghosts, Event, MailLeft, TooMany, base_of, notes}
use Rattle.rx_ground.proofs.Common.{IsSettled, first_cause, debt, item_count, accepted_count, taken_count, checkpoint_causes, IsByNumber, kept_by, AreApart}
use Rattle.rx_ground.proofs.Common.{node_as_kept, resource_as_kept, lease_as_kept, without_end, Ground, IsStanding, IsTied, IsCheckpoint}
use Rattle.rx_event.specs.Kept.{Kept as Base}
use Rattle.rx_register.specs.State.{State as Register, Rebases, IsPromised as IsRegisterPromised}
use Rattle.rx_register.proofs.Laws.NoCause.{no_cause}
use Rattle.rx_tree.specs.Tree.{IsPromised as IsTreePromised}
use Rattle.rx_hub.specs.Hubs.{IsPromised as IsHubsPromised, hub_as_kept}
use Rattle.rx_ground.proofs.KeptRecords.{hubs_kept, nodes_kept, resources_kept, leases_kept}
use Rattle.rx_ground.proofs.StandsAfterCheckpoint.{standing_still}
use Rattle.std.proofs.Common.{rules}

-- the counts of a base are those of the register, and what it lists is kept of what is there
pub record IsKeptOf {T : Type 0} (g : Ghosts T) (b : Ground T) (whole : Base) : Type 0 where
  pub events : whole.at_length ≡ length b.register.history
  pub items : whole.items ≡ item_count b.register.base b.register.history
  pub accepted : whole.accepted ≡ accepted_count b.register.base b.register.history
  pub taken : whole.taken ≡ taken_count b.register.base b.register.history
  pub hubs : whole.hubs ≡ map hub_as_kept b.hubs.hubs
  pub nodes : IsByNumber (λ k. k.number) (kept_by node_as_kept b.tree.nodes) whole.nodes
  pub resources : IsByNumber (λ k. k.number) (kept_by (resource_as_kept g b.tree.nodes) b.tree.resources) whole.resources
  pub leases : IsByNumber (λ k. k.number) (kept_by lease_as_kept b.leases) whole.leases

-- what is kept of all that is there is the base of the history
pub whole_base : {T : Type 0} {g : Ghosts T} {b : Ground T} {whole : Base} → IsStanding g b → IsRegisterPromised b.register → IsTreePromised b.tree →
    IsHubsPromised b.hubs → AreApart b.leases → IsKeptOf g b whole → whole ≡ base_of b.register.base b.register.history
unfolding base_of
whole_base {g} {b} {whole} standing promised tree hubs apart kept = λ i. record {
  at_length = kept.events i;
  items = kept.items i;
  accepted = kept.accepted i;
  taken = kept.taken i;
  hubs = (kept.hubs ∙ hubs_kept h b.hubs hubs standing.tied.published) i;
  nodes = nodes_kept base g h b.tree tied tree.sound.apart whole.nodes kept.nodes i;
  resources = resources_kept base g h b.tree tied tree.resources_apart promised.lawful whole.resources kept.resources i;
  leases = leases_kept h b.tree.resources b.leases standing.leased apart whole.leases kept.leases i;
}
  where
    base : Base
    base = b.register.base

    h : List Event
    h = b.register.history

    tied : IsTied base g h b.tree
    tied = standing.tied.of_tree

-- the register may be given a base
pub record MayRebase (s : Register) (reserved : ℕ) : Type 0 where
  pub settled : IsSettled s.base s.history
  pub handed : s.given ≡ length (notes s.history)
  pub pending : s.pending ≡ []
  pub placed : length s.history ≤ 9223372036854775807
  pub closing : debt s.base s.history ≤ reserved
  pub within : reserved ≤ s.limit

pub may_rebase : {T : Type 0} (g : Ghosts T) (b : Ground T) (reserved : ℕ) → IsStanding g b → IsRegisterPromised b.register →
    first_cause (checkpoint_causes b.register.history b.register.given) ≡ None → reserved ≡ debt b.register.base b.register.history →
    MayRebase b.register reserved
may_rebase g b reserved standing promised none same = record {
  settled = standing.settled;
  handed = let given = promised.given in
      let all = ltb-false b.register.given (length (notes b.register.history))
      (no_cause (checkpoint_causes b.register.history b.register.given) none MailLeft) in
      omega arith;
  pending = standing.paid.pending;
  placed =
      let few = ltb-false 9223372036854775807 (length b.register.history) (no_cause (checkpoint_causes b.register.history b.register.given) none TooMany) in
      omega arith;
  closing = omega arith;
  within = let e = standing.paid.events in let r = promised.room in let l = promised.begun in omega arith;
}

-- the register over its base, with the hubs that forgot their ends, is a checkpoint
pub checkpoint_made : {T : Type 0} {old new : Ground T} {reserved : ℕ} → Rebases old.register new.register reserved →
    reserved ≡ debt old.register.base old.register.history →
    new.tree ≡ old.tree → new.hubs ≡ record old.hubs { hubs = map without_end old.hubs.hubs } → new.leases ≡ old.leases → new.closed ≡ old.closed →
    new.space ≡ old.space → IsCheckpoint old new
checkpoint_made {old} {new} rebases same tree hubs leases closed space = search (rules, leases)

-- so it stands, whose parts are those of a ground that stood
pub standing_after : {T : Type 0} {g : Ghosts T} {parts old new : Ground T} → parts ≡ old → IsRegisterPromised old.register → IsStanding g old →
    IsCheckpoint parts new → IsStanding g new
standing_after {T} {g} {old} {new} seen promised standing made =
    standing_still g old new promised (subst (λ (b : Ground T). IsCheckpoint b new) seen made) standing
