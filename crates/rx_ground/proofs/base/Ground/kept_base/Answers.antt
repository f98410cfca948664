use Rattle.rx_ground.proofs.Common.{sym, ap, subst, ◌∙◌, base_of, AreApart, Ground, IsStanding}
use Rattle.rx_register.specs.State.{IsPromised as IsRegisterPromised}
use Rattle.rx_tree.specs.Tree.{IsPromised as IsTreePromised}
use Rattle.rx_hub.specs.Hubs.{IsPromised as IsHubsPromised}
use Rattle.rx_ground.proofs.CheckpointMakesBase.{whole_base}
use Rattle.rx_ground.proofs.base.Ground.kept_base.Goals as goal

pub returns : goal.returns
returns g c = c.new.ensures ∙ whole_base (subst (λ (b : Ground _). IsStanding g.R.Resource b) (sym c.self.view_is) c.requires.standing)
    (subst (λ (b : Ground _). IsRegisterPromised b.register) (sym c.self.view_is) c.promise.ensures.register)
    (subst (λ (b : Ground _). IsTreePromised b.tree) (sym c.self.view_is) c.promise.ensures.tree)
    (subst (λ (b : Ground _). IsHubsPromised b.hubs) (sym c.self.view_is) c.promise.ensures.hubs)
    (subst (λ (b : Ground _). AreApart b.leases) (sym c.self.view_is) c.promise.ensures.leases) (record {
      events = c.len.ensures;
      items = c.items.ensures;
      accepted = c.accepted.ensures;
      taken = c.taken.ensures;
      hubs = c.in_ok-hubs.ensures;
      nodes = c.in_ok-nodes.ensures;
      resources = c.in_ok-resources.ensures;
      leases = c.in_ok-leases.ensures;
    }) ∙ ap (λ (b : Ground _). base_of b.register.base b.register.history) c.self.view_is
