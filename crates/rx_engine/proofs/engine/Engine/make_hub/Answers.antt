use Rattle.std.proofs.Common.{◌<◌, ◌++◌, ◌∷◌, [], ℕ, sym, ap, ◌∙◌, subst}
use Rattle.rx_resource.specs.contracts.token.TokenResource.TheImpl.{ghosts}
use Rattle.rx_event.proofs.Laws.Common.{slice_get}
use Rattle.rx_pool.specs.Pool.{new_hub}
use Rattle.rx_pool.specs.Places.{State as SharesState}
use Rattle.rx_pool.proofs.Laws.SharesAfterStep.{hub_made}
use Rattle.rx_engine.specs.Ties.{state_of}
use Rattle.rx_engine.proofs.TiedAfterHub.{IsAdding, leave_added, ready_added, tied_added}
use Rattle.rx_engine.proofs.engine.Engine.make_hub.Goals as goal

pub add_hub-requires-clause-newest : goal.add_hub-requires-clause-newest
add_hub-requires-clause-newest c = λ i hub there.
    subst (λ (n : ℕ). hub.number < n) (sym c.in-Ok.ensures.ok)
    (hub_made c.self.invariant.shared i hub (ap (λ (x : SharesState). slice_get x.hubs i) (sym c.reserve_hubs.ensures.kept) ∙ there))

pub settle-requires : goal.settle-requires
settle-requires c =
    let a = c.add_hub.ensures.adds in
    let adding : IsAdding (state_of c.self.inside) c.args.mode c.hub.new.self c.add_hub.new.self = record {
      tied = c.self.invariant;
      promised = c.promise.ensures;
      accepts = c.in-Ok.ensures.accepted;
      adds = record {
        list = a.list ∙ ap (λ (x : SharesState). x.list) c.reserve_hubs.ensures.kept;
        hubs = a.hubs ∙ (λ i. (c.reserve_hubs.ensures.kept i).hubs ++ new_hub (c.in-Ok.ensures.ok i) c.args.mode ∷ []);
        only = a.only;
      };
    } in
    record { ready = ready_added adding; hubs = leave_added adding }

pub invariant_of-self-in-Ok : goal.invariant_of-self-in-Ok
invariant_of-self-in-Ok c =
    let a = c.add_hub.ensures.adds in
    let adding : IsAdding (state_of c.self.inside) c.args.mode c.hub.new.self c.add_hub.new.self = record {
      tied = c.self.invariant;
      promised = c.promise.ensures;
      accepts = c.in-Ok.ensures.accepted;
      adds = record {
        list = a.list ∙ ap (λ (x : SharesState). x.list) c.reserve_hubs.ensures.kept;
        hubs = a.hubs ∙ (λ i. (c.reserve_hubs.ensures.kept i).hubs ++ new_hub (c.in-Ok.ensures.ok i) c.args.mode ∷ []);
        only = a.only;
      };
    } in
    tied_added adding ghosts (record { book = c.settle.new.book; parts = c.settle.new.parts; wishes = c.settle.new.wishes }) c.args.by c.settle.ensures.settles c.settle.ensures.closes
    c.settle.ensures.ready
