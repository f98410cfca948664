use Rattle.rx_hub.proofs.Common.{ℕ, ◌≡◌, ◌<◌, ◌+◌, ◌∷◌, [], List, Some, length, slice_get, sym, ap, subst, ◌∙◌, arith, Hub, Hubs, new_hub, length-append}
use Rattle.rx_hub.proofs.Common.{connect_of, due_of, IsCalm}
use Rattle.rx_hub.proofs.HubsByNumber.{calm_added, nothing_new_waits, nothing_new_due}
use Rattle.rx_hub.proofs.hubs.Hubs.add.Goals as goal

pub add-requires-clause-newest : goal.add-requires-clause-newest
add-requires-clause-newest c =
    subst (λ (v : Hubs). (i : ℕ) (hub : Hub) → slice_get v.hubs i ≡ Some hub → hub.number < c.args.number) (sym c.self.view_is) c.requires.newest

pub invariant_of-self : goal.invariant_of-self
invariant_of-self c =
    let s = c.self.inside in
    let linked = c.self.invariant in
    let hubs = c.add.ensures.hubs in
    let more : length c.add.new.self.hubs ≡ length s.store.hubs + 1 =
    ap (λ (hs : List Hub). length hs) hubs ∙ length-append s.store.hubs (new_hub c.args.number c.args.mode ∷ []) in
    let room = c.add.ensures.room in
    let had = subst (λ (v : Hubs). 0 < v.room) (sym c.self.view_is) c.requires.room in
    let fit = linked.fit in
    let most = linked.room in
    record {
      waits = subst (λ (hs : List Hub). IsCalm connect_of hs s.waiting) (sym hubs)
          (calm_added connect_of s.store.hubs s.waiting (new_hub c.args.number c.args.mode) (nothing_new_waits c.args.number c.args.mode) linked.waits);
      acts = subst (λ (hs : List Hub). IsCalm due_of hs s.due) (sym hubs)
          (calm_added due_of s.store.hubs s.due (new_hub c.args.number c.args.mode) (nothing_new_due c.args.number c.args.mode) linked.acts);
      waiting_chain = linked.waiting_chain;
      due_chain = linked.due_chain;
      fit = omega (arith, more, had, fit);
      both = linked.both;
      room = omega (arith, more, room, most);
      empty = linked.empty;
    }
