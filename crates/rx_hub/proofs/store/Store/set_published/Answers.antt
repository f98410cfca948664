use Rattle.rx_hub.proofs.Common.{◌≡◌, Some, option_map, slice_get, sym, subst, Hub, Hubs, length-set}
use Rattle.rx_hub.proofs.StoreShowsHubs.{named, hubs_written, kept_written}
use Rattle.rx_hub.proofs.store.Store.set_published.Goals as goal
use Rattle.std.proofs.Common.{rules}

pub index_mut-requires : goal.index_mut-requires
index_mut-requires c = search (rules, named)

pub invariant_of-self : goal.invariant_of-self
invariant_of-self c =
    let s = c.self.inside in
    let n = named s.records.items s.subscribers s.numbers.items c.self.invariant c.args.index c.args.published.number
    (subst (λ (v : Hubs). option_map (λ (hub : Hub). hub.number) (slice_get v.hubs c.args.index) ≡ Some c.args.published.number) (sym c.self.view_is)
    c.requires.same) in
    kept_written s.records.items s.subscribers s.numbers.items c.self.invariant c.args.index c.args.published n.0 n.1

pub returns : goal.returns
returns c = search (rules, named, hubs_written, length-set)
