use Rattle.rx_hub.proofs.Common.{option_map, ap, ◌∙◌, key_in}
use Rattle.rx_hub.proofs.StoreShowsHubs.{subscriber_in, after_shown}
use Rattle.rx_hub.proofs.store.Store.next.Goals as goal

pub returns : goal.returns
returns c = let s = c.self.inside in rw (← c.self.view_is) (λ i hub got on. c.key_of.ensures ∙ ap (option_map (key_in s.numbers.items))
    (c.next.ensures i (subscriber_in s.records.items s.subscribers s.numbers.items c.self.invariant c.args.key i hub got on).0) ∙
    after_shown s.records.items s.subscribers s.numbers.items c.self.invariant c.args.key i hub got on)
