use Rattle.rx_event.proofs.Laws.Common.{◌≡◌, ◌≤◌, ◌-◌, slice_get, option_map, map, nat_lt, false, sym, ◌∙◌, rules}
use Rattle.std.proofs.lemmas.Option.{slice_get-map}
use Rattle.rx_event.proofs.Laws.StoredAt.{get_stored}
use Rattle.rx_event.specs.Words.{event_of}
use Rattle.rx_event.proofs.history.History.get.Goals as goal

pub returns : goal.returns
returns c =
    let events = c.self.inside.events.items in
    let index = c.args.place - c.self.inside.base.at_length in
    let past : nat_lt c.args.place c.self.inside.base.at_length ≡ false = search rules in
    let after : c.self.inside.base.at_length ≤ c.args.place = search rules in
    let found : c.nth.result ≡ option_map event_of (slice_get events index) = search rules in
    rw (← c.self.view_is, past)
    (found ∙ sym (slice_get-map event_of events index) ∙ sym (get_stored c.self.inside.base (map event_of events) c.args.place after))
