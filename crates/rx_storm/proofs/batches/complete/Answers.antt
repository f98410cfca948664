use Rattle.rx_storm.proofs.Common.{◌++◌, ◌∷◌, [], List, ◌∙◌, ap, Completed, End, Event, Receipt, events_of}
use Rattle.rx_storm.proofs.Emission.{events_of-kept}
use Rattle.rx_storm.proofs.batches.complete.Goals as goal

pub returns-clause-ended : goal.returns-clause-ended
returns-clause-ended g c =
    let last : Event = End c.args.leaf.number Completed in
    events_of-kept _ _ _ c.push_reserved.ensures.items ∙ ap (λ (l : List Receipt). events_of l ++ last ∷ []) c.make_place.ensures.same
