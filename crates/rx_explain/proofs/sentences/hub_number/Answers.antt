use Rattle.rx_explain.proofs.sentences.hub_number.Goals as goal

pub returns-in-Open : goal.returns-in-Open
returns-in-Open c = rw c.in-Open.is (c.hub_of.ensures c.in-Open.place)
