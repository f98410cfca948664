use Rattle.rx_storm.proofs.OutcomeTellsFigures.{told_of, front_of}
use Rattle.rx_storm.proofs.storm_named.Goals as goal

pub returns-clause-told : goal.returns-clause-told
returns-clause-told g c = told_of _ _ _ _ _ _ _ c.end_storm.ensures.told

pub returns-clause-front : goal.returns-clause-front
returns-clause-front g c = λ failed. front_of _ _ _ _ _ _ (c.end_storm.ensures.front failed)
