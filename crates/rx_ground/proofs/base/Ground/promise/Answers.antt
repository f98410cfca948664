use Rattle.rx_ground.proofs.base.Ground.promise.Goals as goal

pub returns-clause-leases : goal.returns-clause-leases
returns-clause-leases g c = rw (← c.self.view_is) c.promise-4.ensures
