use Rattle.rx_explain.proofs.explaining.explain_history.Goals as goal

pub returns-clause-silent : goal.returns-clause-silent
returns-clause-silent c = rw c.dump_in.ensures at c.explain_dump.ensures.silent

pub returns-clause-worded : goal.returns-clause-worded
returns-clause-worded c =
    let told = rw c.dump_in.ensures at c.explain_dump.ensures.worded in
    rw c.names_or-object.ensures at told
