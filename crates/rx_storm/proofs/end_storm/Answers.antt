use Rattle.rx_storm.proofs.OutcomeTellsFigures.{front_told}
use Rattle.rx_storm.proofs.end_storm.Goals as goal

pub returns-clause-front : goal.returns-clause-front
returns-clause-front g c = λ _.
    let done = c.settle.ensures in
    front_told c.settle.result.outcome c.in-Ok.told _ _ _ _ _ _ _ _ c.in-Ok.is done.told done.released done.faults c.in-Ok-text.ensures
    c.as_bytes.ensures.value c.in-Err-write_text.ensures.err
