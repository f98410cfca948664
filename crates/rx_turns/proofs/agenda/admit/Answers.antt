use Rattle.std.proofs.Common.{arith}
use Rattle.rx_turns.proofs.agenda.admit.Goals as goal

pub returns-clause-depths : goal.returns-clause-depths
returns-clause-depths c =
    let most = c.greater.ensures.one in
    c.make_line.ensures.depths c.greater.result c.greater.ensures.other (λ t k own. let near = c.requires.depths t k own in omega (arith, most, near))
