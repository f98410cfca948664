use Rattle.rx_agenda.proofs.NamesStayTied.{tied_empty}
use Rattle.rx_agenda.proofs.names.Names.new.Goals as goal

pub invariant_of-result : goal.invariant_of-result
invariant_of-result g c = tied_empty c.new.result.items c.new-2.result c.new.ensures.items c.new-2.ensures.empty
