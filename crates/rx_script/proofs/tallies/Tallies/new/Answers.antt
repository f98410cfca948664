use Rattle.rx_script.proofs.Common.{rules, nat_eq, unwrap_or, get}
use Rattle.rx_script.proofs.EventsCounted.{none_used}
use Rattle.rx_script.proofs.LeasesOut.{none_leased, none_out}
use Rattle.rx_script.proofs.tallies.Tallies.new.Goals as goal

pub returns-clause-counts : goal.returns-clause-counts
returns-clause-counts c = search (rules, nat_eq, get, unwrap_or, none_used, none_leased, none_out)
