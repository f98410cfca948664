use Rattle.rx_svg.specs.Label.{event_label}
use Rattle.rx_svg.proofs.labels.push_event.Goals as goal

pub returns-in-Connect : goal.returns-in-Connect
unfolding event_label
returns-in-Connect c = rw c.in-Connect.is c.push_about.ensures

pub returns-in-Use : goal.returns-in-Use
unfolding event_label
returns-in-Use c = rw c.in-Use.is c.push_about-in-Use.ensures

pub returns-in-Remove : goal.returns-in-Remove
unfolding event_label
returns-in-Remove c = rw c.in-Remove.is c.push_about-in-Remove.ensures

pub returns-in-Lease : goal.returns-in-Lease
unfolding event_label
returns-in-Lease c = rw c.in-Lease.is c.push_about-in-Lease.ensures

pub returns-in-Return : goal.returns-in-Return
unfolding event_label
returns-in-Return c = rw c.in-Return.is c.push_about-in-Return.ensures

pub returns-in-Decline : goal.returns-in-Decline
unfolding event_label
returns-in-Decline c = rw c.in-Decline.is c.push_about-in-Decline.ensures

pub returns-in-Close : goal.returns-in-Close
unfolding event_label
returns-in-Close c = rw c.in-Close.is c.push_about-in-Close.ensures

pub returns-in-Take : goal.returns-in-Take
unfolding event_label
returns-in-Take c = rw c.in-Take.is c.push_about-in-Take.ensures
