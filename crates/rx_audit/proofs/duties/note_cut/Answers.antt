use Rattle.rx_audit.proofs.Common.{sym, ◌∙◌}
use Rattle.rx_audit.proofs.DueLists.{ended_one, ended_none}
use Rattle.rx_audit.proofs.duties.note_cut.Goals as goal
use Rattle.std.proofs.Common.{rules}

pub returns-in_ok-note_subscribers-in-Some-clause-ended : goal.returns-in_ok-note_subscribers-in-Some-clause-ended
returns-in_ok-note_subscribers-in-Some-clause-ended c =
    ended_one c.args.past.now c.args.event c.args.subs.now c.in-Some.g c.note_subscribers.new.due.items c.requires.listed
    (sym c.hub_ended.ensures ∙ c.in-Some.is) c.in_ok-note_subscribers-in-Some.ensures.all

pub returns-in-None-clause-ended : goal.returns-in-None-clause-ended
returns-in-None-clause-ended c = search (rules, ended_none)
