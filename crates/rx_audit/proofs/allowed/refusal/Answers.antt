use Rattle.rx_audit.proofs.Common.{◌∙◌}
use Rattle.rx_audit.proofs.Refusing.{simply, item_refused}
use Rattle.rx_audit.proofs.TestsToVerdict.{item_climbs}
use Rattle.rx_audit.proofs.allowed.refusal.Goals as goal
use Rattle.std.proofs.Common.{rules}

pub returns-in-Item-clause-value : goal.returns-in-Item-clause-value
returns-in-Item-clause-value c = search (rules, item_refused)

pub returns-in-Item-clause-climbed : goal.returns-in-Item-clause-climbed
returns-in-Item-clause-climbed c = search (rules, item_climbs)

pub returns-in_default-clause-value : goal.returns-in_default-clause-value
returns-in_default-clause-value c = c.refusal_simply.ensures ∙ simply c.args.past.now c.args.event c.in_default.not-Item

pub returns-in_default-clause-climbed : goal.returns-in_default-clause-climbed
returns-in_default-clause-climbed c = λ none l v is. absurd (c.in_default.not-Item l v is)

pub item_refusal-requires-clause-linked : goal.item_refusal-requires-clause-linked
item_refusal-requires-clause-linked c = rw c.requires.known.followed.linked.listed_size c.requires.known.followed.linked

pub item_refusal-requires-clause-nested_linked : goal.item_refusal-requires-clause-nested_linked
item_refusal-requires-clause-nested_linked c = rw c.requires.known.followed.nested_linked.listed_size c.requires.known.followed.nested_linked
