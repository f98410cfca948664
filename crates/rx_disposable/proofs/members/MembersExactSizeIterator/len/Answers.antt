use Rattle.std.proofs.Common.{sym, ◌∙◌}
use Rattle.rx_disposable.proofs.Places.{length-member_entries}
use Rattle.rx_disposable.proofs.members.MembersExactSizeIterator.len.Goals as goal

pub returns-clause-value : goal.returns-clause-value
returns-clause-value g c =
    rw (← c.self.view_is) (c.len.ensures.value ∙ sym (length-member_entries _ c.self.invariant))
