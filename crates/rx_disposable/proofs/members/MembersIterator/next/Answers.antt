use Rattle.rx_disposable.proofs.Places.{filled_head}
use Rattle.rx_disposable.proofs.members.MembersIterator.next.Goals as goal

pub into_value-requires : goal.into_value-requires
into_value-requires g c = filled_head _ _ _ (rw c.in_ok-member.ensures.steps at c.self.invariant)
