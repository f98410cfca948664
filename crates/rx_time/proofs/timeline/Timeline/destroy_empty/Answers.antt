use Rattle.rx_time.proofs.TwoLists.{nil_back, nil_front}
use Rattle.rx_time.proofs.timeline.Timeline.destroy_empty.Goals as goal

pub destroy_empty-requires : goal.destroy_empty-requires
destroy_empty-requires g c = nil_front c.self.inside.in_order c.self.inside.others (rw (← c.self.view_is) at c.requires)

pub destroy_empty-requires-2 : goal.destroy_empty-requires-2
destroy_empty-requires-2 g c = nil_back c.self.inside.in_order c.self.inside.others (rw (← c.self.view_is) at c.requires)
