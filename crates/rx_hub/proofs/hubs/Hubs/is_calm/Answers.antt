use Rattle.rx_hub.proofs.Common.{Bool, true, false, ◌≡◌, refl, sym, true≢false, not}
use Rattle.rx_hub.proofs.DueBySubscribers.{quiet_unnoted}
use Rattle.rx_hub.proofs.hubs.Hubs.is_calm.Goals as goal

unset : (b : Bool) → not b ≡ true → b ≡ false
unset true e = absurd (true≢false (sym e))
unset false e = refl

pub returns : goal.returns
returns c = λ calm. rw (← c.self.view_is) (quiet_unnoted c.self.invariant (unset c.self.inside.noted calm))
