use Rattle.rx_event.proofs.Laws.Switches.{one_inner}
use Rattle.rx_event.proofs.theorems.nodes.a_switch_has_one_open_inner.Goals as goal

pub returns : goal.returns
returns c = λ base. record {
  same = λ law one other. one_inner base _ law _ _ _
      (record { switch = one.switch; one = one.inner; one_open = one.alive; other = other.inner; other_open = other.alive });
}
