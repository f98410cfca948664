use Rattle.rx_register.proofs.Laws.CallBehindAdds.{behind_adds}
use Rattle.rx_register.proofs.Laws.AllowedWhereUnrefused.{allowed_where_clear, allowed_unrefused, any_call}
use Rattle.rx_register.proofs.theorems.causes_decide_events.Goals as goal

pub returns : goal.returns
returns c base = record {
  allowed = allowed_where_clear base;
  unrefused = allowed_unrefused base;
  adds = behind_adds base;
  any_call = any_call base;
}
