use Rattle.rx_omitted.specs.Omitted.{is_at}
use Rattle.rx_omitted.proofs.Alone.{item_omitted}
use Rattle.rx_omitted.proofs.Same.{same_what_stays, item_others}
use Rattle.rx_omitted.proofs.laws.an_item_only_heard_may_be_omitted.Goals as goal

pub returns : goal.returns
returns c = λ base. record {
  may = λ h k own law heard. item_omitted base h law own k heard;
  same = λ h k own law heard. same_what_stays base (is_at k) h own law (item_omitted base h law own k heard);
  others = item_others base;
}
