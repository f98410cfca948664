use Rattle.rx_omitted.specs.Omitted.{is_of_leaf}
use Rattle.rx_omitted.proofs.Alone.{leaf_omitted}
use Rattle.rx_omitted.proofs.Same.{same_what_stays, leaf_others}
use Rattle.rx_omitted.proofs.laws.a_lone_leaf_may_be_omitted.Goals as goal

pub returns : goal.returns
returns c = λ base. record {
  may = λ h n own law leaf. leaf_omitted base h law own n leaf;
  same = λ h n own law leaf. same_what_stays base (is_of_leaf h n) h own law (leaf_omitted base h law own n leaf);
  others = leaf_others base;
}
