use Rattle.rx_trace.proofs.Common.{◌∙◌, ◌<◌, ◌≤◌, length, rules, node_binding}
use Rattle.rx_trace.proofs.NamesListed.{parted, name_here, another_here, none_here}
use Rattle.rx_trace.proofs.told.node_name.Goals.{in_default-via-in-Some+else-named-number, in_default-via-in_default}
use Rattle.rx_trace.proofs.told.node_name.Goals as goal
use Rattle.std.proofs.Common.{ltb}
use Rattle.std.proofs.lemmas.List.Sorted.{IsPartitionPoint-from_clause}

pub returns-in-Some : goal.returns-in-Some
returns-in-Some c = λ rise.
    let n = c.args.number in
    let point = IsPartitionPoint-from_clause (λ y. ltb (node_binding y).number n) _ _ c.partition_point-place.ensures.partitioned
    (parted node_binding c.args.nodes.now n rise) (λ a r q k. search rules) in
    let within : c.partition_point-place.result < length c.args.nodes.now = search rules in
    c.as_str.ensures.value ∙ name_here node_binding c.args.nodes.now n c.partition_point-place.result point c.in-Some.named.now within
    c.in-Some.ensures.lookup.1 c.if-named-number.true

pub returns-in_default : goal.returns-in_default
returns-in_default c = λ rise.
    let n = c.args.number in
    let point = IsPartitionPoint-from_clause (λ y. ltb (node_binding y).number n) _ _ c.partition_point-place.ensures.partitioned
    (parted node_binding c.args.nodes.now n rise) (λ a r q k. search rules) in
    elim c.in_default.branch [
      | in_default-via-in-Some+else-named-number w ↦
          let within : c.partition_point-place.result < length c.args.nodes.now = search rules in
          another_here node_binding c.args.nodes.now n c.partition_point-place.result point rise w.in-Some.named.now within w.in-Some.ensures.lookup.1
          w.if-named-number.false
      | in_default-via-in_default w ↦
          let past : length c.args.nodes.now ≤ c.partition_point-place.result = search rules in
          none_here node_binding c.args.nodes.now n c.partition_point-place.result point past
    ]
