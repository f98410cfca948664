use Rattle.std.proofs.Common.{◌≡◌, drop, length}
use Rattle.json.specs.Tree.{json_tokens, items_tokens, members_tokens}
use Rattle.json.specs.Value.{value_view, items_view, members_view}
use Rattle.rx_device.specs.Part.{items_have_values, members_have_values}
use Rattle.rx_device.proofs.document.+values.Given as goal

abbrev pub decreases-has_values : goal.decreases-has_values
decreases-has_values l = length (json_tokens (value_view l.value.now))

abbrev pub decreases-items_have_values : goal.decreases-items_have_values
decreases-items_have_values l = length (items_tokens (items_view l.values.now.items))

abbrev pub decreases-members_have_values : goal.decreases-members_have_values
decreases-members_have_values l = length (members_tokens (members_view l.members.now.items))

abbrev pub invariant-items_have_values-loop-value : goal.invariant-items_have_values-loop-value
invariant-items_have_values-loop-value l = items_have_values (items_view (drop l.value-index l.value-items)) ≡ items_have_values (items_view l.value-items)

abbrev pub invariant-members_have_values-loop-member : goal.invariant-members_have_values-loop-member
invariant-members_have_values-loop-member l = members_have_values (members_view (drop l.member-index l.member-items)) ≡ members_have_values (members_view l.member-items)
