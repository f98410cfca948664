use Rattle.std.proofs.Common.{length, rules}
use Rattle.json.proofs.Trees.{item_smaller, member_smaller}
use Rattle.rx_device.proofs.document.+values.Goals as goal

pub items_have_values-has_values-requires : goal.items_have_values-has_values-requires
items_have_values-has_values-requires t c =
    search (rules, length, item_smaller)

pub members_have_values-has_values-requires : goal.members_have_values-has_values-requires
members_have_values-has_values-requires t c =
    search (rules, length, member_smaller)
