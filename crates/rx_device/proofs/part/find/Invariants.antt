-- The members that are left have the name where all have it.
use Rattle.std.proofs.Common.{◌≡◌, ◌≤◌, length, take}
use Rattle.json.specs.Find.{get_member}
use Rattle.json.specs.Value.{members_view}
use Rattle.rx_device.proofs.part.find.Given as goal

abbrev pub invariant-loop-left : goal.invariant-loop-left
invariant-loop-left l = record {
  same : get_member l.name (members_view l.members.items) ≡ get_member l.name (members_view (take l.left l.members.items));
  within : l.left ≤ length l.members.items;
}

abbrev pub decreases-loop-left : goal.decreases-loop-left
decreases-loop-left l = l.left
