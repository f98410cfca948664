use Rattle.rx_audit.proofs.Common.{refl}
use Rattle.rx_audit.proofs.DueLists.{marks_noted}
use Rattle.rx_audit.proofs.MarksAfterItem.{item_kept, item_covered}
use Rattle.rx_audit.proofs.advance.keep_item.Goals as goal

pub returns : goal.returns
returns c = let r = c.requires in let w = c.in_ok-remark_visits.ensures in record {
  kept = item_kept _ r.lawful r.next r.item r.reached r.followed.kept (rw r.followed.marks_size r.room) w;
  covered = item_covered _ _ r.lawful r.next r.item r.reached (marks_noted _ _ r.followed.covered) w;
  keeps = w.kept;
  marks_size = w.size;
  children = refl;
  subscribers = refl;
  nested = refl;
  hubs = refl;
}
