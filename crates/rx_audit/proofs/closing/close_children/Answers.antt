use Rattle.rx_audit.proofs.Common.{◌≡◌, suc, ◌-◌, false, Some, length, ◌∙◌, arith, set, get_or_read, parent, parent_within, last_below, keyed, IsClosingBelow}
use Rattle.rx_audit.proofs.Latest.{last_le}
use Rattle.rx_audit.proofs.ClosingBelow.{closing_none, closing_note, closing_next, mark_gone, child_below, here_is}
use Rattle.rx_audit.proofs.closing.close_children.Goals.{then-marks-c+in_ok-push, else-marks-c}
use Rattle.rx_audit.proofs.closing.close_children.Goals as goal
use Rattle.std.proofs.Common.{rules}

pub loop-next-init : goal.loop-next-init
loop-next-init c = search (rules, length, get_or_read, closing_none, child_below, parent_within, here_is, last_le)

pub loop-next-smaller : goal.loop-next-smaller
loop-next-smaller c = let h = c.args.past.now in let p = c.args.p in let k = c.loop-next.next - 1 in let v = c.index-in-loop-next.result.now in let r
    = c.requires.children in let size = r.older_size in let w = c.loop-next.invariant.within in let below : parent h k ≡ Some p =
    c.loop-next.invariant.here (omega arith) in let is : v ≡ last_below (keyed (parent h) p) k = get_or_read _ k v (omega arith)
    c.index-in-loop-next.ensures 0 ∙ r.older k p (omega arith) below in let l = last_le (keyed (parent h) p) k in omega arith

pub loop-next-preserved : goal.loop-next-preserved
loop-next-preserved c =
    let h = c.args.past.now in
    let p = c.args.p in
    let k = c.loop-next.next - 1 in
    let next : c.loop-next.next ≡ suc k = omega arith in
    let v = c.index-in-loop-next.result.now in
    let r = c.requires.children in
    let size = r.older_size in
    let w = c.loop-next.invariant.within in
    let below : parent h k ≡ Some p = c.loop-next.invariant.here (omega arith) in
    let is : v ≡ last_below (keyed (parent h) p) k = get_or_read c.args.children.now.older.items k v (omega arith) c.index-in-loop-next.ensures 0
    ∙ r.older k p (omega arith) below in
    let so_far : IsClosingBelow h p (suc k) c.args.marks.now c.loop-next.marks c.args.todo.now.items c.loop-next.todo.items = rw (← next)
    c.loop-next.invariant.closing in
    record {
      closing = elim c.if-marks-c.branch [
        | then-marks-c+in_ok-push w ↦ rw (w.marks-is, w.todo-is, w.in_ok-push.ensures.items)
            (closing_next k v (set c.loop-next.marks k false) c.args.todo.now.items _
            (closing_note k c.loop-next.marks c.args.todo.now.items c.loop-next.todo.items so_far (omega arith) below w.if-marks-c.true)
            (mark_gone c.loop-next.marks k) is)
        | else-marks-c w ↦ rw (w.marks-is, w.todo-is) (closing_next k v c.loop-next.marks c.args.todo.now.items c.loop-next.todo.items so_far
            w.if-marks-c.false is)
      ];
      here = here_is h p k v is;
      within = let l = last_le (keyed (parent h) p) k in omega arith;
    }
