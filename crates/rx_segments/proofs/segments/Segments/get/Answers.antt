use Rattle.std.proofs.Common.{◌-◌, ◌*◌, ◌/◌, ◌%◌, ◌<◌, ◌≤◌, vec_len, slice_get, sym, ap, ◌∙◌, arith}
use Rattle.rx_segments.proofs.Joined.{copied_item}
use Rattle.rx_segments.proofs.KeptSteps.{get_in_full, get_in_last}
use Rattle.rx_segments.proofs.segments.Segments.get.Goals as goal

pub returns-then-piece-len : goal.returns-then-piece-len
returns-then-piece-len g c =
    let s = c.self.inside in
    let n = c.args.index in
    let within : n / 4096 < vec_len s.full = omega (arith, c.len.ensures, c.if-piece-len.true) in
    rw (← c.self.view_is)
    (copied_item c.deref.result.now (n % 4096) c.get.result c.get.ensures.lookup ∙
    ap (λ xs. slice_get xs (n % 4096)) c.deref.ensures.value ∙
    ap (λ v. slice_get v.items (n % 4096)) c.index.ensures ∙
    sym (get_in_full s.full s.last s.spare n c.index.result.now c.self.invariant within))

pub returns-else-piece-len : goal.returns-else-piece-len
returns-else-piece-len g c =
    let s = c.self.inside in
    let n = c.args.index in
    let count = c.len-else-piece-len.result in
    let past : vec_len s.full ≤ n / 4096 = omega (arith, c.len.ensures, c.if-piece-len.false) in
    rw (← c.self.view_is)
    (copied_item c.deref-else-piece-len.result.now (n - 4096 * count) c.get-else-piece-len.result c.get-else-piece-len.ensures.lookup ∙
    ap (λ xs. slice_get xs (n - 4096 * count)) c.deref-else-piece-len.ensures.value ∙
    ap (λ m. slice_get s.last.items (n - 4096 * m)) c.len-else-piece-len.ensures ∙
    sym (get_in_last s.full s.last s.spare n c.self.invariant past))
