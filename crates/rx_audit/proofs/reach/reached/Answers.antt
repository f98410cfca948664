use Rattle.rx_audit.proofs.Common.{◌≡◌, ◌*◌, length, refl, arith, onward}
use Rattle.rx_audit.proofs.VisitLogEntries.{read_at}
use Rattle.rx_audit.proofs.LogCountsVisits.{IsEntry, HasSpread, flow_starts, flow_ends, flow_step, flow_over, length_few, few_left}
use Rattle.rx_audit.proofs.reach.reached.Goals as goal
use Rattle.std.proofs.Common.{rules}

pub returns-then-i-len : goal.returns-then-i-len
returns-then-i-len c = flow_ends (omega arith) c.loop-i.invariant

pub returns : goal.returns
returns c = let few = length_few c.loop-i.invariant in let f = c.loop-i.invariant.few in flow_ends (omega arith) c.loop-i.invariant

pub returns-then-more-from : goal.returns-then-more-from
returns-then-more-from c = let v = c.index-visit.result.now in let product : c.from.result * c.in_ok-size.size ≡ v.count
    * length (onward c.args.past.now v.node) = rw (c.from.ensures, c.in_ok-size.ensures.count) refl in
    flow_over (omega arith) c.index-visit.ensures (omega arith) c.loop-i.invariant

pub spread-requires-clause-few : goal.spread-requires-clause-few
spread-requires-clause-few c = let v = c.index-visit.result.now in let log = c.loop-i.climb.log.items in let next = c.onward.new.next in
    let product : c.from.result * c.in_ok-size.size ≡ v.count * length (onward c.args.past.now v.node) = rw
    (c.from.ensures, c.in_ok-size.ensures.count) refl in let entry : IsEntry c.args.past.now log c.loop-i.i v next.items = record {
      within = omega arith;
      is = c.index-visit.ensures;
      goes_on = c.in_ok-size.ensures.next;
    } in let left = few_left v next.items entry c.loop-i.invariant (let most = c.loop-i.invariant.few in omega arith) in
    rw c.as_slice.ensures.value (omega arith)

pub spread-requires-clause-some : goal.spread-requires-clause-some
spread-requires-clause-some c = c.loop-i.invariant.often c.loop-i.i c.index-visit.result.now (read_at c.loop-i.climb.log.items c.loop-i.i
    c.index-visit.result.now (omega arith) c.index-visit.ensures)

pub loop-i-init : goal.loop-i-init
loop-i-init c = search (rules, flow_starts)

pub loop-i-preserved : goal.loop-i-preserved
loop-i-preserved c = let v = c.index-visit.result.now in let log = c.loop-i.climb.log.items in let i = c.loop-i.i in let next = c.onward.new.next in
    let product : c.from.result * c.in_ok-size.size ≡ v.count * length (onward c.args.past.now v.node) = rw
    (c.from.ensures, c.in_ok-size.ensures.count) refl in let entry : IsEntry c.args.past.now log i v next.items = record {
      within = omega arith;
      is = c.index-visit.ensures;
      goes_on = c.in_ok-size.ensures.next;
    } in let spread : HasSpread i log c.spread.new.log.items v next.items = record {
      kept = c.in_ok-spread.ensures.kept;
      more = rw c.as_slice.ensures.value at c.in_ok-spread.ensures.more;
      often = c.in_ok-spread.ensures.often;
      grows = c.in_ok-spread.ensures.grows;
    } in rw product (flow_step entry spread (let most = c.loop-i.invariant.few in omega arith) c.loop-i.invariant)
