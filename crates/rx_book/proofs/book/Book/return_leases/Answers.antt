use Rattle.rx_book.proofs.Common.{refl, ap, ◌∙◌, arith, Kept, accepted_count, taken_count, none_let_go, next_let_go}
use Rattle.rx_book.proofs.Closings.{returned_taken, returned_accepted, lease_found, lease_missing, returnable, less_room}
use Rattle.rx_book.proofs.book.Book.return_leases.Goals as goal
use Rattle.std.proofs.Common.{rules}

pub loop-lease-init : goal.loop-lease-init
loop-lease-init g c = search (rules, none_let_go)

pub loop-lease-smaller : goal.loop-lease-smaller
loop-lease-smaller g c = less_room c.loop-lease.self c.give_back.new.self _ c.in-Ok.ensures.accepted c.promise-in-Ok.ensures (omega arith)

pub loop-lease-preserved : goal.loop-lease-preserved
loop-lease-preserved g c = record {
  kept = c.promise-in-Ok.ensures;
  lets_go = next_let_go c.loop-lease.invariant.lets_go c.loop-lease.invariant.kept refl c.in-Ok.ensures.accepted;
  base = c.in-Ok.ensures.accepted.base ∙ c.loop-lease.invariant.base;
  limit = c.in-Ok.ensures.accepted.limit ∙ c.loop-lease.invariant.limit;
  given = c.in-Ok.ensures.accepted.given ∙ c.loop-lease.invariant.given;
  accepted = ap (λ (b : Kept). accepted_count b c.give_back.new.self.history) c.in-Ok.ensures.accepted.base ∙
      returned_accepted _ _ _ _ c.in-Ok.ensures.accepted.step ∙ c.loop-lease.invariant.accepted;
  taken = ap (λ (b : Kept). taken_count b c.give_back.new.self.history) c.in-Ok.ensures.accepted.base ∙ returned_taken _ _ _ _ c.in-Ok.ensures.accepted.step ∙
      c.loop-lease.invariant.taken;
}

pub unreachable-requires : goal.unreachable-requires
unreachable-requires g c = search (rules, returnable, lease_found)

pub returns-clause-none_out : goal.returns-clause-none_out
returns-clause-none_out g c = lease_missing c.loop-lease.self.history c.in_default.ensures.least
