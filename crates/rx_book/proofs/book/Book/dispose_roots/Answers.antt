use Rattle.rx_book.proofs.Common.{refl, ap, ◌∙◌, arith, Kept, accepted_count, taken_count, none_let_go, next_let_go}
use Rattle.rx_book.proofs.Closings.{disposed_out, disposed_taken, disposed_accepted, root_found, root_missing, disposable, less_room}
use Rattle.rx_book.proofs.book.Book.dispose_roots.Goals as goal
use Rattle.std.proofs.Common.{rules}

pub loop-root-init : goal.loop-root-init
loop-root-init g c = search (rules, none_let_go)

pub loop-root-smaller : goal.loop-root-smaller
loop-root-smaller g c = less_room c.loop-root.self c.dispose.new.self _ c.in-Ok.ensures.accepted c.promise-in-Ok.ensures (omega arith)

pub loop-root-preserved : goal.loop-root-preserved
loop-root-preserved g c = record {
  kept = c.promise-in-Ok.ensures;
  lets_go = next_let_go c.loop-root.invariant.lets_go c.loop-root.invariant.kept refl c.in-Ok.ensures.accepted;
  base = c.in-Ok.ensures.accepted.base ∙ c.loop-root.invariant.base;
  limit = c.in-Ok.ensures.accepted.limit ∙ c.loop-root.invariant.limit;
  given = c.in-Ok.ensures.accepted.given ∙ c.loop-root.invariant.given;
  out = λ l found. c.loop-root.invariant.out l (disposed_out _ c.in-Some.root.number c.in-Ok.ensures.accepted.step l found);
  accepted = ap (λ (b : Kept). accepted_count b c.dispose.new.self.history) c.in-Ok.ensures.accepted.base ∙
      disposed_accepted _ _ _ _ c.in-Ok.ensures.accepted.step ∙ c.loop-root.invariant.accepted;
  taken = ap (λ (b : Kept). taken_count b c.dispose.new.self.history) c.in-Ok.ensures.accepted.base ∙ disposed_taken _ _ _ _ c.in-Ok.ensures.accepted.step ∙
      c.loop-root.invariant.taken;
}

pub unreachable-requires : goal.unreachable-requires
unreachable-requires g c = disposable c.loop-root.self c.in-Some.root c.in-Err.field-0 c.in-Some.ensures.key
    (root_found c.loop-root.self.history c.in-Some.root.number c.in-Some.ensures.least) c.in-Err.ensures.refused

pub returns-clause-none_open : goal.returns-clause-none_open
returns-clause-none_open g c = root_missing c.loop-root.self.history c.in_default.ensures.least
