use Rattle.rx_book.proofs.Common.{refl, ap, ◌∙◌, Kept, accepted_count, taken_count, none_let_go, next_let_go}
use Rattle.rx_book.proofs.Closings.{disconnected_out, disconnected_taken, disconnected_accepted, roots_older, hub_found, hub_missing, disconnectable}
use Rattle.rx_book.proofs.Closings.{closes_some, less_room}
use Rattle.rx_book.proofs.book.Book.disconnect_hubs.Goals as goal
use Rattle.std.proofs.Common.{rules}

pub loop-hub-init : goal.loop-hub-init
loop-hub-init g c = search (rules, none_let_go)

pub loop-hub-smaller : goal.loop-hub-smaller
loop-hub-smaller g c =
    let linked = hub_found c.loop-hub.self.history c.in-Some.hub c.in-Some.ensures in
    less_room c.loop-hub.self c.disconnect.new.self _ c.in-Ok.ensures.accepted c.promise-in-Ok.ensures
    (closes_some c.loop-hub.self.history c.in-Some.hub linked)

pub loop-hub-preserved : goal.loop-hub-preserved
loop-hub-preserved g c = record {
  kept = c.promise-in-Ok.ensures;
  lets_go = next_let_go c.loop-hub.invariant.lets_go c.loop-hub.invariant.kept refl c.in-Ok.ensures.accepted;
  base = c.in-Ok.ensures.accepted.base ∙ c.loop-hub.invariant.base;
  limit = c.in-Ok.ensures.accepted.limit ∙ c.loop-hub.invariant.limit;
  given = c.in-Ok.ensures.accepted.given ∙ c.loop-hub.invariant.given;
  roots = λ n found. c.loop-hub.invariant.roots n (roots_older _ c.in-Some.hub c.in-Ok.ensures.accepted.step n found);
  out = λ l found. c.loop-hub.invariant.out l (disconnected_out _ c.in-Some.hub c.in-Ok.ensures.accepted.step l found);
  accepted = ap (λ (b : Kept). accepted_count b c.disconnect.new.self.history) c.in-Ok.ensures.accepted.base ∙
      disconnected_accepted _ _ _ _ c.in-Ok.ensures.accepted.step ∙ c.loop-hub.invariant.accepted;
  taken = ap (λ (b : Kept). taken_count b c.disconnect.new.self.history) c.in-Ok.ensures.accepted.base ∙
      disconnected_taken _ _ _ _ c.in-Ok.ensures.accepted.step ∙ c.loop-hub.invariant.taken;
}

pub unreachable-requires : goal.unreachable-requires
unreachable-requires g c =
    disconnectable c.loop-hub.self c.in-Some.hub c.in-Err.field-0 (hub_found c.loop-hub.self.history c.in-Some.hub c.in-Some.ensures) c.in-Err.ensures.refused

pub returns-clause-disconnected : goal.returns-clause-disconnected
returns-clause-disconnected g c = hub_missing c.loop-hub.self.history c.in_default.ensures
