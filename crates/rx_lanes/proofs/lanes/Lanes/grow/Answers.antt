use Rattle.std.proofs.Common.{◌∙◌, ap, arith, length}
use Rattle.rx_slots.specs.Lists.{list_at, is_in}
use Rattle.rx_lanes.proofs.LaneOpens.{none_beyond, tied_more}
use Rattle.rx_lanes.proofs.lanes.Lanes.grow.Goals as goal

pub free_places-requires-clause-free : goal.free_places-requires-clause-free
free_places-requires-clause-free g c = λ m e past.
    ap (λ l. is_in m (list_at l e)) c.admit.ensures.kept ∙ ap (is_in m) (c.begin.ensures.same e)
    ∙ none_beyond c.self.inside.table c.self.inside.marks c.self.invariant m e (omega (arith, past, c.len-so_far.ensures.value))

pub invariant_of-self-2 : goal.invariant_of-self-2
invariant_of-self-2 g c =
    let fits = c.in_ok-reserve_exact.ensures.ok in
    tied_more c.self.invariant c.len-so_far.ensures.value (record {
      places = c.in_ok-grow.ensures.ok;
      same = c.grow.ensures.same;
      two = ap (λ m. length m.lists) c.admit.ensures.kept ∙ c.in_ok-begin.ensures.both;
      lists = λ e. ap (λ m. list_at m e) c.admit.ensures.kept ∙ c.begin.ensures.same e;
      members = omega (arith, c.in_ok-admit.ensures.ok, c.in_ok-grow.ensures.ok, c.len-so_far.ensures.value);
    }) c.free_places.ensures.frees (omega (arith, fits, c.in_ok-grow.ensures.ok, c.len-so_far.ensures.value))
    (omega (arith, c.if-more-self.false, c.self.invariant.last))
