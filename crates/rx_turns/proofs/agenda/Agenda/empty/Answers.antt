use Rattle.std.proofs.Common.{◌<◌, length, ap, sym, subst}
use Rattle.rx_turns.specs.Rows.{IsTheLine}
use Rattle.rx_turns.specs.Agendas.{due_to}
use Rattle.rx_turns.specs.Seen.{seen}
use Rattle.rx_turns.proofs.Emptied.{as_due, one_less, emptied}
use Rattle.rx_turns.proofs.TakenOut.{shorter}
use Rattle.rx_turns.proofs.agenda.Agenda.empty.Goals as goal

pub loop-place-init : goal.loop-place-init
loop-place-init c = (as_due c.args.on.turn (seen c.args.self.now), c.requires)

pub first-requires : goal.first-requires
first-requires c = c.loop-place.invariant.1

pub loop-place-smaller : goal.loop-place-smaller
loop-place-smaller c =
    let before = due_to (seen c.loop-place.self) c.args.on.turn in
    let fewer = shorter c.in-Some.place before c.in-Some.ensures.first in
    subst (λ n. n < length before) (sym (ap length (c.forget.ensures.gone.due c.args.on.turn))) fewer

pub loop-place-preserved : goal.loop-place-preserved
loop-place-preserved c = (
  one_less c.args.on.turn (seen c.args.self.now) (seen c.loop-place.self) (seen c.forget.new.self) c.in-Some.place c.loop-place.invariant.0
      c.in-Some.ensures.first c.promise.ensures c.forget.ensures.gone,
  subst (λ rows. IsTheLine c.args.on rows.items) (sym c.forget.ensures.rows) c.loop-place.invariant.1,
)

pub returns : goal.returns
returns c = emptied c.args.on.turn (seen c.args.self.now) (seen c.loop-place.self) c.loop-place.invariant.0 c.in_default.ensures.first
