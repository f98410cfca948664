use Rattle.std.proofs.Common.{◌≡◌, ◌<◌, ◌+◌, ℕ, ◌∙◌, ap, arith, length}
use Rattle.rx_crew.proofs.Pulls.{Stops, last_turn, turn_more, not_over}
use Rattle.rx_crew.proofs.feeding.feed.Given as given
use Rattle.rx_crew.proofs.feeding.feed.Goals as goal

stops : (g : given.Over) (c : goal.In-Some g)
    → Stops c.args.leaf.number c.in-Some.stop c.args.turns (g.S.Source.pulls c.args.source.now)
    (g.S.Source.pulls c.turn.new.source) c.args.seat c.turn.new.seat c.turn.new.receipts.items
stops g c =
    let counted = c.loop-turn.invariant.counted in
    let test = c.loop-turn-test.true in
    let within : length c.loop-turn.receipts.items < c.args.turns = omega (arith, counted, test) in
    last_turn _ _ _ _ c.loop-turn.invariant.far c.loop-turn.invariant.course within c.in-Some.ensures

pub returns-in-Some-clause-receipts : goal.returns-in-Some-clause-receipts
returns-in-Some-clause-receipts g c = rw c.turn.new.receipts.ok.0 (stops g c).receipts

pub returns-in-Some-clause-stop : goal.returns-in-Some-clause-stop
returns-in-Some-clause-stop g c = rw c.turn.new.receipts.ok.0 (stops g c).stop

pub loop-turn-preserved : goal.loop-turn-preserved
loop-turn-preserved g c =
    let more = turn_more _ _ _ _ _ c.loop-turn.invariant.far c.loop-turn.invariant.course c.in_default.ensures in
    record { counted = more.counted ∙ ap (λ (n : ℕ). n + 1) c.loop-turn.invariant.counted; far = more.far; course = more.course }

pub returns-clause-stop : goal.returns-clause-stop
returns-clause-stop g c =
    let counted = c.loop-turn.invariant.counted in
    let test = c.loop-turn-test.false in
    let most = c.loop-turn.auto._turn-end in
    let all : length c.loop-turn.receipts.items ≡ c.args.turns = omega (arith, counted, test, most) in
    rw c.loop-turn.receipts.ok.0 (all, not_over _ _ _ _ _ _ c.loop-turn.invariant.far c.loop-turn.invariant.course, c.loop-turn.invariant.far.left)
