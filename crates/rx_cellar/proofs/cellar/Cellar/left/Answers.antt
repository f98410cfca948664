use Rattle.std.proofs.Common.{◌≤◌, ◌<◌, ℕ, subst, sym}
use Rattle.rx_lanes.specs.declared.names.LaneName.{LaneName}
use Rattle.rx_lanes.specs.State.{State, IsLeft}
use Rattle.rx_roles.specs.declared.effect.Effect.{Effect as Sent}
use Rattle.rx_cellar.specs.Words.{word_of}
use Rattle.rx_cellar.specs.Serving.{IsLeftTold, one_left, none_left}
use Rattle.rx_cellar.proofs.cellar.Cellar.left.Goals as goal

pub returns-in-Some-clause-told : goal.returns-in-Some-clause-told
returns-in-Some-clause-told c =
    let name = c.in-Some.name in
    subst (λ (w : ℕ). IsLeftTold c.args.from c.args.self.now w c.saturating_add.result) (sym c.word_of.ensures)
    (subst (λ (n : ℕ). IsLeftTold c.args.from c.args.self.now (word_of name) n) (sym c.saturating_add.ensures)
    (one_left name (subst (λ (s : State Sent). IsLeft s name) c.lanes.ensures c.in-Some.ensures.found) c.in-Some.ensures.from
    (subst (λ (s : State Sent). (other : LaneName) → IsLeft s other → c.args.from ≤ other.place → name.place ≤ other.place) c.lanes.ensures c.in-Some.ensures.first)))

pub returns-in-None-clause-told : goal.returns-in-None-clause-told
returns-in-None-clause-told c =
    none_left (subst (λ (s : State Sent). (other : LaneName) → IsLeft s other → other.place < c.args.from) c.lanes.ensures c.in-None.ensures.end)
