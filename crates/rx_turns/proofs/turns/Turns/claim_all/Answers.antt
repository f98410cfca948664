use Rattle.std.proofs.Common.{◌≡◌, ℕ, List, Some, arith, refl, ap, sym, ◌∙◌, subst, slice_get, None}
use Rattle.std.proofs.lemmas.List.{drop_all}
use Rattle.rx_cellar.specs.declared.cellar.Cellar.{Cellar}
use Rattle.rx_turns.specs.States.{turn_state}
use Rattle.rx_cellar.specs.Serving.{words_due}
use Rattle.rx_turns.specs.Making.{AreMadeDue, all_claimed}
use Rattle.rx_turns.proofs.WordsClaimed.{claims_next, none_there, claimed_cellar}
use Rattle.rx_turns.proofs.turns.Turns.claim_all.Goals as goal

pub loop-index-init : goal.loop-index-init
loop-index-init c = (refl, λ b rest. rest)

pub loop-index-preserved : goal.loop-index-preserved
loop-index-preserved c =
    let words = words_due c.args.self.now.cellar in
    let there : Some c.in-Some.word ≡ slice_get words c.loop-index.index =
    c.in-Some.ensures ∙ ap (λ (s : Cellar). slice_get (words_due s) c.loop-index.index) c.loop-index.invariant.0 in (
      claimed_cellar c.args.turn c.in-Some.word (turn_state c.loop-index.self) (turn_state c.claim.new.self) c.claim.ensures ∙ c.loop-index.invariant.0,
      λ b rest. c.loop-index.invariant.1 b
          (claims_next c.args.turn (turn_state c.loop-index.self) (turn_state c.claim.new.self) b words c.loop-index.index
          c.in-Some.word there c.claim.ensures rest),
    )

pub returns-in-None : goal.returns-in-None
returns-in-None c =
    let words = words_due c.args.self.now.cellar in
    let none : None ≡ slice_get words c.loop-index.index =
    c.in-None.ensures ∙ ap (λ (s : Cellar). slice_get (words_due s) c.loop-index.index) c.loop-index.invariant.0 in
    let many = c.due_count-index-end.ensures in
    let test = c.loop-index-test.true in
    absurd (none_there words c.loop-index.index none (omega (arith, many, test)))

pub returns : goal.returns
returns c =
    let words = words_due c.args.self.now.cellar in
    let many = c.due_count-index-end.ensures in
    let test = c.loop-index-test.false in
    let all = drop_all c.loop-index.index words (omega (arith, many, test)) in
    c.loop-index.invariant.1 _ (subst (λ (ws : List ℕ). AreMadeDue c.args.turn (turn_state c.loop-index.self) ws (turn_state c.loop-index.self))
    (sym all) all_claimed)
