use Rattle.std.proofs.Common.{ℕ, Some, refl, sym, ◌∙◌, subst}
use Rattle.std.proofs.lemmas.Bool.{false≢true}
use Rattle.rx_cellar.specs.Serving.{IsLeftTold}
use Rattle.rx_turns.specs.Agendas.{Claims, LaneHasRoom}
use Rattle.rx_turns.specs.Seen.{seen}
use Rattle.rx_turns.specs.States.{TurnState, turn_state}
use Rattle.rx_turns.specs.Serving.{TakesDue}
use Rattle.rx_turns.specs.Finding.{found_none}
use Rattle.rx_turns.specs.Calls.{PicksUp, ends_walk, finds_no_room, finds_one}
use Rattle.rx_turns.proofs.Handed.{found_as}
use Rattle.rx_turns.proofs.turns.Turns.look.Goals as goal

pub returns-then-word : goal.returns-then-word
returns-then-word c =
    found_none (ends_walk (turn_state c.args.self.now) c.args.from c.left.new.next c.requires
    (subst (λ (w : ℕ). IsLeftTold c.args.from c.args.self.now.cellar w c.left.new.next) c.if-word.true c.left.ensures.told) refl)

pub returns-then-not-claim : goal.returns-then-not-claim
returns-then-not-claim c =
    found_none (finds_no_room (turn_state c.args.self.now) c.args.from c.left.new.lane c.left.new.next c.requires c.left.ensures.told c.if-word.false
    (λ room. false≢true (sym c.if-not-claim.true
    ∙ c.claim.ensures.room (subst (λ (p : ℕ). LaneHasRoom (seen c.args.self.now.agenda) c.args.turn p) (sym c.place_of.ensures.place) room)))
    (c.claim.ensures.kept c.if-not-claim.true) refl)

pub returns : goal.returns
returns c =
    let claims = subst (λ (p : ℕ). Claims c.args.turn p c.left.new.lane (seen c.args.self.now.agenda) (seen c.claim.new.self)) c.place_of.ensures.place
    (c.claim.ensures.claims c.if-not-claim.false) in
    let u : TurnState = record (turn_state c.args.self.now) { agenda = seen c.claim.new.self; astray = Some c.left.new.next } in
    found_as (TakesDue c.args.turn (turn_state c.begin.new.self) u) (PicksUp c.args.turn (turn_state c.begin.new.self) (turn_state c.args.self.now))
    (turn_state c.begin.new.self) c.begin.result
    (λ answer so. finds_one (turn_state c.args.self.now) u c.args.from c.left.new.lane c.left.new.next answer c.requires c.left.ensures.told c.if-word.false
    claims refl so) c.begin.ensures
