use Rattle.std.proofs.Common.{◌≡◌, true, false, Option, ◌∷◌, [], sym, subst, refl, rules}
use Rattle.std.specs.Prelude.{IsSome}
use Rattle.rx_lanes.specs.Lane.{Lane}
use Rattle.rx_lanes.specs.State.{State as LanesState}
use Rattle.rx_roles.specs.declared.effect.Effect.{Effect}
use Rattle.rx_roles.specs.Effects.{items_in}
use Rattle.rx_engine.specs.Rooms.{IsReady}
use Rattle.rx_engine.specs.HandingSteps.{TellsAndSpreads}
use Rattle.rx_engine.proofs.ItemsHanded.{handed_nobody, lane_found, handed_busy, handed_ready, handed_one}
use Rattle.rx_engine.proofs.NotesTold.{is_item_of}
use Rattle.rx_engine.proofs.handing.hand_one.Goals as goal

pub spread_note-requires : goal.spread_note-requires
spread_note-requires c = record { ready = c.requires.ready }

pub returns-in_default-clause-hands : goal.returns-in_default-clause-hands
returns-in_default-clause-hands c = handed_nobody c.requires.ready.empty (sym c.in_default.ensures) c.spread_note.ensures

pub returns-in_default-clause-ready : goal.returns-in_default-clause-ready
returns-in_default-clause-ready c = c.spread_note.ensures.ready

pub claim_alone-requires : goal.claim_alone-requires
claim_alone-requires c =
    let found = lane_found c.args.by c.args.value c.args.mail c.requires.ready (sym c.in-Some.ensures) in
    record { «open» = subst (λ (o : Option (Lane Effect)). IsSome o) (sym found.1) refl }

pub spread_note-requires-then-not-claim_alone : goal.spread_note-requires-then-not-claim_alone
spread_note-requires-then-not-claim_alone c = let h = c.if-not-claim_alone.true in let busy : c.claim_alone.result ≡ false = search rules in record {
  ready = subst (λ (ls : LanesState Effect). IsReady (items_in (c.args.mail ∷ [])) (record c.args.parts.now { lanes = ls }))
      (sym (c.claim_alone.ensures.other busy)) c.requires.ready;
}

pub returns-then-not-claim_alone-clause-hands : goal.returns-then-not-claim_alone-clause-hands
returns-then-not-claim_alone-clause-hands c =
    let h = c.if-not-claim_alone.true in
    let busy : c.claim_alone.result ≡ false = search rules in
    let is = sym c.in-Some.ensures in
    let found = lane_found c.args.by c.args.value c.args.mail c.requires.ready is in
    handed_busy c.args.by c.args.value c.args.mail c.requires.ready is c.claim_alone.result (c.claim_alone.ensures.result found.0 found.1) busy
    (subst (λ (ls : LanesState Effect). TellsAndSpreads c.args.by c.args.value (c.args.mail ∷ []) (record c.args.parts.now { lanes = ls })
    c.spread_note-then-not-claim_alone.new.parts) (c.claim_alone.ensures.other busy) c.spread_note-then-not-claim_alone.ensures)

pub returns-then-not-claim_alone-clause-ready : goal.returns-then-not-claim_alone-clause-ready
returns-then-not-claim_alone-clause-ready c = c.spread_note-then-not-claim_alone.ensures.ready

pub returns-clause-hands : goal.returns-clause-hands
returns-clause-hands c =
    let h = c.if-not-claim_alone.false in
    let claimed : c.claim_alone.result ≡ true = search rules in
    let is = sym c.in-Some.ensures in
    let found = lane_found c.args.by c.args.value c.args.mail c.requires.ready is in
    handed_one c.args.by c.args.value c.args.mail c.requires.ready is c.claim_alone.result (c.claim_alone.ensures.result found.0 found.1) claimed
    (c.claim_alone.ensures.claims claimed) c.claim_alone.ensures.spare c.promise.ensures c.what_of_item.result
    (c.what_of_item.ensures (is_item_of c.args.parts.now.hears.list c.args.parts.now.merges.list c.args.mail c.in-Some.role is).goes_on)

pub returns-clause-ready : goal.returns-clause-ready
returns-clause-ready c =
    let h = c.if-not-claim_alone.false in
    let claimed : c.claim_alone.result ≡ true = search rules in
    let is = sym c.in-Some.ensures in
    let found = lane_found c.args.by c.args.value c.args.mail c.requires.ready is in
    handed_ready c.args.by c.args.value c.args.mail c.requires.ready is c.claim_alone.result (c.claim_alone.ensures.result found.0 found.1) claimed
    (c.claim_alone.ensures.claims claimed) c.claim_alone.ensures.spare c.promise.ensures
