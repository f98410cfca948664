use Rattle.std.proofs.Common.{rules, ◌≡◌, true, false, Option, IsSome, sym, ◌∙◌, subst, refl}
use Rattle.rx_lanes.specs.Lane.{Lane}
use Rattle.rx_lanes.specs.State.{lane}
use Rattle.rx_lanes.proofs.LaneTurns.{some_is}
use Rattle.rx_lanes.proofs.AloneDue.{none_of, claims_alone}
use Rattle.rx_lanes.proofs.lanes.Lanes.claim_alone.Goals as goal

pub name_alone-requires : goal.name_alone-requires
name_alone-requires g c =
    let some = some_is (lane c.args.self.now c.args.name) c.requires.open in
    record { «open» = subst (λ (o : Option (Lane g.row.E.Denot)). IsSome o) (sym (c.claim.ensures.claims some.0 some.1).found) refl }

pub returns-clause-claims : goal.returns-clause-claims
returns-clause-claims g c = λ done.
    let some = some_is (lane c.args.self.now c.args.name) c.requires.open in
    let h = c.if-not-claim.false in
    let yes : c.claim.result ≡ true = search rules in
    let f = c.if-has_fresh.false in
    let no : c.has_fresh.result ≡ false = search rules in
    claims_alone c.args.name c.args.by c.args.self.now c.claim.new.self c.name_alone.new.self some.0 some.1
    (sym (c.claim.ensures.result some.0 some.1) ∙ yes) (none_of c.args.self.now.fresh (sym c.has_fresh.ensures ∙ no))
    (c.claim.ensures.claims some.0 some.1) c.name_alone.ensures
