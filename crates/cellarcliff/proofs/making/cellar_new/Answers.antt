use Rattle.std.proofs.Common.{◌∙◌, refl, sym, subst}
use Rattle.rx_turns.specs.declared.turns.Turns.{Turns}
use Rattle.cellarcliff.specs.Calls.{IsNew, is_held, makes}
use Rattle.cellarcliff.proofs.Turned.{nothing_due}
use Rattle.cellarcliff.proofs.making.cellar_new.Goals as goal

pub returns-in-Some : goal.returns-in-Some
returns-in-Some c = is_held c.in-Some.ensures.taken (c.put.ensures.kept ∙ sym c.in-Some.ensures.taken) refl

pub returns-in-Ok : goal.returns-in-Ok
returns-in-Ok c =
    let new = c.new.ensures in
    makes c.in_default.ensures.taken c.put-in-Ok.ensures.kept
    (subst (λ (s : Turns). IsNew c.args.max_events s) (sym c.in-Ok.ensures.ok) (record {
      engine = new.engine;
      released = new.released;
      at = new.at;
      until = new.until;
      nothing = nothing_due c.new.result new.rows new.lists;
      tickets = new.tickets;
      astray = new.astray;
    }))
    c.put-in-Ok.ensures.promised refl
