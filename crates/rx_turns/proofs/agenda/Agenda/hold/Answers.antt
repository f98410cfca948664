use Rattle.std.proofs.Common.{◌≡◌, Some, length, refl}
use Rattle.std.proofs.lemmas.List.{get_or_read_under}
use Rattle.rx_turns.specs.Rows.{row_on, blank}
use Rattle.rx_turns.proofs.Held.{held, on_held}
use Rattle.rx_turns.proofs.agenda.Agenda.hold.Goals as goal

pub returns-clause-holds : goal.returns-clause-holds
returns-clause-holds c =
    let rows = c.args.self.now.rows.items in
    let at = c.args.on.line in
    let read : c.index_mut.result.now ≡ row_on rows at =
    get_or_read_under rows at (length rows) c.index_mut.result.now blank c.index_mut.ensures.value c.requires.within refl in
    rw read (held c.args.on.turn (Some c.args.hand) at rows c.args.self.now.lists c.args.self.now.words.items c.requires.line c.requires.within)

pub returns-clause-line : goal.returns-clause-line
returns-clause-line c =
    let rows = c.args.self.now.rows.items in
    let at = c.args.on.line in
    let read : c.index_mut.result.now ≡ row_on rows at =
    get_or_read_under rows at (length rows) c.index_mut.result.now blank c.index_mut.ensures.value c.requires.within refl in
    rw read (on_held (Some c.args.hand) c.requires)
