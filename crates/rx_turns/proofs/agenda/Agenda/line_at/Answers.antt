use Rattle.std.proofs.Common.{◌≡◌, ◌<◌, length, arith, refl, sym, ap, ◌∙◌}
use Rattle.std.proofs.lemmas.List.{get_or_read_under}
use Rattle.rx_turns.specs.Rows.{is_of, row_on, blank}
use Rattle.rx_turns.proofs.Lines.{line_is}
use Rattle.rx_turns.proofs.agenda.Agenda.line_at.Goals as goal

pub returns-then-is_of : goal.returns-then-is_of
returns-then-is_of c =
    let rows = c.args.self.now.rows.items in
    let test = c.if-line-len.false in
    let many = c.len.ensures in
    let within : c.args.line < length rows = omega (arith, test, many) in
    let read : c.index.result.now ≡ row_on rows c.args.line =
    get_or_read_under rows c.args.line (length rows) c.index.result.now blank c.index.ensures within refl in
    sym (line_is c.args.turn rows c.args.line within c.args.self.now.tied.apart
    (ap (is_of c.args.turn) (sym read) ∙ (sym c.is_of.ensures ∙ c.if-is_of.true)))
