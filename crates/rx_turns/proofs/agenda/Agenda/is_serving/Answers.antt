use Rattle.std.proofs.Common.{◌≡◌, ◌<◌, ◌&&◌, true, length, ap, sym, ◌∙◌, arith}
use Rattle.std.proofs.lemmas.List.{get_or_read}
use Rattle.rx_turns.specs.declared.agenda.Row.{Row}
use Rattle.rx_turns.specs.Rows.{is_by, is_of_lane, blank, row_on}
use Rattle.rx_turns.specs.Seen.{seen}
use Rattle.rx_turns.proofs.HandsServe.{serves_there, none_serves}
use Rattle.rx_turns.proofs.agenda.Agenda.is_serving.Goals as goal

pub returns-then-is_of_lane-clause-serves : goal.returns-then-is_of_lane-clause-serves
returns-then-is_of_lane-clause-serves c = λ _.
    let rows = c.args.self.now.rows.items in
    let line = c.loop-line.line in
    let many = c.len-line-end.ensures in
    let test = c.loop-line-test.true in
    let within : line < length rows = omega (arith, many, test) in
    let one : c.index.result.now ≡ row_on rows line = get_or_read rows line c.index.result.now within c.index.ensures blank in
    let other : c.index-then-is_by.result.now ≡ row_on rows line =
    get_or_read rows line c.index-then-is_by.result.now within c.index-then-is_by.ensures blank in
    let its : is_by c.args.by (row_on rows line).turn ≡ true =
    sym (c.is_by.ensures ∙ ap (λ (r : Row). is_by c.args.by r.turn) one) ∙ c.if-is_by.true in
    let lane : is_of_lane c.args.word (row_on rows line).in_hand ≡ true =
    sym (c.is_of_lane.ensures ∙ ap (λ (r : Row). is_of_lane c.args.word r.in_hand) other) ∙ c.if-is_of_lane.true in
    serves_there (seen c.args.self.now) c.args.by c.args.word c.args.self.now.tied.apart line within (λ i. its i && lane i)

pub returns-clause-none : goal.returns-clause-none
returns-clause-none c = λ _.
    let many = c.len-line-end.ensures in
    let test = c.loop-line-test.false in
    none_serves (seen c.args.self.now) c.args.by c.args.word (λ k within. c.loop-line.invariant k (omega (arith, many, test, within)))
