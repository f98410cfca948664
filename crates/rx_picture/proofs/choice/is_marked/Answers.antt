use Rattle.rx_picture.proofs.Common.{false, length, sym, ◌∙◌, le-ltb}
use Rattle.std.proofs.lemmas.List.{get_or_past}
use Rattle.rx_picture.proofs.choice.is_marked.Goals as goal

pub returns-else-n-marks : goal.returns-else-n-marks
returns-else-n-marks c =
    let past = c.if-n-marks.false in
    le-ltb c.args.n (length c.args.marks.now) past ∙ sym (get_or_past c.args.marks.now c.args.n false past)
