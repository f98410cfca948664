use Rattle.rx_svg.proofs.Common.{rules}
use Rattle.rx_svg.proofs.Laws.{picture_of}
use Rattle.rx_svg.proofs.svg.named_picture.Goals as goal

-- src/svg.rt:272:1
pub returns : goal.returns
returns c = picture_of _ _ c.in_ok-drawing.drawing c.in-Ok.verdict _ (search rules) (search rules) (search rules)
