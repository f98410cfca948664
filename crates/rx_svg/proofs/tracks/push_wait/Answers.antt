use Rattle.rx_svg.proofs.tracks.push_wait.Goals as goal

pub returns : goal.returns
returns c = rw c.wait_class-class.ensures at c.push_stretch.ensures
