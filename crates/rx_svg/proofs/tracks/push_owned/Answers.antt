use Rattle.rx_svg.proofs.tracks.push_owned.Goals as goal

pub returns : goal.returns
returns c = rw c.held_class-class.ensures at c.push_stretch.ensures
