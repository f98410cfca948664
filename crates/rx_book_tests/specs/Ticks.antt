-- What a clock gives.
use Rattle.std.specs.Prelude.{ℕ, zero, suc, pos, List, [], ◌∷◌}
use Rattle.rx_note.specs.declared.note.Terminal.{Terminal}
use Rattle.rx_crew.specs.declared.feeding.Pull.{Pull}
use Rattle.rx_crew.specs.declared.feeding.Pull.TheVariants.{Item, Done}

-- so many items of 5, and then the end
abbrev pub ticks : Terminal → ℕ → List Pull
ticks terminal zero = Done terminal ∷ []
ticks terminal (suc left) = Item (pos 5) ∷ ticks terminal left
