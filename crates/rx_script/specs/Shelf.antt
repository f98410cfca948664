-- What a stock shows.
use Rattle.std.specs.Prelude.{Bool, List}
use Rattle.rx_script.specs.Stage.{Ware}

-- the resources in order, and whether one can be put back in front
pub record Shelf : Type 0 where
  pub wares : List Ware
  pub has_room : Bool
