-- How deep a node stands: itself and the nodes above it.
use Rattle.std.specs.Prelude.{◌≡◌, ◌+◌, ◌≤◌, ◌<◌, slice_index_or}
use Rattle.rx_picture.specs.Imports.{ℕ, List, length, Event, ancestors}

abbrev pub level : List Event → ℕ → ℕ
level h n = length (ancestors h n)

-- the table says so of each number below the bound
pub record AreLevels (h : List Event) (bound : ℕ) (table : List ℕ) : Type 0 where
  pub size : length table ≡ bound
  pub each : (n : ℕ) → n < bound → slice_index_or table n 0 ≡ level h n
  pub few : (n : ℕ) → n < bound → slice_index_or table n 0 ≤ n + 1
