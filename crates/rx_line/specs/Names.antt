-- Names, and where what they stand for lies.
use Rattle.std.specs.Prelude.{◌≡◌, ℕ, ◌==◌, Option, Some, None, cond, option_map, string_bytes, min}
use Rattle.std.specs.Bool.{nat_eq}
use Rattle.std.specs.Str.{bytes_eq}
use Rattle.std.specs.HashMap.{get, get_by_text, spare}
use Rattle.rx_scenario.specs.Scenario.{Name}
use Rattle.rx_line.specs.declared.names.Spot.{Spot}
use Rattle.rx_line.specs.declared.names.Names.{Names}

-- the spot that a name stands for
abbrev pub spot_of : Names → Name → Option Spot
spot_of t n = get_by_text t.by_name n

-- the name of a number
abbrev pub name_of_number : Names → ℕ → Option Name
name_of_number t k = option_map string_bytes (get nat_eq t.by_number k)

-- for how many more names there is room
abbrev pub room_for_names : Names → ℕ
room_for_names t = min (spare t.by_name) (spare t.by_number)

-- no name is bound
abbrev pub AreNone : Names → Type 0
AreNone t = ((n : Name) → spot_of t n ≡ None) × ((k : ℕ) → name_of_number t k ≡ None)

-- names and numbers, by what each stands for: each name stands for a number of its own
pub record ArePaired (spots : Name → Option Spot) (names : ℕ → Option Name) : Type 0 where
  pub named : (n : Name) (s : Spot) → spots n ≡ Some s → names s.number ≡ Some n
  pub numbered : (k : ℕ) (n : Name) → names k ≡ Some n → option_map (λ s. s.number) (spots n) ≡ Some k

abbrev pub IsPaired : Names → Type 0
IsPaired t = ArePaired (spot_of t) (name_of_number t)

-- the same names are bound, whatever room there is
pub record AreSameNames (old new : Names) : Type 0 where
  pub spots : (n : Name) → spot_of new n ≡ spot_of old n
  pub names : (k : ℕ) → name_of_number new k ≡ name_of_number old k

-- one more name is bound
pub record Binds (old : Names) (name : Name) (s : Spot) (new : Names) : Type 0 where
  pub spots : (n : Name) → spot_of new n ≡ cond (bytes_eq name n) (Some s) (spot_of old n)
  pub names : (k : ℕ) → name_of_number new k ≡ cond (s.number == k) (Some name) (name_of_number old k)

-- the name of a number is forgotten, and is free again
pub record Forgets (old : Names) (number : ℕ) (name : Name) (new : Names) : Type 0 where
  pub spots : (n : Name) → spot_of new n ≡ cond (bytes_eq name n) None (spot_of old n)
  pub names : (k : ℕ) → name_of_number new k ≡ cond (number == k) None (name_of_number old k)
