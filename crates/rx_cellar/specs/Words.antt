-- The words of lanes.
use Rattle.std.specs.Prelude.{◌≡◌, ℕ, ◌+◌, ◌*◌, ◌==◌, nat_lt, Bool, Option, Some, None, if◌then◌else◌}
use Rattle.std.specs.Option.{option_and_then}
use Rattle.std.proofs.Math.Bool.{not}
use Rattle.std.proofs.Common.{◌%◌}
use Rattle.rx_lanes.specs.declared.names.LaneName.{LaneName}
use Rattle.rx_lanes.specs.declared.names.Due.{Due}
use Rattle.rx_lanes.specs.Reports.{name_of}
use Rattle.rx_lanes.specs.Lane.{Lane}
use Rattle.rx_lanes.specs.State.{State, IsPromised, opened_at, lane}

-- a lane's place is below 2^29, the last bits of its turn are below 2^34, and at the top it says whether the caller is inside
abbrev pub all_places : ℕ
all_places = 536870912

abbrev pub all_turns : ℕ
all_turns = 17179869184

abbrev pub inside_bit : ℕ
inside_bit = 9223372036854775808

-- of a lane's name: its place, and above it the last bits of its turn
abbrev pub word_of : LaneName → ℕ
word_of name = name.turn % all_turns * all_places + name.place % all_places

-- and of one that is due: at the top whether the caller serves it already
abbrev pub word_of_due : Due → ℕ
word_of_due due = if due.inside then word_of due.lane + inside_bit else word_of due.lane

abbrev pub place_in : ℕ → ℕ
place_in word = word % all_places

abbrev pub is_inside : ℕ → Bool
is_inside word = not (nat_lt word inside_bit)

abbrev pub is_named : ℕ → LaneName → Bool
is_named word name = word % inside_bit == word_of name

-- what a word names: the lane that stands at its place now, where the turn's last bits are those of the word
abbrev pub named : {E : Type 0} → State E → ℕ → Option LaneName
named s word = option_and_then (λ name. if is_named word name then Some name else None) (name_of (place_in word) (opened_at s (place_in word)))

-- a word that says inside, and one that does not
abbrev pub word_for : LaneName → (inside : Bool) → ℕ
word_for name inside = word_of_due (record { lane = name; inside = inside })

-- as long as a lane is open its words find it, and say whether the caller serves it already
abbrev pub WordsFindTheirLanes : Type 0 → Type 0
WordsFindTheirLanes E = (s : State E) → IsPromised s → (name : LaneName) (l : Lane E) (inside : Bool) → lane s name ≡ Some l →
    (named s (word_for name inside) ≡ Some name) × (is_inside (word_for name inside) ≡ inside)
