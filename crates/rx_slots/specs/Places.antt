-- The places of rings that go over numbers. No public clause cites this module.
use Rattle.std.specs.Prelude.{ℕ, ◌==◌, Bool, true, false, ◌&&◌}
use Rattle.rx_slots.specs.declared.links.Place.{Place}
use Rattle.rx_slots.specs.declared.links.Place.TheVariants.{End, Member}
use Rattle.rx_slots.specs.Rings.{Places}

-- a place as two numbers
abbrev pub tag_of : Place → ℕ
tag_of (End i) = 0
tag_of (Member m) = 1

abbrev pub number_of : Place → ℕ
number_of (End i) = i
number_of (Member m) = m

abbrev pub is_place : Place → Place → Bool
is_place p q = (tag_of p == tag_of q) && (number_of p == number_of q)

-- a ring begins and ends here
abbrev pub is_end : Place → Bool
is_end (End i) = true
is_end (Member m) = false

abbrev pub places : Places Place
places = record { is_place = is_place; is_end = is_end }
