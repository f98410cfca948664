-- The links of ends and members, and what of their rings callers see. No public clause cites this module.
use Rattle.std.specs.Prelude.{◌≡◌, ℕ, ◌-◌, Bool, true, cond, nat_lt, List, map, length, Option, Some, slice_index_or, vec_capacity}
use Rattle.std.specs.List.{range_with_len}
use Rattle.rx_slots.specs.Rings.{Steps, AreRings, walk}
use Rattle.rx_slots.specs.Lists.{Lists}
use Rattle.rx_slots.specs.Places.{number_of, is_place, places}
use Rattle.rx_slots.specs.declared.links.Link.{Link}
use Rattle.rx_slots.specs.declared.links.Links.{Links}
use Rattle.rx_slots.specs.declared.links.Place.{Place}
use Rattle.rx_slots.specs.declared.links.Place.TheVariants.{End, Member}

-- a place that leads to itself
abbrev pub alone : Place → Link
alone p = record { next = p; previous = p }

-- the link of a place, which leads to itself where there is no such place
abbrev pub link_in : List Link → List Link → Place → Link
link_in ends members (End i) = slice_index_or ends i (alone (End i))
link_in ends members (Member m) = slice_index_or members m (alone (Member m))

abbrev pub link_at : Links → Place → Link
link_at s p = link_in s.ends.items s.members.items p

abbrev pub set_link_at : Place → Link → Links → Place → Link
set_link_at p link s q = cond (is_place p q) link (link_at s q)

abbrev pub next_in : List Link → List Link → Steps Place
next_in ends members p = (link_in ends members p).next

abbrev pub previous_in : List Link → List Link → Steps Place
previous_in ends members p = (link_in ends members p).previous

abbrev pub next_of : Links → Steps Place
next_of s = next_in s.ends.items s.members.items

abbrev pub previous_of : Links → Steps Place
previous_of s = previous_in s.ends.items s.members.items

-- there is such a place, where there are so many ends and members
abbrev pub within : ℕ → ℕ → Place → Bool
within ends members (End i) = nat_lt i ends
within ends members (Member m) = nat_lt m members

abbrev pub is_there : Links → Place → Bool
is_there s p = within (length s.ends.items) (length s.members.items) p

-- nothing changes but links
pub record Relinks (old new : Links) : Type 0 where
  pub ends : length new.ends.items ≡ length old.ends.items
  pub members : length new.members.items ≡ length old.members.items
  pub capacity : vec_capacity new.ends ≡ vec_capacity old.ends

-- the rings, and the homes of the places on them; these are all there
pub record IsTiedIn (ends members : List Link) : Type 0 where
  pub rings : Place → List Place
  pub home : Place → Option Place
  pub ringed : AreRings places (next_in ends members) (previous_in ends members) home rings
  pub there : (e p : Place) → home p ≡ Some e →
      (within (length ends) (length members) e ≡ true) × (within (length ends) (length members) p ≡ true)

abbrev pub IsTied : Links → Type 0
IsTied s = IsTiedIn s.ends.items s.members.items

-- what an end's ring goes over
abbrev pub ring_in : List Link → List Link → ℕ → List ℕ
ring_in ends members e = map number_of (walk places (length members) (next_in ends members) (End e))

abbrev pub lists_in : List Link → List Link → ℕ → Lists
lists_in ends members room =
    record {
      lists = map (ring_in ends members) (range_with_len 0 (length ends));
      members = length members;
      room = room;
    }

-- what callers see
abbrev pub lists_of : Links → Lists
lists_of s = lists_in s.ends.items s.members.items (vec_capacity s.ends - length s.ends.items)
