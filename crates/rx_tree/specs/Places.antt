-- The places of a tree's rings. No public clause cites this module.
use Rattle.std.specs.Prelude.{ℕ, ◌+◌, ◌*◌, ◌==◌, ◌/◌, ◌%◌, Bool, true, false, ◌&&◌, cond}
use Rattle.rx_tree.specs.declared.links.Place.{Place}
use Rattle.rx_tree.specs.declared.links.Place.TheVariants.{Roots, Due, Waiting, Children, Held, Sibling, Noted, Stored}
use Rattle.rx_slots.specs.Rings.{Places}

-- a place as two numbers
abbrev pub tag_of : Place → ℕ
tag_of Roots = 0
tag_of Due = 1
tag_of Waiting = 2
tag_of (Children s) = 3
tag_of (Held s) = 4
tag_of (Sibling s) = 5
tag_of (Noted s) = 6
tag_of (Stored s) = 7

abbrev pub slot_of : Place → ℕ
slot_of (Children s) = s
slot_of (Held s) = s
slot_of (Sibling s) = s
slot_of (Noted s) = s
slot_of (Stored s) = s
slot_of _ = 0

-- and the place of these
abbrev pub place_at : ℕ → ℕ → Place
place_at tag s =
    cond (tag == 0) Roots (cond (tag == 1) Due (cond (tag == 2) Waiting (cond (tag == 3) (Children s) (cond (tag == 4) (Held s)
    (cond (tag == 5) (Sibling s) (cond (tag == 6) (Noted s) (Stored s)))))))

-- the place of a link's word, which has its tag in the three low bits
abbrev pub place_in : ℕ → Place
place_in word = place_at (word % 8) (word / 8)

-- the word in which a link keeps a place
abbrev pub ring_word : Place → ℕ
ring_word p = slot_of p * 8 + tag_of p

abbrev pub is_place : Place → Place → Bool
is_place p q = (tag_of p == tag_of q) && (slot_of p == slot_of q)

-- a ring begins and ends here
abbrev pub is_end : Place → Bool
is_end Roots = true
is_end Due = true
is_end Waiting = true
is_end (Children s) = true
is_end (Held s) = true
is_end _ = false

abbrev pub places : Places Place
places = record { is_place = is_place; is_end = is_end }
