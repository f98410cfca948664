-- The words of a lane that is open find it.
use Rattle.std.proofs.Common.{◌≡◌, ◌∙◌, ap, ℕ, ◌+◌, ◌*◌, ◌%◌, ◌<◌, ◌^◌, ◌==◌, Bool, true, false, cond, Option, Some, None, refl, arith}
use Rattle.std.proofs.lemmas.Bool.Decides.{nat_tests}
use Rattle.std.specs.Option.{option_and_then}
use Rattle.rx_lanes.specs.declared.names.LaneName.{LaneName}
use Rattle.rx_lanes.specs.Lane.{Lane}
use Rattle.rx_lanes.specs.Reports.{name_of}
use Rattle.rx_lanes.specs.State.{State, Opened, opened_at, with_turn, lane}
use Rattle.rx_cellar.specs.Words.{all_places, all_turns, inside_bit, word_of, word_for, place_in, is_inside, is_named, named}

same : (a b : ℕ) → a ≡ b → (a == b) ≡ true
same a b e = grind (arith, nat_tests, e)

-- the numbers alone: t is the turn's part, p the place
in_word : (t p : ℕ) → t < all_turns → p < all_places → (t * all_places + p) % all_places ≡ p
in_word t p h k = omega (arith, h, k)

in_word_inside : (t p : ℕ) → t < all_turns → p < all_places → (t * all_places + p + inside_bit) % all_places ≡ p
in_word_inside t p h k = omega (arith, h, k)

whole_word : (t p : ℕ) → t < all_turns → p < all_places → (t * all_places + p) % inside_bit ≡ t * all_places + p
whole_word t p h k = omega (arith, h, k)

whole_word_inside : (t p : ℕ) → t < all_turns → p < all_places → (t * all_places + p + inside_bit) % inside_bit ≡ t * all_places + p
whole_word_inside t p h k = omega (arith, h, k)

turn_below : (t : ℕ) → t % all_turns < all_turns
turn_below t = omega arith

place_stays : (p : ℕ) → p < all_places → p % all_places ≡ p
place_stays p h = omega (arith, h)

module _ {E : Type 0} where
  -- what stands at the place of a lane that is found has its name
  pub name_there : (name : LaneName) (o : Option (Opened E)) (l : Lane E) → with_turn name.turn o ≡ Some l → name_of name.place o ≡ Some name
  name_there name None l e = cc
  name_there name (Some o) l e = of (o.turn == name.turn) refl e where
    of : (b : Bool) → (o.turn == name.turn) ≡ b → cond b (Some o.lane) None ≡ Some l → Some (record { place = name.place; turn = o.turn }) ≡ Some name
    of true s e = let turn : o.turn ≡ name.turn = grind (arith, nat_tests, s) in ap (λ (t : ℕ). Some (record { place = name.place; turn = t })) turn
    of false s e = cc

  found_by : (s : State E) (name : LaneName) (l : Lane E) (w : ℕ) → lane s name ≡ Some l → place_in w ≡ name.place → is_named w name ≡ true → named s w ≡ Some name
  found_by s name l w found place is =
      ap (λ (p : ℕ). option_and_then (λ (n : LaneName). cond (is_named w n) (Some n) None) (name_of p (opened_at s p))) place
      ∙ ap (λ (o : Option LaneName). option_and_then (λ (n : LaneName). cond (is_named w n) (Some n) None) o) (name_there name (opened_at s name.place) l found)
      ∙ ap (λ (b : Bool). cond b (Some name) None) is

  pub words_find : (s : State E) (name : LaneName) (l : Lane E) (inside : Bool) → lane s name ≡ Some l → name.place < 2 ^ 29 →
      (named s (word_for name inside) ≡ Some name) × (is_inside (word_for name inside) ≡ inside)
  words_find s name l false found below =
      let t = name.turn % all_turns in
      let p = name.place % all_places in
      let h = turn_below name.turn in
      let stays = place_stays name.place below in
      let k : p < all_places = omega (arith, stays, below) in (
        found_by s name l (word_of name) found (in_word t p h k ∙ stays) (same (word_of name % inside_bit) (word_of name) (whole_word t p h k)),
        grind (arith, nat_tests, h, k),
      )
  words_find s name l true found below =
      let t = name.turn % all_turns in
      let p = name.place % all_places in
      let h = turn_below name.turn in
      let stays = place_stays name.place below in
      let k : p < all_places = omega (arith, stays, below) in (
        found_by s name l (word_for name true) found (in_word_inside t p h k ∙ stays) (same (word_for name true % inside_bit) (word_of name) (whole_word_inside t p h k)),
        grind (arith, nat_tests, h, k),
      )
