-- Rings of links in both directions, over any type of places. No public clause cites this module.
use Rattle.std.specs.Prelude.{◌≡◌, ℕ, zero, suc, Bool, true, false, cond, List, [], ◌∷◌, Option, Some, None}
use Rattle.std.specs.List.{list_any, filter}
use Rattle.std.proofs.Math.Bool.{not}

-- which places are the same, and at which a ring begins and ends
pub record Places (Place : Type 0) : Type 0 where
  pub is_place : Place → Place → Bool
  pub is_end : Place → Bool

-- each place's next, or each place's previous
abbrev pub Steps : Type 0 → Type 0
Steps Place = Place → Place

module _ {Place : Type 0} where
  -- one place comes directly before another
  pub record IsLink (next previous : Steps Place) (a b : Place) : Type 0 where
    pub to : next a ≡ b
    pub back : previous b ≡ a

  -- from one place to another the links lead over just these
  abbrev pub Leads : Steps Place → Steps Place → Place → List Place → Place → Type 0
  Leads next previous a [] b = IsLink next previous a b
  Leads next previous a (p ∷ ps) b = IsLink next previous a p × Leads next previous p ps b

module _ {Place : Type 0} (places : Places Place) where
  abbrev pub is_among : Place → List Place → Bool
  is_among p ps = list_any (places.is_place p) ps

  -- no place stands twice
  abbrev pub AreDifferent : List Place → Type 0
  AreDifferent [] = Unit {0}
  AreDifferent (p ∷ ps) = (is_among p ps ≡ false) × AreDifferent ps

  abbrev pub without : Place → List Place → List Place
  without p ps = filter (λ q. not (places.is_place p q)) ps

  -- the places that a ring goes over after this one
  abbrev pub walk : ℕ → Steps Place → Place → List Place
  walk zero next p = []
  walk (suc steps) next p = cond (places.is_end (next p)) [] (next p ∷ walk steps next (next p))

  -- with another value at one place
  abbrev pub set_step : Place → Place → Steps Place → Steps Place
  set_step p to steps q = cond (places.is_place p q) to (steps q)

  -- each ring goes over the places whose home it is, each once, and a place with no home is a ring of its own
  pub record AreRings (next previous : Steps Place) (home : Place → Option Place) (rings : Place → List Place) : Type 0 where
    pub leads : (e : Place) → places.is_end e ≡ true → Leads next previous e (rings e) e
    pub differ : (e : Place) → AreDifferent (rings e)
    pub members : (e p : Place) → is_among p (rings e) ≡ true → home p ≡ Some e
    pub listed : (e p : Place) → home p ≡ Some e → is_among p (rings e) ≡ true
    pub ends : (e p : Place) → home p ≡ Some e → (places.is_end e ≡ true) × (places.is_end p ≡ false)
    pub loose : (p : Place) → places.is_end p ≡ false → home p ≡ None → IsLink next previous p p

  -- a place is put last on a ring
  pub record Joins (old_next old_previous next previous : Steps Place) (e p : Place) : Type 0 where
    pub to : (q : Place) → next q ≡ set_step p e (set_step (old_previous e) p old_next) q
    pub back : (q : Place) → previous q ≡ set_step e p (set_step p (old_previous e) old_previous) q

  -- the ring of a place passes it by, and its own link stays
  pub record PassesBy (old_next old_previous next previous : Steps Place) (p : Place) : Type 0 where
    pub to : (q : Place) → next q ≡ set_step (old_previous p) (old_next p) old_next q
    pub back : (q : Place) → previous q ≡ set_step (old_next p) (old_previous p) old_previous q

  -- a place is taken off its ring, and is one of its own
  pub record Leaves (old_next old_previous next previous : Steps Place) (p : Place) : Type 0 where
    pub to : (q : Place) → next q ≡ set_step p p (set_step (old_previous p) (old_next p) old_next) q
    pub back : (q : Place) → previous q ≡ set_step p p (set_step (old_next p) (old_previous p) old_previous) q

  -- a ring that is not empty is put at the end of another
  pub record Merges (old_next old_previous next previous : Steps Place) (from into : Place) : Type 0 where
    pub to : (q : Place) → next q ≡ set_step from from
        (set_step (old_previous from) into (set_step (old_previous into) (old_next from) old_next)) q
    pub back : (q : Place) → previous q ≡ set_step from from
        (set_step into (old_previous from) (set_step (old_next from) (old_previous into) old_previous)) q
