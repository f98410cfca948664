-- Pieces one after the other as one list.
use Rattle.std.proofs.Common.{◌≡◌, ℕ, zero, suc, ◌+◌, ◌-◌, ◌*◌, ◌<◌, ◌≤◌, List, [], ◌∷◌, ◌++◌, All, Vec}
use Rattle.std.proofs.Common.{vec_items, length, get_or, Bor, Option, Some, None, option_copied}
use Rattle.std.proofs.Common.{flat_map, slice_get, refl, sym, ap, ◌∙◌, arith, length-append, append_assoc}
use Rattle.std.specs.Slice.{IsItemAt}
use Rattle.std.proofs.lemmas.Option.{slice_get-get_or, slice_get_past}
use Rattle.rx_segments.specs.Kept.{IsFullPiece}

-- what the `get` of a slice gives
pub copied_item : {X : Type 0} (xs : List X) (i : ℕ) (r : Option (Bor X)) → IsItemAt xs i r → option_copied r ≡ slice_get xs i
copied_item xs i None is = sym (slice_get_past xs i is.3)
copied_item xs i (Some x) is = sym (slice_get-get_or xs i x.now is.3.0 ∙ ap Some (sym (is.3.1 x.now)))

-- an index into two lists, one after the other
pub slice_get-before : {X : Type 0} (xs ys : List X) (n : ℕ) → n < length xs → slice_get (xs ++ ys) n ≡ slice_get xs n
slice_get-before [] ys n within = absurd (omega arith)
slice_get-before (x ∷ xs) ys zero within = refl
slice_get-before (x ∷ xs) ys (suc n) within = slice_get-before xs ys n (omega arith)

pub slice_get-after : {X : Type 0} (xs ys : List X) (n : ℕ) → length xs ≤ n → slice_get (xs ++ ys) n ≡ slice_get ys (n - length xs)
slice_get-after [] ys n past = ap (slice_get ys) (let e : n ≡ n - 0 = omega arith in e)
slice_get-after (x ∷ xs) ys zero past = absurd (omega arith)
slice_get-after (x ∷ xs) ys (suc n) past =
    slice_get-after xs ys n (omega arith) ∙ ap (slice_get ys) (let e : n - length xs ≡ suc n - length (x ∷ xs) = omega arith in e)

-- what holds of all holds of the rest
pub All-rest : {X : Type 0} (P : X → Type 0) (x : X) (xs : List X) → All P (x ∷ xs) → All P xs
All-rest P x xs all k d within = all (suc k) d (omega arith)

module _ {X Z : Type 0} where
  size : (v : Vec X Z) (vs : List (Vec X Z)) → All IsFullPiece (v ∷ vs) → length v.items ≡ 4096
  size v vs filled = sym v.ok.0 ∙ filled 0 v (omega arith)

  pub length-joined : (pieces : List (Vec X Z)) → All IsFullPiece pieces → length (flat_map vec_items pieces) ≡ 4096 * length pieces
  length-joined [] filled = refl
  length-joined (v ∷ vs) filled =
      omega (arith, length-append v.items (flat_map vec_items vs), size v vs filled, length-joined vs (All-rest IsFullPiece v vs filled))

  -- an index into one of the full pieces, and one behind all of them
  pub slice_get-full : (pieces : List (Vec X Z)) (last : List X) (k j : ℕ) (d : Vec X Z) → All IsFullPiece pieces → k < length pieces → j < 4096 →
      slice_get (flat_map vec_items pieces ++ last) (4096 * k + j) ≡ slice_get (get_or pieces k d).items j
  slice_get-full [] last k j d filled within below = absurd (omega arith)
  slice_get-full (v ∷ vs) last zero j d filled within below =
      let long = size v vs filled in
      rw (append_assoc v.items (flat_map vec_items vs) last)
      (ap (slice_get (v.items ++ (flat_map vec_items vs ++ last))) (let e : 4096 * 0 + j ≡ j = omega arith in e) ∙
      slice_get-before v.items (flat_map vec_items vs ++ last) j (omega arith))
  slice_get-full (v ∷ vs) last (suc k) j d filled within below =
      let long = size v vs filled in
      rw (append_assoc v.items (flat_map vec_items vs) last)
      (slice_get-after v.items (flat_map vec_items vs ++ last) (4096 * suc k + j) (omega arith) ∙
      ap (slice_get (flat_map vec_items vs ++ last)) (let e : 4096 * suc k + j - length v.items ≡ 4096 * k + j = omega arith in e) ∙
      slice_get-full vs last k j d (All-rest IsFullPiece v vs filled) (omega arith) below)

  pub slice_get-last : (pieces : List (Vec X Z)) (last : List X) (n : ℕ) → All IsFullPiece pieces → 4096 * length pieces ≤ n →
      slice_get (flat_map vec_items pieces ++ last) n ≡ slice_get last (n - 4096 * length pieces)
  slice_get-last pieces last n filled past =
      let long = length-joined pieces filled in
      slice_get-after (flat_map vec_items pieces) last n (omega arith) ∙ ap (λ m. slice_get last (n - m)) long
