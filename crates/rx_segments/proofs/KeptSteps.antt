-- What the pieces of a list hold, and what more of them keep.
use Rattle.std.proofs.Common.{◌≡◌, ℕ, ◌+◌, ◌-◌, ◌*◌, ◌/◌, ◌%◌, ◌<◌, ◌≤◌, All, Vec, vec_items, vec_len, vec_capacity, length, get_or, min}
use Rattle.std.proofs.Common.{flat_map, slice_get, sym, ap, subst, ◌∙◌, arith, length-append}
use Rattle.std.proofs.lemmas.Nat.{div-add-mod', mod_below}
use Rattle.rx_segments.specs.Kept.{IsFullPiece, IsEmptyPiece, AreKept, items_in}
use Rattle.rx_segments.proofs.Joined.{length-joined, slice_get-full, slice_get-last}

module _ {T Z : Type 0} where
  pub length_items : (full : Vec (Vec T Z) Z) (last : Vec T Z) (spare : Vec (Vec T Z) Z) → AreKept full last spare →
      length (items_in full last) ≡ 4096 * vec_len full + vec_len last
  length_items full last spare kept =
      omega (arith, length-append (flat_map vec_items full.items) last.items, length-joined full.items kept.full_ones, full.ok.0, last.ok.0)

  -- the item at an index is in the piece that the index is in
  pub get_in_full : (full : Vec (Vec T Z) Z) (last : Vec T Z) (spare : Vec (Vec T Z) Z) (n : ℕ) (d : Vec T Z) → AreKept full last spare →
      n / 4096 < vec_len full → slice_get (items_in full last) n ≡ slice_get (get_or full.items (n / 4096) d).items (n % 4096)
  get_in_full full last spare n d kept within =
      let whole = div-add-mod' n 4096 in
      ap (slice_get (items_in full last)) (let e : n ≡ 4096 * (n / 4096) + n % 4096 = omega arith in e) ∙
      slice_get-full full.items last.items (n / 4096) (n % 4096) d kept.full_ones (omega (arith, full.ok.0)) (mod_below n 4096 (omega arith))

  pub get_in_last : (full : Vec (Vec T Z) Z) (last : Vec T Z) (spare : Vec (Vec T Z) Z) (n : ℕ) → AreKept full last spare →
      vec_len full ≤ n / 4096 → slice_get (items_in full last) n ≡ slice_get last.items (n - 4096 * vec_len full)
  get_in_last full last spare n kept past =
      let whole = div-add-mod' n 4096 in
      let counted = full.ok.0 in
      slice_get-last full.items last.items n kept.full_ones (omega arith) ∙ ap (λ m. slice_get last.items (n - 4096 * m)) (sym counted)

  -- there are more empty pieces, each with its place among the full ones
  pub kept_filled : (full roomier : Vec (Vec T Z) Z) (last : Vec T Z) (spare more : Vec (Vec T Z) Z) → AreKept full last spare → (count : ℕ) →
      All IsEmptyPiece more.items → roomier.items ≡ full.items → vec_len full + count ≤ vec_capacity roomier → vec_len more ≤ count →
      vec_capacity last ≡ 4096 → 4096 * (vec_len full + count) ≤ 1099511627776 → AreKept roomier last more
  kept_filled full roomier last spare more kept count empty same room few whole counted =
      let as_many : vec_len roomier ≡ vec_len full = roomier.ok.0 ∙ ap length same ∙ sym full.ok.0 in
      record {
        full_ones = subst (All IsFullPiece) (sym same) kept.full_ones;
        empty_ones = empty;
        most = omega arith;
        whole = λ some. whole;
        places = omega arith;
        counted = omega arith;
      }

-- empty pieces are wanted only where the last one is whole, and all that they take is a number
pub whole_last : (capacity held spare n : ℕ) → min 4096 (held + n) ≤ capacity → capacity ≤ 4096 →
    spare < (held + n - 1) / 4096 → capacity ≡ 4096
whole_last capacity held spare n wide most more =
    omega (arith, div-add-mod' (held + n - 1) 4096, mod_below (held + n - 1) 4096 (omega arith))

pub all_counted : (full held n : ℕ) → 4096 * full + held + n ≤ 1099511627776 → 4096 * (full + (held + n - 1) / 4096) ≤ 1099511627776
all_counted full held n within =
    omega (arith, div-add-mod' (held + n - 1) 4096, mod_below (held + n - 1) 4096 (omega arith))
