-- Marks that say a test choose what the test chooses, and stand where it stands.
use Rattle.rx_picture.proofs.Common.{◌≡◌, ℕ, ◌+◌, ◌<◌, ◌≤◌, Bool, true, false, cond, List, [], ◌∷◌, ◌++◌, length, replicate, get_or, Option, Some}
use Rattle.rx_picture.proofs.Common.{None, refl, sym, ap, ◌∙◌, arith, nat_lt, slice_get, not, ◌&&◌, option_map_or, cases_lt, lt-ltb, le-ltb}
use Rattle.rx_picture.proofs.Common.{and_left, length_push, length-replicate, get_or-replicate, Event, at, Row, bit, count_below, is_chosen}
use Rattle.rx_picture.proofs.Common.{marked, AreMarksByTest, AreRowsShown, has_row, is_drawn, is_shown, is_placed, is_rowed, is_rowed_by, AreColumns}
use Rattle.rx_event.proofs.Laws.Sums.{sum_by-same}
use Rattle.rx_picture.specs.Rows.{track_of}
use Rattle.rx_picture.proofs.WhereLinesEnd.{get_old, get_new}
use Rattle.rx_event.proofs.Laws.OpenAfter.{filter_below}
use Rattle.std.proofs.lemmas.List.{get_or_past}
use Rattle.std.proofs.lemmas.Option.{slice_get_past}
use Rattle.std.proofs.Common.{rules, ⊎_elim}

-- the same numbers pass below the bound
abbrev pub Agree : ℕ → (ℕ → Bool) → (ℕ → Bool) → Type 0
Agree bound p q = (k : ℕ) → k < bound → p k ≡ q k

pub count_same : (p q : ℕ → Bool) (n : ℕ) → Agree n p q → count_below p n ≡ count_below q n
count_same p q n same = sum_by-same (λ k. bit (q k)) (λ k. bit (p k)) n (λ k l. ap bit (same k l))

chosen_same : (first first_too among among_too : ℕ → Bool) (limit size : ℕ) → Agree size first first_too → Agree size among among_too →
    Agree size (is_chosen first among limit size) (is_chosen first_too among_too limit size)
chosen_same first first_too among among_too limit size same_first same_among n l =
    search (rules, ℕ, size, not, count_same, nat_lt, cond)

pub marks_chosen : {firsts amongs : List Bool} (chosen : List Bool) (first among : ℕ → Bool) (limit size : ℕ) → AreMarksByTest firsts size first →
    AreMarksByTest amongs size among →
    AreMarksByTest chosen (length amongs) (is_chosen (marked firsts) (marked amongs) limit (length amongs))
    → AreMarksByTest chosen size (is_chosen first among limit size)
marks_chosen {firsts} {amongs} chosen first among limit size tied_first tied_among told =
    let here : AreMarksByTest chosen size (is_chosen (marked firsts) (marked amongs) limit size) = rw tied_among.size at told in
    record {
      size = here.size;
      each = λ n l. here.each n l ∙ chosen_same (marked firsts) first
          (marked amongs) among limit size (λ k m. tied_first.each k m) (λ k m. tied_among.each k m) n l;
    }

pub marks_all : (size : ℕ) → AreMarksByTest (replicate size true) size (λ n. nat_lt n size)
marks_all size = record { size = length-replicate size true; each = λ n l. get_or-replicate size n true false l ∙ sym (lt-ltb n size l) }

pub rows_same : (h : List Event) (shown : List Bool) (test : ℕ → Bool) (rows : List Row)
    → AreMarksByTest shown (length h) test → AreRowsShown h (marked shown) rows → AreRowsShown h test rows
rows_same h shown test rows tied told = record {
  numbers = told.numbers ∙ filter_below (λ n. at has_row h n && marked shown n) (λ n. at has_row h n && test n) 0 (length h)
      (λ k l. ap (λ (x : Bool). at has_row h k && x) (tied.each k (omega arith)));
  each = told.each;
}

-- the marks of tracks, past their end too
marked_past : (marks : List Bool) (n : ℕ) → length marks ≤ n → marked marks n ≡ false
marked_past marks n l = get_or_past marks n false l

drawn_past : (h : List Event) (n : ℕ) → length h ≤ n → at is_drawn h n ≡ false
drawn_past h n l = ap (λ (o : Option Event). option_map_or is_drawn o false) (slice_get_past h n l)

pub shown_anywhere : (h : List Event) (shown : List Bool) → AreMarksByTest shown (length h) (is_shown h) → (n : ℕ) → marked shown n ≡ is_shown h n
shown_anywhere h shown tied n = search (rules, cases_lt, length, marked_past, and_left, drawn_past)

pub placed_anywhere : (h : List Event) (placed : List Bool) → AreMarksByTest placed (length h) (is_placed h) → (n : ℕ) → marked placed n ≡ is_placed h n
placed_anywhere h placed tied n = search (rules, cases_lt, length, marked_past, and_left, le-ltb)

-- a row is shown where the marks show its track
pub rowed_same : (h : List Event) (shown rowed : List Bool) → AreMarksByTest shown (length h) (is_shown h)
    → AreMarksByTest rowed (length h) (is_rowed_by (marked shown) h) →
    AreMarksByTest rowed (length h) (is_rowed h)
rowed_same h shown rowed tracks told = record {
  size = told.size;
  each = λ n l. told.each n l ∙ by_event n (slice_get h n);
} where
  by_event : (n : ℕ) (o : Option Event) → option_map_or (λ e. marked shown (track_of n e)) o false ≡ option_map_or (λ e. is_shown h (track_of n e)) o false
  by_event n None = refl
  by_event n (Some e) = shown_anywhere h shown tracks (track_of n e)

pub columns_same : (shown : List Bool) (size : ℕ) (test : ℕ → Bool) (columns : List ℕ)
    → AreMarksByTest shown size test → AreColumns (marked shown) (length shown) columns → AreColumns test size columns
columns_same shown size test columns tied told =
    let here : AreColumns (marked shown) size columns = rw tied.size at told in
    record {
      size = here.size;
      each = λ n l. here.each n l ∙ count_same (marked shown) test n (λ k m. tied.each k (omega arith));
    }

-- columns so far ----------------------------------------------------------------------------------

pub record ColumnsUpTo (test : ℕ → Bool) (n : ℕ) (columns : List ℕ) : Type 0 where
  pub size : length columns ≡ n
  pub each : (k : ℕ) → k < n → get_or columns k 0 ≡ count_below test k

pub columns_more : (test : ℕ → Bool) (n : ℕ) (columns : List ℕ) (before : ℕ) → ColumnsUpTo test n columns
    → before ≡ count_below test n → ColumnsUpTo test (n + 1) (columns ++ before ∷ [])
columns_more test n columns before tied is = record {
  size = length_push columns before ∙ ap (λ (j : ℕ). j + 1) tied.size;
  each = λ k l. let size = tied.size in ⊎_elim (λ m. get_old columns before k (omega arith) ∙ tied.each k m)
      (λ m. let last : k ≡ length columns = omega arith in let here : n ≡ k = omega arith in
      ap (λ (j : ℕ). get_or (columns ++ before ∷ []) j 0) last ∙ get_new columns before ∙ is ∙ ap (count_below test) here) (cases_lt k n);
}
