-- The front of words is filled with a list, one after another.
use Rattle.std.proofs.Common.{◌≡◌, ℕ, zero, suc, ◌+◌, ◌-◌, ◌<◌, ◌≤◌, List, [], ◌∷◌, length, take, drop, map, get_or, set, Some, None, refl, min}
use Rattle.std.proofs.Common.{sym, ◌∙◌, ap, arith}
use Rattle.std.specs.Prelude.{slice_get}
use Rattle.rx_lanes.specs.declared.names.Due.{Due}
use Rattle.rx_cellar.specs.Words.{word_of_due}
use Rattle.rx_cellar.specs.Cellars.{filled}

next_place : (k : ℕ) → k + 1 ≡ suc k
next_place k = omega arith

pub length_filled : (ys ws : List ℕ) → length (filled ys ws) ≡ length ws
length_filled [] ws = refl
length_filled (y ∷ ys) [] = refl
length_filled (y ∷ ys) (w ∷ ws) = ap suc (length_filled ys ws)

-- one more
fill_next : (ys ws : List ℕ) (count x : ℕ) → slice_get ys count ≡ Some x → count < length ws → set (filled (take count ys) ws) count x ≡ filled (take (suc count) ys) ws
fill_next [] ws count x e within = cc
fill_next (y ∷ ys) [] count x e within = let h : count < 0 = within in absurd (omega (arith, h))
fill_next (y ∷ ys) (w ∷ ws) zero x e within = let same : y ≡ x = cc in ap (λ z. z ∷ ws) (sym same)
fill_next (y ∷ ys) (w ∷ ws) (suc count) x e within =
    let h : suc count < suc (length ws) = within in
    ap (λ zs. y ∷ zs) (fill_next ys ws count x e (omega (arith, h)))

-- the words are full
fill_full : (ys ws : List ℕ) (count : ℕ) → length ws ≤ count → filled (take count ys) ws ≡ filled ys ws
fill_full [] ws zero h = refl
fill_full [] ws (suc count) h = refl
fill_full (y ∷ ys) [] zero h = refl
fill_full (y ∷ ys) [] (suc count) h = refl
fill_full (y ∷ ys) (w ∷ ws) zero h = let l : suc (length ws) ≤ 0 = h in absurd (omega (arith, l))
fill_full (y ∷ ys) (w ∷ ws) (suc count) h =
    let l : suc (length ws) ≤ suc count = h in
    ap (λ zs. y ∷ zs) (fill_full ys ws count (omega (arith, l)))

-- the list is at its end
take_whole : (ys : List ℕ) (count : ℕ) → length ys ≤ count → take count ys ≡ ys
take_whole [] zero h = refl
take_whole [] (suc count) h = refl
take_whole (y ∷ ys) zero h = let l : suc (length ys) ≤ 0 = h in absurd (omega (arith, l))
take_whole (y ∷ ys) (suc count) h =
    let l : suc (length ys) ≤ suc count = h in
    ap (λ zs. y ∷ zs) (take_whole ys count (omega (arith, l)))

length_dropped : (xs : List ℕ) (from : ℕ) → length (drop from xs) ≡ length xs - from
length_dropped [] zero = refl
length_dropped [] (suc from) = omega arith
length_dropped (x ∷ xs) zero = omega arith
length_dropped (x ∷ xs) (suc from) = let l = length_dropped xs from in let e : suc (length xs) - suc from ≡ length xs - from = omega arith in l ∙ sym e

get_dropped : (xs : List ℕ) (from k : ℕ) → slice_get (drop from xs) k ≡ slice_get xs (from + k)
get_dropped xs zero k = ap (slice_get xs) (let e : k ≡ 0 + k = omega arith in e)
get_dropped [] (suc from) k = refl
get_dropped (x ∷ xs) (suc from) k = get_dropped xs from k ∙ ap (slice_get (x ∷ xs)) (let e : suc (from + k) ≡ suc from + k = omega arith in e)

-- so many words are filled
pub record Fills (xs : List ℕ) (from n count : ℕ) (ws words : List ℕ) : Type 0 where
  pub begun : from ≤ n
  pub count_is : count ≡ n - from
  pub fits : count ≤ length ws
  pub within : count ≤ length xs - from
  pub words_are : words ≡ filled (take count (drop from xs)) ws

pub fill_starts : (xs : List ℕ) (from : ℕ) (ws : List ℕ) → Fills xs from from 0 ws ws
fill_starts xs from ws = record {
  begun = omega arith;
  count_is = omega arith;
  fits = omega arith;
  within = omega arith;
  words_are = of (drop from xs);
} where
  of : (ys : List ℕ) → ws ≡ filled (take 0 ys) ws
  of [] = refl
  of (y ∷ ys) = refl

pub fills_long : {xs : List ℕ} {from n count : ℕ} {ws words : List ℕ} → Fills xs from n count ws words → length words ≡ length ws
fills_long {xs} {from} {n} {count} {ws} f = ap length f.words_are ∙ length_filled (take count (drop from xs)) ws

pub fill_steps : {xs : List ℕ} {from n count : ℕ} {ws words : List ℕ} (x : ℕ) (words' : List ℕ) → Fills xs from n count ws words → slice_get xs n ≡ Some x → n < length xs →
    count < length ws → words' ≡ set words count x → Fills xs from (n + 1) (count + 1) ws words'
fill_steps {xs} {from} {n} {count} {ws} {words} x words' f there inside room is =
    let place : n ≡ from + count = omega (arith, f.begun, f.count_is) in
    let got : slice_get (drop from xs) count ≡ Some x = get_dropped xs from count ∙ ap (slice_get xs) (sym place) ∙ there in
    record {
      begun = omega (arith, f.begun);
      count_is = omega (arith, f.count_is, f.begun);
      fits = omega (arith, room);
      within = omega (arith, f.count_is, f.begun, inside);
      words_are = is ∙ ap (λ zs. set zs count x) f.words_are ∙ fill_next (drop from xs) ws count x got room ∙ ap (λ k. filled (take k (drop from xs)) ws) (sym (next_place count));
    }

pub fill_full_ends : {xs : List ℕ} {from n count : ℕ} {ws words : List ℕ} → Fills xs from n count ws words → count ≡ length ws → words ≡ filled (drop from xs) ws
fill_full_ends {xs} {from} {n} {count} {ws} f e = f.words_are ∙ fill_full (drop from xs) ws count (omega (arith, e))

pub fill_ends : {xs : List ℕ} {from n count : ℕ} {ws words : List ℕ} → Fills xs from n count ws words → length xs ≤ n → words ≡ filled (drop from xs) ws
fill_ends {xs} {from} {n} {count} {ws} f e =
    let l = length_dropped xs from in
    f.words_are ∙ ap (λ ys. filled ys ws) (take_whole (drop from xs) count (omega (arith, l, e, f.count_is)))

pub fill_counts : {xs : List ℕ} {from n count : ℕ} {ws words : List ℕ} → Fills xs from n count ws words → length xs ≤ n → count ≡ min (length ws) (length xs - from)
fill_counts {xs} {from} {n} {count} {ws} f e = omega (arith, e, f.begun, f.count_is, f.fits, f.within)

pub there_is : (xs : List ℕ) (n : ℕ) → n < length xs → slice_get xs n ≡ None → ⊥
there_is [] n h e = let l : n < 0 = h in absurd (omega (arith, l))
there_is (x ∷ xs) zero h e = cc
there_is (x ∷ xs) (suc n) h e = let l : suc n < suc (length xs) = h in there_is xs n (omega (arith, l)) e

pub got_mapped : (ds : List Due) (n : ℕ) (d : Due) → n < length ds → slice_get (map word_of_due ds) n ≡ Some (word_of_due (get_or ds n d))
got_mapped [] n d h = let l : n < 0 = h in absurd (omega (arith, l))
got_mapped (x ∷ ds) zero d h = refl
got_mapped (x ∷ ds) (suc n) d h = let l : suc n < suc (length ds) = h in got_mapped ds n d (omega (arith, l))

-- none, and one ----------------------------------------------------------------------------------------------

pub one_filled : (xs ws : List ℕ) (x : ℕ) → slice_get xs 0 ≡ Some x → length xs ≡ 1 → filled (x ∷ []) ws ≡ filled xs ws
one_filled [] ws x there one = absurd (cc)
one_filled (y ∷ []) ws x there one = let same : y ≡ x = cc in ap (λ z. filled (z ∷ []) ws) (sym same)
one_filled (y ∷ z ∷ zs) ws x there one = let l : suc (suc (length zs)) ≡ 1 = one in absurd (omega (arith, l))

pub none_filled : (xs ws : List ℕ) → slice_get xs 0 ≡ None → ws ≡ filled xs ws
none_filled [] ws none = refl
none_filled (x ∷ xs) ws none = absurd (cc)

pub word_set : (x : ℕ) (ws : List ℕ) → set ws 0 x ≡ filled (x ∷ []) ws
word_set x [] = refl
word_set x (w ∷ ws) = refl

pub no_word_set : (x : ℕ) (ws : List ℕ) → length ws ≤ 0 → ws ≡ filled (x ∷ []) ws
no_word_set x [] h = refl
no_word_set x (w ∷ ws) h = let l : suc (length ws) ≤ 0 = h in absurd (omega (arith, l))
