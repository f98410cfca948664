-- What stays of a history: what stands at each place, and what tests and counts say of it.
use Rattle.rx_event.proofs.Laws.Common.{◌≡◌, ℕ, ℤ, zero, suc, ◌+◌, ◌<◌, ◌≤◌, Bool, true, false, List, [], ◌∷◌, ◌++◌, length, Option, Some, None, cond}
use Rattle.rx_event.proofs.Laws.Common.{slice_get}
use Rattle.rx_event.proofs.Laws.Common.{refl, sym, ap, ◌∙◌, inl, inr, ◌⊎◌, arith, drop, take, filter, map, ◌||◌, append-nil, Kept}
use Rattle.rx_event.proofs.Laws.Common.{option_map, option_map_or, list_any, count_by, range_with_len, both_ways, sum_by-cons, length-map, length-filter}
use Rattle.rx_event.proofs.Laws.Common.{cases_lt, false_from_ne_true, slice_get_within, event_by, places, at, length-take-le, map-append}
use Rattle.rx_event.proofs.Laws.Common.{filter_map, cons_option, option_or, sum_by, sum_by_push}
use Rattle.rx_event.specs.Marks.{first_some}
use Rattle.rx_omitted.specs.Imports.{Event, Open, Item, End, Close, Root, Leaf, Terminal}
use Rattle.rx_omitted.specs.Named.{named_in, Stay_all}
use Rattle.rx_omitted.specs.Omitted.{number, staying, what_stays, NeedsNone, only_heard, lone_leaf, lone_end, lone_close}
use Rattle.rx_omitted.proofs.Omits.{Omits}
use Rattle.std.proofs.Common.{take-append-drop}
use Rattle.std.proofs.lemmas.List.{drop_at, drop_all, take-append-le}
use Rattle.std.proofs.lemmas.List.Elements.{filter-append}
use Rattle.rx_event.proofs.Laws.Places.{slice_get-append}
use Rattle.rx_event.proofs.Laws.Searches.{list_any_push}
use Rattle.rx_event.proofs.Laws.Sums.{below_push}
use Rattle.rx_omitted.proofs.Numbers.{number-le, length-what_stays, staying-append, numbered}

-- places ----------------------------------------------------------------------------------------------------

pub drop-what_stays : (omit : ℕ → Bool) (h : List Event) (n : ℕ) → drop (number omit n) (what_stays omit h) ≡ staying omit n (drop n h)
drop-what_stays omit h n = by_place (cases_lt (length h) n) where
  by_place : (length h < n) ⊎ (n ≤ length h) → drop (number omit n) (what_stays omit h) ≡ staying omit n (drop n h)
  by_place (inl past) =
      let long : length (what_stays omit h) ≤ number omit n = rw (length-what_stays omit h) (number-le omit (length h) n (omega arith)) in
      drop_all (number omit n) (what_stays omit h) long ∙ ap (staying omit n) (sym (drop_all n h (omega arith)))
  by_place (inr l) =
      let front : length (take n h) ≡ n = length-take-le n h l in
      let fits : length (staying omit 0 (take n h)) ≡ number omit n = length-what_stays omit (take n h) ∙ ap (number omit) front in
      let whole : what_stays omit h ≡ staying omit 0 (take n h) ++ staying omit (0 + length (take n h)) (drop n h) =
      ap (what_stays omit) (sym (take-append-drop n h)) ∙ staying-append omit 0 (take n h) (drop n h) in
      let place : 0 + length (take n h) ≡ n = omega arith in
      ap (drop (number omit n)) whole ∙ drop_at (staying omit 0 (take n h)) (staying omit (0 + length (take n h)) (drop n h)) (number omit n) fits ∙
      ap (λ k. staying omit k (drop n h)) place

pub slice_get-drop : {X : Type 0} (xs : List X) (n i : ℕ) → slice_get (drop n xs) i ≡ slice_get xs (n + i)
slice_get-drop xs zero i = let same : 0 + i ≡ i = omega arith in ap (slice_get xs) (sym same)
slice_get-drop [] (suc n) i = refl
slice_get-drop (x ∷ xs) (suc n) i = let same : suc n + i ≡ suc (n + i) = omega arith in slice_get-drop xs n i ∙ ap (slice_get (x ∷ xs)) (sym same)

slice_get-head : {X : Type 0} (xs : List X) (n : ℕ) → slice_get xs n ≡ slice_get (drop n xs) 0
slice_get-head xs n = let same : n + 0 ≡ n = omega arith in ap (slice_get xs) (sym same) ∙ sym (slice_get-drop xs n 0)

-- what stays stands by its new number
pub slice_by : (omit : ℕ → Bool) (h : List Event) (n : ℕ) → omit n ≡ false →
    slice_get (what_stays omit h) (number omit n) ≡ option_map (event_by (number omit)) (slice_get h n)
slice_by omit h n stay =
    slice_get-head (what_stays omit h) (number omit n) ∙ ap (λ (xs : List Event). slice_get xs 0) (drop-what_stays omit h n) ∙ first (drop n h) ∙
    ap (option_map (event_by (number omit))) (sym (slice_get-head h n))
  where
    first : (xs : List Event) → slice_get (staying omit n xs) 0 ≡ option_map (event_by (number omit)) (slice_get xs 0)
    first [] = refl
    first (x ∷ xs) = rw stay refl

-- one more event --------------------------------------------------------------------------------------------

pub what_stays-kept : (omit : ℕ → Bool) (h : List Event) (e : Event) → omit (length h) ≡ false →
    what_stays omit (h ++ e ∷ []) ≡ what_stays omit h ++ event_by (number omit) e ∷ []
what_stays-kept omit h e stay =
    let same : 0 + length h ≡ length h = omega arith in
    staying-append omit 0 h (e ∷ []) ∙ ap (λ n. what_stays omit h ++ staying omit n (e ∷ [])) same ∙
    ap (λ b. what_stays omit h ++ cond b [] (event_by (number omit) e ∷ [])) stay

pub what_stays-gone : (omit : ℕ → Bool) (h : List Event) (e : Event) → omit (length h) ≡ true → what_stays omit (h ++ e ∷ []) ≡ what_stays omit h
what_stays-gone omit h e gone =
    let same : 0 + length h ≡ length h = omega arith in
    staying-append omit 0 h (e ∷ []) ∙ ap (λ n. what_stays omit h ++ staying omit n (e ∷ [])) same ∙
    ap (λ b. what_stays omit h ++ cond b [] (event_by (number omit) e ∷ [])) gone ∙ append-nil (what_stays omit h)

shorter : (omit : ℕ → Bool) (h k : List Event) (n : ℕ) {e : Event} → take n k ≡ take n h → NeedsNone omit k n e → NeedsNone omit h n e
shorter omit h k n same (only_heard {leaf = l} {value = v} heard) = only_heard (rw same at heard)
shorter omit h k n same lone_leaf = lone_leaf
shorter omit h k n same (lone_end gone) = lone_end gone
shorter omit h k n same (lone_close gone) = lone_close gone

-- what may be left out of a history may be left out of what comes first
pub omit_before : (base : Kept) (omit : ℕ → Bool) (h t : List Event) → Omits base omit (h ++ t) → Omits base omit h
omit_before base omit h t a = record {
  front = a.front;
  each = λ n e at_n gone.
      let l = slice_get_within h n e at_n in
      shorter omit h (h ++ t) n (take-append-le n h t (omega arith)) (a.each n e (slice_get-append h t n l ∙ at_n) gone);
  apart = λ n e at_n stay. a.apart n e (slice_get-append h t n (slice_get_within h n e at_n) ∙ at_n) stay;
}

-- tests of events -------------------------------------------------------------------------------------------

-- A test by new numbers of what stays, which fails of what does not
pub record Renumbers (omit : ℕ → Bool) (p q : Event → Bool) : Type 0 where
  pub by : (e : Event) → Stay_all omit (named_in e) → q (event_by (number omit) e) ≡ p e
  pub item : (l : ℕ) (v : ℤ) → p (Item l v) ≡ false
  pub leaf : p (Open Root Leaf) ≡ false
  pub ends : (n : ℕ) (t : Terminal) → p (End n t) ≡ false
  pub closes : (n : ℕ) → p (Close n) ≡ false

pub fails : (omit : ℕ → Bool) (h : List Event) (n : ℕ) {p q : Event → Bool} → Renumbers omit p q → {e : Event} → NeedsNone omit h n e → p e ≡ false
fails omit h n test (only_heard {leaf = l} {value = v} heard) = test.item l v
fails omit h n test lone_leaf = test.leaf
fails omit h n test (lone_end {n = m} {t = t} gone) = test.ends m t
fails omit h n test (lone_close {n = m} gone) = test.closes m

pub list_any_staying : (omit : ℕ → Bool) (p q : Event → Bool) (place : ℕ) (xs : List Event) →
    ((i : ℕ) (e : Event) → slice_get xs i ≡ Some e → omit (place + i) ≡ false → q (event_by (number omit) e) ≡ p e) →
    ((i : ℕ) (e : Event) → slice_get xs i ≡ Some e → omit (place + i) ≡ true → p e ≡ false) → list_any q (staying omit place xs) ≡ list_any p xs
list_any_staying omit p q place [] stays goes = refl
list_any_staying omit p q place (x ∷ xs) stays goes = by_test (omit place) refl
    (list_any_staying omit p q (suc place) xs (λ i e at_i stay. stays (suc i) e at_i (ap omit (next i) ∙ stay))
    (λ i e at_i gone. goes (suc i) e at_i (ap omit (next i) ∙ gone)))
  where
    next : (i : ℕ) → place + suc i ≡ suc place + i
    next i = omega arith

    here : place + 0 ≡ place
    here = omega arith

    by_test : (b : Bool) → omit place ≡ b → list_any q (staying omit (suc place) xs) ≡ list_any p xs →
        list_any q (cond b (staying omit (suc place) xs) (event_by (number omit) x ∷ staying omit (suc place) xs)) ≡ (p x || list_any p xs)
    by_test true gone later = later ∙ ap (λ b. b || list_any p xs) (sym (goes 0 x refl (ap omit here ∙ gone)))
    by_test false stay later = λ i. stays 0 x refl (ap omit here ∙ stay) i || later i

pub count_by_staying : (omit : ℕ → Bool) (p q : Event → Bool) (place : ℕ) (xs : List Event) →
    ((i : ℕ) (e : Event) → slice_get xs i ≡ Some e → omit (place + i) ≡ false → q (event_by (number omit) e) ≡ p e) →
    ((i : ℕ) (e : Event) → slice_get xs i ≡ Some e → omit (place + i) ≡ true → p e ≡ false) → count_by q (staying omit place xs) ≡ count_by p xs
count_by_staying omit p q place [] stays goes = refl
count_by_staying omit p q place (x ∷ xs) stays goes = by_test (omit place) refl
    (count_by_staying omit p q (suc place) xs (λ i e at_i stay. stays (suc i) e at_i (ap omit (next i) ∙ stay))
    (λ i e at_i gone. goes (suc i) e at_i (ap omit (next i) ∙ gone)))
  where
    next : (i : ℕ) → place + suc i ≡ suc place + i
    next i = omega arith

    here : place + 0 ≡ place
    here = omega arith

    counted : (t : Event → Bool) (y : Event) (ys : List Event) → count_by t (y ∷ ys) ≡ cond (t y) 1 0 + count_by t ys
    counted t y ys = sum_by-cons (λ z. cond (t z) 1 0) y ys

    by_test : (b : Bool) → omit place ≡ b → count_by q (staying omit (suc place) xs) ≡ count_by p xs →
        count_by q (cond b (staying omit (suc place) xs) (event_by (number omit) x ∷ staying omit (suc place) xs)) ≡ count_by p (x ∷ xs)
    by_test true gone later =
        let none : cond {A = ℕ} (p x) 1 0 ≡ 0 = ap (λ b. cond {A = ℕ} b 1 0) (goes 0 x refl (ap omit here ∙ gone)) in
        let first = counted p x xs in omega arith
    by_test false stay later =
        let one : cond {A = ℕ} (q (event_by (number omit) x)) 1 0 ≡ cond (p x) 1 0 = ap (λ b. cond {A = ℕ} b 1 0) (stays 0 x refl (ap omit here ∙ stay)) in
        let first = counted p x xs in let second = counted q (event_by (number omit) x) (staying omit (suc place) xs) in omega arith

pub filter_map_staying : {Y : Type 0} (omit : ℕ → Bool) (p q : Event → Option Y) (place : ℕ) (xs : List Event) →
    ((i : ℕ) (e : Event) → slice_get xs i ≡ Some e → omit (place + i) ≡ false → q (event_by (number omit) e) ≡ p e) →
    ((i : ℕ) (e : Event) → slice_get xs i ≡ Some e → omit (place + i) ≡ true → p e ≡ None) → filter_map q (staying omit place xs) ≡ filter_map p xs
filter_map_staying omit p q place [] stays goes = refl
filter_map_staying {Y = Y} omit p q place (x ∷ xs) stays goes = by_test (omit place) refl
    (filter_map_staying omit p q (suc place) xs (λ i e at_i stay. stays (suc i) e at_i (ap omit (next i) ∙ stay))
    (λ i e at_i gone. goes (suc i) e at_i (ap omit (next i) ∙ gone)))
  where
    next : (i : ℕ) → place + suc i ≡ suc place + i
    next i = omega arith

    here : place + 0 ≡ place
    here = omega arith

    by_test : (b : Bool) → omit place ≡ b → filter_map q (staying omit (suc place) xs) ≡ filter_map p xs →
        filter_map q (cond b (staying omit (suc place) xs) (event_by (number omit) x ∷ staying omit (suc place) xs)) ≡ cons_option (p x) (filter_map p xs)
    by_test true gone later = later ∙ ap (λ (o : Option Y). cons_option o (filter_map p xs)) (sym (goes 0 x refl (ap omit here ∙ gone)))
    by_test false stay later = λ i. cons_option (stays 0 x refl (ap omit here ∙ stay) i) (later i)

-- so the first value that there is
first_of : {X Y : Type 0} (f : X → Option Y) (xs : List X) → first_some f xs ≡ slice_get (filter_map f xs) 0
first_of f [] = refl
first_of {Y = Y} f (x ∷ xs) = by_value (f x) (first_of f xs) where
  by_value : (o : Option Y) → first_some f xs ≡ slice_get (filter_map f xs) 0 → option_or o (first_some f xs) ≡ slice_get (cons_option o (filter_map f xs)) 0
  by_value None rest = rest
  by_value (Some y) rest = refl

pub first_some_staying : {Y : Type 0} (omit : ℕ → Bool) (p q : Event → Option Y) (place : ℕ) (xs : List Event) →
    ((i : ℕ) (e : Event) → slice_get xs i ≡ Some e → omit (place + i) ≡ false → q (event_by (number omit) e) ≡ p e) →
    ((i : ℕ) (e : Event) → slice_get xs i ≡ Some e → omit (place + i) ≡ true → p e ≡ None) → first_some q (staying omit place xs) ≡ first_some p xs
first_some_staying {Y = Y} omit p q place xs stays goes = first_of q (staying omit place xs) ∙
    ap (λ (ys : List Y). slice_get ys 0) (filter_map_staying omit p q place xs stays goes) ∙ sym (first_of p xs)

module _ (base : Kept) (omit : ℕ → Bool) (h : List Event) (a : Omits base omit h) where
  pub at_here : (i : ℕ) → 0 + i ≡ i
  at_here i = omega arith

  pub list_any-what_stays : (p q : Event → Bool) → Renumbers omit p q → list_any q (what_stays omit h) ≡ list_any p h
  list_any-what_stays p q test = list_any_staying omit p q 0 h (λ i e at_i stay. test.by e (a.apart i e at_i (ap omit (sym (at_here i)) ∙ stay)))
      (λ i e at_i gone. fails omit h i test (a.each i e at_i (ap omit (sym (at_here i)) ∙ gone)))

  pub count_by-what_stays : (p q : Event → Bool) → Renumbers omit p q → count_by q (what_stays omit h) ≡ count_by p h
  count_by-what_stays p q test = count_by_staying omit p q 0 h (λ i e at_i stay. test.by e (a.apart i e at_i (ap omit (sym (at_here i)) ∙ stay)))
      (λ i e at_i gone. fails omit h i test (a.each i e at_i (ap omit (sym (at_here i)) ∙ gone)))

  -- at one place
  pub at_by : (p q : Event → Bool) → ((e : Event) → Stay_all omit (named_in e) → q (event_by (number omit) e) ≡ p e) → (n : ℕ) → omit n ≡ false →
      at q (what_stays omit h) (number omit n) ≡ at p h n
  at_by p q by n stay = ap (λ o. option_map_or q o false) (slice_by omit h n stay) ∙ by_event (slice_get h n) refl where
    by_event : (o : Option Event) → slice_get h n ≡ o → option_map_or q (option_map (event_by (number omit)) o) false ≡ option_map_or p o false
    by_event None at_n = refl
    by_event (Some e) at_n = by e (a.apart n e at_n stay)

  pub at_gone : (p q : Event → Bool) → Renumbers omit p q → (n : ℕ) → omit n ≡ true → at p h n ≡ false
  at_gone p q test n gone = by_event (slice_get h n) refl where
    by_event : (o : Option Event) → slice_get h n ≡ o → option_map_or p o false ≡ false
    by_event None at_n = refl
    by_event (Some e) at_n = fails omit h n test (a.each n e at_n gone)

  pub at_stays : (p q : Event → Bool) → Renumbers omit p q → (n : ℕ) → at p h n ≡ true → omit n ≡ false
  at_stays p q test n holds = false_from_ne_true (omit n) (λ gone. both_ways (at p h n) (at_gone p q test n gone) holds)

  -- what stands there is what stays
  pub number_from : (m : ℕ) → m < length (what_stays omit h) → (n : ℕ) × (n < length h) × (omit n ≡ false) × (number omit n ≡ m)
  number_from m l = numbered omit (length h) m (let e = length-what_stays omit h in omega arith)

-- tests of places -------------------------------------------------------------------------------------------

module _ (omit : ℕ → Bool) (p q : ℕ → Bool) (stays : (n : ℕ) → omit n ≡ false → q (number omit n) ≡ p n) (goes : (n : ℕ) → omit n ≡ true → p n ≡ false) where
  filter_numbers : (n : ℕ) → filter q (range_with_len 0 (number omit n)) ≡ map (number omit) (filter p (range_with_len 0 n))
  filter_numbers zero = refl
  filter_numbers (suc n) = by_test (omit n) refl (filter_numbers n) ∙ sym (ap (λ xs. map (number omit) (filter p xs)) (below_push n) ∙
      ap (map (number omit)) (filter-append p (range_with_len 0 n) (n ∷ [])) ∙ map-append (number omit) (filter p (range_with_len 0 n)) (filter p (n ∷ [])))
    where
      one : (b : Bool) → cond b (number omit n ∷ []) [] ≡ map (number omit) (cond b (n ∷ []) [])
      one true = refl
      one false = refl

      by_test : (b : Bool) → omit n ≡ b → filter q (range_with_len 0 (number omit n)) ≡ map (number omit) (filter p (range_with_len 0 n)) →
          filter q (range_with_len 0 (cond b (number omit n) (suc (number omit n)))) ≡
          map (number omit) (filter p (range_with_len 0 n)) ++ map (number omit) (filter p (n ∷ []))
      by_test true gone rest =
          rest ∙ sym (append-nil _) ∙ ap (λ b. map (number omit) (filter p (range_with_len 0 n)) ++ map (number omit) (cond b (n ∷ []) [])) (sym (goes n gone))
      by_test false stay rest = ap (filter q) (below_push (number omit n)) ∙ filter-append q (range_with_len 0 (number omit n)) (number omit n ∷ []) ∙
          (λ i. rest i ++ (ap (λ b. cond b (number omit n ∷ []) []) (stays n stay) ∙ one (p n)) i)

  pub filter_places : (h : List Event) → filter q (places (what_stays omit h)) ≡ map (number omit) (filter p (places h))
  filter_places h = ap (λ n. filter q (range_with_len 0 n)) (length-what_stays omit h) ∙ filter_numbers (length h)

  pub count_places : (h : List Event) → count_by q (places (what_stays omit h)) ≡ count_by p (places h)
  count_places h = sym (length-filter q (places (what_stays omit h))) ∙ ap length (filter_places h) ∙ length-map (filter p (places h)) (number omit) ∙
      length-filter p (places h)

  any_numbers : (n : ℕ) → list_any q (range_with_len 0 (number omit n)) ≡ list_any p (range_with_len 0 n)
  any_numbers zero = refl
  any_numbers (suc n) = by_test (omit n) refl (any_numbers n) ∙ sym (ap (list_any p) (below_push n) ∙ list_any_push p (range_with_len 0 n) n) where
    by_test : (b : Bool) → omit n ≡ b → list_any q (range_with_len 0 (number omit n)) ≡ list_any p (range_with_len 0 n) →
        list_any q (range_with_len 0 (cond b (number omit n) (suc (number omit n)))) ≡ (list_any p (range_with_len 0 n) || p n)
    by_test true gone rest = rest ∙ shape (list_any p (range_with_len 0 n)) ∙ ap (λ b. list_any p (range_with_len 0 n) || b) (sym (goes n gone)) where
      shape : (b : Bool) → b ≡ (b || false)
      shape true = refl
      shape false = refl
    by_test false stay rest = ap (list_any q) (below_push (number omit n)) ∙ list_any_push q (range_with_len 0 (number omit n)) (number omit n) ∙
        (λ i. rest i || stays n stay i)

  pub any_places : (h : List Event) → list_any q (places (what_stays omit h)) ≡ list_any p (places h)
  any_places h = ap (λ n. list_any q (range_with_len 0 n)) (length-what_stays omit h) ∙ any_numbers (length h)

module _ (omit : ℕ → Bool) where
  sum_numbers : (f g : ℕ → ℕ) → ((n : ℕ) → omit n ≡ false → g (number omit n) ≤ f n) → (n : ℕ) →
      sum_by g (range_with_len 0 (number omit n)) ≤ sum_by f (range_with_len 0 n)
  sum_numbers f g less zero = omega arith
  sum_numbers f g less (suc n) = by_test (omit n) refl (sum_numbers f g less n) where
    last : (t : ℕ → ℕ) (m : ℕ) → sum_by t (range_with_len 0 (suc m)) ≡ sum_by t (range_with_len 0 m) + t m
    last t m = ap (sum_by t) (below_push m) ∙ sum_by_push t (range_with_len 0 m) m

    by_test : (b : Bool) → omit n ≡ b → sum_by g (range_with_len 0 (number omit n)) ≤ sum_by f (range_with_len 0 n) →
        sum_by g (range_with_len 0 (cond b (number omit n) (suc (number omit n)))) ≤ sum_by f (range_with_len 0 (suc n))
    by_test true gone rest = let more = last f n in omega arith
    by_test false stay rest = let more = last f n in let also = last g (number omit n) in let one = less n stay in omega arith

  -- no term of what stays is more
  pub sum_places : (f g : ℕ → ℕ) → ((n : ℕ) → omit n ≡ false → g (number omit n) ≤ f n) → (h : List Event) →
      sum_by g (places (what_stays omit h)) ≤ sum_by f (places h)
  sum_places f g less h =
      let short = sum_numbers f g less (length h) in
      let same : sum_by g (places (what_stays omit h)) ≡ sum_by g (range_with_len 0 (number omit (length h))) =
      ap (λ n. sum_by g (range_with_len 0 n)) (length-what_stays omit h) in omega arith
