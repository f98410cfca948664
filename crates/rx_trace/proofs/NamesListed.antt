-- Names, by numbers: the one of a number, and lists of them, one more at a time.
use Rattle.rx_trace.proofs.Common.{◌≡◌, ◌∙◌, Option, sym, ◌++◌, ap, refl, List, None, [], ℕ, suc, ◌∷◌, ◌+◌, ◌<◌, ◌==◌, Bool, true, false, map, filter, length, take, drop}
use Rattle.rx_trace.proofs.Common.{Some, option_or, ◌≢◌, ◌≤◌, subst, take_all, eq-eqb, ne_eqb, get_or, cond, find, take_more, map-append, find-append, take-append-drop, Binding}
use Rattle.rx_trace.proofs.Common.{inl, inr, ◌⊎◌, arith, length-take, Rise}
use Rattle.std.proofs.Common.{ltb}
use Rattle.std.proofs.lemmas.Bool.{ltb-true, ltb-false, cases_lt}
use Rattle.std.proofs.lemmas.List.{get_or-map, get_or-take, get_or_default, length-map}
use Rattle.std.proofs.lemmas.List.Sorted.{IsPartitionedBy-ltb}
use Rattle.std.specs.List.Sorted.{IsNonDecreasingBy, IsPartitionPoint, IsPartitionedBy}
use Rattle.std.specs.Option.{option_map_or}
use Rattle.rx_trace.proofs.Common.{name_by_number, names_where, name_text}

-- the first of this number
abbrev pub first_by : ℕ → List Binding → Option Binding
first_by n bindings = find (λ (b : Binding). b.number == n) bindings

-- one name more, where it is so
names_push : (is_so : ℕ → Bool) (bindings : List Binding) (b : Binding)
    → map name_text (names_where is_so (bindings ++ b ∷ []))
    ≡ map name_text (names_where is_so bindings) ++ cond (is_so b.number) (name_text b.name ∷ []) []
names_push is_so [] b = by_test (is_so b.number) where
  by_test : (is : Bool) → map name_text (map (λ (c : Binding). c.name) (cond is (b ∷ []) [])) ≡ [] ++ cond is (name_text b.name ∷ []) []
  by_test true = refl
  by_test false = refl
names_push is_so (c ∷ bindings) b = by_test (is_so c.number) (names_push is_so bindings b) where
  by_test : (is : Bool)
      → map name_text (names_where is_so (bindings ++ b ∷ []))
      ≡ map name_text (names_where is_so bindings) ++ cond (is_so b.number) (name_text b.name ∷ []) []
      → map name_text (map (λ (d : Binding). d.name) (cond is (c ∷ filter (λ (d : Binding). is_so d.number) (bindings ++ b ∷ []))
      (filter (λ (d : Binding). is_so d.number) (bindings ++ b ∷ []))))
      ≡ map name_text (map (λ (d : Binding). d.name) (cond is (c ∷ filter (λ (d : Binding). is_so d.number) bindings)
      (filter (λ (d : Binding). is_so d.number) bindings))) ++ cond (is_so b.number) (name_text b.name ∷ []) []
  by_test true rest = ap (λ l. name_text c.name ∷ l) rest
  by_test false rest = rest

no_name : (bindings : List Binding) (n : ℕ) → first_by n bindings ≡ None → [] ≡ name_by_number bindings n
unfolding name_by_number
no_name bindings n none = rw none refl

-- where none of all has the number
pub none_at_end : {A : Type 0} (binding : A → Binding) (xs : List A) (i n : ℕ) → first_by n (map binding (take i xs)) ≡ None → length xs ≤ i
    → [] ≡ name_by_number (map binding xs) n
none_at_end binding xs i n none past =
    no_name (map binding xs) n (subst (λ l. first_by n (map binding l) ≡ None) (take_all i xs past) none)

module _ {A : Type 0} (binding : A → Binding) (xs : List A) (i : ℕ) (x : A) (within : i < length xs) (is : x ≡ get_or xs i x) where
  one_more : take (i + 1) xs ≡ take i xs ++ x ∷ []
  one_more = take_more xs i x within ∙ ap (λ y. take i xs ++ y ∷ []) (sym is)

  bindings_more : map binding (take (i + 1) xs) ≡ map binding (take i xs) ++ binding x ∷ []
  bindings_more = ap (map binding) one_more ∙ map-append binding (take i xs) (x ∷ [])

  bindings_whole : map binding xs ≡ (map binding (take i xs) ++ binding x ∷ []) ++ map binding (drop (i + 1) xs)
  bindings_whole = ap (map binding) (sym (take-append-drop (i + 1) xs)) ∙ map-append binding (take (i + 1) xs) (drop (i + 1) xs)
      ∙ ap (λ l. l ++ map binding (drop (i + 1) xs)) bindings_more

  -- the name of a number
  pub none_more : (n : ℕ) → first_by n (map binding (take i xs)) ≡ None → (binding x).number ≢ n
      → first_by n (map binding (take (i + 1) xs)) ≡ None
  none_more n none other = ap (first_by n) bindings_more ∙ find-append (λ (b : Binding). b.number == n) (map binding (take i xs)) (binding x ∷ [])
      ∙ rw (none, ne_eqb (binding x).number n other) refl

  found_there : (n : ℕ) → first_by n (map binding (take i xs)) ≡ None → (binding x).number ≡ n → first_by n (map binding xs) ≡ Some (binding x)
  found_there n none same = ap (first_by n) bindings_whole
      ∙ find-append (λ (b : Binding). b.number == n) (map binding (take i xs) ++ binding x ∷ []) (map binding (drop (i + 1) xs))
      ∙ ap (λ o. option_or o (first_by n (map binding (drop (i + 1) xs))))
      (find-append (λ (b : Binding). b.number == n) (map binding (take i xs)) (binding x ∷ [])
      ∙ (λ j. option_or (none j) (cond (eq-eqb (binding x).number n same j) (Some (binding x)) None)))

  pub name_there : (n : ℕ) → first_by n (map binding (take i xs)) ≡ None → (binding x).number ≡ n → (binding x).name ≡ name_by_number (map binding xs) n
  unfolding name_by_number
  name_there n none same = sym (ap (λ o. option_map_or (λ (b : Binding). b.name) o []) (found_there n none same))

  -- the names of those that are so
  pub names_next : (is_so : ℕ → Bool) (value : Bool) (texts longer : List (List ℕ)) → value ≡ is_so (binding x).number
      → texts ≡ map name_text (names_where is_so (map binding (take i xs))) → longer ≡ texts ++ cond value (name_text (binding x).name ∷ []) []
      → longer ≡ map name_text (names_where is_so (map binding (take (i + 1) xs)))
  names_next is_so value texts longer is before here =
      here ∙ (λ j. before j ++ cond (is j) (name_text (binding x).name ∷ []) []) ∙ sym (names_push is_so (map binding (take i xs)) (binding x))
      ∙ sym (ap (λ l. map name_text (names_where is_so l)) bindings_more)

-- by rising numbers ----------------------------------------------------------------------------------

none_of : {A : Type 0} (binding : A → Binding) (n : ℕ) (xs : List A) → ((k : ℕ) (d : A) → k < length xs → (binding (get_or xs k d)).number ≢ n)
    → first_by n (map binding xs) ≡ None
none_of binding n [] other = refl
none_of binding n (x ∷ xs) other =
    ap (λ b. cond b (Some (binding x)) (first_by n (map binding xs))) (ne_eqb (binding x).number n (other 0 x (omega arith)))
    ∙ none_of binding n xs (λ k d lt. other (suc k) d (omega arith))

module _ {A : Type 0} (binding : A → Binding) (xs : List A) (n : ℕ) where
  rise_of : Rise (map binding xs) → IsNonDecreasingBy (λ y. (binding y).number) xs
  rise_of rise i j d le lt =
      let long = length-map xs binding in
      let here = rise i j (binding d) le (omega arith) in
      let at_i = ap (λ (b : Binding). b.number) (get_or-map binding xs i d (binding d) (omega arith)) in
      let at_j = ap (λ (b : Binding). b.number) (get_or-map binding xs j d (binding d) lt) in
      omega arith

  -- what a search by halves asks
  pub parted : Rise (map binding xs) → IsPartitionedBy (λ y. ltb (binding y).number n) xs
  parted rise = IsPartitionedBy-ltb (λ y. (binding y).number) xs n (rise_of rise)

  -- what it finds: from here on no number is less
  module _ (i : ℕ) (point : IsPartitionPoint (λ y. ltb (binding y).number n ≡ true) (λ y. ltb (binding y).number n ≡ false) xs i) where
    below : (k : ℕ) (d : A) → k < i → (binding (get_or xs k d)).number ≢ n
    below k d lt same = let less = ltb-true (binding (get_or xs k d)).number n (point.0 k d (omega arith) lt) in omega arith

    none_before : first_by n (map binding (take i xs)) ≡ None
    none_before = none_of binding n (take i xs) (λ k d lt.
        let shorter = length-take i xs in
        subst (λ x. (binding x).number ≢ n) (sym (get_or-take i xs k d (omega arith))) (below k d (omega arith)))

    pub name_here : (x : A) → i < length xs → x ≡ get_or xs i x → (binding x).number ≡ n → (binding x).name ≡ name_by_number (map binding xs) n
    name_here x within is same = name_there binding xs i x within is n none_before same

    pub another_here : Rise (map binding xs) → (x : A) → i < length xs → x ≡ get_or xs i x → (binding x).number ≢ n
        → [] ≡ name_by_number (map binding xs) n
    another_here rise x within is other = no_name (map binding xs) n (none_of binding n xs each) where
      each : (k : ℕ) (d : A) → k < length xs → (binding (get_or xs k d)).number ≢ n
      each k d lt same = by_place (cases_lt k i) where
        by_place : (k < i) ⊎ (i ≤ k) → ⊥
        by_place (inl before) = below k d before same
        by_place (inr since) =
            let here = ltb-false (binding x).number n (subst (λ y. ltb (binding y).number n ≡ false) (sym is) (point.1 i x (omega arith) within)) in
            let risen = rise_of rise i k d since lt in
            let same_here = ap (λ y. (binding y).number) (is ∙ get_or_default xs i x d within) in
            other (omega arith)

    pub none_here : length xs ≤ i → [] ≡ name_by_number (map binding xs) n
    none_here past = no_name (map binding xs) n (subst (λ l. first_by n (map binding l) ≡ None) (take_all i xs past) none_before)
