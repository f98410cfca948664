-- What stands at each slot, where a free slot keeps its place among the free ones in the place of its number.
use Rattle.rx_slots.proofs.Common.{List, ◌≡◌, ◌≢◌, ℕ, zero, suc, ◌+◌, ◌-◌, ◌<◌, ◌≤◌, ◌==◌, ◌&&◌, ◌⊎◌, inl, inr, Bool, true, false, cond, [], ◌∷◌, ◌++◌}
use Rattle.rx_slots.proofs.Common.{length, get_or, set, slice_get, Option, Some, None, is_some, IsSome, option_map, refl, ap, sym, ◌∙◌, arith}
use Rattle.rx_slots.proofs.Common.{false≢true, true≢false, and_parts, nat_lt, cases_eq, cases_lt, zero-add, length_push, length-set, get_or_push, get_or_past}
use Rattle.rx_slots.proofs.Common.{get_or_append_left, get_or-set_same, get_or-set_other, entry_of, with_number, Entry}
use Rattle.rx_slots.specs.Kept.{first_place, is_free, standing, standing_from, AreTold}
use Rattle.rx_slots.proofs.KeptLemmas.{below_length}
use Rattle.std.specs.Option.{option_to_list}
use Rattle.std.proofs.Common.{ap₂, eqb-true, ne_eqb, eq-eqb, lt-ltb, ltb-true, nat_le}
use Rattle.std.proofs.lemmas.Bool.{le-leb, leb-true}
use Rattle.std.proofs.lemmas.Grind.{get_or_default_zero}
use Rattle.std.proofs.lemmas.List.{ext_get_or}
use Rattle.std.proofs.lemmas.Option.{get_or_from_slice_get, slice_get-get_or, slice_get_within}

-- a list without a last has none
pub none_last : {X : Type 0} (xs : List X) → slice_get xs (length xs - 1) ≡ None → xs ≡ []
none_last [] none = refl
none_last (x ∷ xs) none = absurd (true≢false (ap is_some (sym (slice_get-get_or (x ∷ xs) (length (x ∷ xs) - 1) x (omega arith)) ∙ none)))

-- and one from which the last was taken ends with it
pub popped : (xs ys : List ℕ) (r : Option ℕ) (x n : ℕ) → xs ≡ ys ++ option_to_list r → ((d : ℕ) → 0 < n → r ≡ Some (get_or xs (n - 1) d)) →
    n ≡ length xs → slice_get xs (length xs - 1) ≡ Some x → xs ≡ ys ++ x ∷ []
popped xs ys r x n parts value long last =
    let some = slice_get_within xs (length xs - 1) x last in
    parts ∙ ap (λ o. ys ++ option_to_list o) (value x (omega (arith, some, long)) ∙ ap (λ k. Some (get_or xs (k - 1) x)) long
    ∙ ap (λ y. Some y) (get_or_from_slice_get xs (length xs - 1) x x last))

is_here : (free : List ℕ) (place slot : ℕ) → place < length free → get_or free place 0 ≡ slot → is_free free (place + first_place) slot ≡ true
is_here free place slot below at =
    let back : place + first_place - first_place ≡ place = omega arith in
    ap₂ (λ (a : Bool) (b : Bool). a && b) (le-leb first_place (place + first_place) (omega arith)) (ap₂ (λ (a : Bool) (b : Bool). a && b)
    (ap (λ k. nat_lt k (length free)) back ∙ lt-ltb place (length free) below)
    (ap (λ k. get_or free k 0 == slot) back ∙ eq-eqb (get_or free place 0) slot at))

-- it is not free where that tells of another slot, or of none
not_here : (free : List ℕ) (number slot : ℕ) →
    (first_place ≤ number → number - first_place < length free → get_or free (number - first_place) 0 ≢ slot) → is_free free number slot ≡ false
not_here free number slot apart = of (is_free free number slot) refl where
  of : (b : Bool) → is_free free number slot ≡ b → is_free free number slot ≡ false
  of false is = is
  of true is =
      let far = and_parts (nat_le first_place number) _ is in
      let at = and_parts (nat_lt (number - first_place) (length free)) _ far.1 in
      absurd (apart (leb-true first_place number far.0) (ltb-true (number - first_place) (length free) at.0)
      (eqb-true (get_or free (number - first_place) 0) slot at.1))

-- one more free slot changes nothing for the others
free_push : (free : List ℕ) (last number slot : ℕ) → slot ≢ last → is_free (free ++ last ∷ []) number slot ≡ is_free free number slot
free_push free last number slot apart = of (cases_lt (number - first_place) (length free)) where
  long : length (free ++ last ∷ []) ≡ length free + 1
  long = length_push free last

  of : ((number - first_place < length free) ⊎ (length free ≤ number - first_place)) →
      is_free (free ++ last ∷ []) number slot ≡ is_free free number slot
  of (inl below) =
      ap (λ (b : Bool). nat_le first_place number && b) (ap₂ (λ (a : Bool) (b : ℕ). a && (b == slot))
      (lt-ltb (number - first_place) (length (free ++ last ∷ [])) (omega (arith, below, long))
      ∙ sym (lt-ltb (number - first_place) (length free) below)) (get_or_append_left free (last ∷ []) 0 (number - first_place) below))
  of (inr past) =
      not_here (free ++ last ∷ []) number slot
      (λ far below e. apart (sym e ∙ get_or_push free last 0 (number - first_place) (omega (arith, past, below, long))))
      ∙ sym (not_here free number slot (λ far below. absurd (omega (arith, past, below))))

module _ {T : Type 0} where
  used : (free : List ℕ) (slot n : ℕ) (v : T) → is_free free n slot ≡ false → standing free slot n v ≡ Some (entry_of n v)
  used free slot n v is = ap (λ b. cond b None (Some (entry_of n v))) is

  unused : (free : List ℕ) (slot n : ℕ) (v : T) → is_free free n slot ≡ true → standing free slot n v ≡ None
  unused free slot n v is = ap (λ b. cond b None (Some (entry_of n v))) is

  pub length_from : (free : List ℕ) (slot : ℕ) (ns : List ℕ) (vs : List T) → length ns ≡ length vs → length (standing_from free slot ns vs) ≡ length vs
  length_from free slot [] vs same = same
  length_from free slot (n ∷ ns) [] same = absurd (omega (arith, same))
  length_from free slot (n ∷ ns) (v ∷ vs) same = ap suc (length_from free (slot + 1) ns vs (omega (arith, same)))

  -- what stands at a slot, by its number
  record IsAt (free : List ℕ) (from : ℕ) (ns : List ℕ) (vs : List T) (i slot : ℕ) : Type 0 where
    value : T
    read : (d : T) → get_or vs i d ≡ value
    stands : get_or (standing_from free from ns vs) i None ≡ standing free slot (get_or ns i 0) value

  at_slot : (free : List ℕ) (from : ℕ) (ns : List ℕ) (vs : List T) (i slot : ℕ) → length ns ≡ length vs → i < length vs →
      from + i ≡ slot → IsAt free from ns vs i slot
  at_slot free from [] vs i slot same below is = absurd (omega (arith, same, below))
  at_slot free from (n ∷ ns) [] i slot same below is = absurd (omega (arith, below))
  at_slot free from (n ∷ ns) (v ∷ vs) zero slot same below is =
      record { value = v; read = λ d. refl; stands = ap (λ k. standing free k n v) (let e : from ≡ slot = omega (arith, is) in e) }
  at_slot free from (n ∷ ns) (v ∷ vs) (suc i) slot same below is =
      let a = at_slot free (from + 1) ns vs i slot (omega (arith, same)) (omega (arith, below)) (omega (arith, is)) in
      record { value = a.value; read = a.read; stands = a.stands }

  push_from : (from : ℕ) (ns : List ℕ) (vs : List T) (n : ℕ) (v : T) → length ns ≡ length vs →
      standing_from [] from (ns ++ n ∷ []) (vs ++ v ∷ []) ≡ standing_from [] from ns vs ++ Some (entry_of n v) ∷ []
  push_from from [] [] n v same = ap (λ o. o ∷ []) (used [] from n v (not_here [] n from (λ far below. absurd (omega (arith, below)))))
  push_from from [] (w ∷ vs) n v same = absurd (omega (arith, same))
  push_from from (m ∷ ns) [] n v same = absurd (omega (arith, same))
  push_from from (m ∷ ns) (w ∷ vs) n v same = ap (λ xs. standing [] from m w ∷ xs) (push_from (from + 1) ns vs n v (omega (arith, same)))

  written : (b : Bool) (n : ℕ) (v w : T) →
      cond b None (Some (entry_of n v)) ≡ option_map (λ e. entry_of e.number v) (cond b None (Some (entry_of n w)))
  written true n v w = refl
  written false n v w = refl

  write_from : (free : List ℕ) (from : ℕ) (ns : List ℕ) (vs : List T) (i : ℕ) (v : T) → standing_from free from ns (set vs i v)
      ≡ set (standing_from free from ns vs) i (option_map (λ e. entry_of e.number v) (get_or (standing_from free from ns vs) i None))
  write_from free from [] vs i v = refl
  write_from free from (m ∷ ns) [] i v = refl
  write_from free from (m ∷ ns) (w ∷ vs) zero v = ap (λ o. o ∷ standing_from free (from + 1) ns vs) (written (is_free free m from) m v w)
  write_from free from (m ∷ ns) (w ∷ vs) (suc i) v = ap (λ xs. standing free from m w ∷ xs) (write_from free (from + 1) ns vs i v)

  module _ (free : List ℕ) (ns : List ℕ) (vs : List T) (same : length ns ≡ length vs) where
    at : (i : ℕ) → i < length vs → IsAt free 0 ns vs i i
    at i below = at_slot free 0 ns vs i i same below (zero-add i)

    pub standing_below : (i : ℕ) → IsSome (get_or (standing_from free 0 ns vs) i None) → i < length vs
    standing_below i some =
        let below = below_length (standing_from free 0 ns vs) i some in
        let long = length_from free 0 ns vs same in omega (arith, below, long)

    -- a slot with a value is not free
    not_free : (i : ℕ) → IsSome (get_or (standing_from free 0 ns vs) i None) → is_free free (get_or ns i 0) i ≡ false
    not_free i some = of (is_free free (get_or ns i 0) i) refl where
      of : (b : Bool) → is_free free (get_or ns i 0) i ≡ b → is_free free (get_or ns i 0) i ≡ false
      of false is = is
      of true is =
          let a = at i (standing_below i some) in
          absurd (true≢false (sym some ∙ ap is_some (a.stands ∙ unused free i (get_or ns i 0) a.value is)))

    pub pushed_at : (n : ℕ) (v : T) → free ≡ [] →
        standing_from free 0 (ns ++ n ∷ []) (vs ++ v ∷ []) ≡ standing_from free 0 ns vs ++ Some (entry_of n v) ∷ []
    pushed_at n v none =
        ap (λ f. standing_from f 0 (ns ++ n ∷ []) (vs ++ v ∷ [])) none ∙ push_from 0 ns vs n v same
        ∙ ap (λ f. standing_from f 0 ns vs ++ Some (entry_of n v) ∷ []) (sym none)

    pub pushed_told : (n : ℕ) → free ≡ [] → AreTold free (ns ++ n ∷ [])
    pushed_told n none = record { told = λ i less. absurd (let l = ap length none in omega (arith, less, l)) }

    pub written_at : (i : ℕ) (v : T) → standing_from free 0 ns (set vs i v)
        ≡ set (standing_from free 0 ns vs) i (option_map (λ e. entry_of e.number v) (get_or (standing_from free 0 ns vs) i None))
    written_at i v = write_from free 0 ns vs i v

    -- one slot changes, and others are free as before
    module _ (free' : List ℕ) (slot n : ℕ) (vs' : List T) (o : Option (Entry T)) (long : length vs' ≡ length vs) (within : slot < length vs)
        (here : (w : T) → ((d : T) → get_or vs' slot d ≡ w) → standing free' slot n w ≡ o)
        (rest : (i : ℕ) → i ≢ slot → is_free free' (get_or ns i 0) i ≡ is_free free (get_or ns i 0) i)
        (read : (i : ℕ) (d : T) → i ≢ slot → get_or vs' i d ≡ get_or vs i d) where
      changed : standing_from free' 0 (set ns slot n) vs' ≡ set (standing_from free 0 ns vs) slot o
      changed =
          ext_get_or None _ _ (all ∙ long ∙ sym (length-set (standing_from free 0 ns vs) slot o ∙ old))
          (λ i inside. of i (omega (arith, inside, all, long)) (cases_eq i slot)) where
            alike : length (set ns slot n) ≡ length vs'
            alike = length-set ns slot n ∙ same ∙ sym long

            all : length (standing_from free' 0 (set ns slot n) vs') ≡ length vs'
            all = length_from free' 0 (set ns slot n) vs' alike

            old : length (standing_from free 0 ns vs) ≡ length vs
            old = length_from free 0 ns vs same

            of : (i : ℕ) → i < length vs → ((i ≡ slot) ⊎ (i ≡ slot → ⊥)) →
                get_or (standing_from free' 0 (set ns slot n) vs') i None ≡ get_or (set (standing_from free 0 ns vs) slot o) i None
            of i below (inl is) =
                let b = at_slot free' 0 (set ns slot n) vs' slot slot alike (omega (arith, within, long)) (zero-add slot) in
                ap (λ k. get_or (standing_from free' 0 (set ns slot n) vs') k None) is ∙ b.stands
                ∙ ap (λ m. standing free' slot m b.value) (get_or-set_same ns slot n 0 (omega (arith, within, same))) ∙ here b.value b.read
                ∙ sym (ap (λ k. get_or (set (standing_from free 0 ns vs) slot o) k None) is
                ∙ get_or-set_same (standing_from free 0 ns vs) slot o None (omega (arith, within, old)))
            of i below (inr apart) =
                let a = at i below in
                let b = at_slot free' 0 (set ns slot n) vs' i i alike (omega (arith, below, long)) (zero-add i) in
                b.stands ∙ ap₂ (λ (m : ℕ) (w : T). standing free' i m w) (get_or-set_other ns slot i n 0 apart)
                (sym (b.read a.value) ∙ read i a.value apart ∙ a.read a.value)
                ∙ ap (λ (f : Bool). cond f None (Some (entry_of (get_or ns i 0) a.value))) (rest i apart) ∙ sym a.stands
                ∙ sym (get_or-set_other (standing_from free 0 ns vs) slot i o None apart)

    pub removed_at : (slot : ℕ) → slot < length vs →
        standing_from (free ++ slot ∷ []) 0 (set ns slot (length free + first_place)) vs ≡ set (standing_from free 0 ns vs) slot None
    removed_at slot below =
        changed (free ++ slot ∷ []) slot (length free + first_place) vs None refl below
        (λ w read. unused (free ++ slot ∷ []) slot (length free + first_place) w (is_here (free ++ slot ∷ []) (length free) slot
        (let l = length_push free slot in omega (arith, l)) (get_or_push free slot 0 (length free) refl)))
        (λ i apart. free_push free slot (get_or ns i 0) i apart) (λ i d apart. refl)

    pub removed_told : (slot : ℕ) → AreTold free ns → IsSome (get_or (standing_from free 0 ns vs) slot None) →
        AreTold (free ++ slot ∷ []) (set ns slot (length free + first_place))
    removed_told slot told some = record { told = λ i few. of i few (cases_eq i (length free)) } where
      below : slot < length vs
      below = standing_below slot some

      long : length (set ns slot (length free + first_place)) ≡ length ns
      long = length-set ns slot (length free + first_place)

      of : (i : ℕ) → i < length (free ++ slot ∷ []) → ((i ≡ length free) ⊎ (i ≡ length free → ⊥)) →
          (get_or (free ++ slot ∷ []) i 0 < length (set ns slot (length free + first_place)))
          × (get_or (set ns slot (length free + first_place)) (get_or (free ++ slot ∷ []) i 0) 0 ≡ i + first_place)
      of i few (inl is) =
          let last : get_or (free ++ slot ∷ []) i 0 ≡ slot = get_or_push free slot 0 i (sym is) in (
            omega (arith, last, below, same, long),
            ap (λ k. get_or (set ns slot (length free + first_place)) k 0) last
                ∙ get_or-set_same ns slot (length free + first_place) 0 (omega (arith, below, same)) ∙ ap (λ k. k + first_place) (sym is),
          )
      of i few (inr apart) =
          let less : i < length free = (let l = length_push free slot in omega (arith, few, apart, l)) in
          let at_i = get_or_append_left free (slot ∷ []) 0 i less in
          let was = told.told i less in
          let w = was.0 in (
            omega (arith, at_i, w, long),
            ap (λ k. get_or (set ns slot (length free + first_place)) k 0) at_i ∙ get_or-set_other ns slot (get_or free i 0) (length free + first_place) 0 (λ e.
                let n : get_or ns slot 0 ≡ i + first_place = ap (λ k. get_or ns k 0) (sym e) ∙ was.1 in
                false≢true (sym (not_free slot some) ∙ ap (λ k. is_free free k slot) n ∙ is_here free i slot less e)) ∙ was.1,
          )

    -- the last free slot is used again
    module _ (rest : List ℕ) (slot : ℕ) (parts : free ≡ rest ++ slot ∷ []) (told : AreTold free ns) where
      more : length free ≡ length rest + 1
      more = ap length parts ∙ length_push rest slot

      rest_at : (i : ℕ) → i < length rest → get_or free i 0 ≡ get_or rest i 0
      rest_at i less = ap (λ f. get_or f i 0) parts ∙ get_or_append_left rest (slot ∷ []) 0 i less

      last_told : (slot < length ns) × (get_or ns slot 0 ≡ length rest + first_place)
      last_told =
          let last = ap (λ f. get_or f (length rest) 0) parts ∙ get_or_push rest slot 0 (length rest) refl in
          let t = told.told (length rest) (omega (arith, more)) in
          (let w = t.0 in omega (arith, w, last), ap (λ k. get_or ns k 0) (sym last) ∙ t.1)

      -- it stands nowhere else among them
      elsewhere : (i : ℕ) → i < length rest → get_or rest i 0 ≢ slot
      elsewhere i less e =
          let t = told.told i (omega (arith, less, more)) in
          let here : i + first_place ≡ length rest + first_place = sym t.1 ∙ ap (λ k. get_or ns k 0) (rest_at i less ∙ e) ∙ last_told.1 in
          omega (arith, here, less)

      pub reused_at : (n : ℕ) (v : T) →
          standing_from rest 0 (set ns slot n) (set vs slot v) ≡ set (standing_from free 0 ns vs) slot (Some (entry_of n v))
      reused_at n v =
          let within : slot < length vs = (let w = last_told.0 in omega (arith, w, same)) in
          changed rest slot n (set vs slot v) (Some (entry_of n v)) (length-set vs slot v) within
          (λ w read. ap (standing rest slot n) (sym (read v) ∙ get_or-set_same vs slot v v within)
          ∙ used rest slot n v (not_here rest n slot (λ far less. elsewhere (n - first_place) less)))
          (λ i apart. sym (free_push rest slot (get_or ns i 0) i apart) ∙ ap (λ f. is_free f (get_or ns i 0) i) (sym parts))
          (λ i d apart. get_or-set_other vs slot i v d apart)

      pub reused_told : (n : ℕ) → AreTold rest (set ns slot n)
      reused_told n = record {
        told = λ i less.
            let t = told.told i (omega (arith, less, more)) in
            let is = rest_at i less in
            let long = length-set ns slot n in
            let w = t.0 in (
              omega (arith, w, is, long),
              get_or-set_other ns slot (get_or rest i 0) n 0 (elsewhere i less) ∙ ap (λ k. get_or ns k 0) (sym is) ∙ t.1,
            );
      }

    -- what a slot tells that has this number
    module _ (i n : ℕ) (below : i < length vs) (number : n ≡ get_or ns i n) where
      is_at : get_or ns i 0 ≡ n
      is_at = sym (number ∙ get_or_default_zero ns i n (omega (arith, below, same)))

      stands_at : get_or (standing_from free 0 ns vs) i None ≡ standing free i n (at i below).value
      stands_at = let a = at i below in a.stands ∙ ap (λ k. standing free i k a.value) is_at

      pub told_at : is_free free n i ≡ false → option_map (λ e. e.number) (get_or (standing_from free 0 ns vs) i None) ≡ Some n
      told_at apart = ap (option_map (λ e. e.number)) (stands_at ∙ used free i n (at i below).value apart)

      pub none_at : is_free free n i ≡ true → get_or (standing_from free 0 ns vs) i None ≡ None
      none_at is = stands_at ∙ unused free i n (at i below).value is

      pub found_at : (v : T) → v ≡ get_or vs i v → is_free free n i ≡ false → with_number n (get_or (standing_from free 0 ns vs) i None) ≡ Some v
      found_at v value apart =
          let a = at i below in
          ap (with_number n) (stands_at ∙ used free i n a.value apart) ∙ ap (λ b. cond b (Some a.value) None) (eq-eqb n n refl)
          ∙ ap (λ w. Some w) (sym (value ∙ a.read v))

      pub other_at : (m : ℕ) → (n ≡ m → is_free free m i ≡ true) → with_number m (get_or (standing_from free 0 ns vs) i None) ≡ None
      other_at m other = ap (with_number m) stands_at ∙ of (at i below).value (is_free free n i) refl where
        of : (w : T) (b : Bool) → is_free free n i ≡ b → with_number m (standing free i n w) ≡ None
        of w true is = ap (with_number m) (unused free i n w is)
        of w false is = ap (with_number m) (used free i n w is) ∙ ap (λ b. cond b (Some w) None)
            (ne_eqb n m (λ e. false≢true (sym is ∙ ap (λ k. is_free free k i) e ∙ other e)))

    pub past_at : (i : ℕ) → length vs ≤ i → get_or (standing_from free 0 ns vs) i None ≡ None
    past_at i past = get_or_past (standing_from free 0 ns vs) i None (let long = length_from free 0 ns vs same in omega (arith, past, long))

    pub number_standing : (i n : ℕ) → n ≡ get_or ns i n → IsSome (get_or (standing_from free 0 ns vs) i None) →
        option_map (λ e. e.number) (get_or (standing_from free 0 ns vs) i None) ≡ Some n
    number_standing i n number some =
        let below = standing_below i some in
        told_at i n below number (ap (λ k. is_free free k i) (sym (is_at i n below number)) ∙ not_free i some)

    pub value_standing : (i : ℕ) (v : T) → v ≡ get_or vs i v → IsSome (get_or (standing_from free 0 ns vs) i None) →
        option_map (λ e. e.value) (get_or (standing_from free 0 ns vs) i None) ≡ Some v
    value_standing i v value some =
        let a = at i (standing_below i some) in
        ap (option_map (λ e. e.value)) (a.stands ∙ used free i (get_or ns i 0) a.value (not_free i some)) ∙ ap (λ w. Some w) (sym (value ∙ a.read v))
