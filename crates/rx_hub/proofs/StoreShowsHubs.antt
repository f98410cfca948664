-- What the records and the lists of subscribers show as hubs.
use Rattle.rx_hub.proofs.Common.{◌≡◌, ◌≢◌, ℕ, zero, suc, ◌<◌, ◌≤◌, ◌+◌, ◌==◌, ◌||◌, ◌++◌, cond, map, Bool, true, false, List, [], ◌∷◌, length, get_or}
use Rattle.rx_hub.proofs.Common.{set, slice_get, Option, Some, None, ◌-◌, min, option_map, is_some, IsSome, IfSome, refl, sym, ap, subst, ◌∙◌, inl, inr, not}
use Rattle.rx_hub.proofs.Common.{arith, true≢false, zero-add, range_with_len, list_any, cases_eq, cases_lt, false≢true, nat_tests, get_or_past, length-set}
use Rattle.rx_hub.proofs.Common.{get_or-set_same, get_or-set_other, length-append, length-map, same_Some, none-some, Key, is_key, is_on, first_of, same_key}
use Rattle.rx_hub.proofs.Common.{Published, Hub, IsPromised, IsFree, AreBelow, AreAbove, Rises, hub_of, at_hub, published_of, with_published, subscribed}
use Rattle.rx_hub.proofs.Common.{unsubscribed, without_key, last_from, key_after, ended_never, without_end, Lists, list_at, is_in, take_out, head_of, no_hub}
use Rattle.rx_hub.proofs.Common.{record_at, key_in, hub_in, hubs_in, IsKept}
use Rattle.std.proofs.lemmas.List.FromFn.{map-range_with_len_more}
use Rattle.rx_slots.specs.Lists.{IsPlain, last_from as last_after, after}
use Rattle.rx_hub.specs.Store.{keys_at, store_in}
use Rattle.std.proofs.Common.{rules}

-- tables ------------------------------------------------------------------------------------------

table_get : {X : Type 0} (f : ℕ → X) (k n i : ℕ) → i < n → slice_get (map f (range_with_len k n)) i ≡ Some (f (k + i))
table_get f k zero i l = absurd (omega (arith, l))
table_get f k (suc n) zero l = let e : k ≡ k + 0 = omega arith in ap (λ j. Some (f j)) e
table_get f k (suc n) (suc i) l = search (rules, table_get f (k + 1) n i (omega (arith, l)))

table_past : {X : Type 0} (f : ℕ → X) (k n i : ℕ) → n ≤ i → slice_get (map f (range_with_len k n)) i ≡ None
table_past f k zero i l = refl
table_past f k (suc n) zero l = absurd (omega (arith, l))
table_past f k (suc n) (suc i) l = table_past f (k + 1) n i (omega (arith, l))

table_map : {X : Type 0} (f f' : ℕ → X) (g : X → X) (k n : ℕ) → ((j : ℕ) → k ≤ j → j < k + n → f' j ≡ g (f j)) →
    map f' (range_with_len k n) ≡ map g (map f (range_with_len k n))
table_map f f' g k zero same = refl
table_map f f' g k (suc n) same = λ i. same k (omega arith) (omega arith) i ∷
    table_map f f' g (k + 1) n (λ j l m. same j (omega (arith, l)) (omega (arith, m))) i

table_same : {X : Type 0} (f f' : ℕ → X) (k n : ℕ) → ((j : ℕ) → k ≤ j → j < k + n → f' j ≡ f j) → map f' (range_with_len k n) ≡ map f (range_with_len k n)
table_same f f' k zero same = refl
table_same f f' k (suc n) same = λ i. same k (omega arith) (omega arith) i ∷ table_same f f' (k + 1) n (λ j l m. same j (omega (arith, l)) (omega (arith, m))) i

push_old : {X : Type 0} (xs ys : List X) (j : ℕ) (d : X) → j < length xs → get_or (xs ++ ys) j d ≡ get_or xs j d
push_old [] ys j d l = absurd (omega (arith, l))
push_old (x ∷ xs) ys zero d l = refl
push_old (x ∷ xs) ys (suc j) d l = push_old xs ys j d (omega (arith, l))

push_new : {X : Type 0} (xs : List X) (x d : X) → get_or (xs ++ x ∷ []) (length xs) d ≡ x
push_new [] x d = refl
push_new (y ∷ xs) x d = push_new xs x d

pub get_some : {X : Type 0} (xs : List X) (j : ℕ) (d : X) → j < length xs → slice_get xs j ≡ Some (get_or xs j d)
get_some [] j d l = absurd (omega (arith, l))
get_some (x ∷ xs) zero d l = refl
get_some (x ∷ xs) (suc j) d l = get_some xs j d (omega (arith, l))

pub get_none : {X : Type 0} (xs : List X) (j : ℕ) → length xs ≤ j → slice_get xs j ≡ None
get_none [] j l = refl
get_none (x ∷ xs) zero l = absurd (omega (arith, l))
get_none (x ∷ xs) (suc j) l = get_none xs j (omega (arith, l))

pub get_same : {X : Type 0} (xs : List X) (j : ℕ) (d e : X) → j < length xs → get_or xs j d ≡ get_or xs j e
get_same [] j d e l = absurd (omega (arith, l))
get_same (x ∷ xs) zero d e l = refl
get_same (x ∷ xs) (suc j) d e l = get_same xs j d e (omega (arith, l))

-- one more value at the end of a list, the same as was read past it
read_grown : {X : Type 0} (f : ℕ → X) (xs : List X) (i : ℕ) → get_or (xs ++ f (length xs) ∷ []) i (f i) ≡ get_or xs i (f i)
read_grown f [] zero = refl
read_grown f [] (suc i) = refl
read_grown f (x ∷ xs) zero = refl
read_grown f (x ∷ xs) (suc i) = read_grown (λ k. f (suc k)) xs i

pub length-table : {X : Type 0} (f : ℕ → X) (k n : ℕ) → length (map f (range_with_len k n)) ≡ n
length-table f k zero = refl
length-table f k (suc n) = ap suc (length-table f (k + 1) n)

-- keys of slots -----------------------------------------------------------------------------------

eq_is : (a b : ℕ) → (a == b) ≡ true → a ≡ b
eq_is a b e = grind (arith, nat_tests, e)

eq_self : (a : ℕ) → (a == a) ≡ true
eq_self a = grind (arith, nat_tests)

eq_not : (a b : ℕ) → a ≢ b → (a == b) ≡ false
eq_not a b e = grind (arith, nat_tests, e)

-- a key is that of a slot where both are equal
pub key_of : (numbers : List ℕ) (key : Key) (slot : ℕ) → is_key key (key_in numbers slot) ≡ true → key ≡ key_in numbers slot
key_of numbers key slot e = search (rules, same_key, eq_is, false≢true)

-- where the number of a key is that at its slot, it is a slot's key just where the slots are equal
pub is_key_in : (numbers : List ℕ) (key : Key) (slot : ℕ) → key ≡ key_in numbers key.slot → is_key key (key_in numbers slot) ≡ (key.slot == slot)
is_key_in numbers key slot own = search (rules, eq_is, eq_self)

has_slot : (numbers : List ℕ) (slot : ℕ) (xs : List ℕ) → list_any (λ (k : Key). slot == k.slot) (map (key_in numbers) xs) ≡ is_in slot xs
has_slot numbers slot [] = refl
has_slot numbers slot (x ∷ xs) = ap (λ b. (slot == x) || b) (has_slot numbers slot xs)

-- a key on the list of keys is that of its slot, and the slot is on the list
pub key_on : (numbers : List ℕ) (key : Key) (xs : List ℕ) → is_on key (map (key_in numbers) xs) ≡ true →
    (is_in key.slot xs ≡ true) × (key ≡ key_in numbers key.slot)
key_on numbers key [] e = absurd (false≢true e)
key_on numbers key (x ∷ xs) e = of (λ e. key_on numbers key xs e) (is_key key (key_in numbers x)) refl e where
  of : (is_on key (map (key_in numbers) xs) ≡ true → (is_in key.slot xs ≡ true) × (key ≡ key_in numbers key.slot)) → (b : Bool) →
      is_key key (key_in numbers x) ≡ b → (b || is_on key (map (key_in numbers) xs)) ≡ true → (is_in key.slot (x ∷ xs) ≡ true) × (key ≡ key_in numbers key.slot)
  of later true t e = let same = key_of numbers key x t in let slot : key.slot ≡ x = ap (λ (k : Key). k.slot) same in (search (rules, eq_self))
  of later false t e = let h = later e in (either (key.slot == x) h.0, h.1) where
    either : (b : Bool) → is_in key.slot xs ≡ true → (b || is_in key.slot xs) ≡ true
    either true i = refl
    either false i = i

first_key : (numbers : List ℕ) (xs : List ℕ) → first_of (map (key_in numbers) xs) ≡ option_map (key_in numbers) (head_of xs)
first_key numbers x1 = search rules

last_key : (numbers : List ℕ) (before : Option ℕ) (xs : List ℕ) →
    last_from (option_map (key_in numbers) before) (map (key_in numbers) xs) ≡ option_map (key_in numbers) (last_after before xs)
last_key numbers before [] = refl
last_key numbers before (x ∷ xs) = last_key numbers (Some x) xs

after_key : (numbers : List ℕ) (key : Key) (xs : List ℕ) → key ≡ key_in numbers key.slot →
    key_after key (map (key_in numbers) xs) ≡ option_map (key_in numbers) (after key.slot xs)
after_key numbers key [] own = refl
after_key numbers key (x ∷ xs) own = search (rules, is_key_in, first_key, after_key numbers key xs own)

out_keys : (numbers : List ℕ) (key : Key) (xs : List ℕ) → key ≡ key_in numbers key.slot →
    map (key_in numbers) (take_out key.slot xs) ≡ without_key key (map (key_in numbers) xs)
out_keys numbers key [] own = refl
out_keys numbers key (x ∷ xs) own = search (rules, is_key_in, out_keys numbers key xs own)

-- taking out what is not there
out_none : (slot : ℕ) (xs : List ℕ) → is_in slot xs ≡ false → take_out slot xs ≡ xs
out_none slot [] e = refl
out_none slot (x ∷ xs) e = search (rules, true≢false, out_none slot xs)

-- the number at one slot is written
keys_set : (numbers : List ℕ) (slot number : ℕ) (xs : List ℕ) → is_in slot xs ≡ false → map (key_in (set numbers slot number)) xs ≡ map (key_in numbers) xs
keys_set numbers slot number [] e = refl
keys_set numbers slot number (x ∷ xs) e = search (rules, true≢false, get_or-set_other, eq_self, keys_set numbers slot number xs)

append_keys : (numbers : List ℕ) (xs : List ℕ) (x : ℕ) → map (key_in numbers) (xs ++ x ∷ []) ≡ map (key_in numbers) xs ++ key_in numbers x ∷ []
append_keys numbers [] x = refl
append_keys numbers (y ∷ xs) x = ap (λ (ks : List Key). key_in numbers y ∷ ks) (append_keys numbers xs x)

-- rising numbers ----------------------------------------------------------------------------------

above_last : (n : ℕ) (ks : List Key) (key : Key) → AreAbove n ks → n < key.number → AreAbove n (ks ++ key ∷ [])
above_last n [] key a l = (l, tt)
above_last n (k ∷ ks) key a l = (a.0, above_last n ks key a.1 l)

rises_last : (ks : List Key) (key : Key) → Rises ks → AreBelow key.number ks → Rises (ks ++ key ∷ [])
rises_last [] key r b = (tt, tt)
rises_last (k ∷ ks) key r b = (above_last k.number ks key r.0 b.0, rises_last ks key r.1 b.1)

above_without : (n : ℕ) (key : Key) (ks : List Key) → AreAbove n ks → AreAbove n (without_key key ks)
above_without n key [] a = tt
above_without n key (k ∷ ks) a = search (rules, above_without n key ks a.1)

rises_without : (key : Key) (ks : List Key) → Rises ks → Rises (without_key key ks)
rises_without key [] r = tt
rises_without key (k ∷ ks) r = search (rules, above_without, rises_without key ks r.1)

-- the hubs ----------------------------------------------------------------------------------------

module _ (records : List Published) (lists : Lists) (numbers : List ℕ) where
  pub hub_get : (i : ℕ) → i < length records → slice_get (hubs_in records lists numbers) i ≡ Some (hub_in records lists numbers i)
  hub_get i l = search (rules, table_get, zero-add)

  pub hub_within : (i : ℕ) → IsSome (slice_get (hubs_in records lists numbers) i) → i < length records
  hub_within i some = search (rules, cases_lt, true≢false, table_past)

  pub hub_is : (i : ℕ) (hub : Hub) → slice_get (hubs_in records lists numbers) i ≡ Some hub → (i < length records) × (hub_in records lists numbers i ≡ hub)
  hub_is i hub got = let l = hub_within i (ap is_some got) in (l, same_Some (hub_in records lists numbers i) hub (sym (hub_get i l) ∙ got))

  pub count_hubs : length (hubs_in records lists numbers) ≡ length records
  count_hubs = length-table (hub_in records lists numbers) 0 (length records)

  -- these show as many hubs, one of them changed, the others as they are
  record ShowsChange (records' : List Published) (lists' : Lists) (numbers' : List ℕ) (index : ℕ) (change : Hub → Hub) : Type 0 where
    within : index < length records
    count : length records' ≡ length records
    here : hub_in records' lists' numbers' index ≡ change (hub_in records lists numbers index)
    others : (j : ℕ) → j < length records → index ≢ j → hub_in records' lists' numbers' j ≡ hub_in records lists numbers j

  -- hubs before one place have lesser numbers, hubs from another place on greater ones
  pub record IsNarrowed (low high n : ℕ) : Type 0 where
    pub before : (i : ℕ) → i < low → (record_at records i).number < n
    pub behind : (i : ℕ) → high ≤ i → i < length records → n < (record_at records i).number

  module _ (kept : IsKept records lists numbers) where
    pub promised : (room : ℕ) → IsPromised (store_in records lists numbers room)
    promised room = record {
      rising = λ i j a b at_i at_j l.
          let p = hub_is i a at_i in
          let q = hub_is j b at_j in
          subst (λ (h : Hub). h.number < b.number) p.1 (subst (λ (h : Hub). (record_at records i).number < h.number) q.1 (kept.rising i j l q.0));
      rises = λ i hub at_i. subst (λ (h : Hub). Rises h.subscribers) (hub_is i hub at_i).1 (kept.rises i);
    }

    -- two hubs of one number are one
    pub one_number : (i j : ℕ) → i < length records → j < length records → (record_at records i).number ≡ (record_at records j).number → i ≡ j
    one_number i j li lj same = elim (cases_lt i j) [
      | inl less ↦ absurd (let r = kept.rising i j less lj in omega (arith, r, same))
      | inr more ↦ elim (cases_lt j i) [
        | inl less ↦ absurd (let r = kept.rising j i less li in omega (arith, r, same))
        | inr most ↦ omega (arith, more, most)
      ]
    ]

    -- nothing is on a list past the last hub
    pub past_free : (slot e : ℕ) → length records ≤ e → is_in slot (list_at lists e) ≡ false
    past_free slot e past = ap (is_in slot) (get_or_past lists.lists e [] (omega (arith, past, kept.listed)))

    pub free_lists : (slot : ℕ) → IsFree (hubs_in records lists numbers) slot → (e : ℕ) → is_in slot (list_at lists e) ≡ false
    free_lists slot free e = elim (cases_lt e (length records)) [
      | inl below ↦ sym (has_slot numbers slot (list_at lists e)) ∙ free e (hub_in records lists numbers e) (hub_get e below)
      | inr past ↦ past_free slot e past
    ]

    pub first_shown : (i : ℕ) →
        IfSome (slice_get (hubs_in records lists numbers) i) (λ hub. option_map (key_in numbers) (head_of (list_at lists i)) ≡ first_of hub.subscribers)
    first_shown i = by_hub (slice_get (hubs_in records lists numbers) i) refl where
      by_hub : (o : Option Hub) → slice_get (hubs_in records lists numbers) i ≡ o →
          IfSome o (λ hub. option_map (key_in numbers) (head_of (list_at lists i)) ≡ first_of hub.subscribers)
      by_hub None got = tt
      by_hub (Some hub) got = sym (first_key numbers (list_at lists i)) ∙ ap (λ (h : Hub). first_of h.subscribers) (hub_is i hub got).1

    pub last_shown : (i : ℕ) → IfSome (slice_get (hubs_in records lists numbers) i)
        (λ hub. option_map (key_in numbers) (last_after None (list_at lists i)) ≡ last_from None hub.subscribers)
    last_shown i = by_hub (slice_get (hubs_in records lists numbers) i) refl where
      by_hub : (o : Option Hub) → slice_get (hubs_in records lists numbers) i ≡ o →
          IfSome o (λ hub. option_map (key_in numbers) (last_after None (list_at lists i)) ≡ last_from None hub.subscribers)
      by_hub None got = tt
      by_hub (Some hub) got = sym (last_key numbers None (list_at lists i)) ∙ ap (λ (h : Hub). last_from None h.subscribers) (hub_is i hub got).1

    -- the slot of a subscriber of a hub stands on the hub's list
    pub subscriber_in : (key : Key) (i : ℕ) (hub : Hub) → slice_get (hubs_in records lists numbers) i ≡ Some hub → is_on key hub.subscribers ≡ true →
        (is_in key.slot (list_at lists i) ≡ true) × (key ≡ key_in numbers key.slot)
    subscriber_in key i hub got on = key_on numbers key (list_at lists i) (subst (λ (h : Hub). is_on key h.subscribers ≡ true) (sym (hub_is i hub got).1) on)

    pub after_shown : (key : Key) (i : ℕ) (hub : Hub) → slice_get (hubs_in records lists numbers) i ≡ Some hub → is_on key hub.subscribers ≡ true →
        option_map (key_in numbers) (after key.slot (list_at lists i)) ≡ key_after key hub.subscribers
    after_shown key i hub got on =
        sym (after_key numbers key (list_at lists i) (subscriber_in key i hub got on).1) ∙ ap (λ (h : Hub). key_after key h.subscribers) (hub_is i hub got).1

    -- the hub of an index has a number
    pub named : (i n : ℕ) → option_map (λ (hub : Hub). hub.number) (slice_get (hubs_in records lists numbers) i) ≡ Some n →
        (i < length records) × ((record_at records i).number ≡ n)
    named i n same = of (slice_get (hubs_in records lists numbers) i) refl same where
      of : (o : Option Hub) → slice_get (hubs_in records lists numbers) i ≡ o → option_map (λ (hub : Hub). hub.number) o ≡ Some n →
          (i < length records) × ((record_at records i).number ≡ n)
      of None got none = absurd (none-some n none)
      of (Some hub) got some = let h = hub_is i hub got in (h.0, ap (λ (x : Hub). x.number) h.1 ∙ same_Some hub.number n some)

    pub number_at : (i : ℕ) → i < length records →
        option_map (λ (hub : Hub). hub.number) (slice_get (hubs_in records lists numbers) i) ≡ Some (record_at records i).number
    number_at i l = ap (option_map (λ (hub : Hub). hub.number)) (hub_get i l)

    -- what the search for a number knows of the places before and behind
    pub not_between : {low high n : ℕ} → IsNarrowed low high n → high ≤ low → (i : ℕ) (hub : Hub) →
        slice_get (hubs_in records lists numbers) i ≡ Some hub → hub.number ≢ n
    not_between {low} {n} narrowed met i hub got same =
        let h = hub_is i hub got in
        let is : (record_at records i).number ≡ n = ap (λ (x : Hub). x.number) h.1 ∙ same in
        elim (cases_lt i low) [
          | inl l ↦ let b = narrowed.before i l in omega (arith, b, is)
          | inr l ↦ let b = narrowed.behind i (omega (arith, met, l)) h.0 in omega (arith, b, is)
        ]

    pub all_before : (m n : ℕ) → m < length records → (record_at records m).number < n → (i : ℕ) → i < m + 1 → (record_at records i).number < n
    all_before m n l less i before = elim (cases_lt i m) [
      | inl below ↦ let r = kept.rising i m below l in omega (arith, r, less)
      | inr not ↦ let is : i ≡ m = omega (arith, before, not) in subst (λ k. (record_at records k).number < n) (sym is) less
    ]

    pub all_behind : (m n : ℕ) → m < length records → n < (record_at records m).number → (i : ℕ) → m ≤ i → i < length records → n < (record_at records i).number
    all_behind m n l more i behind below = elim (cases_lt m i) [
      | inl after ↦ let r = kept.rising m i after below in omega (arith, r, more)
      | inr not ↦ let is : m ≡ i = omega (arith, behind, not) in subst (λ k. n < (record_at records k).number) is more
    ]

    pub shown_record : (i : ℕ) → slice_get records i ≡ option_map published_of (slice_get (hubs_in records lists numbers) i)
    shown_record i = elim (cases_lt i (length records)) [
      | inl below ↦ get_some records i no_hub below ∙ sym (ap (option_map published_of) (hub_get i below))
      | inr past ↦ get_none records i past ∙ sym (ap (option_map published_of) (table_past (hub_in records lists numbers) 0 (length records) i past))
    ]

    pub below_here : (i n : ℕ) → IfSome (slice_get (hubs_in records lists numbers) i) (λ hub. AreBelow n hub.subscribers) → i < length records →
        AreBelow n (keys_at lists numbers i)
    below_here i n below l = subst (λ (o : Option Hub). IfSome o (λ hub. AreBelow n hub.subscribers)) (hub_get i l) below

    -- one hub changes
    one_hub : (records' : List Published) (lists' : Lists) (numbers' : List ℕ) (index : ℕ) (change : Hub → Hub) →
        ShowsChange records' lists' numbers' index change →
        hubs_in records' lists' numbers' ≡ at_hub (record_at records index).number change (hubs_in records lists numbers)
    one_hub records' lists' numbers' index change shows = ap (λ n. map (hub_in records' lists' numbers') (range_with_len 0 n)) shows.count ∙
        table_map (hub_in records lists numbers) (hub_in records' lists' numbers')
        (λ hub. cond (hub.number == (record_at records index).number) (change hub) hub) 0 (length records)
        (λ j l m. let m' : j < length records = omega (arith, m) in elim (cases_eq index j) [
          | inl is ↦ subst (λ k. hub_in records' lists' numbers' k ≡ cond ((record_at records k).number == (record_at records index).number)
              (change (hub_in records lists numbers k)) (hub_in records lists numbers k)) is (shows.here ∙
              ap (λ b. cond b (change (hub_in records lists numbers index)) (hub_in records lists numbers index))
              (sym (eq_self (record_at records index).number)))
          | inr apart ↦ shows.others j m' apart ∙ ap (λ b. cond b (change (hub_in records lists numbers j)) (hub_in records lists numbers j))
              (sym (eq_not (record_at records j).number (record_at records index).number (λ s. apart (one_number index j shows.within m' (sym s)))))
        ])

    -- a subscriber comes last on the list of a hub
    module _ (index : ℕ) (key : Key) (lists' : Lists) (below : index < length records) (slot : key.slot < lists.members)
        (free : (e : ℕ) → is_in key.slot (list_at lists e) ≡ false)
        (joined : (e : ℕ) → list_at lists' e ≡ cond (index == e) (list_at lists e ++ key.slot ∷ []) (list_at lists e)) where
      key_written : key_in (set numbers key.slot key.number) key.slot ≡ key
      key_written = same_key (key_in (set numbers key.slot key.number) key.slot) key refl
          (get_or-set_same numbers key.slot key.number 0 (let s = kept.slots in omega (arith, slot, s)))

      keys_here : keys_at lists' (set numbers key.slot key.number) index ≡ keys_at lists numbers index ++ key ∷ []
      keys_here = ap (map (key_in (set numbers key.slot key.number)))
          (joined index ∙ ap (λ b. cond b (list_at lists index ++ key.slot ∷ []) (list_at lists index)) (eq_self index)) ∙
          append_keys (set numbers key.slot key.number) (list_at lists index) key.slot ∙
          (λ i. keys_set numbers key.slot key.number (list_at lists index) (free index) i ++ key_written i ∷ [])

      keys_other : (j : ℕ) → index ≢ j → keys_at lists' (set numbers key.slot key.number) j ≡ keys_at lists numbers j
      keys_other j apart = ap (map (key_in (set numbers key.slot key.number)))
          (joined j ∙ ap (λ b. cond b (list_at lists j ++ key.slot ∷ []) (list_at lists j)) (eq_not index j apart)) ∙
          keys_set numbers key.slot key.number (list_at lists j) (free j)

      pub hubs_joined : hubs_in records lists' (set numbers key.slot key.number) ≡
          at_hub (record_at records index).number (subscribed key) (hubs_in records lists numbers)
      hubs_joined = one_hub records lists' (set numbers key.slot key.number) index (subscribed key) (record {
        within = below;
        count = refl;
        here = ap (hub_of (record_at records index)) keys_here;
        others = λ j l apart. ap (hub_of (record_at records j)) (keys_other j apart);
      })

      pub kept_joined : length lists'.lists ≡ length lists.lists → lists'.members ≡ lists.members → length (set numbers key.slot key.number) ≡ length numbers →
          AreBelow key.number (keys_at lists numbers index) → IsKept records lists' (set numbers key.slot key.number)
      kept_joined count members length_set newest = record {
        rising = kept.rising;
        rises = λ j. elim (cases_eq index j) [
          | inl is ↦ subst (λ k. Rises (keys_at lists' (set numbers key.slot key.number) k)) is
              (subst Rises (sym keys_here) (rises_last (keys_at lists numbers index) key (kept.rises index) newest))
          | inr apart ↦ subst Rises (sym (keys_other j apart)) (kept.rises j)
        ];
        listed = count ∙ kept.listed;
        slots = let s = kept.slots in omega (arith, members, length_set, s);
      }

    -- a subscriber is taken off the list of a hub
    module _ (index : ℕ) (key : Key) (lists' : Lists) (below : index < length records) (plain : IsPlain lists) (own : key ≡ key_in numbers key.slot)
        (on : is_in key.slot (list_at lists index) ≡ true) (left : (e : ℕ) → list_at lists' e ≡ take_out key.slot (list_at lists e)) where
      left_here : keys_at lists' numbers index ≡ without_key key (keys_at lists numbers index)
      left_here = ap (map (key_in numbers)) (left index) ∙ out_keys numbers key (list_at lists index) own

      not_on : (j : ℕ) → index ≢ j → (b : Bool) → is_in key.slot (list_at lists j) ≡ b → b ≡ false
      not_on j apart true i = absurd (apart (plain.once index j key.slot on i))
      not_on j apart false i = refl

      left_other : (j : ℕ) → index ≢ j → keys_at lists' numbers j ≡ keys_at lists numbers j
      left_other j apart = ap (map (key_in numbers)) (left j ∙ out_none key.slot (list_at lists j) (not_on j apart (is_in key.slot (list_at lists j)) refl))

      pub hubs_left : hubs_in records lists' numbers ≡ at_hub (record_at records index).number (unsubscribed key) (hubs_in records lists numbers)
      hubs_left = one_hub records lists' numbers index (unsubscribed key) (record {
        within = below;
        count = refl;
        here = ap (hub_of (record_at records index)) left_here;
        others = λ j l apart. ap (hub_of (record_at records j)) (left_other j apart);
      })

      pub kept_left : length lists'.lists ≡ length lists.lists → lists'.members ≡ lists.members → IsKept records lists' numbers
      kept_left count members = record {
        rising = kept.rising;
        rises = λ j. elim (cases_eq index j) [
          | inl is ↦ subst (λ k. Rises (keys_at lists' numbers k)) is
              (subst Rises (sym left_here) (rises_without key (keys_at lists numbers index) (kept.rises index)))
          | inr apart ↦ subst Rises (sym (left_other j apart)) (kept.rises j)
        ];
        listed = count ∙ kept.listed;
        slots = let s = kept.slots in omega (arith, members, s);
      }

    -- what a hub has beside its subscribers is written
    module _ (index : ℕ) (p : Published) (below : index < length records) (same : (record_at records index).number ≡ p.number) where
      record_here : record_at (set records index p) index ≡ p
      record_here = get_or-set_same records index p no_hub below

      record_other : (j : ℕ) → index ≢ j → record_at (set records index p) j ≡ record_at records j
      record_other j apart = get_or-set_other records index j p no_hub (λ s. apart (sym s))

      pub hubs_written : hubs_in (set records index p) lists numbers ≡ at_hub p.number (with_published p) (hubs_in records lists numbers)
      hubs_written = one_hub (set records index p) lists numbers index (with_published p) (record {
        within = below;
        count = length-set records index p;
        here = ap (λ r. hub_of r (keys_at lists numbers index)) record_here;
        others = λ j l apart. ap (λ r. hub_of r (keys_at lists numbers j)) (record_other j apart);
      }) ∙ ap (λ n. at_hub n (with_published p) (hubs_in records lists numbers)) same

      number_kept : (j : ℕ) → (record_at (set records index p) j).number ≡ (record_at records j).number
      number_kept j = elim (cases_eq index j) [
        | inl is ↦ subst (λ k. (record_at (set records index p) k).number ≡ (record_at records k).number) is
            (ap (λ (r : Published). r.number) record_here ∙ sym same)
        | inr apart ↦ ap (λ (r : Published). r.number) (record_other j apart)
      ]

      pub kept_written : IsKept (set records index p) lists numbers
      kept_written = record {
        rising = λ i j l m.
            let r = kept.rising i j l (subst (λ n. j < n) (length-set records index p) m) in
            subst (λ n. n < (record_at (set records index p) j).number) (sym (number_kept i))
            (subst (λ n. (record_at records i).number < n) (sym (number_kept j)) r);
        rises = kept.rises;
        listed = kept.listed ∙ sym (length-set records index p);
        slots = kept.slots;
      }

    -- a hub comes last
    module _ (p : Published) (lists' : Lists) (grown : lists'.lists ≡ lists.lists ++ [] ∷ []) (members : lists'.members ≡ lists.members)
        (newest : (i : ℕ) (hub : Hub) → slice_get (hubs_in records lists numbers) i ≡ Some hub → hub.number < p.number) where
      list_kept : (e : ℕ) → list_at lists' e ≡ list_at lists e
      list_kept e = ap (λ (xs : List (List ℕ)). get_or xs e []) grown ∙ read_grown (λ k. []) lists.lists e

      old_record : (j : ℕ) → j < length records → record_at (records ++ p ∷ []) j ≡ record_at records j
      old_record j l = push_old records (p ∷ []) j no_hub l

      new_record : record_at (records ++ p ∷ []) (length records) ≡ p
      new_record = push_new records p no_hub

      old_hub : (j : ℕ) → 0 ≤ j → j < 0 + length records → hub_in (records ++ p ∷ []) lists' numbers j ≡ hub_in records lists numbers j
      old_hub j z l = λ i. hub_of (old_record j (omega (arith, l)) i) (map (key_in numbers) (list_kept j i))

      new_one : hub_in (records ++ p ∷ []) lists' numbers (length records) ≡ hub_of p []
      new_one = λ i. hub_of (new_record i)
          (map (key_in numbers) ((list_kept (length records) ∙ get_or_past lists.lists (length records) [] (let k = kept.listed in omega (arith, k))) i))

      pub hubs_added : hubs_in (records ++ p ∷ []) lists' numbers ≡ hubs_in records lists numbers ++ hub_of p [] ∷ []
      hubs_added =
          let shown = hub_in (records ++ p ∷ []) lists' numbers in
          ap (λ n. map shown (range_with_len 0 n)) (length-append records (p ∷ [])) ∙
          map-range_with_len_more shown 0 (length records) (length records) (zero-add (length records)) ∙
          (λ i. table_same (hub_in records lists numbers) shown 0 (length records) old_hub i ++ new_one i ∷ [])

      pub kept_added : IsKept (records ++ p ∷ []) lists' numbers
      kept_added = record {
        rising = λ i j l m. elim (cases_lt j (length records)) [
          | inl old ↦
              let r = kept.rising i j l old in
              let i_old : i < length records = omega (arith, l, old) in
              subst (λ (r : Published). r.number < (record_at (records ++ p ∷ []) j).number) (sym (old_record i i_old))
              (subst (λ (q : Published). (record_at records i).number < q.number) (sym (old_record j old)) r)
          | inr new ↦
              let count : j < length records + 1 = subst (λ n. j < n) (length-append records (p ∷ [])) m in
              let j_is : length records ≡ j = omega (arith, new, count) in
              let i_old : i < length records = omega (arith, l, j_is) in
              subst (λ k. (record_at (records ++ p ∷ []) i).number < (record_at (records ++ p ∷ []) k).number) j_is
              (subst (λ (r : Published). r.number < (record_at (records ++ p ∷ []) (length records)).number) (sym (old_record i i_old))
              (subst (λ (q : Published). (record_at records i).number < q.number) (sym new_record)
              (newest i (hub_in records lists numbers i) (hub_get i i_old))))
        ];
        rises = λ e. subst (λ (xs : List ℕ). Rises (map (key_in numbers) xs)) (sym (list_kept e)) (kept.rises e);
        listed = ap length grown ∙ length-append lists.lists ([] ∷ []) ∙ ap (λ n. n + 1) kept.listed ∙ sym (length-append records (p ∷ []));
        slots = let s = kept.slots in omega (arith, members, s);
      }

    -- other numbers that read the same, and lists that are the same
    module _ (lists' : Lists) (numbers' : List ℕ) (same_lists : lists'.lists ≡ lists.lists)
        (same : (slot : ℕ) → get_or numbers' slot 0 ≡ get_or numbers slot 0) where
      pub hubs_same : hubs_in records lists' numbers' ≡ hubs_in records lists numbers
      hubs_same = λ i. map (λ j. hub_of (record_at records j) (map (λ slot. record { slot = slot; number = same slot i }) (get_or (same_lists i) j [])))
          (range_with_len 0 (length records))

      pub kept_same : lists'.members ≤ length numbers' → IsKept records lists' numbers'
      kept_same fit = record {
        rising = kept.rising;
        rises = λ e. subst Rises (λ i. map (λ slot. record { slot = slot; number = sym (same slot) i }) (get_or (sym same_lists i) e [])) (kept.rises e);
        listed = ap length same_lists ∙ kept.listed;
        slots = fit;
      }

-- ends that are forgotten ---------------------------------------------------------------------------

record_forgot : (records : List Published) (i : ℕ) → record_at (map ended_never records) i ≡ ended_never (record_at records i)
record_forgot [] zero = refl
record_forgot [] (suc i) = refl
record_forgot (p ∷ records) zero = refl
record_forgot (p ∷ records) (suc i) = record_forgot records i

pub hubs_forgot : (records : List Published) (lists : Lists) (numbers : List ℕ) →
    hubs_in (map ended_never records) lists numbers ≡ map without_end (hubs_in records lists numbers)
hubs_forgot records lists numbers = ap (λ n. map (hub_in (map ended_never records) lists numbers) (range_with_len 0 n)) (length-map records ended_never) ∙
    table_map (hub_in records lists numbers) (hub_in (map ended_never records) lists numbers) without_end 0 (length records)
    (λ j l m. ap (λ p. hub_of p (keys_at lists numbers j)) (record_forgot records j))

pub kept_forgot : (records : List Published) (lists : Lists) (numbers : List ℕ) → IsKept records lists numbers → IsKept (map ended_never records) lists numbers
kept_forgot records lists numbers kept =
    record {
      rising = λ i j l m.
          let less = kept.rising i j l (subst (λ n. j < n) (length-map records ended_never) m) in
          let a = ap (λ (p : Published). p.number) (record_forgot records i) in
          let b = ap (λ (p : Published). p.number) (record_forgot records j) in
          omega (arith, less, a, b);
      rises = kept.rises;
      listed = kept.listed ∙ sym (length-map records ended_never);
      slots = kept.slots;
    }

-- and all that callers see of it
pub store_forgot : (records after : List Published) (lists : Lists) (numbers : List ℕ) (capacity more : ℕ) → after ≡ map ended_never records → more ≡ capacity →
    store_in after lists numbers (min (more - length after) lists.room) ≡
    record (store_in records lists numbers (min (capacity - length records) lists.room)) { hubs = map without_end (hubs_in records lists numbers) }
store_forgot records after lists numbers capacity more same caps = search (rules, hubs_forgot, length-map)
