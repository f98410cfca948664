-- The roles of rows, as the rows change.
use Rattle.std.proofs.Common.{◌≡◌, ◌≢◌, ℕ, zero, suc, ◌+◌, ◌-◌, ◌<◌, ◌≤◌, ◌==◌, ◌⊎◌, inl, inr, Bool, true, false, List, [], ◌∷◌, ◌++◌, length, take, set, get_or, Option, Some, None, is_some, option_map, refl, sym, ap, ◌∙◌, arith, if◌then◌else◌, length-append, length-set, append_assoc, append-nil}
use Rattle.std.proofs.lemmas.Bool.{eqb-true, eq-eqb, false≢true, cases_order}
use Rattle.std.proofs.lemmas.List.{get_or_append_left, get_or-take, take-take, length-take-le}
use Rattle.std.specs.Option.{option_to_list}
use Rattle.rx_roles.specs.declared.roles.Role.{Role}
use Rattle.rx_roles.specs.declared.roles.Said.{Said}
use Rattle.rx_roles.specs.declared.roles.Row.{Row}
use Rattle.rx_roles.specs.Roles.{role_of, without}
use Rattle.rx_roles.specs.RolesByNumber.{role_said, taken_row, row_at, role_in, roles_in, live_by, live_rows, IsRising}
use Rattle.rx_roles.proofs.Laws.RolesTaken.{fewer, without_absent}

apart : (a n : ℕ) → a ≢ n → (a == n) ≡ false
apart a n differ = by_test (a == n) refl where
  by_test : (b : Bool) → (a == n) ≡ b → b ≡ false
  by_test true is = absurd (differ (eqb-true a n is))
  by_test false is = refl

-- the order of rows ----------------------------------------------------------------------------------

tail : (r : Row) (rs : List Row) → IsRising (r ∷ rs) → IsRising rs
tail r rs rising = λ i j l b. rising (suc i) (suc j) (omega (arith, l)) (omega (arith, b))

head_below : (r : Row) (rs : List Row) → IsRising (r ∷ rs) → (i : ℕ) → i < length rs → r.number < (row_at rs i).number
head_below r rs rising i b = rising 0 (suc i) (omega arith) (omega (arith, b))

-- looked up ------------------------------------------------------------------------------------------

-- no row has this number
abbrev pub Lacks : List Row → ℕ → Type 0
Lacks rows n = (i : ℕ) → i < length rows → (row_at rows i).number ≢ n

skip_by : (m : ℕ) (o : Option Said) (rs : List Role) (n : ℕ) → m ≢ n → role_of (option_to_list (option_map (role_said m) o) ++ rs) n ≡ role_of rs n
skip_by m None rs n differ = refl
skip_by m (Some s) rs n differ = ap (λ (b : Bool). if b then Some (role_said m s) else role_of rs n) (apart m n differ)

found_by : (m : ℕ) (o : Option Said) (rs : List Role) (n : ℕ) → m ≡ n → role_of rs n ≡ None →
    role_of (option_to_list (option_map (role_said m) o) ++ rs) n ≡ option_map (role_said n) o
found_by m None rs n same none = none
found_by m (Some s) rs n same none =
    ap (λ (b : Bool). if b then Some (role_said m s) else role_of rs n) (eq-eqb m n same) ∙ ap (λ (k : ℕ). Some (role_said k s)) same

pub lacking : (rows : List Row) (n : ℕ) → Lacks rows n → role_of (roles_in rows) n ≡ None
lacking [] n lacks = refl
lacking (r ∷ rs) n lacks =
    skip_by r.number r.said (roles_in rs) n (lacks 0 (omega arith)) ∙ lacking rs n (λ i b. lacks (suc i) (omega (arith, b)))

above_lacks : (r : Row) (rs : List Row) (n : ℕ) → IsRising (r ∷ rs) → r.number ≡ n → Lacks rs n
above_lacks r rs n rising is = λ i b same. let above = head_below r rs rising i b in absurd (omega (arith, above, same, is))

not_head : (r : Row) (rs : List Row) (i n : ℕ) → IsRising (r ∷ rs) → i < length rs → (row_at rs i).number ≡ n → r.number ≢ n
not_head r rs i n rising b is = λ same. let above = head_below r rs rising i b in absurd (omega (arith, above, same, is))

pub looked : (rows : List Row) (i n : ℕ) → IsRising rows → i < length rows → (row_at rows i).number ≡ n →
    role_of (roles_in rows) n ≡ option_map (role_said n) (row_at rows i).said
looked [] i n rising b is = absurd (omega (arith, b))
looked (r ∷ rs) zero n rising b is = found_by r.number r.said (roles_in rs) n is (lacking rs n (above_lacks r rs n rising is))
looked (r ∷ rs) (suc i) n rising b is =
    skip_by r.number r.said (roles_in rs) n (not_head r rs i n rising (omega (arith, b)) is) ∙ looked rs i n (tail r rs rising) (omega (arith, b)) is

-- sought ---------------------------------------------------------------------------------------------

-- what stands before a row that is too low is too low
pub all_below : (rows : List Row) (k n : ℕ) → IsRising rows → k < length rows → (row_at rows k).number < n →
    (i : ℕ) → i < k + 1 → (row_at rows i).number < n
all_below rows k n rising b low i l = of (cases_order i k) where
  of : ((i ≡ k) ⊎ ((i < k) ⊎ (k < i))) → (row_at rows i).number < n
  of (inl is) = let same = ap (λ (j : ℕ). (row_at rows j).number) is in omega (arith, same, low)
  of (inr (inl before)) = let up = rising i k before b in omega (arith, up, low)
  of (inr (inr past)) = absurd (omega (arith, past, l))

-- what lies behind a row that is too high is too high
pub all_above : (rows : List Row) (k n : ℕ) → IsRising rows → n < (row_at rows k).number →
    (i : ℕ) → k ≤ i → i < length rows → n < (row_at rows i).number
all_above rows k n rising high i from b = of (cases_order i k) where
  of : ((i ≡ k) ⊎ ((i < k) ⊎ (k < i))) → n < (row_at rows i).number
  of (inl is) = let same = ap (λ (j : ℕ). (row_at rows j).number) is in omega (arith, same, high)
  of (inr (inl l)) = absurd (omega (arith, l, from))
  of (inr (inr g)) = let up = rising k i g b in omega (arith, up, high)

-- what lies before a place is too low, and what lies from there on is too high
pub no_place : (rows : List Row) (k n : ℕ) → ((i : ℕ) → i < k → (row_at rows i).number < n) →
    ((i : ℕ) → k ≤ i → i < length rows → n < (row_at rows i).number) → Lacks rows n
no_place rows k n before behind i b same = of (cases_order i k) where
  of : ((i ≡ k) ⊎ ((i < k) ⊎ (k < i))) → ⊥
  of (inl is) = let high = behind i (omega (arith, is)) b in absurd (omega (arith, high, same))
  of (inr (inl l)) = let low = before i l in absurd (omega (arith, low, same))
  of (inr (inr g)) = let high = behind i (omega (arith, g)) b in absurd (omega (arith, high, same))

-- all are too low, up to the last
pub none_behind : (rows : List Row) (k n : ℕ) → length rows ≤ k + 1 → ((i : ℕ) → i < k + 1 → (row_at rows i).number < n) → Lacks rows n
none_behind rows k n all before i b same = let low = before i (omega (arith, b, all)) in absurd (omega (arith, low, same))

-- one is taken ---------------------------------------------------------------------------------------

stays_by : (m : ℕ) (o : Option Said) (rs : List Role) (n : ℕ) → m ≢ n →
    without (option_to_list (option_map (role_said m) o) ++ rs) n ≡ option_to_list (option_map (role_said m) o) ++ without rs n
stays_by m None rs n differ = refl
stays_by m (Some s) rs n differ = ap (λ (b : Bool). if b then rs else role_said m s ∷ without rs n) (apart m n differ)

gone_by : (m : ℕ) (o : Option Said) (rs : List Role) (n : ℕ) → m ≡ n → role_of rs n ≡ None →
    without (option_to_list (option_map (role_said m) o) ++ rs) n ≡ rs
gone_by m None rs n same none = without_absent rs n none
gone_by m (Some s) rs n same none = ap (λ (b : Bool). if b then rs else role_said m s ∷ without rs n) (eq-eqb m n same)

pub taken : (rows : List Row) (i n : ℕ) → IsRising rows → i < length rows → (row_at rows i).number ≡ n →
    roles_in (set rows i (taken_row n)) ≡ without (roles_in rows) n
taken [] i n rising b is = absurd (omega (arith, b))
taken (r ∷ rs) zero n rising b is = sym (gone_by r.number r.said (roles_in rs) n is (lacking rs n (above_lacks r rs n rising is)))
taken (r ∷ rs) (suc i) n rising b is =
    ap (λ (xs : List Role). role_in r ++ xs) (taken rs i n (tail r rs rising) (omega (arith, b)) is)
    ∙ sym (stays_by r.number r.said (roles_in rs) n (not_head r rs i n rising (omega (arith, b)) is))

same_number : (rows : List Row) (i n j : ℕ) → i < length rows → (row_at rows i).number ≡ n → (row_at (set rows i (taken_row n)) j).number ≡ (row_at rows j).number
same_number [] i n j b is = absurd (omega (arith, b))
same_number (r ∷ rs) zero n zero b is = sym is
same_number (r ∷ rs) zero n (suc j) b is = refl
same_number (r ∷ rs) (suc i) n zero b is = refl
same_number (r ∷ rs) (suc i) n (suc j) b is = same_number rs i n j (omega (arith, b)) is

pub taken_rises : (rows : List Row) (i n : ℕ) → IsRising rows → i < length rows → (row_at rows i).number ≡ n → IsRising (set rows i (taken_row n))
taken_rises rows i n rising b is = λ j k l below.
    let more = length-set rows i (taken_row n) in
    let up = rising j k l (omega (arith, below, more)) in
    let one = same_number rows i n j b is in
    let two = same_number rows i n k b is in
    omega (arith, up, one, two)

-- how many -------------------------------------------------------------------------------------------

count_by : (rs : List Role) (n : ℕ) (o : Option Said) → role_of rs n ≡ option_map (role_said n) o →
    length (without rs n) + length (option_to_list (option_map (role_said n) o)) ≡ length rs
count_by rs n o is = ap (λ (x : Option Role). length (without rs n) + length (option_to_list x)) (sym is) ∙ fewer rs n

pub taken_none : (rows : List Row) (i n : ℕ) → IsRising rows → i < length rows → (row_at rows i).number ≡ n → (row_at rows i).said ≡ None →
    length (without (roles_in rows) n) ≡ length (roles_in rows)
taken_none rows i n rising b is none =
    let c = count_by (roles_in rows) n None (looked rows i n rising b is ∙ ap (option_map (role_said n)) none) in omega (arith, c)

pub taken_one : (rows : List Row) (i n : ℕ) (s : Said) → IsRising rows → i < length rows → (row_at rows i).number ≡ n → (row_at rows i).said ≡ Some s →
    length (without (roles_in rows) n) + 1 ≡ length (roles_in rows)
taken_one rows i n s rising b is some =
    let c = count_by (roles_in rows) n (Some s) (looked rows i n rising b is ∙ ap (option_map (role_said n)) some) in omega (arith, c)

pub said_none : (o : Option Said) → is_some o ≡ false → o ≡ None
said_none None is = refl
said_none (Some s) is = absurd (false≢true (sym is))

pub taken_some : (rows : List Row) (i n : ℕ) → IsRising rows → i < length rows → (row_at rows i).number ≡ n → is_some (row_at rows i).said ≡ true →
    length (without (roles_in rows) n) + 1 ≡ length (roles_in rows)
taken_some rows i n rising b is there = of (row_at rows i).said refl there where
  of : (o : Option Said) → (row_at rows i).said ≡ o → is_some o ≡ true → length (without (roles_in rows) n) + 1 ≡ length (roles_in rows)
  of None none is_there = absurd (false≢true is_there)
  of (Some s) some is_there = taken_one rows i n s rising b is some

few_by : (o : Option Role) → length (option_to_list o) ≤ 1
few_by None = omega arith
few_by (Some r) = omega arith

pub no_more : (rows : List Row) → length (roles_in rows) ≤ length rows
no_more [] = omega arith
no_more (r ∷ rs) =
    let rest = no_more rs in
    let one = few_by (option_map (role_said r.number) r.said) in
    let all = length-append (role_in r) (roles_in rs) in omega (arith, rest, one, all)

-- one is pushed --------------------------------------------------------------------------------------

pub roles_pushed : (rows : List Row) (r : Row) → roles_in (rows ++ r ∷ []) ≡ roles_in rows ++ role_in r
roles_pushed [] r = append-nil (role_in r)
roles_pushed (x ∷ rows) r = ap (λ (xs : List Role). role_in x ++ xs) (roles_pushed rows r) ∙ sym (append_assoc (role_in x) (roles_in rows) (role_in r))

at_seam : (rows : List Row) (r : Row) → row_at (rows ++ r ∷ []) (length rows) ≡ r
at_seam [] r = refl
at_seam (x ∷ rows) r = at_seam rows r

pub push_rises : (rows : List Row) (r : Row) → IsRising rows → ((i : ℕ) → i < length rows → (row_at rows i).number < r.number) → IsRising (rows ++ r ∷ [])
push_rises rows r rising above = λ i j l b. of i j l b (cases_order j (length rows)) where
  left : (i : ℕ) → i < length rows → (row_at (rows ++ r ∷ []) i).number ≡ (row_at rows i).number
  left i l = ap (λ (x : Row). x.number) (get_or_append_left rows (r ∷ []) (taken_row 0) i l)

  last : (j : ℕ) → j ≡ length rows → (row_at (rows ++ r ∷ []) j).number ≡ r.number
  last j is = ap (λ (k : ℕ). (row_at (rows ++ r ∷ []) k).number) is ∙ ap (λ (x : Row). x.number) (at_seam rows r)

  of : (i j : ℕ) → i < j → j < length (rows ++ r ∷ []) → ((j ≡ length rows) ⊎ ((j < length rows) ⊎ (length rows < j))) →
      (row_at (rows ++ r ∷ []) i).number < (row_at (rows ++ r ∷ []) j).number
  of i j l b (inl is) =
      let within : i < length rows = omega (arith, l, is) in
      let low = left i within in let high = last j is in let up = above i within in omega (arith, low, high, up)
  of i j l b (inr (inl within)) =
      let low = left i (omega (arith, l, within)) in let high = left j within in let up = rising i j l within in omega (arith, low, high, up)
  of i j l b (inr (inr past)) = let all = length-append rows (r ∷ []) in absurd (omega (arith, b, all, past))

-- the last leaves ------------------------------------------------------------------------------------

none_by : (m : ℕ) (o : Option Said) (rs : List Role) → o ≡ None → option_to_list (option_map (role_said m) o) ++ rs ≡ rs
none_by m o rs is = ap (λ (x : Option Said). option_to_list (option_map (role_said m) x) ++ rs) is

pub cut_shows : (rows : List Row) (k : ℕ) → length rows ≡ suc k → (row_at rows k).said ≡ None → roles_in (take k rows) ≡ roles_in rows
cut_shows [] k all none = absurd (omega (arith, all))
cut_shows (r ∷ []) zero all none = sym (none_by r.number r.said [] none)
cut_shows (r ∷ x ∷ rs) zero all none = absurd (omega (arith, all))
cut_shows (r ∷ rs) (suc k) all none = ap (λ (xs : List Role). role_in r ++ xs) (cut_shows rs k (omega (arith, all)) none)

pub cut_rises : (rows : List Row) (k : ℕ) → IsRising rows → k ≤ length rows → length (take k rows) ≡ k → IsRising (take k rows)
cut_rises rows k rising within long = λ i j l b.
    let one = ap (λ (x : Row). x.number) (get_or-take k rows i (taken_row 0) (omega (arith, l, b, long))) in
    let two = ap (λ (x : Row). x.number) (get_or-take k rows j (taken_row 0) (omega (arith, b, long))) in
    let up = rising i j l (omega (arith, b, long, within)) in omega (arith, one, two, up)

none_back : (n : ℕ) (o : Option Said) → option_map (role_said n) o ≡ None → o ≡ None
none_back n None is = refl
none_back n (Some s) is = absurd (cc)

-- where no role has a number from this on, the row of such a number has none
pub none_above : (rows : List Row) (i n : ℕ) → IsRising rows → i < length rows → ((q : ℕ) → n ≤ q → role_of (roles_in rows) q ≡ None) →
    n ≤ (row_at rows i).number → (row_at rows i).said ≡ None
none_above rows i n rising b below high =
    none_back (row_at rows i).number (row_at rows i).said (sym (looked rows i (row_at rows i).number rising b refl) ∙ below (row_at rows i).number high)

-- one row fewer
pub cut_again : (rows : List Row) (k n : ℕ) → IsRising rows → k < length rows → ((q : ℕ) → n ≤ q → role_of (roles_in rows) q ≡ None) →
    n ≤ (row_at rows k).number → roles_in (take (suc k) rows) ≡ roles_in rows → roles_in (take k rows) ≡ roles_in rows
cut_again rows k n rising b below high same =
    ap roles_in (sym (take-take k (suc k) rows (omega arith)))
    ∙ cut_shows (take (suc k) rows) k (length-take-le (suc k) rows (omega (arith, b)))
    (ap (λ (r : Row). r.said) (get_or-take (suc k) rows k (taken_row 0) (omega arith)) ∙ none_above rows k n rising b below high) ∙ same

-- only rows that have a role are left ----------------------------------------------------------------

live_shows_by : (r : Row) (o : Option Said) (rs : List Row) → r.said ≡ o → roles_in (live_by o r rs) ≡ role_in r ++ roles_in rs
live_shows_by r None rs is = sym (none_by r.number r.said (roles_in rs) is)
live_shows_by r (Some s) rs is = refl

pub live_shows : (rows : List Row) → roles_in (live_rows rows) ≡ roles_in rows
live_shows [] = refl
live_shows (r ∷ rs) = live_shows_by r r.said (live_rows rs) refl ∙ ap (λ (xs : List Role). role_in r ++ xs) (live_shows rs)

abbrev AllAbove : ℕ → List Row → Type 0
AllAbove m rows = (i : ℕ) → i < length rows → m < (row_at rows i).number

above_by : (m : ℕ) (o : Option Said) (r : Row) (rs : List Row) → m < r.number → AllAbove m rs → AllAbove m (live_by o r rs)
above_by m None r rs one rest = rest
above_by m (Some s) r rs one rest = of where
  of : AllAbove m (r ∷ rs)
  of zero b = one
  of (suc i) b = rest i (omega (arith, b))

live_above : (m : ℕ) (rows : List Row) → AllAbove m rows → AllAbove m (live_rows rows)
live_above m [] above = above
live_above m (r ∷ rs) above = above_by m r.said r (live_rows rs) (above 0 (omega arith)) (live_above m rs (λ i b. above (suc i) (omega (arith, b))))

rises_by : (o : Option Said) (r : Row) (rs : List Row) → AllAbove r.number rs → IsRising rs → IsRising (live_by o r rs)
rises_by None r rs above rising = rising
rises_by (Some s) r rs above rising = of where
  of : IsRising (r ∷ rs)
  of i zero l b = absurd (omega (arith, l))
  of zero (suc j) l b = above j (omega (arith, b))
  of (suc i) (suc j) l b = rising i j (omega (arith, l)) (omega (arith, b))

pub live_rises : (rows : List Row) → IsRising rows → IsRising (live_rows rows)
live_rises [] rising = rising
live_rises (r ∷ rs) rising =
    rises_by r.said r (live_rows rs) (live_above r.number rs (head_below r rs rising)) (live_rises rs (tail r rs rising))

pub live_pushed : (rows : List Row) (r : Row) → live_rows (rows ++ r ∷ []) ≡ live_rows rows ++ live_rows (r ∷ [])
live_pushed [] r = refl
live_pushed (x ∷ rows) r = ap (live_by x.said x) (live_pushed rows r) ∙ push_by x.said x (live_rows rows) (live_rows (r ∷ [])) where
  push_by : (o : Option Said) (x : Row) (rs qs : List Row) → live_by o x (rs ++ qs) ≡ live_by o x rs ++ qs
  push_by None x rs qs = refl
  push_by (Some s) x rs qs = refl

pub live_one : (r : Row) (s : Said) → r.said ≡ Some s → live_rows (r ∷ []) ≡ r ∷ []
live_one r s is = ap (λ (o : Option Said). live_by o r []) is

pub live_none : (r : Row) → r.said ≡ None → live_rows (r ∷ []) ≡ []
live_none r is = ap (λ (o : Option Said). live_by o r []) is

-- read ----------------------------------------------------------------------------------------------

pub read_as : (rows : List Row) (i : ℕ) (r : Row) → i < length rows → r ≡ get_or rows i r → row_at rows i ≡ r
read_as [] i r b is = absurd (omega (arith, b))
read_as (x ∷ rows) zero r b is = sym is
read_as (x ∷ rows) (suc i) r b is = read_as rows i r (omega (arith, b)) is

pub cut_below : (rows : List Row) (k n : ℕ) → IsRising rows → k ≤ length rows → length (take k rows) ≡ k → (0 < k → (row_at rows (k - 1)).number < n) →
    (i : ℕ) → i < length (take k rows) → (row_at (take k rows) i).number < n
cut_below rows k n rising within long last i b = of (cases_order i (k - 1)) where
  one : (row_at (take k rows) i).number ≡ (row_at rows i).number
  one = ap (λ (x : Row). x.number) (get_or-take k rows i (taken_row 0) (omega (arith, b, long)))

  top : (row_at rows (k - 1)).number < n
  top = last (omega (arith, b, long))

  of : ((i ≡ k - 1) ⊎ ((i < k - 1) ⊎ (k - 1 < i))) → (row_at (take k rows) i).number < n
  of (inl is) = let same = ap (λ (j : ℕ). (row_at rows j).number) is in let t = top in let o = one in omega (arith, same, t, o)
  of (inr (inl l)) = let up = rising i (k - 1) l (omega (arith, within, b, long)) in let t = top in let o = one in omega (arith, up, t, o)
  of (inr (inr g)) = absurd (omega (arith, g, b, long))
