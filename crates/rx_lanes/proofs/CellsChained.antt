-- Cells that lead to one another: what a walk over them finds, and how a cell is taken off a list or put on one.
use Rattle.std.proofs.Common.{◌≡◌, ◌≢◌, ℕ, zero, suc, ◌<◌, ◌≤◌, ◌==◌, ◌||◌, Bool, true, false, cond, List, [], ◌∷◌, ◌++◌, length, Option, Some, None, refl}
use Rattle.std.proofs.Common.{sym, ◌∙◌, ap, subst, arith, inl, inr, ◌⊎◌, true≢false}
use Rattle.std.proofs.lemmas.Bool.{cases_eq}
use Rattle.rx_slots.specs.Lists.{is_in, AreApart}
use Rattle.rx_lanes.specs.Chains.{most_slots, no_cell, next_at, LeadsThrough, walk_cells, EndsIn, AreChained}
use Rattle.rx_lanes.proofs.NumbersOnLists.{eq_self, eq_not, few_apart, is_in-last, AreApart-last}

-- a test of two numbers, by cases
pub by_place : (P : Bool → Type 0) (a b : ℕ) → (a ≡ b → P true) → (a ≢ b → P false) → P (a == b)
by_place P a b yes_it not_it = of (cases_eq a b) where
  of : ((a ≡ b) ⊎ (a ≢ b)) → P (a == b)
  of (inl same) = subst P (sym (subst (λ z. (a == z) ≡ true) same (eq_self a))) (yes_it same)
  of (inr apart) = subst P (sym (eq_not a b apart)) (not_it apart)

-- whether these are the same list: that of a queue, or that of free cells
abbrev pub is_list : Option ℕ → Option ℕ → Bool
is_list None None = true
is_list None (Some q) = false
is_list (Some q) None = false
is_list (Some q) (Some r) = q == r

pub by_list : (P : Bool → Type 0) (e f : Option ℕ) → (e ≡ f → P true) → (e ≢ f → P false) → P (is_list e f)
by_list P None None yes_it not_it = yes_it refl
by_list P None (Some q) yes_it not_it = not_it (λ e. cc)
by_list P (Some q) None yes_it not_it = not_it (λ e. cc)
by_list P (Some q) (Some r) yes_it not_it = by_place P q r (λ same. yes_it (ap Some same)) (λ apart. not_it (λ e. apart cc))

pub on_own : (x : ℕ) (xs : List ℕ) → is_in x (x ∷ xs) ≡ true
on_own x xs = ap (λ b. b || is_in x xs) (eq_self x)

on_more : (m x : ℕ) (xs : List ℕ) → is_in m xs ≡ true → is_in m (x ∷ xs) ≡ true
on_more m x xs i = of (m == x) where
  of : (b : Bool) → (b || is_in m xs) ≡ true
  of true = refl
  of false = i

pub on_rest : (m x : ℕ) (xs : List ℕ) → m ≢ x → is_in m (x ∷ xs) ≡ is_in m xs
on_rest m x xs apart = ap (λ b. b || is_in m xs) (eq_not m x apart)

-- what stands on a list and what does not are apart
pub unlike : (m c : ℕ) (xs : List ℕ) → is_in m xs ≡ true → is_in c xs ≡ false → m ≢ c
unlike m c xs i none same = true≢false (sym i ∙ ap (λ z. is_in z xs) same ∙ none)

-- links that stay where they are read lead over the same cells
pub leads_same : (next next' : List ℕ) (first : ℕ) (xs : List ℕ) → length next ≤ length next' →
    ((m : ℕ) → m < length next → is_in m xs ≡ true → next_at next' m ≡ next_at next m) → LeadsThrough next first xs → LeadsThrough next' first xs
leads_same next next' first [] longer same l = l
leads_same next next' first (x ∷ xs) longer same l =
    let within = l.1 in (
      l.0,
      omega (arith, within, longer),
      subst (λ n. LeadsThrough next' n xs) (sym (same x within (on_own x xs)))
          (leads_same next next' (next_at next x) xs longer (λ m below i. same m below (on_more m x xs i)) l.2),
    )

pub leads_below : (next : List ℕ) (first : ℕ) (xs : List ℕ) → LeadsThrough next first xs → (m : ℕ) → is_in m xs ≡ true → m < length next
leads_below next first [] l m i = absurd (true≢false (sym i))
leads_below next first (x ∷ xs) l m i = of (cases_eq m x) (leads_below next (next_at next x) xs l.2 m) where
  of : ((m ≡ x) ⊎ (m ≢ x)) → (is_in m xs ≡ true → m < length next) → m < length next
  of (inl same) further = subst (λ z. z < length next) (sym same) l.1
  of (inr apart) further = further (sym (on_rest m x xs apart) ∙ i)

pub leads_few : (next : List ℕ) (first : ℕ) (xs : List ℕ) → AreApart xs → LeadsThrough next first xs → length xs ≤ length next
leads_few next first xs apart l = few_apart (length next) xs apart (leads_below next first xs l)

pub walk_none : (steps : ℕ) (next : List ℕ) → walk_cells steps next no_cell ≡ []
walk_none zero next = refl
walk_none (suc steps) next = ap (λ b. cond b [] (no_cell ∷ walk_cells steps next (next_at next no_cell))) (eq_self no_cell)

-- a walk finds the cells that are led over
pub walk_is : (steps : ℕ) (next : List ℕ) (first : ℕ) (xs : List ℕ) → length next ≤ most_slots → length xs ≤ steps → LeadsThrough next first xs →
    walk_cells steps next first ≡ xs
walk_is steps next first [] few fits l = ap (walk_cells steps next) l ∙ walk_none steps next
walk_is zero next first (x ∷ xs) few fits l = absurd (omega (arith, fits))
walk_is (suc steps) next first (x ∷ xs) few fits l =
    let within = l.1 in
    ap (walk_cells (suc steps) next) l.0
    ∙ ap (λ b. cond b [] (x ∷ walk_cells steps next (next_at next x))) (eq_not x no_cell (λ e. absurd (omega (arith, e, within, few))))
    ∙ ap (λ (ys : List ℕ). x ∷ ys) (walk_is steps next (next_at next x) xs few (omega (arith, fits)) l.2)

pub ends_on : (l x : ℕ) (xs : List ℕ) → EndsIn l (x ∷ xs) → is_in l (x ∷ xs) ≡ true
ends_on l x [] e = subst (λ z. is_in z (x ∷ []) ≡ true) (sym e) (on_own x [])
ends_on l x (y ∷ xs) e = on_more l x (y ∷ xs) (ends_on l y xs e)

pub ends_last : (cell : ℕ) (xs : List ℕ) → EndsIn cell (xs ++ cell ∷ [])
ends_last cell [] = refl
ends_last cell (x ∷ []) = refl
ends_last cell (x ∷ y ∷ xs) = ends_last cell (y ∷ xs)

pub ends_rest : (l x : ℕ) (xs : List ℕ) → EndsIn l (x ∷ xs) → EndsIn l xs
ends_rest l x [] e = tt
ends_rest l x (y ∷ xs) e = e

-- one list is another
abbrev pub with_list : Option ℕ → List ℕ → (Option ℕ → List ℕ) → Option ℕ → List ℕ
with_list e xs lists f = cond (is_list e f) xs (lists f)

-- the first cell is taken off a list ---------------------------------------------------------------

pub record IsFirstOf (next : List ℕ) (first : Option ℕ → ℕ) (lists : Option ℕ → List ℕ) (from : Option ℕ) (cell : ℕ) (cs : List ℕ) : Type 0 where
  pub chained : AreChained next first lists
  pub is : lists from ≡ cell ∷ cs

module _ {next : List ℕ} {first : Option ℕ → ℕ} {lists : Option ℕ → List ℕ} {from : Option ℕ} {cell : ℕ} {cs : List ℕ}
    (f : IsFirstOf next first lists from cell cs) where
  pub led : (first from ≡ cell) × (cell < length next) × LeadsThrough next (next_at next cell) cs
  led = subst (LeadsThrough next (first from)) f.is (f.chained.leads from)

  rest_apart : (is_in cell cs ≡ false) × AreApart cs
  rest_apart = subst AreApart f.is (f.chained.apart from)

  pub cell_on : is_in cell (lists from) ≡ true
  cell_on = ap (is_in cell) f.is ∙ on_own cell cs

  pub elsewhere : (e : Option ℕ) → from ≢ e → is_in cell (lists e) ≡ false
  elsewhere e apart = of (is_in cell (lists e)) refl where
    of : (b : Bool) → is_in cell (lists e) ≡ b → is_in cell (lists e) ≡ false
    of true i = absurd (apart (f.chained.once from e cell cell_on i))
    of false i = i

  was_on : (e : Option ℕ) (m : ℕ) → is_in m (with_list from cs lists e) ≡ true → is_in m (lists e) ≡ true
  was_on e m = by_list (λ b. is_in m (cond b cs (lists e)) ≡ true → is_in m (lists e) ≡ true) from e
      (λ same i. subst (λ z. is_in m (lists z) ≡ true) same (ap (is_in m) f.is ∙ on_more m cell cs i)) (λ apart i. i)

  pub on_none : (e : Option ℕ) → is_in cell (with_list from cs lists e) ≡ false
  on_none e = by_list (λ b. is_in cell (cond b cs (lists e)) ≡ false) from e (λ same. rest_apart.0) (elsewhere e)

  pub taken_off : (first' : Option ℕ → ℕ) → ((e : Option ℕ) → first' e ≡ cond (is_list from e) (next_at next cell) (first e)) →
      AreChained next first' (with_list from cs lists)
  taken_off first' is = record {
    leads = λ e. subst (λ n. LeadsThrough next n (with_list from cs lists e)) (sym (is e))
        (by_list (λ b. LeadsThrough next (cond b (next_at next cell) (first e)) (cond b cs (lists e))) from e (λ same. led.2) (λ apart. f.chained.leads e));
    apart = λ e. by_list (λ b. AreApart (cond b cs (lists e))) from e (λ same. rest_apart.1) (λ apart. f.chained.apart e);
    once = λ e g m i j. f.chained.once e g m (was_on e m i) (was_on g m j);
  }

-- a cell on no list is put on one ---------------------------------------------------------------------

pub record IsLoose (next : List ℕ) (first : Option ℕ → ℕ) (lists : Option ℕ → List ℕ) (cell : ℕ) : Type 0 where
  pub chained : AreChained next first lists
  pub none : (e : Option ℕ) → is_in cell (lists e) ≡ false
  pub within : cell < length next

module _ {next : List ℕ} {first : Option ℕ → ℕ} {lists : Option ℕ → List ℕ} {cell : ℕ} (c : IsLoose next first lists cell) (to : Option ℕ) (ys : List ℕ)
    (apart : AreApart ys) (holds : (m : ℕ) → m ≢ cell → is_in m ys ≡ is_in m (lists to)) where
  came : (e : Option ℕ) (m : ℕ) → is_in m (with_list to ys lists e) ≡ true → ((m ≡ cell) × (to ≡ e)) ⊎ ((m ≢ cell) × (is_in m (lists e) ≡ true))
  came e m = by_list (λ b. is_in m (cond b ys (lists e)) ≡ true → ((m ≡ cell) × (to ≡ e)) ⊎ ((m ≢ cell) × (is_in m (lists e) ≡ true))) to e
      (λ same i. of same i (cases_eq m cell)) (λ other i. inr (unlike m cell (lists e) i (c.none e), i))
    where
      of : to ≡ e → is_in m ys ≡ true → ((m ≡ cell) ⊎ (m ≢ cell)) → ((m ≡ cell) × (to ≡ e)) ⊎ ((m ≢ cell) × (is_in m (lists e) ≡ true))
      of same i (inl it) = inl (it, same)
      of same i (inr other) = inr (other, subst (λ z. is_in m (lists z) ≡ true) same (sym (holds m other) ∙ i))

  put_on : (next' : List ℕ) (first' : Option ℕ → ℕ) → length next ≤ length next' →
      ((e : Option ℕ) (m : ℕ) → to ≢ e → is_in m (lists e) ≡ true → next_at next' m ≡ next_at next m) →
      ((e : Option ℕ) → to ≢ e → first' e ≡ first e) → LeadsThrough next' (first' to) ys → AreChained next' first' (with_list to ys lists)
  put_on next' first' longer same stays leads = record {
    leads = λ e. by_list (λ b. LeadsThrough next' (first' e) (cond b ys (lists e))) to e
        (λ it. subst (λ z. LeadsThrough next' (first' z) ys) it leads)
        (λ other. subst (λ n. LeadsThrough next' n (lists e)) (sym (stays e other))
        (leads_same next next' (first e) (lists e) longer (λ m below. same e m other) (c.chained.leads e)));
    apart = λ e. by_list (λ b. AreApart (cond b ys (lists e))) to e (λ it. apart) (λ other. c.chained.apart e);
    once = λ e g m i j. of e g m (came e m i) (came g m j);
  } where
    of : (e g : Option ℕ) (m : ℕ) → (((m ≡ cell) × (to ≡ e)) ⊎ ((m ≢ cell) × (is_in m (lists e) ≡ true))) →
        (((m ≡ cell) × (to ≡ g)) ⊎ ((m ≢ cell) × (is_in m (lists g) ≡ true))) → e ≡ g
    of e g m (inl p) (inl q) = sym p.1 ∙ q.1
    of e g m (inl p) (inr q) = absurd (q.0 p.0)
    of e g m (inr p) (inl q) = absurd (p.0 q.0)
    of e g m (inr p) (inr q) = c.chained.once e g m p.1 q.1

module _ {next : List ℕ} {first : Option ℕ → ℕ} {lists : Option ℕ → List ℕ} {cell : ℕ} (c : IsLoose next first lists cell) (to : Option ℕ)
    (next' : List ℕ) (first' : Option ℕ → ℕ)
    (as_many : length next' ≡ length next) (stays : (e : Option ℕ) → to ≢ e → first' e ≡ first e) where
  pub put_first : next_at next' cell ≡ first to → ((m : ℕ) → m ≢ cell → next_at next' m ≡ next_at next m) → first' to ≡ cell →
      AreChained next' first' (with_list to (cell ∷ lists to) lists)
  put_first leads_on same now =
      let kept : (e : Option ℕ) (m : ℕ) → is_in m (lists e) ≡ true → next_at next' m ≡
      next_at next m = λ e m i. same m (unlike m cell (lists e) i (c.none e)) in
      let within = c.within in
      put_on c to (cell ∷ lists to) (c.none to, c.chained.apart to) (λ m other. on_rest m cell (lists to) other) next' first' (omega (arith, as_many))
      (λ e m other. kept e m) stays (
        now,
        omega (arith, within, as_many),
        subst (λ n. LeadsThrough next' n (lists to)) (sym leads_on)
            (leads_same next next' (first to) (lists to) (omega (arith, as_many)) (λ m below. kept to m) (c.chained.leads to)),
      )

  -- the last of a list leads to it
  leads_last : (l f x : ℕ) (xs : List ℕ) → EndsIn l (x ∷ xs) → AreApart (x ∷ xs) → is_in cell (x ∷ xs) ≡ false → next_at next' l ≡ cell →
      next_at next' cell ≡ no_cell →
      ((m : ℕ) → m ≢ cell → m ≢ l → next_at next' m ≡ next_at next m) → LeadsThrough next f (x ∷ xs) → LeadsThrough next' f ((x ∷ xs) ++ cell ∷ [])
  leads_last l f x [] ends apart none leads_on leads_off same leads =
      let below = leads.1 in
      let within = c.within in
      (leads.0, omega (arith, below, as_many), (ap (next_at next') (sym ends) ∙ leads_on, omega (arith, within, as_many), leads_off))
  leads_last l f x (y ∷ xs) ends apart none leads_on leads_off same leads =
      let below = leads.1 in
      let not_cell : x ≢ cell = unlike x cell (x ∷ y ∷ xs) (on_own x (y ∷ xs)) none in
      let not_last : x ≢ l = λ e. unlike l x (y ∷ xs) (ends_on l y xs ends) apart.0 (sym e) in (
        leads.0,
        omega (arith, below, as_many),
        subst (λ n. LeadsThrough next' n ((y ∷ xs) ++ cell ∷ [])) (sym (same x not_cell not_last))
            (leads_last l (next_at next x) y xs ends apart.1 (sym (on_rest cell x (y ∷ xs) (λ e. not_cell (sym e))) ∙ none) leads_on leads_off same
            leads.2),
      )

  pub put_last : (l x : ℕ) (xs : List ℕ) → lists to ≡ x ∷ xs → EndsIn l (lists to) → next_at next' l ≡ cell → next_at next' cell ≡ no_cell →
      ((m : ℕ) → m ≢ cell → m ≢ l → next_at next' m ≡ next_at next m) → first' to ≡ first to →
      AreChained next' first' (with_list to (lists to ++ cell ∷ []) lists)
  put_last l x xs is ends leads_on leads_off same begins =
      let on : is_in l (lists to) ≡ true = ap (is_in l) is ∙ ends_on l x xs (subst (EndsIn l) is ends) in
      put_on c to (lists to ++ cell ∷ []) (AreApart-last cell (lists to) (c.chained.apart to) (c.none to))
      (λ m other. is_in-last m cell (lists to) other) next' first' (omega (arith, as_many))
      (λ e m other i. same m (unlike m cell (lists e) i (c.none e))
      (λ it. other (c.chained.once to e m (subst (λ z. is_in z (lists to) ≡ true) (sym it) on) i))) stays
      (subst (λ n. LeadsThrough next' n (lists to ++ cell ∷ [])) (sym begins) (subst (λ ys. LeadsThrough next' (first to) (ys ++ cell ∷ [])) (sym is)
      (leads_last l (first to) x xs (subst (EndsIn l) is ends) (subst AreApart is (c.chained.apart to)) (ap (is_in cell) (sym is) ∙ c.none to)
      leads_on leads_off same
      (subst (LeadsThrough next (first to)) is (c.chained.leads to)))))
