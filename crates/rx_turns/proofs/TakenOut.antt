-- Lists of places out of which one is taken.
use Rattle.std.proofs.Common.{◌≡◌, ℕ, suc, ◌<◌, ◌≤◌, ◌==◌, ◌||◌, Bool, true, false, cond, List, [], ◌∷◌, length, Option, Some, None, refl, ap, sym, ◌∙◌, arith}
use Rattle.std.proofs.Math.Bool.{not}
use Rattle.std.proofs.lemmas.Bool.{false≢true, eq-eqb, false_from_ne_true}
use Rattle.rx_slots.specs.Lists.{is_in, take_out, head_of}
use Rattle.rx_turns.specs.declared.agenda.Turn.{Turn}
use Rattle.rx_turns.specs.Rows.{is_same}
use Rattle.rx_turns.specs.Agendas.{DueLists, due_to, IsDueOnce}
use Rattle.rx_turns.proofs.Lines.{is_same-self}

-- a list by its first
pub record BeginsWith (place : ℕ) (xs : List ℕ) : Type 0 where
  pub rest : List ℕ
  pub is : xs ≡ place ∷ rest

pub begins_with : (place : ℕ) (xs : List ℕ) → Some place ≡ head_of xs → BeginsWith place xs
begins_with place [] is = absurd (cc)
begins_with place (x ∷ xs) is = record { rest = xs; is = ap (λ (o : Option ℕ). of o) (sym is) }
  where
    of : Option ℕ → List ℕ
    of None = x ∷ xs
    of (Some n) = n ∷ xs

pub empty_head : (xs : List ℕ) → None ≡ head_of xs → xs ≡ []
empty_head [] is = refl
empty_head (x ∷ xs) is = absurd (cc)

fewer_by : (m x : ℕ) (xs : List ℕ) (b : Bool) → length (take_out m xs) ≤ length xs → length (cond b (x ∷ take_out m xs) (take_out m xs)) ≤ suc (length xs)
fewer_by m x xs true fewer = omega (arith, fewer)
fewer_by m x xs false fewer = omega (arith, fewer)

no_more : (m : ℕ) (xs : List ℕ) → length (take_out m xs) ≤ length xs
no_more m [] = omega arith
no_more m (x ∷ xs) = fewer_by m x xs (not (m == x)) (no_more m xs)

-- without its first a list is shorter
pub shorter : (place : ℕ) (xs : List ℕ) → Some place ≡ head_of xs → length (take_out place xs) < length xs
shorter place xs is = shorter_by place xs (begins_with place xs is)
  where
    gone : (place : ℕ) (rest : List ℕ) → take_out place (place ∷ rest) ≡ take_out place rest
    gone place rest = ap (λ b. cond (not b) (place ∷ take_out place rest) (take_out place rest)) (eq-eqb place place refl)

    shorter_by : (place : ℕ) (xs : List ℕ) → BeginsWith place xs → length (take_out place xs) < length xs
    shorter_by place xs begins =
        let at_most = no_more place begins.rest in
        let out : length (take_out place xs) ≡ length (take_out place begins.rest) = ap (λ ys. length (take_out place ys)) begins.is
        ∙ ap length (gone place begins.rest) in
        let all : length xs ≡ suc (length begins.rest) = ap length begins.is in
        omega (arith, at_most, out, all)

out_by : (m x : ℕ) (xs : List ℕ) (b : Bool) → (m == x) ≡ b → (b || is_in m xs) ≡ false → (is_in m xs ≡ false → take_out m xs ≡ xs) →
    cond (not b) (x ∷ take_out m xs) (take_out m xs) ≡ x ∷ xs
out_by m x xs true is none again = absurd (false≢true (sym none))
out_by m x xs false is none again = ap (λ (ys : List ℕ). x ∷ ys) (again none)

-- who is not there is not taken out
pub take_out-absent : (m : ℕ) (xs : List ℕ) → is_in m xs ≡ false → take_out m xs ≡ xs
take_out-absent m [] none = refl
take_out-absent m (x ∷ xs) none = out_by m x xs (m == x) refl none (take_out-absent m xs)

or_right : (a b : Bool) → b ≡ true → (a || b) ≡ true
or_right true b is = refl
or_right false b is = is

still_by : (m p x : ℕ) (xs : List ℕ) (b : Bool) → (is_in m (take_out p xs) ≡ true → is_in m xs ≡ true) →
    is_in m (cond b (x ∷ take_out p xs) (take_out p xs)) ≡ true → ((m == x) || is_in m xs) ≡ true
still_by m p x xs true again there = either (m == x) there
  where
    either : (c : Bool) → (c || is_in m (take_out p xs)) ≡ true → (c || is_in m xs) ≡ true
    either true there = refl
    either false there = again there
still_by m p x xs false again there = or_right (m == x) (is_in m xs) (again there)

-- who is there after another was taken out was there before
pub in_take_out : (m p : ℕ) (xs : List ℕ) → is_in m (take_out p xs) ≡ true → is_in m xs ≡ true
in_take_out m p [] there = there
in_take_out m p (x ∷ xs) there = still_by m p x xs (not (p == x)) (in_take_out m p xs) there

first_there : (place : ℕ) (places xs : List ℕ) → xs ≡ place ∷ places → is_in place xs ≡ true
first_there place places xs is = ap (is_in place) is ∙ ap (λ b. b || is_in place places) (eq-eqb place place refl)

pub not_others : (turn other : Turn) (a : DueLists) (place : ℕ) (places : List ℕ) → IsDueOnce a → is_same turn other ≡ false → due_to a turn ≡ place ∷ places →
    is_in place (due_to a other) ≡ false
not_others turn other a place places once apart due =
    false_from_ne_true (is_in place (due_to a other)) (λ there.
    let same = once turn other place (first_there place places (due_to a turn) due) there in
    false≢true (sym apart ∙ (ap (λ (v : Turn). is_same turn v) (sym same) ∙ is_same-self turn)))

pub once_after : (a c : DueLists) (place : ℕ) → IsDueOnce a → ((t : Turn) → due_to c t ≡ take_out place (due_to a t)) → IsDueOnce c
once_after a c place once out t u m at_t at_u =
    once t u m (in_take_out m place (due_to a t) (ap (is_in m) (sym (out t)) ∙ at_t)) (in_take_out m place (due_to a u) (ap (is_in m) (sym (out u)) ∙ at_u))
