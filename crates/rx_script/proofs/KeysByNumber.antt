-- Keys that a book gave, and the numbers that they go by.
use Rattle.rx_script.proofs.Common.{◌≡◌, ◌<◌, ℕ, List, Bool, true, map, length, get_or, sym, ap, subst, ◌∙◌, arith, ◌≢◌, ◌&&◌, ◌==◌, Contains, eqb-true, eq-eqb}
use Rattle.rx_script.proofs.Common.{cases_order, length-map, is_open, is_held, is_out, Key, ResKey, LeaseKey, State, has_key, has_res_key, has_lease_key}
use Rattle.rx_script.proofs.Common.{IsPromised, IsNodeKey, IsHeldKey, IsLeaseKey, list_any}
use Rattle.std.proofs.Common.{⊎_elim, rules}
use Rattle.std.specs.Prelude.{IsTrue}
use Rattle.std.specs.List.{AllPairs}
use Rattle.std.proofs.lemmas.Bool.{and_parts, and_from}
use Rattle.std.proofs.lemmas.List.{get_or-map, get_or_default}
use Rattle.std.proofs.lemmas.List.Folds.{list_any_at}
use Rattle.std.proofs.lemmas.Map.Views.{Contains-from_any}
use Rattle.rx_event.specs.Gone.{AreJust}

Contains-map : {A B : Type 0} (f : A → B) (xs : List A) (x : A) → Contains xs x → Contains (map f xs) (f x)
Contains-map f xs x h = search (rules, length, map, length-map, get_or-map)

Contains-from_map : {A B : Type 0} (f : A → B) (xs : List A) (d : A) (y : B) → Contains (map f xs) y → (x : A) × Contains xs x × (f x ≡ y)
Contains-from_map f xs d y h =
    let long : length (map f xs) ≡ length xs = length-map xs f in
    let lt = h.1 in
    let within : h.0 < length xs = omega arith in
    let x = get_or xs h.0 d in
    (x, (h.0, within, get_or_default xs h.0 x d within), sym (get_or-map f xs h.0 d y within) ∙ h.2)

-- a number that stands once is that of one element
same_of_number : {A : Type 0} (f : A → ℕ) (xs : List A) (a b : A) → AllPairs (λ m n. m ≢ n) (map f xs) → Contains xs a → Contains xs b → f a ≡ f b → a ≡ b
same_of_number f xs a b once p q e =
    let long : length (map f xs) ≡ length xs = length-map xs f in
    let lp = p.1 in
    let lq = q.1 in
    let at_a : get_or (map f xs) p.0 (f a) ≡ f a = get_or-map f xs p.0 a (f a) p.1 ∙ ap f p.2 in
    let at_b : get_or (map f xs) q.0 (f a) ≡ f a = get_or-map f xs q.0 b (f a) q.1 ∙ ap f q.2 ∙ sym e in
    let same : p.0 ≡ q.0 = ⊎_elim (λ equal. equal) (λ apart. absurd (⊎_elim (λ below. once p.0 q.0 (f a) below (omega arith) (at_a ∙ sym at_b))
    (λ above. once q.0 p.0 (f a) above (omega arith) (at_b ∙ sym at_a)) apart)) (cases_order p.0 q.0) in
    sym p.2 ∙ get_or_default xs p.0 a b p.1 ∙ ap (λ i. get_or xs i b) same ∙ q.2

-- the numbers of the list's members are just those that pass the test
pub record AreNumbered {A : Type 0} (f : A → ℕ) (test : ℕ → Bool) (xs : List A) : Type 0 where
  pub just : AreJust test (map f xs)

pub numbered : {A : Type 0} (f : A → ℕ) {test : ℕ → Bool} (xs : List A) → AreJust test (map f xs) → AreNumbered f test xs
numbered f xs just = record { just = just }

-- a key whose number is still good keeps standing in the list
pub key_kept : {A : Type 0} {f : A → ℕ} {was is : ℕ → Bool} {old new : List A} (bound : ℕ) (k : A) → AreNumbered f was old → AreNumbered f is new
    → ((j : A) → Contains new j → f j < bound → Contains old j) → f k < bound → (IsTrue (was (f k)) → Contains old k) → IsTrue (is (f k)) → Contains new k
key_kept {f = f} {was} {old = old} {new = new} bound k before after older within found good =
    let here = Contains-from_map f new k (f k) (after.just.every (f k) good) in
    let j = here.0 in
    let there : Contains old j = older j here.1 (subst (λ n. n < bound) (sym here.2) within) in
    let listed = Contains-map f old j there in
    let was_j : IsTrue (was (f j)) = subst (λ n. IsTrue (was n)) listed.2 (before.just.each listed.0 (f j) listed.1) in
    let mine : Contains old k = found (subst (λ n. IsTrue (was n)) here.2 was_j) in
    subst (λ x. Contains new x) (same_of_number f old j k before.just.once there mine here.2) here.1

-- two tests that hold of the same
same_test : (a b : Bool) → (a ≡ true → b ≡ true) → (b ≡ true → a ≡ true) → a ≡ b
same_test a b there back = grind arith

-- keys that are the same by slot and number
module _ {K : Type 0} (slot number : K → ℕ) (whole : (k j : K) → slot j ≡ slot k → number j ≡ number k → k ≡ j) where
  same_parts : (k j : K) → (slot j == slot k && number j == number k) ≡ true → k ≡ j
  same_parts k j h = search (rules, and_parts, eqb-true)

  contained : (keys : List K) (k : K) → list_any (λ j. slot j == slot k && number j == number k) keys ≡ true → Contains keys k
  contained keys k h = Contains-from_any {eq = λ q j. slot j == slot q && number j == number q} same_parts k keys h

  -- a key that a book gave is in its list just where its number passes the test
  just_where : (test : ℕ → Bool) (keys : List K) (k : K) → AreJust test (map number keys) → (IsTrue (test (number k)) → Contains keys k)
      → list_any (λ j. slot j == slot k && number j == number k) keys ≡ test (number k)
  just_where test keys k just found = same_test (list_any (λ j. slot j == slot k && number j == number k) keys) (test (number k))
      (λ h. let listed = Contains-map number keys k (contained keys k h) in subst (λ n. test n ≡ true) listed.2 (just.each listed.0 (number k) listed.1))
      (λ good. let there = found good in list_any_at (λ j. slot j == slot k && number j == number k) keys there.0 k there.1
      (and_from _ _ (eq-eqb _ _ (ap slot there.2)) (eq-eqb _ _ (ap number there.2))))

whole_key : (k j : Key) → j.slot ≡ k.slot → j.number ≡ k.number → k ≡ j
whole_key k j slots numbers = search rules

whole_res_key : (k j : ResKey) → j.slot ≡ k.slot → j.number ≡ k.number → k ≡ j
whole_res_key k j slots numbers = search rules

whole_lease_key : (k j : LeaseKey) → j.slot ≡ k.slot → j.number ≡ k.number → k ≡ j
whole_lease_key k j slots numbers = search rules

pub has_key-contained : (keys : List Key) (k : Key) → has_key keys k ≡ true → Contains keys k
has_key-contained = contained (λ (j : Key). j.slot) (λ (j : Key). j.number) whole_key

pub has_res_key-contained : (keys : List ResKey) (k : ResKey) → has_res_key keys k ≡ true → Contains keys k
has_res_key-contained = contained (λ (j : ResKey). j.slot) (λ (j : ResKey). j.number) whole_res_key

pub has_lease_key-contained : (keys : List LeaseKey) (k : LeaseKey) → has_lease_key keys k ≡ true → Contains keys k
has_lease_key-contained = contained (λ (j : LeaseKey). j.slot) (λ (j : LeaseKey). j.number) whole_lease_key

-- a key that a book gave is in its list just where its node is open
pub has_key-is_open : (s : State) (k : Key) → IsPromised s → IsNodeKey s k → has_key s.keys k ≡ is_open s.history k.number
has_key-is_open s k kept node = just_where (λ (j : Key). j.slot) (λ (j : Key). j.number) whole_key (is_open s.history) s.keys k kept.keys node.found

pub has_res_key-is_held : (s : State) (k : ResKey) → IsPromised s → IsHeldKey s k → has_res_key s.res_keys k ≡ is_held s.history k.number
has_res_key-is_held s k kept held =
    just_where (λ (j : ResKey). j.slot) (λ (j : ResKey). j.number) whole_res_key (is_held s.history) s.res_keys k kept.res_keys held.found

pub has_lease_key-is_out : (s : State) (k : LeaseKey) → IsPromised s → IsLeaseKey s k → has_lease_key s.lease_keys k ≡ is_out s.history k.number
has_lease_key-is_out s k kept out =
    just_where (λ (j : LeaseKey). j.slot) (λ (j : LeaseKey). j.number) whole_lease_key (is_out s.history) s.lease_keys k kept.lease_keys out.found
