-- Names stay paired with numbers as one more is bound, and as one is forgotten.
use Rattle.std.proofs.Common.{◌≡◌, ℕ, ◌==◌, List, Bool, true, false, cond, Option, Some, None, option_map, refl, sym, ap, ◌∙◌, subst}
use Rattle.std.proofs.lemmas.Bool.{eqb-true, eq-eqb}
use Rattle.std.proofs.lemmas.Option.{none-some, same_Some}
use Rattle.std.proofs.lemmas.Slice.Eq.{bytes_eq-Decides}
use Rattle.std.specs.Str.{bytes_eq}
use Rattle.rx_line.specs.declared.names.Spot.{Spot}
use Rattle.rx_line.specs.Names.{ArePaired}

-- a changed function at the argument where it was changed
at_name : {A : Type 0} (name : List ℕ) (x y : A) → cond (bytes_eq name name) x y ≡ x
at_name name x y = ap (λ (b : Bool). cond b x y) ((bytes_eq-Decides name name).1 refl)

at_number : {A : Type 0} (k : ℕ) (x y : A) → cond (k == k) x y ≡ x
at_number k x y = ap (λ (b : Bool). cond b x y) (eq-eqb k k refl)

module _ (spot_of spot_of' : List ℕ → Option Spot) (name_of name_of' : ℕ → Option (List ℕ)) (paired : ArePaired spot_of name_of) where
  module _ (name : List ℕ) (s : Spot) (free : spot_of name ≡ None) (unnamed : name_of s.number ≡ None)
      (spots : (n : List ℕ) → spot_of' n ≡ cond (bytes_eq name n) (Some s) (spot_of n))
      (names : (k : ℕ) → name_of' k ≡ cond (s.number == k) (Some name) (name_of k)) where
    named_by : (n : List ℕ) (t : Spot) (b : Bool) → bytes_eq name n ≡ b → cond b (Some s) (spot_of n) ≡ Some t → name_of' t.number ≡ Some n
    named_by n t true same found =
        let is_t : s ≡ t = same_Some s t found in
        let is_n : name ≡ n = (bytes_eq-Decides name n).0 same in
        let there : name_of' s.number ≡ Some name = names s.number ∙ at_number s.number (Some name) (name_of s.number) in
        subst (λ (m : List ℕ). name_of' t.number ≡ Some m) is_n (subst (λ (u : Spot). name_of' u.number ≡ Some name) is_t there)
    named_by n t false apart found = other (s.number == t.number) refl where
      old : name_of t.number ≡ Some n
      old = paired.named n t found

      other : (c : Bool) → (s.number == t.number) ≡ c → name_of' t.number ≡ Some n
      other true same =
          let clash : None ≡ Some n = sym unnamed ∙ ap name_of (eqb-true s.number t.number same) ∙ old in absurd (none-some n clash)
      other false differ = names t.number ∙ ap (λ (c : Bool). cond c (Some name) (name_of t.number)) differ ∙ old

    numbered_by : (k : ℕ) (n : List ℕ) (b : Bool) → (s.number == k) ≡ b
        → cond b (Some name) (name_of k) ≡ Some n → option_map (λ (t : Spot). t.number) (spot_of' n) ≡ Some k
    numbered_by k n true same found =
        let is_k : s.number ≡ k = eqb-true s.number k same in
        let is_n : name ≡ n = same_Some name n found in
        let there : spot_of' name ≡ Some s = spots name ∙ at_name name (Some s) (spot_of name) in
        let number : option_map (λ (t : Spot). t.number) (spot_of' name) ≡ Some s.number = ap (option_map (λ (t : Spot). t.number)) there in
        subst (λ (m : List ℕ). option_map (λ (t : Spot). t.number) (spot_of' m) ≡ Some k) is_n (number ∙ ap (λ (j : ℕ). Some j) is_k)
    numbered_by k n false apart found = other (bytes_eq name n) refl where
      old : option_map (λ (t : Spot). t.number) (spot_of n) ≡ Some k
      old = paired.numbered k n found

      other : (c : Bool) → bytes_eq name n ≡ c → option_map (λ (t : Spot). t.number) (spot_of' n) ≡ Some k
      other true same =
          let gone : spot_of n ≡ None = ap spot_of (sym ((bytes_eq-Decides name n).0 same)) ∙ free in
          let clash : None ≡ Some k = sym (ap (option_map (λ (t : Spot). t.number)) gone) ∙ old in absurd (none-some k clash)
      other false differ = ap (option_map (λ (t : Spot). t.number)) (spots n ∙ ap (λ (c : Bool). cond c (Some s) (spot_of n)) differ) ∙ old

    pub paired-bind : ArePaired spot_of' name_of'
    paired-bind = record {
      named = λ n t found. named_by n t (bytes_eq name n) refl (sym (spots n) ∙ found);
      numbered = λ k n found. numbered_by k n (s.number == k) refl (sym (names k) ∙ found);
    }

  module _ (number : ℕ) (name : List ℕ) (known : name_of number ≡ Some name)
      (spots : (n : List ℕ) → spot_of' n ≡ cond (bytes_eq name n) None (spot_of n))
      (names : (k : ℕ) → name_of' k ≡ cond (number == k) None (name_of k)) where
    left_named : (n : List ℕ) (t : Spot) (b : Bool) → bytes_eq name n ≡ b → cond b None (spot_of n) ≡ Some t → name_of' t.number ≡ Some n
    left_named n t true same found = absurd (none-some t found)
    left_named n t false apart found = other (number == t.number) refl where
      old : name_of t.number ≡ Some n
      old = paired.named n t found

      other : (c : Bool) → (number == t.number) ≡ c → name_of' t.number ≡ Some n
      other true same =
          let one : Some name ≡ Some n = sym known ∙ ap name_of (eqb-true number t.number same) ∙ old in
          let told : bytes_eq name n ≡ true = (bytes_eq-Decides name n).1 (same_Some name n one) in
          let clash : false ≡ true = sym apart ∙ told in absurd (cc)
      other false differ = names t.number ∙ ap (λ (c : Bool). cond c None (name_of t.number)) differ ∙ old

    left_numbered : (k : ℕ) (n : List ℕ) (b : Bool) → (number == k) ≡ b
        → cond b None (name_of k) ≡ Some n → option_map (λ (t : Spot). t.number) (spot_of' n) ≡ Some k
    left_numbered k n true same found = absurd (none-some n found)
    left_numbered k n false apart found = other (bytes_eq name n) refl where
      old : option_map (λ (t : Spot). t.number) (spot_of n) ≡ Some k
      old = paired.numbered k n found

      mine : option_map (λ (t : Spot). t.number) (spot_of name) ≡ Some number
      mine = paired.numbered number name known

      other : (c : Bool) → bytes_eq name n ≡ c → option_map (λ (t : Spot). t.number) (spot_of' n) ≡ Some k
      other true same =
          let is_n : name ≡ n = (bytes_eq-Decides name n).0 same in
          let one : Some number ≡ Some k = sym mine ∙ ap (λ (m : List ℕ). option_map (λ (t : Spot). t.number) (spot_of m)) is_n ∙ old in
          let told : (number == k) ≡ true = eq-eqb number k (same_Some number k one) in
          let clash : false ≡ true = sym apart ∙ told in absurd (cc)
      other false differ = ap (option_map (λ (t : Spot). t.number)) (spots n ∙ ap (λ (c : Bool). cond c None (spot_of n)) differ) ∙ old

    pub paired-forget : ArePaired spot_of' name_of'
    paired-forget = record {
      named = λ n t found. left_named n t (bytes_eq name n) refl (sym (spots n) ∙ found);
      numbered = λ k n found. left_numbered k n (number == k) refl (sym (names k) ∙ found);
    }
