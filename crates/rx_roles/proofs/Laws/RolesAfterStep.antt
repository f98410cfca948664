-- Who has a role behind a step: those who had one before it and the nodes that it made, but for whom it ended or closed.
use Rattle.rx_event.proofs.Laws.Common.{◌≡◌, ℕ, ◌+◌, Bool, true, false, List, [], ◌∷◌, ◌++◌, length, refl, sym, ap, subst, ◌∙◌, ◌⊎◌, inl, inr, ◌==◌}
use Rattle.rx_event.proofs.Laws.Common.{◌&&◌, ◌||◌, not, at, is_open}
use Rattle.rx_event.proofs.Laws.Common.{append-nil, and_true, and_false, or_false, or_true, or_assoc, ne_eqb, ◌≤◌, eqb-true, if◌then◌else◌, arith}
use Rattle.std.proofs.lemmas.Bool.{false≢true, or_cases, both_ways}
use Rattle.std.proofs.lemmas.List.Folds.{list_any-append}
use Rattle.rx_event.specs.declared.event.Event.{Event}
use Rattle.rx_event.specs.declared.event.Event.TheVariants.{Connect}
use Rattle.rx_event.specs.Events.{is_connect}
use Rattle.rx_event.specs.Gone.{goes, AreJust}
use Rattle.rx_event.specs.Kept.{Kept}
use Rattle.rx_event.proofs.Laws.Openness.{is_open_within, is_open_past}
use Rattle.rx_roles.specs.declared.roles.Role.{Role}
use Rattle.rx_roles.specs.Roles.{is_among, without_all, AreRolesOf}
use Rattle.rx_roles.specs.Effects.{ends_of}
use Rattle.rx_roles.proofs.Laws.RolesTaken.{roles_same, roles_put, roles_taken_all}
use Rattle.rx_roles.proofs.Laws.JustThose.{just_among}
use Rattle.rx_roles.proofs.Laws.NodesAfterStep.{StepMakes, same_sort, older}
use Rattle.rx_roles.proofs.Laws.NodesGone.{goes_is}
use Rattle.rx_roles.proofs.Laws.NodesMade.{IsMaking, made_by, step_makes, own_event, second_event, made_with}
use Rattle.rx_roles.proofs.Laws.NotesOfStep.{StepTells, of_sort}

-- these are the nodes that the step closed
pub record AreClosed (h k : List Event) (closed : List ℕ) : Type 0 where
  pub each : (n : ℕ) → is_among n closed ≡ true → is_open k n ≡ false
  pub every : (n : ℕ) → is_open h n ≡ true → is_open k n ≡ false → is_among n closed ≡ true

-- the list of just those that have gone is that
pub are_closed : {h k : List Event} {made : List ℕ} → StepMakes h k made → {closed : List ℕ} → AreJust (goes h k) closed → AreClosed h k closed
are_closed {h} {k} s {closed} just = record {
  each = λ n is. closed_by (is_open h n) (is_open k n) (sym (among n) ∙ is);
  every = λ n was now. among n ∙ (rw (was, now) refl);
} where
  among : (n : ℕ) → is_among n closed ≡ (is_open h n && not (is_open k n))
  among n = just_among just n ∙ goes_is s n

  closed_by : (o c : Bool) → (o && not c) ≡ true → c ≡ false
  closed_by o false is = refl
  closed_by true true is = absurd (false≢true is)
  closed_by false true is = absurd (false≢true is)

module _ {h k : List Event} {made : List ℕ} (s : StepMakes h k made) {closed : List ℕ} (c : AreClosed h k closed) (p : Event → Bool) where
  -- of a sort: who was open or was made
  abbrev pub of_both : ℕ → Bool
  of_both n = of_sort p h n || (is_among n made && at p k n)

  -- a list that takes away whom the step closed, and nobody who is open
  pub of_sort_after : (gone : List ℕ) → ((n : ℕ) → is_among n gone ≡ true → is_open k n ≡ false) →
      ((n : ℕ) → is_among n closed ≡ true → is_among n gone ≡ true) → (n : ℕ) → (of_both n && not (is_among n gone)) ≡ of_sort p k n
  of_sort_after gone only all n = by_open (is_open k n) refl where
    not_gone : is_open k n ≡ true → (b : Bool) → is_among n gone ≡ b → b ≡ false
    not_gone o true is = absurd (both_ways (is_open k n) (only n is) o)
    not_gone o false is = refl

    -- it is open
    stays : (o m a x : Bool) → (o ≡ true → a ≡ x) → (o ≡ true) ⊎ (m ≡ true) → ((o && a) || (m && x)) ≡ x
    stays true true a true same either = or_true a
    stays true true a false same either = or_false a ∙ same refl
    stays true false a x same either = or_false a ∙ same refl
    stays false true a x same either = refl
    stays false false a x same (inl is) = absurd (false≢true is)
    stays false false a x same (inr is) = absurd (false≢true is)

    -- it is not
    goes_away : (o m a x g : Bool) → m ≡ false → (o ≡ true → g ≡ true) → (((o && a) || (m && x)) && not g) ≡ false
    goes_away false m a x g none gone = ap (λ (y : Bool). (y && x) && not g) none
    goes_away true m a x g none gone = ap (λ (y : Bool). (a || (m && x)) && not y) (gone refl) ∙ and_false (a || (m && x))

    not_made : is_open k n ≡ false → (b : Bool) → is_among n made ≡ b → b ≡ false
    not_made o true is = absurd (both_ways (is_open k n) o (s.opens n is))
    not_made o false is = refl

    by_open : (b : Bool) → is_open k n ≡ b → (of_both n && not (is_among n gone)) ≡ (b && at p k n)
    by_open true o =
        ap (λ (x : Bool). of_both n && not x) (not_gone o (is_among n gone) refl) ∙ and_true (of_both n) ∙
        stays (is_open h n) (is_among n made) (at p h n) (at p k n) (λ was. sym (same_sort s.grown p n (is_open_within h n was))) (older s n o)
    by_open false o = goes_away (is_open h n) (is_among n made) (at p h n) (at p k n) (is_among n gone) (not_made o (is_among n made) refl)
        (λ was. all n (c.every n was o))

  -- a table with a role for each that was made, and without those of whom the step closed
  pub roles_after : {roles : List Role} → AreRolesOf of_both roles → AreRolesOf (of_sort p k) (without_all roles closed)
  roles_after are = roles_same (roles_taken_all closed are) (of_sort_after closed c.each (λ n is. is))

module _ {h k : List Event} {items : ℕ} (s : StepTells h k items) {closed : List ℕ} (c : AreClosed h k closed) (p : Event → Bool) where
  plain_after : (gone : List ℕ) → ((n : ℕ) → is_among n gone ≡ true → is_open k n ≡ false) → ((n : ℕ) → is_among n closed ≡ true → is_among n gone ≡ true) →
      (n : ℕ) → (of_sort p h n && not (is_among n gone)) ≡ of_sort p k n
  plain_after gone only all n = ap (λ (b : Bool). b && not (is_among n gone)) (sym (or_false (of_sort p h n))) ∙ of_sort_after s.makes c p gone only all n

  -- of who is told nothing: whom the step closed
  pub merges_after : (n : ℕ) → (of_sort p h n && not (is_among n closed)) ≡ of_sort p k n
  merges_after = plain_after closed c.each (λ n is. is)

  -- of who hears: who was told an end, and whom the step closed
  pub hears_after : (n : ℕ) → (of_sort p h n && not (is_among n (ends_of s.rest ++ closed))) ≡ of_sort p k n
  hears_after = plain_after (ends_of s.rest ++ closed) only all where
    both : (n : ℕ) → is_among n (ends_of s.rest ++ closed) ≡ (is_among n (ends_of s.rest) || is_among n closed)
    both n = list_any-append (λ m. m == n) (ends_of s.rest) closed

    only : (n : ℕ) → is_among n (ends_of s.rest ++ closed) ≡ true → is_open k n ≡ false
    only n is = by_part (or_cases (is_among n (ends_of s.rest)) (is_among n closed) (sym (both n) ∙ is)) where
      by_part : (is_among n (ends_of s.rest) ≡ true) ⊎ (is_among n closed ≡ true) → is_open k n ≡ false
      by_part (inl ended) = (s.closes n ended).1
      by_part (inr shut) = c.each n shut

    all : (n : ℕ) → is_among n closed ≡ true → is_among n (ends_of s.rest ++ closed) ≡ true
    all n is = both n ∙ ap (λ (x : Bool). is_among n (ends_of s.rest) || x) is ∙ or_true (is_among n (ends_of s.rest))

-- new roles -----------------------------------------------------------------------------------------

-- a table with one role more, if there is one
roles_more : {q : ℕ → Bool} {roles : List Role} (is : Bool) (r : Role) → AreRolesOf q roles → q r.number ≡ false →
    AreRolesOf (λ n. q n || (is && (r.number == n))) (roles ++ (if is then r ∷ [] else []))
roles_more true r are free = roles_put r are free
roles_more {q} {roles} false r are free = subst (AreRolesOf (λ n. q n || false)) (sym (append-nil roles)) (roles_same are (λ n. sym (or_false (q n))))

module _ {base : Kept} {h : List Event} {e : Event} {k : List Event} (w : IsMaking base h e k) {closed : List ℕ} (just : AreJust (goes h k) closed)
    (p : Event → Bool) {roles : List Role} (are : AreRolesOf (of_sort p h) roles) where
  -- the new nodes of a sort: the event's, and the connection
  sorts_made : (b : Bool) → ((g : ℕ) → p (Connect g) ≡ b) → (n : ℕ) →
      (is_among n (made_by h k) && at p k n) ≡ ((p e && (length h == n)) || ((at is_connect k (length h + 1) && b) && (length h + 1 == n)))
  sorts_made b connection n = by_second (at is_connect k (length h + 1)) refl where
    own : (length h == n) ≡ true → at p k n ≡ p e
    own is = ap (at p k) (sym (eqb-true (length h) n is)) ∙ (rw (own_event w) refl)

    second : at is_connect k (length h + 1) ≡ true → (length h + 1 == n) ≡ true → at p k n ≡ b
    second connects is = let x = second_event w connects in ap (at p k) (sym (eqb-true (length h + 1) n is)) ∙ (rw x.connects (connection x.hub))

    alone : (x a q : Bool) → (x ≡ true → a ≡ q) → ((x || false) && a) ≡ ((q && x) || false)
    alone true a q same = same refl ∙ sym (or_false (q && true) ∙ and_true q)
    alone false a q same = sym (or_false (q && false) ∙ and_false q)

    paired : (x y a q : Bool) → (x ≡ true → a ≡ q) → (y ≡ true → a ≡ b) → (x ≡ true → y ≡ false) → ((x || (y || false)) && a) ≡ ((q && x) || (b && y))
    paired true true a q same other apart = absurd (false≢true (sym (apart refl)))
    paired true false a q same other apart = same refl ∙ sym ((λ i. and_true q i || and_false b i) ∙ or_false q)
    paired false true a q same other apart = other refl ∙ sym (λ i. and_false q i || and_true b i)
    paired false false a q same other apart = sym (λ i. and_false q i || and_false b i)

    not_both : (length h == n) ≡ true → (c : Bool) → (length h + 1 == n) ≡ c → c ≡ false
    not_both is true there = absurd (let x = eqb-true (length h) n is in let y = eqb-true (length h + 1) n there in omega arith)
    not_both is false there = refl

    by_second : (c : Bool) → at is_connect k (length h + 1) ≡ c → (is_among n (made_with (length h) c) && at p k n) ≡
        ((p e && (length h == n)) || ((c && b) && (length h + 1 == n)))
    by_second true connects = paired (length h == n) (length h + 1 == n) (at p k n) (p e) own (second connects) (λ is. not_both is (length h + 1 == n) refl)
    by_second false connects = alone (length h == n) (at p k n) (p e) own

  free_past : (m : ℕ) → length h ≤ m → of_sort p h m ≡ false
  free_past m past = ap (λ (b : Bool). b && at p h m) (is_open_past h m past)

  -- the table behind a step whose event makes a node: with the node's role and its connection's, each if it is of this sort
  pub roles_made : (b : Bool) → ((g : ℕ) → p (Connect g) ≡ b) → (r x : Role) → r.number ≡ length h → x.number ≡ length h + 1 →
      AreRolesOf (of_sort p k) (without_all ((roles ++ (if p e then r ∷ [] else [])) ++ (if at is_connect k (length h + 1) && b then x ∷ [] else [])) closed)
  roles_made b connection r x own second =
      roles_after s (are_closed s just) p
      (roles_same (roles_more (at is_connect k (length h + 1) && b) x (roles_more (p e) r are free) free_second) same)
    where
      s : StepMakes h k (made_by h k)
      s = step_makes w

      free : of_sort p h r.number ≡ false
      free = free_past r.number (omega arith)

      free_second : (of_sort p h x.number || (p e && (r.number == x.number))) ≡ false
      free_second = rw (free_past x.number (omega arith), ne_eqb r.number x.number (λ is. omega arith)) (and_false (p e))

      same : (n : ℕ) → ((of_sort p h n || (p e && (r.number == n))) || ((at is_connect k (length h + 1) && b) && (x.number == n))) ≡
          (of_sort p h n || (is_among n (made_by h k) && at p k n))
      same n = rw (own, second)
          (sym (or_assoc (of_sort p h n) (p e && (length h == n)) ((at is_connect k (length h + 1) && b) && (length h + 1 == n))) ∙
          ap (λ (y : Bool). of_sort p h n || y) (sym (sorts_made b connection n)))

  -- of a sort that no connection is of
  pub roles_opened : ((g : ℕ) → p (Connect g) ≡ false) → (r : Role) → r.number ≡ length h →
      AreRolesOf (of_sort p k) (without_all (roles ++ (if p e then r ∷ [] else [])) closed)
  roles_opened never r own =
      subst (λ (rs : List Role). AreRolesOf (of_sort p k) (without_all rs closed))
      (ap (λ (b : Bool). (roles ++ (if p e then r ∷ [] else [])) ++ (if b then other ∷ [] else [])) (and_false (at is_connect k (length h + 1))) ∙
      append-nil (roles ++ (if p e then r ∷ [] else [])))
      (roles_made false never r other own refl)
    where
      other : Role
      other = record r { number = length h + 1 }
