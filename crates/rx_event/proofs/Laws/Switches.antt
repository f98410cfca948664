-- The inners of a Switch: at most one is open, and the opening of another closes it with all below it.
use Rattle.rx_event.proofs.Laws.Common.{◌≡◌, ℕ, ◌+◌, ◌<◌, Bool, true, false, List, [], ◌∷◌, ◌++◌, length, Option, Some, refl, sym, ap, ◌∙◌, arith, inl}
use Rattle.rx_event.proofs.Laws.Common.{inr, ◌⊎◌, ◌==◌, slice_get, length-append, not, ◌&&◌, AllByRecursion, list_any, option_map_or, cases_Bool, cases_order}
use Rattle.rx_event.proofs.Laws.Common.{both_ways, false≢true, and_parts, and_from, eq-eqb, eqb-true, lt-ltb, Kept, Root, Inner, Kind, Event, Open, is_switch}
use Rattle.rx_event.proofs.Laws.Common.{is_inner_of, parent_named, at, ancestors, is_open, is_within, IsLawful, is_switched_inner}
use Rattle.rx_event.specs.Claims.Nodes.{IsOpenInner}
use Rattle.rx_event.proofs.Laws.Places.{slice_get_last, at-append}
use Rattle.rx_event.proofs.Laws.Openness.{is_cut, is_cut_inner_flat, is_open_cut, is_open_within, ancestors_open, self_cut}
use Rattle.rx_event.proofs.Laws.Steps.{by_events, named_below}
use Rattle.rx_event.proofs.Laws.SoundForm.{TwoOpenInners}
use Rattle.std.proofs.Common.{rules}

-- one inner ---------------------------------------------------------------------------------------

inner_named : (f : ℕ) (o : Option Event) → option_map_or (is_inner_of f) o false ≡ true → (P : Type 0) →
    ((e : Event) → o ≡ Some e → parent_named e ≡ Some f → P) → P
inner_named f (Some (Open (Inner g) kind)) inner P then = then (Open (Inner g) kind) refl (ap Some (eqb-true g f inner))
inner_named f _ inner P then = absurd (false≢true inner)

-- an inner has a larger number than its FlatMap or Switch
pub inner_above : (base : Kept) → (h : List Event) → IsLawful base h → (f n : ℕ) → at (is_inner_of f) h n ≡ true → f < n
inner_above base h law f n inner = inner_named f (slice_get h n) inner (f < n) (λ e at_n named. named_below base h law n f e at_n named)

switched : (base : Kept) → (h : List Event) → IsLawful base h → (f n : ℕ) → at is_switch h f ≡ true → at (is_inner_of f) h n ≡ true →
    is_switched_inner h f n ≡ true
switched base h law f n switch inner = and_from _ _ (and_from _ _ (lt-ltb f n (inner_above base h law f n inner)) switch) inner

-- the new inner cuts the older ones
older_cut : {base : Kept} → (h : List Event) (e : Event) → IsLawful base h → (f a : ℕ) → at is_switch h f ≡ true → at (is_inner_of f) h a ≡ true →
    is_inner_of f e ≡ true → is_cut h e a ≡ true
older_cut {base} h (Open (Inner g) kind) law f a switch inner new =
    self_cut h (Open (Inner g) kind) a (ap (λ q. is_switched_inner h q a) (eqb-true g f new) ∙ switched base h law f a switch inner)
older_cut h (Open Root kind) law f a switch inner new = absurd (false≢true new)
older_cut h _ law f a switch inner new = absurd (false≢true new)

-- two open inners in the other order
swapped : {h : List Event} {f a b : ℕ} → TwoOpenInners h f a b → TwoOpenInners h f b a
swapped two = search rules

-- two open inners of one Switch are the same
pub one_inner : (base : Kept) → (h : List Event) → IsLawful base h → (f a b : ℕ) → TwoOpenInners h f a b → a ≡ b
one_inner base = by_events base (λ h. (f a b : ℕ) → TwoOpenInners h f a b → a ≡ b)
    (λ s f a b two. s.one_inner f a b two.switch two.one two.one_open two.other two.other_open) (λ h e law next. after e law)
  where
    -- the older is closed where the other is new
    clash : {h : List Event} (e : Event) → IsLawful base h → {f a b : ℕ} → TwoOpenInners (h ++ e ∷ []) f a b → a < length h → b ≡ length h → ⊥
    clash {h} e law {f} {a} two l last =
        let inner : at (is_inner_of f) h a ≡ true = sym (at-append (is_inner_of f) h (e ∷ []) a l) ∙ two.one in
        let below : f < a = inner_above base h law f a inner in
        let switch_before : at is_switch h f ≡ true = sym (at-append is_switch h (e ∷ []) f (omega arith)) ∙ two.switch in
        let new : is_inner_of f e ≡ true =
        sym (ap (λ o. option_map_or (is_inner_of f) o false) (ap (slice_get (h ++ e ∷ [])) last ∙ slice_get_last h e)) ∙ two.other in
        let cut = older_cut h e law f a switch_before inner new in
        both_ways (not (is_cut h e a)) (ap not cut) (and_parts (is_open h a) (not (is_cut h e a)) (sym (is_open_cut h e a l) ∙ two.one_open)).1

    after : {h : List Event} (e : Event) → IsLawful base h → ((f a b : ℕ) → TwoOpenInners h f a b → a ≡ b) → (f a b : ℕ) →
        TwoOpenInners (h ++ e ∷ []) f a b → a ≡ b
    after {h} e law before f a b two = by_place (cases_order a (length h)) (cases_order b (length h)) where
      within : (n : ℕ) → is_open (h ++ e ∷ []) n ≡ true → n < length h + 1
      within n o = let l = is_open_within (h ++ e ∷ []) n o in omega (arith, length-append h (e ∷ []))

      by_place : (a ≡ length h) ⊎ ((a < length h) ⊎ (length h < a)) → (b ≡ length h) ⊎ ((b < length h) ⊎ (length h < b)) → a ≡ b
      by_place (inl p) (inl q) = p ∙ sym q
      by_place (inr (inr g)) q = absurd (let l = within a two.one_open in omega arith)
      by_place (inl p) (inr (inr g)) = absurd (let l = within b two.other_open in omega arith)
      by_place (inr (inl l)) (inr (inr g)) = absurd (let m = within b two.other_open in omega arith)
      by_place (inr (inl l)) (inl q) = absurd (clash e law two l q)
      by_place (inl p) (inr (inl l)) = absurd (clash e law (swapped two) l p)
      by_place (inr (inl l)) (inr (inl m)) =
          let inner : at (is_inner_of f) h a ≡ true = sym (at-append (is_inner_of f) h (e ∷ []) a l) ∙ two.one in
          let below : f < a = inner_above base h law f a inner in
          before f a b (record {
            switch = sym (at-append is_switch h (e ∷ []) f (omega arith)) ∙ two.switch;
            one = inner;
            one_open = (and_parts _ _ (sym (is_open_cut h e a l) ∙ two.one_open)).0;
            other = sym (at-append (is_inner_of f) h (e ∷ []) b m) ∙ two.other;
            other_open = (and_parts _ _ (sym (is_open_cut h e b m) ∙ two.other_open)).0;
          })

-- the exchange ------------------------------------------------------------------------------------

list_any-agree : {X : Type 0} (P : X → Type 0) (p q : X → Bool) → ((x : X) → P x → p x ≡ q x) → (xs : List X) → AllByRecursion P xs →
    list_any p xs ≡ list_any q xs
list_any-agree P p q same [] a = refl
list_any-agree P p q same (x ∷ xs) a = rw (same x a.0, list_any-agree P p q same xs a.1) refl

and_same : (a b c : Bool) → (a ≡ true → b ≡ c) → (a && not b) ≡ (a && not c)
and_same a b c same = grind arith

and_yes : (a b : Bool) → (a ≡ true → b ≡ false) → (a && not b) ≡ a
and_yes a b none = grind arith

-- the open inner of a Switch is the only one
same_inner : {base : Kept} → {h : List Event} (f c : ℕ) → IsLawful base h → at is_switch h f ≡ true → at (is_inner_of f) h c ≡ true → is_open h c ≡ true →
    (a : ℕ) → is_open h a ≡ true → is_switched_inner h f a ≡ (c == a)
same_inner {base} {h} f c law switch inner o a there = by_test (is_switched_inner h f a) refl (cases_Bool (c == a)) where
  by_test : (b : Bool) → is_switched_inner h f a ≡ b → ((c == a) ≡ true) ⊎ ((c == a) ≡ false) → b ≡ (c == a)
  by_test true s e =
      sym (eq-eqb c a (one_inner base h law f c a (record { switch = switch; one = inner; one_open = o; other = (and_parts _ _ s).1; other_open = there })))
  by_test false s (inl e) = absurd (both_ways _ s (ap (is_switched_inner h f) (sym (eqb-true c a e)) ∙ switched base h law f c switch inner))
  by_test false s (inr e) = sym e

-- the opening of another inner of a Switch closes the open inner c, and what is below it
pub is_open-inner_switch : {base : Kept} {h : List Event} {f c : ℕ} → IsLawful base h → IsOpenInner h f c → (kind : Kind) (n : ℕ) → n < length h →
    is_open (h ++ Open (Inner f) kind ∷ []) n ≡ (is_open h n && not (is_within h c n))
is_open-inner_switch {h = h} {f = f} {c = c} law i kind n l = is_open_cut h (Open (Inner f) kind) n l ∙ and_same (is_open h n) _ _
    (λ here. list_any-agree (λ a. is_open h a ≡ true) (λ a. is_switched_inner h f a) (λ a. c == a) (same_inner f c law i.switch i.inner i.alive)
    (ancestors h n) (ancestors_open h n here))

-- where no inner is open, it closes nothing
pub is_open-inner_first : (h : List Event) (f : ℕ) (kind : Kind) → ((c : ℕ) → at (is_inner_of f) h c ≡ true → is_open h c ≡ false) → (n : ℕ) → n < length h →
    is_open (h ++ Open (Inner f) kind ∷ []) n ≡ is_open h n
is_open-inner_first h f kind none n l = is_open_cut h (Open (Inner f) kind) n l ∙
    and_yes (is_open h n) _ (λ here. list_any-agree (λ a. is_open h a ≡ true) (λ a. is_switched_inner h f a) (λ a. false) same (ancestors h n)
    (ancestors_open h n here) ∙ never (ancestors h n))
  where
    never : (xs : List ℕ) → list_any (λ (a : ℕ). false) xs ≡ false
    never [] = refl
    never (x ∷ xs) = never xs

    same : (a : ℕ) → is_open h a ≡ true → is_switched_inner h f a ≡ false
    same a there = elim (cases_Bool (is_switched_inner h f a)) [ inl s ↦ absurd (both_ways _ (none a (and_parts _ _ s).1) there) | inr s ↦ s ]

-- the opening of an inner of a FlatMap closes nothing
pub is_open-inner_flat : (h : List Event) (f : ℕ) (kind : Kind) → at is_switch h f ≡ false → (n : ℕ) → n < length h →
    is_open (h ++ Open (Inner f) kind ∷ []) n ≡ is_open h n
is_open-inner_flat h f kind flat n l = search (rules, is_open_cut, and_yes, is_cut_inner_flat)

-- of the open nodes, it cuts those within c
pub is_cut-inner_switch : {base : Kept} → {h : List Event} (f c : ℕ) (kind : Kind) → IsLawful base h → at is_switch h f ≡ true →
    at (is_inner_of f) h c ≡ true → is_open h c ≡ true → (n : ℕ) → (is_open h n && is_cut h (Open (Inner f) kind) n) ≡ (is_open h n && is_within h c n)
is_cut-inner_switch {h} f c kind law switch inner o n = cut_same (is_open h n) _ _
    (λ here. list_any-agree (λ a. is_open h a ≡ true) (λ a. is_switched_inner h f a) (λ a. c == a) (same_inner f c law switch inner o)
    (ancestors h n) (ancestors_open h n here))
  where
    cut_same : (a b c : Bool) → (a ≡ true → b ≡ c) → (a && b) ≡ (a && c)
    cut_same a b c same = grind arith
