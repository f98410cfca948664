-- What links lead over, once a few of them changed.
use Rattle.rx_slots.proofs.Common.{◌≡◌, ◌≢◌, ℕ, zero, suc, ◌≤◌, cond, Bool, true, false, List, [], ◌∷◌, ◌++◌, length, refl, sym, ap, subst, ◌∙◌, inl, inr}
use Rattle.rx_slots.proofs.Common.{◌⊎◌, arith, true≢false, not, false≢true, Places, Steps, IsLink, Leads, is_among, AreDifferent, without, walk, set_step}
use Rattle.std.proofs.lemmas.List.{append-nil}
use Rattle.rx_slots.proofs.Laws.Places.{Tells, place_apart, place_differs, cases_place, among_here, among_there, among_cons, without_none}
use Rattle.std.proofs.Common.{rules}

-- a place that is next and previous of its own neighbours
pub record IsRound {Place : Type 0} (n p : Steps Place) (x : Place) : Type 0 where
  pub after : n (p x) ≡ x
  pub before : p (n x) ≡ x

module _ {Place : Type 0} (places : Places Place) where
  -- the links lead from one place to another, over places of two kinds: of those from which links stay, and of those to which they stay
  pub record LeadsOver (n p : Steps Place) (S V : Place → Type 0) (a : Place) (xs : List Place) (b : Place) : Type 0 where
    pub leads : Leads n p a xs b
    pub inner : (x : Place) → is_among places x xs ≡ true → S x × V x

module _ {Place : Type 0} {places : Places Place} (tells : Tells places) where
  pub set_same : (p to : Place) (f : Steps Place) → set_step places p to f p ≡ to
  set_same p to f = ap (λ b. cond b to (f p)) (tells.self p)

  pub set_other : (p to q : Place) (f : Steps Place) → p ≢ q → set_step places p to f q ≡ f q
  set_other p to q f apart = ap (λ b. cond b to (f q)) (place_apart tells p q apart)

  module _ (n p : Steps Place) where
    first_link : (a : Place) (xs : List Place) (b : Place) → Leads n p a xs b → p (n a) ≡ a
    first_link a [] b h = ap p h.to ∙ h.back
    first_link a (x ∷ xs) b h = ap p h.0.to ∙ h.0.back

    pub round : (a : Place) (xs : List Place) (b x : Place) → Leads n p a xs b → is_among places x xs ≡ true → IsRound n p x
    round a [] b x h e = absurd (false≢true e)
    round a (y ∷ xs) b x h e =
        elim (among_cons tells x y xs e) [
          | inl same ↦ subst (λ z. IsRound n p z) (sym same) (record { after = ap n h.0.back ∙ h.0.to; before = first_link y xs b h.1 })
          | inr rest ↦ round y xs b x h.1 rest
        ]

    rest_over : {S V : Place → Type 0} {a x : Place} {xs : List Place} {b : Place} → LeadsOver places n p S V a (x ∷ xs) b →
        LeadsOver places n p S V x xs b
    rest_over {x} {xs} over = record { leads = over.leads.1; inner = λ y i. over.inner y (among_there tells y x xs i) }

    module _ (n' p' : Steps Place) (S V : Place → Type 0) (keeps : (u v : Place) → IsLink n p u v → S u → V v → IsLink n' p' u v) where
      -- links that all stay
      pub frame : {xs : List Place} {a b : Place} → LeadsOver places n p S V a xs b → S a → V b → Leads n' p' a xs b
      frame {xs = []} {a} {b} over start end = keeps a b over.leads start end
      frame {xs = x ∷ xs} {a} over start end =
          let both = over.inner x (among_here tells x xs) in
          (keeps a x over.leads.0 start both.1, frame {xs = xs} (rest_over over) both.0 end)

      -- links that stay up to the last, and go on from there
      pub splice : {xs : List Place} {a m : Place} (ys : List Place) (b : Place) → LeadsOver places n p S V a xs m → S a →
          Leads n' p' (p m) ys b → Leads n' p' a (xs ++ ys) b
      splice {xs = []} ys b over start tail = subst (λ q. Leads n' p' q ys b) over.leads.back tail
      splice {xs = x ∷ xs} {a} ys b over start tail =
          let both = over.inner x (among_here tells x xs) in
          (keeps a x over.leads.0 start both.1, splice {xs = xs} ys b (rest_over over) both.0 tail)

      -- with another start
      restart : {k a : Place} {ys : List Place} {b : Place} → LeadsOver places n p S V k ys b → IsLink n' p' a (n k) → V b → Leads n' p' a ys b
      restart {a} {ys = []} over link end = subst (λ q. IsLink n' p' a q) over.leads.to link
      restart {a} {ys = y ∷ ys} over link end = (
        subst (λ q. IsLink n' p' a q) over.leads.0.to link,
        frame (rest_over over) (over.inner y (among_here tells y ys)).0 end,
      )

      -- with another start and another end
      pub move_ring : {k a : Place} {ys : List Place} {b c : Place} → LeadsOver places n p S V k ys b → n k ≢ b → IsLink n' p' a (n k) →
          IsLink n' p' (p b) c → Leads n' p' a ys c
      move_ring {ys = []} over other start end = absurd (other over.leads.to)
      move_ring {a} {ys = y ∷ ys} {c} over other start end = (
        subst (λ q. IsLink n' p' a q) over.leads.0.to start,
        subst (λ zs. Leads n' p' y zs c) (append-nil ys) (splice [] c (rest_over over) (over.inner y (among_here tells y ys)).0 end),
      )

    -- a place is taken out of what the links lead over
    pub cut_out : {n' p' : Steps Place} {item : Place} (keeps : (u v : Place) → IsLink n p u v → item ≢ u → item ≢ v → IsLink n' p' u v)
        (across : IsLink n' p' (p item) (n item)) (xs : List Place) {a b : Place} → Leads n p a xs b → AreDifferent places xs →
        item ≢ a → item ≢ b → Leads n' p' a (without places item xs) b
    cut_out keeps across [] {a} {b} h d ia ib = keeps a b h ia ib
    cut_out {n'} {p'} {item} keeps across (x ∷ xs) {a} {b} h d ia ib =
        of (λ apart. cut_out keeps across xs h.1 d.1 apart ib) (places.is_place item x) refl where
          of : (item ≢ x → Leads n' p' x (without places item xs) b) → (t : Bool) → places.is_place item x ≡ t →
              Leads n' p' a (cond (not t) (x ∷ without places item xs) (without places item xs)) b
          of again true t =
              let same = tells.same item x t in
              let none : is_among places item xs ≡ false = subst (λ z. is_among places z xs ≡ false) (sym same) d.0 in
              let start : IsLink n' p' a (n x) = subst (λ z. IsLink n' p' a (n z)) same
              (subst (λ z. IsLink n' p' z (n item)) (ap p same ∙ h.0.back) across) in
              let apart : (y : Place) → is_among places y xs ≡ true → item ≢ y =
              λ y i s. true≢false (sym i ∙ subst (λ z. is_among places z xs ≡ false) s none) in
              subst (λ ys. Leads n' p' a ys b) (sym (without_none tells item xs none))
              (restart n' p' (λ u. item ≢ u) (λ v. item ≢ v) keeps (record { leads = h.1; inner = λ y i. (apart y i, apart y i) }) start ib)
          of again false t = let o = place_differs tells item x t in (keeps a x h.0 ia o, again o)

    pub last_link : (a : Place) (xs : List Place) (b : Place) → Leads n p a xs b → n (p b) ≡ b
    last_link a [] b h = ap n h.back ∙ h.to
    last_link a (x ∷ xs) b h = last_link x xs b h.1

    pub first_back : (a : Place) (xs : List Place) (b : Place) → Leads n p a xs b → p (n a) ≡ a
    first_back a xs b h = first_link a xs b h

    -- a ring that leads elsewhere goes first to one of its places, and last from one
    pub first_among : (a : Place) (xs : List Place) (b : Place) → Leads n p a xs b → n a ≢ b → is_among places (n a) xs ≡ true
    first_among a [] b h other = absurd (other h.to)
    first_among a (x ∷ xs) b h other = subst (λ z. is_among places z (x ∷ xs) ≡ true) (sym h.0.to) (among_here tells x xs)

    pub last_among : (a : Place) (xs : List Place) (b : Place) → Leads n p a xs b → p b ≢ a → is_among places (p b) xs ≡ true
    last_among a [] b h other = absurd (other h.back)
    last_among a (x ∷ xs) b h other =
        elim (cases_place tells (p b) x) [
          | inl same ↦ subst (λ z. is_among places z (x ∷ xs) ≡ true) (sym same) (among_here tells x xs)
          | inr apart ↦ among_there tells (p b) x xs (last_among x xs b h.1 apart)
        ]

    -- what follows a place, or goes before it, is on the ring or its end
    pub next_in : (a : Place) (xs : List Place) (b x : Place) → Leads n p a xs b → is_among places x xs ≡ true → (n x ≡ b) ⊎ (is_among places (n x) xs ≡ true)
    next_in a [] b x h i = absurd (false≢true i)
    next_in a (y ∷ xs) b x h i =
        elim (among_cons tells x y xs i) [
          | inl same ↦ elim (cases_place tells (n y) b) [
            | inl end ↦ inl (ap n same ∙ end)
            | inr more ↦ inr (among_there tells (n x) y xs (subst (λ z. is_among places (n z) xs ≡ true) (sym same) (first_among y xs b h.1 more)))
          ]
          | inr rest ↦ elim (next_in y xs b x h.1 rest) [
            | inl end ↦ inl end
            | inr more ↦ inr (among_there tells (n x) y xs more)
          ]
        ]

    pub previous_in : (a : Place) (xs : List Place) (b x : Place) → Leads n p a xs b → is_among places x xs ≡ true →
        (p x ≡ a) ⊎ (is_among places (p x) xs ≡ true)
    previous_in a [] b x h i = absurd (false≢true i)
    previous_in a (y ∷ xs) b x h i =
        elim (among_cons tells x y xs i) [
          | inl same ↦ inl (ap p same ∙ h.0.back)
          | inr rest ↦ elim (previous_in y xs b x h.1 rest) [
            | inl start ↦ inr (subst (λ z. is_among places z (y ∷ xs) ≡ true) (sym start) (among_here tells y xs))
            | inr more ↦ inr (among_there tells (p x) y xs more)
          ]
        ]

    -- no place of a ring leads to itself
    pub no_loop : (a : Place) (xs : List Place) (b x : Place) → Leads n p a xs b → AreDifferent places xs → x ≢ b → is_among places x xs ≡ true → n x ≢ x
    no_loop a [] b x h d apart i loop = false≢true i
    no_loop a (y ∷ xs) b x h d apart i loop =
        elim (among_cons tells x y xs i) [
          | inl same ↦ elim (cases_place tells (n y) b) [
            | inl end ↦ apart (sym loop ∙ ap n same ∙ end)
            | inr more ↦ true≢false (sym (first_among y xs b h.1 more) ∙ subst (λ z. is_among places z xs ≡ false) (sym same ∙ sym loop ∙ ap n same) d.0)
          ]
          | inr rest ↦ no_loop y xs b x h.1 d.1 apart rest loop
        ]

  pub walk_leads : (steps : ℕ) (n p : Steps Place) (a : Place) {xs : List Place} {e : Place} → places.is_end e ≡ true → Leads n p a xs e →
      ((x : Place) → is_among places x xs ≡ true → places.is_end x ≡ false) → length xs ≤ steps → walk places steps n a ≡ xs
  walk_leads zero n p a {xs = []} ends h inner few = refl
  walk_leads zero n p a {xs = x ∷ xs} ends h inner few = absurd (omega arith)
  walk_leads (suc steps) n p a {xs = []} {e} ends h inner few = search (rules, cond, walk)
  walk_leads (suc steps) n p a {xs = x ∷ xs} {e} ends h inner few =
      ap (λ z. cond (places.is_end z) [] (z ∷ walk places steps n z)) h.0.to ∙
      ap (λ b. cond b [] (x ∷ walk places steps n x)) (inner x (among_here tells x xs)) ∙
      ap (λ (ys : List Place). x ∷ ys) (walk_leads steps n p x ends h.1 (λ y i. inner y (among_there tells y x xs i)) (omega (arith, few)))
