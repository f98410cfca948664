-- Where nodes stand, and which are open, without what is left out.
use Rattle.rx_event.proofs.Laws.Common.{◌≡◌, ℕ, zero, suc, ◌+◌, ◌<◌, Bool, true, false, List, [], ◌∷◌, Option, Some, None, cond, slice_get}
use Rattle.rx_event.proofs.Laws.Common.{refl, sym, ap, ◌∙◌, ◌==◌, nat_lt, arith, drop, map, not, ◌&&◌, ◌||◌, Kept, both_ways, eqb-true}
use Rattle.rx_event.proofs.Laws.Common.{option_map, option_map_or, option_and_then, list_any, list_all, none-some, same_Some}
use Rattle.rx_event.proofs.Laws.Common.{false_from_ne_true, makes_node, parent_named, is_switch, is_inner_of, event_by, at, parent, if_less, ancestors, shuts}
use Rattle.rx_event.proofs.Laws.Common.{is_shut, is_open, is_within, is_switched_inner}
use Rattle.rx_event.specs.Tree.{is_standing}
use Rattle.rx_omitted.specs.Imports.{Event}
use Rattle.rx_omitted.specs.Named.{named_in, Stay_all}
use Rattle.rx_omitted.specs.Omitted.{number, what_stays, NeedsNone, only_heard, lone_leaf, lone_end, lone_close}
use Rattle.rx_omitted.proofs.Omits.{Omits}
use Rattle.std.proofs.Common.{rules}
use Rattle.rx_event.proofs.Laws.Parents.{parent-lt, ancestors_step, parent_name, parent_within}
use Rattle.rx_event.proofs.Laws.Stands.{event_at}
use Rattle.rx_event.proofs.Laws.TreeRead.{parent_named_by, makes_by, switch_by}
use Rattle.rx_omitted.proofs.Numbers.{number_eq, number_less, number_stays}
use Rattle.rx_omitted.proofs.Tests.{inner_of_by}
use Rattle.rx_omitted.proofs.Staying.{slice_by, drop-what_stays, slice_get-drop, list_any_staying, at_by}

parent_stays : (omit : ℕ → Bool) (e : Event) (p : ℕ) → parent_named e ≡ Some p → Stay_all omit (named_in e) → omit p ≡ false
parent_stays omit x1 p named all = search (rules, same_Some, none-some)

module _ (base : Kept) (omit : ℕ → Bool) (h : List Event) (a : Omits base omit h) where
  pub parent_stay : (n p : ℕ) → omit n ≡ false → parent h n ≡ Some p → omit p ≡ false
  parent_stay n p stay below =
      let made : (e : Event) × (slice_get h n ≡ Some e) = event_at h n (parent_within h n p below) in
      parent_stays omit made.0 p (parent_name h n p made.0 below made.1) (a.apart n made.0 made.1 stay)

  pub parent_by : (n : ℕ) → omit n ≡ false → parent (what_stays omit h) (number omit n) ≡ option_map (number omit) (parent h n)
  unfolding parent
  parent_by n stay = ap (λ o. option_and_then (if_less (number omit n)) (option_and_then parent_named o)) (slice_by omit h n stay) ∙
      by_event (slice_get h n) refl
    where
      less : (b : Bool) (p : ℕ) → cond {A = Option ℕ} b (Some (number omit p)) None ≡ option_map (number omit) (cond b (Some p) None)
      less true p = refl
      less false p = refl

      by_name : (x : Option ℕ) → ((p : ℕ) → x ≡ Some p → omit p ≡ false) →
          option_and_then (if_less (number omit n)) (option_map (number omit) x) ≡ option_map (number omit) (option_and_then (if_less n) x)
      by_name None all = refl
      by_name (Some p) all = ap (λ b. cond {A = Option ℕ} b (Some (number omit p)) None) (number_less omit p n (all p refl)) ∙ less (nat_lt p n) p

      by_event : (o : Option Event) → slice_get h n ≡ o →
          option_and_then (if_less (number omit n)) (option_and_then parent_named (option_map (event_by (number omit)) o)) ≡
          option_map (number omit) (option_and_then (if_less n) (option_and_then parent_named o))
      by_event None at_n = refl
      by_event (Some e) at_n = ap (option_and_then (if_less (number omit n))) (parent_named_by (number omit) e) ∙
          by_name (parent_named e) (λ p named. parent_stays omit e p named (a.apart n e at_n stay))

  ancestors_below : (k n : ℕ) → n < k → omit n ≡ false →
      (ancestors (what_stays omit h) (number omit n) ≡ map (number omit) (ancestors h n)) × Stay_all omit (ancestors h n)
  ancestors_below zero n l stay = absurd (omega arith)
  ancestors_below (suc k) n l stay = by_parent (parent h n) refl (λ p less up. ancestors_below k p (omega arith) up) where
    by_parent : (x : Option ℕ) → parent h n ≡ x → ((p : ℕ) → p < n → omit p ≡ false →
        (ancestors (what_stays omit h) (number omit p) ≡ map (number omit) (ancestors h p)) × Stay_all omit (ancestors h p)) →
        (ancestors (what_stays omit h) (number omit n) ≡ map (number omit) (ancestors h n)) × Stay_all omit (ancestors h n)
    by_parent None below further =
        let here : ancestors h n ≡ n ∷ [] = ancestors_step h n ∙ ap (λ (x : Option ℕ). n ∷ option_map_or (ancestors h) x []) below in
        let there : parent (what_stays omit h) (number omit n) ≡ None = parent_by n stay ∙ ap (option_map (number omit)) below in (
          ancestors_step (what_stays omit h) (number omit n) ∙
              ap (λ (x : Option ℕ). number omit n ∷ option_map_or (ancestors (what_stays omit h)) x []) there ∙ sym (ap (map (number omit)) here),
          rw here (stay, tt),
        )
    by_parent (Some p) below further =
        let here : ancestors h n ≡ n ∷ ancestors h p = ancestors_step h n ∙ ap (λ (x : Option ℕ). n ∷ option_map_or (ancestors h) x []) below in
        let there : parent (what_stays omit h) (number omit n) ≡ Some (number omit p) = parent_by n stay ∙ ap (option_map (number omit)) below in
        let up = further p (parent-lt h n p below) (parent_stay n p stay below) in (
          ancestors_step (what_stays omit h) (number omit n) ∙
              ap (λ (x : Option ℕ). number omit n ∷ option_map_or (ancestors (what_stays omit h)) x []) there ∙
              ap (λ xs. number omit n ∷ xs) up.0 ∙ sym (ap (map (number omit)) here),
          rw here (stay, up.1),
        )

  pub ancestors_by : (n : ℕ) → omit n ≡ false → ancestors (what_stays omit h) (number omit n) ≡ map (number omit) (ancestors h n)
  ancestors_by n stay = (ancestors_below (suc n) n (omega arith) stay).0

  pub ancestors_stay : (n : ℕ) → omit n ≡ false → Stay_all omit (ancestors h n)
  ancestors_stay n stay = (ancestors_below (suc n) n (omega arith) stay).1

  -- what is taken away ------------------------------------------------------------------------------------------

  switched_by : (f n : ℕ) → omit f ≡ false → omit n ≡ false →
      is_switched_inner (what_stays omit h) (number omit f) (number omit n) ≡ is_switched_inner h f n
  switched_by f n up stay = λ i. number_less omit f n up i && at_by base omit h a is_switch is_switch (λ e all. switch_by (number omit) e) f up i &&
      at_by base omit h a (is_inner_of f) (is_inner_of (number omit f)) (inner_of_by omit f up) n stay i

  shuts_by : (n : ℕ) (e : Event) → omit n ≡ false → Stay_all omit (named_in e) →
      shuts (what_stays omit h) (number omit n) (event_by (number omit) e) ≡ shuts h n e
  shuts_by n x1 stay all = search (rules, number_eq, switched_by)

  shuts_gone : (n i : ℕ) {e : Event} → omit n ≡ false → NeedsNone omit h i e → shuts h n e ≡ false
  shuts_gone n i stay (only_heard heard) = refl
  shuts_gone n i stay lone_leaf = refl
  shuts_gone n i stay (lone_end {n = m} gone) = false_from_ne_true (m == n) (λ same. both_ways (omit n) stay (ap omit (sym (eqb-true m n same)) ∙ gone))
  shuts_gone n i stay (lone_close {n = m} gone) = false_from_ne_true (m == n) (λ same. both_ways (omit n) stay (ap omit (sym (eqb-true m n same)) ∙ gone))

  pub shut_by : (n : ℕ) → omit n ≡ false → is_shut (what_stays omit h) (number omit n) ≡ is_shut h n
  unfolding is_shut
  shut_by n stay = ap (λ k. list_any (shuts (what_stays omit h) (number omit n)) (drop k (what_stays omit h))) (sym (number_stays omit n stay)) ∙
      ap (list_any (shuts (what_stays omit h) (number omit n))) (drop-what_stays omit h (suc n)) ∙
      list_any_staying omit (shuts h n) (shuts (what_stays omit h) (number omit n)) (suc n) (drop (suc n) h)
      (λ i e at_i there. shuts_by n e stay (a.apart (suc n + i) e (sym (slice_get-drop h (suc n) i) ∙ at_i) there))
      (λ i e at_i gone. shuts_gone n (suc n + i) stay (a.each (suc n + i) e (sym (slice_get-drop h (suc n) i) ∙ at_i) gone))

  pub node_by : (n : ℕ) → omit n ≡ false → at makes_node (what_stays omit h) (number omit n) ≡ at makes_node h n
  node_by n stay = at_by base omit h a makes_node makes_node (λ e all. makes_by (number omit) e) n stay

  stands_all : (ns : List ℕ) → Stay_all omit ns → list_all (is_standing (what_stays omit h)) (map (number omit) ns) ≡ list_all (is_standing h) ns
  stands_all [] all = refl
  stands_all (n ∷ ns) all = λ i. (node_by n all.0 i && not (shut_by n all.0 i)) && stands_all ns all.1 i

  -- what stays is open as before
  pub open_by : (n : ℕ) → omit n ≡ false → is_open (what_stays omit h) (number omit n) ≡ is_open h n
  unfolding is_open
  open_by n stay = ap (list_all (is_standing (what_stays omit h))) (ancestors_by n stay) ∙ stands_all (ancestors h n) (ancestors_stay n stay)

  any_by : (m : ℕ) → omit m ≡ false → (ns : List ℕ) → Stay_all omit ns → list_any (λ b. number omit m == b) (map (number omit) ns) ≡ list_any (λ b. m == b) ns
  any_by m stay [] all = refl
  any_by m stay (n ∷ ns) all = λ i. number_eq omit m n stay all.0 i || any_by m stay ns all.1 i

  pub within_by : (m n : ℕ) → omit m ≡ false → omit n ≡ false → is_within (what_stays omit h) (number omit m) (number omit n) ≡ is_within h m n
  within_by m n stay also = ap (list_any (λ b. number omit m == b)) (ancestors_by n also) ∙ any_by m stay (ancestors h n) (ancestors_stay n also)
