-- What reads a base, without what is left out.
use Rattle.rx_event.proofs.Laws.Common.{◌≡◌, ℕ, ◌+◌, ◌-◌, ◌<◌, ◌≤◌, Bool, false, List, length}
use Rattle.rx_event.proofs.Laws.Common.{refl, sym, ap, ◌∙◌, subst, inl, inr, ◌⊎◌, ◌||◌, arith, Kept, shown, node_kept, resource_kept, count_by}
use Rattle.rx_event.proofs.Laws.Common.{option_map_or, cases_lt, event_by, is_source_of, is_notifier_of, is_use_of, pays, completes_source}
use Rattle.rx_event.proofs.Laws.Common.{source_opened, notifier_opened, source_completed, owed, uses, IsLawful}
use Rattle.rx_event.proofs.Laws.Common.{Completed, Error}
use Rattle.rx_event.specs.declared.base.BaseNode.{BaseNode}
use Rattle.rx_event.specs.declared.base.BaseResource.{BaseResource}
use Rattle.rx_omitted.specs.Imports.{Event, End}
use Rattle.rx_omitted.specs.Named.{named_in, Stay_all}
use Rattle.rx_omitted.specs.Omitted.{number, what_stays, NeedsNone, only_heard, lone_leaf, lone_end, lone_close}
use Rattle.rx_omitted.proofs.Omits.{Omits}
use Rattle.rx_omitted.proofs.Numbers.{number-le, number_itself, length-what_stays}
use Rattle.rx_omitted.proofs.Staying.{omit_before, list_any-what_stays, count_by-what_stays, list_any_staying, at_by, at_gone}
use Rattle.rx_omitted.proofs.Tests.{sources_of, notifiers_of, uses_of, paid_by}
use Rattle.rx_omitted.proofs.Told.{projections_by}

module _ (base : Kept) (omit : ℕ → Bool) (h : List Event) (a : Omits base omit h) (law : IsLawful base h) where
  pub front : number omit (length (shown base)) ≡ length (shown base)
  front = sym (length-what_stays omit (shown base)) ∙ ap length a.front

  -- a record of the base is found by the new number
  pub node_kept_by : (n : ℕ) → node_kept base (number omit n) ≡ node_kept base n
  node_kept_by n = by_place (cases_lt n (length (shown base))) where
    by_place : (n < length (shown base)) ⊎ (length (shown base) ≤ n) → node_kept base (number omit n) ≡ node_kept base n
    by_place (inl l) = ap (node_kept base) (number_itself omit (length (shown base)) front n (omega arith))
    by_place (inr past) =
        let more = number-le omit (length (shown base)) n past in let same = front in
        law.started.unkept (number omit n) (omega arith) ∙ sym (law.started.unkept n past)

  pub resource_kept_by : (n : ℕ) → resource_kept base (number omit n) ≡ resource_kept base n
  resource_kept_by n = by_place (cases_lt n (length (shown base))) where
    by_place : (n < length (shown base)) ⊎ (length (shown base) ≤ n) → resource_kept base (number omit n) ≡ resource_kept base n
    by_place (inl l) = ap (resource_kept base) (number_itself omit (length (shown base)) front n (omega arith))
    by_place (inr past) =
        let more = number-le omit (length (shown base)) n past in let same = front in
        law.started.unnumbered (number omit n) (omega arith) ∙ sym (law.started.unnumbered n past)

  pub source_opened_by : (p : ℕ) → omit p ≡ false → source_opened base (what_stays omit h) (number omit p) ≡ source_opened base h p
  source_opened_by p stay = λ i. option_map_or (λ (k : BaseNode). k.source_opened) (node_kept_by p i) false ||
      list_any-what_stays base omit h a (is_source_of p) (is_source_of (number omit p)) (sources_of omit p stay) i

  pub notifier_opened_by : (p : ℕ) → omit p ≡ false → notifier_opened base (what_stays omit h) (number omit p) ≡ notifier_opened base h p
  notifier_opened_by p stay = λ i. option_map_or (λ (k : BaseNode). k.notifier_opened) (node_kept_by p i) false ||
      list_any-what_stays base omit h a (is_notifier_of p) (is_notifier_of (number omit p)) (notifiers_of omit p stay) i

  completes_by : (f : ℕ) → omit f ≡ false → (e : Event) → Stay_all omit (named_in e) →
      completes_source (what_stays omit h) (number omit f) (event_by (number omit) e) ≡ completes_source h f e
  completes_by f stay (End n Completed) all = at_by base omit h a (is_source_of f) (is_source_of (number omit f)) (sources_of omit f stay).by n all.0
  completes_by f stay _ all = refl

  completes_gone : (f i : ℕ) {e : Event} → omit f ≡ false → NeedsNone omit h i e → completes_source h f e ≡ false
  completes_gone f i stay (only_heard heard) = refl
  completes_gone f i stay lone_leaf = refl
  completes_gone f i stay (lone_close gone) = refl
  completes_gone f i stay (lone_end {n = n} {t = Completed} gone) =
      at_gone base omit h a (is_source_of f) (is_source_of (number omit f)) (sources_of omit f stay) n gone
  completes_gone f i stay (lone_end {t = Error code} gone) = refl

  pub source_completed_by : (f : ℕ) → omit f ≡ false → source_completed base (what_stays omit h) (number omit f) ≡ source_completed base h f
  unfolding source_completed
  source_completed_by f stay = λ i. option_map_or (λ (k : BaseNode). k.source_completed) (node_kept_by f i) false ||
      list_any_staying omit (completes_source h f) (completes_source (what_stays omit h) (number omit f)) 0 h
      (λ j e at_j there. completes_by f stay e (a.apart j e at_j (ap omit (sym (at_here j)) ∙ there)))
      (λ j e at_j gone. completes_gone f j stay (a.each j e at_j (ap omit (sym (at_here j)) ∙ gone))) i
    where
      at_here : (j : ℕ) → 0 + j ≡ j
      at_here j = omega arith

  shown_may : Omits base omit (shown base)
  shown_may = omit_before base omit (shown base) law.since (subst (λ (k : List Event). Omits base omit k) law.reads a)

  paid_shown : (f : ℕ) → omit f ≡ false → count_by (pays (number omit f)) (shown base) ≡ count_by (pays f) (shown base)
  paid_shown f stay = ap (count_by (pays (number omit f))) (sym a.front) ∙
      count_by-what_stays base omit (shown base) shown_may (pays f) (pays (number omit f)) (paid_by omit f stay)

  pub owed_by : (f : ℕ) → omit f ≡ false → owed base (what_stays omit h) (number omit f) ≡ owed base h f
  unfolding owed
  owed_by f stay = λ i. option_map_or (λ (k : BaseNode). k.owed + paid_shown f stay i + projections_by base omit f stay h a i) (node_kept_by f i)
      (projections_by base omit f stay h a i) - count_by-what_stays base omit h a (pays f) (pays (number omit f)) (paid_by omit f stay) i

  pub uses_by : (q : ℕ) → omit q ≡ false → uses base (what_stays omit h) (number omit q) ≡ uses base h q
  unfolding uses
  uses_by q stay = ap (λ x. option_map_or (λ (k : BaseResource). k.uses + x) (resource_kept base (number omit q)) x)
      (count_by-what_stays base omit h a (is_use_of q) (is_use_of (number omit q)) (uses_of omit q stay)) ∙
      ap (λ o. option_map_or (λ (k : BaseResource). k.uses + count_by (is_use_of q) h) o (count_by (is_use_of q) h)) (resource_kept_by q)
