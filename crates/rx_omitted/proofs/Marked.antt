-- What nodes remember, and which tags are released, without what is left out.
use Rattle.rx_event.proofs.Laws.Common.{◌≡◌, ℕ, Bool, false, List, Option, Some, None, cond, slice_get}
use Rattle.rx_event.proofs.Laws.Common.{refl, sym, ap, ◌∙◌, ◌==◌, ◌&&◌, Kept, both_ways, option_map, option_map_or, is_merging, at, parent, is_open_child_of}
use Rattle.rx_event.proofs.Laws.Common.{is_child_of, passes_on, marks_of, ends_by, child_terminal, open_children, IsLawful, event_by, accepted_by}
use Rattle.rx_event.proofs.Laws.Common.{resource_kept}
use Rattle.rx_event.specs.declared.base.BaseResource.{BaseResource}
use Rattle.rx_event.specs.Bases.{accept_tag}
use Rattle.rx_omitted.specs.Imports.{Event, Accept, End, Take}
use Rattle.rx_omitted.specs.Named.{named_in, Stay_all}
use Rattle.rx_omitted.specs.Omitted.{number, what_stays, NeedsNone, only_heard, lone_leaf, lone_end, lone_close}
use Rattle.rx_omitted.proofs.Omits.{Omits}
use Rattle.rx_omitted.specs.Claims.{tag_taken, tags_released}
use Rattle.std.proofs.Common.{rules}
use Rattle.rx_event.proofs.Laws.TreeRead.{merging_by}
use Rattle.rx_omitted.proofs.Numbers.{number_eq}
use Rattle.rx_omitted.proofs.Staying.{slice_by, at_by, at_here, first_some_staying, filter_map_staying, count_places}
use Rattle.rx_omitted.proofs.Tree.{parent_by, parent_stay}
use Rattle.rx_omitted.proofs.Fared.{parent_gone, child_by, child_gone}
use Rattle.rx_omitted.proofs.Told.{fired_by}
use Rattle.rx_omitted.proofs.Kept.{source_opened_by, notifier_opened_by, source_completed_by, owed_by, resource_kept_by}

module _ (base : Kept) (omit : ℕ → Bool) (h : List Event) (a : Omits base omit h) (law : IsLawful base h) where
  child_of_by : (p n : ℕ) → omit p ≡ false → omit n ≡ false → is_child_of (what_stays omit h) (number omit p) (number omit n) ≡ is_child_of h p n
  child_of_by p n up stay = ap (λ o. option_map_or (λ q. q == number omit p) o false) (parent_by base omit h a n stay) ∙
      by_parent (parent h n) (λ q. parent_stay base omit h a n q stay)
    where
      by_parent : (x : Option ℕ) → ((q : ℕ) → x ≡ Some q → omit q ≡ false) →
          option_map_or (λ q. q == number omit p) (option_map (number omit) x) false ≡ option_map_or (λ q. q == p) x false
      by_parent None all = refl
      by_parent (Some q) all = number_eq omit q p (all q refl) up

  ends_by_by : (p : ℕ) → omit p ≡ false → (e : Event) → Stay_all omit (named_in e) →
      ends_by (what_stays omit h) (number omit p) (event_by (number omit) e) ≡ ends_by h p e
  ends_by_by p up (End n t) all = λ i. cond (child_of_by p n up all.0 i &&
      passes_on (at_by base omit h a is_merging is_merging (λ e every. merging_by (number omit) e) p up i) t) (Some t) None
  ends_by_by p up _ all = refl

  ends_gone : (p i : ℕ) {e : Event} → NeedsNone omit h i e → ends_by h p e ≡ None
  ends_gone p i (only_heard heard) = refl
  ends_gone p i lone_leaf = refl
  ends_gone p i (lone_close gone) = refl
  ends_gone p i (lone_end {n = n} {t = t} gone) = by_parent (parent h n) (parent_gone base omit h a n) where
    by_parent : (x : Option ℕ) → ((q : ℕ) → x ≡ Some q → omit n ≡ false) →
        cond (option_map_or (λ q. q == p) x false && passes_on (at is_merging h p) t) (Some t) None ≡ None
    by_parent None all = refl
    by_parent (Some q) all = absurd (both_ways (omit n) (all q refl) gone)

  pub child_terminal_by : (p : ℕ) → omit p ≡ false → child_terminal (what_stays omit h) (number omit p) ≡ child_terminal h p
  unfolding child_terminal
  child_terminal_by p up = first_some_staying omit (ends_by h p) (ends_by (what_stays omit h) (number omit p)) 0 h
      (λ j e at_j stay. ends_by_by p up e (a.apart j e at_j (ap omit (sym (at_here base omit h a j)) ∙ stay)))
      (λ j e at_j gone. ends_gone p j (a.each j e at_j (ap omit (sym (at_here base omit h a j)) ∙ gone)))

  pub open_children_by : (p : ℕ) → omit p ≡ false → open_children (what_stays omit h) (number omit p) ≡ open_children h p
  unfolding open_children
  open_children_by p up =
      count_places omit (is_open_child_of h p) (is_open_child_of (what_stays omit h) (number omit p)) (child_by base omit h a p up)
      (child_gone base omit h a p) h

  -- what stays remembers the same
  pub marks_by : (n : ℕ) → omit n ≡ false → marks_of base (what_stays omit h) (number omit n) ≡ marks_of base h n
  marks_by n stay = λ i.
      record {
        source_opened = source_opened_by base omit h a law n stay i;
        notifier_opened = notifier_opened_by base omit h a law n stay i;
        fired = fired_by base omit n stay h a i;
        source_completed = source_completed_by base omit h a law n stay i;
        child_terminal = child_terminal_by n stay i;
        owed = owed_by base omit h a law n stay i;
        open_children = open_children_by n stay i;
      }

  -- tags -------------------------------------------------------------------------------------------------------------

  tag_by : (o : Option Event) → option_map accept_tag (option_map (event_by (number omit)) o) ≡ option_map accept_tag o
  tag_by x0 = search (rules)

  tag_of_by : (q : ℕ) → omit q ≡ false → option_map accept_tag (accepted_by base (what_stays omit h) (number omit q)) ≡ option_map accept_tag
      (accepted_by base h q)
  tag_of_by q stay = ap (λ o. option_map accept_tag (option_map_or (λ (k : BaseResource). Some (Accept k.node k.tag)) o
      (slice_get (what_stays omit h) (number omit q)))) (resource_kept_by base omit h a law q) ∙
      ap (λ o. option_map accept_tag (option_map_or (λ (k : BaseResource). Some (Accept k.node k.tag)) (resource_kept base q) o)) (slice_by omit h q stay) ∙
      by_record (resource_kept base q)
    where
      by_record : (x : Option BaseResource) →
          option_map accept_tag (option_map_or (λ (k : BaseResource). Some (Accept k.node k.tag)) x (option_map (event_by (number omit)) (slice_get h q))) ≡
          option_map accept_tag (option_map_or (λ (k : BaseResource). Some (Accept k.node k.tag)) x (slice_get h q))
      by_record None = tag_by (slice_get h q)
      by_record (Some k) = refl

  tag_taken_by : (e : Event) → Stay_all omit (named_in e) → tag_taken base (what_stays omit h) (event_by (number omit) e) ≡ tag_taken base h e
  tag_taken_by (Take q) all = tag_of_by q all.0
  tag_taken_by _ all = refl

  tag_gone : (i : ℕ) {e : Event} → NeedsNone omit h i e → tag_taken base h e ≡ None
  tag_gone i (only_heard heard) = refl
  tag_gone i lone_leaf = refl
  tag_gone i (lone_end gone) = refl
  tag_gone i (lone_close gone) = refl

  -- the same tags are released
  pub released_by : tags_released base (what_stays omit h) ≡ tags_released base h
  released_by = filter_map_staying omit (tag_taken base h) (tag_taken base (what_stays omit h)) 0 h
      (λ j e at_j stay. tag_taken_by e (a.apart j e at_j (ap omit (sym (at_here base omit h a j)) ∙ stay)))
      (λ j e at_j gone. tag_gone j (a.each j e at_j (ap omit (sym (at_here base omit h a j)) ∙ gone)))
