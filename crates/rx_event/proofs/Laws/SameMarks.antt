-- Two courses of what is forced after one history leave the same marks at each node that they leave open.
use Rattle.rx_event.proofs.Laws.Common.{◌≡◌, ℕ, Bool, true, false, List, length, Option, Some, None, slice_get, refl, sym, ap, ◌∙◌, ◌==◌, filter, ◌&&◌, ◌||◌}
use Rattle.rx_event.proofs.Laws.Common.{list_any, option_map_or, false≢true, Terminal, Completed, Error, Kept, node_kept, Source, Inner, Notifier}
use Rattle.rx_event.proofs.Laws.Common.{Until, Event, Open, has_source, is_mirroring, is_merging, is_until, is_source_of, parent_named, at}
use Rattle.rx_event.proofs.Laws.Common.{places, parent, is_open, is_open_child_of, mirrored, failed, due, IsDue, IsConnected, IsSettled, passes_on}
use Rattle.rx_event.proofs.Laws.Common.{child_terminal, source_completed, open_children, marks_of, IsLawful, length-filter, is_notifier_of, ChildEnded}
use Rattle.std.specs.Cmp.{both_ways as same_test}
use Rattle.rx_event.proofs.Laws.Lists.{same_filter}
use Rattle.rx_event.proofs.Laws.Parents.{parent_within, parent_name}
use Rattle.rx_event.proofs.Laws.Openness.{is_open_past}
use Rattle.rx_event.proofs.Laws.Stands.{event_at, source_stands, inner_stands, notifier_stands}
use Rattle.rx_event.proofs.Laws.Waits.{settled_connected}
use Rattle.rx_event.proofs.Laws.MarksFound.{child_terminal_some}
use Rattle.rx_event.proofs.Laws.MarksAfter.{same_marks}
use Rattle.rx_event.proofs.Laws.Dues.{IsDueOn, Fails, any_on, parent_on, owed_on, fired_on, lawful_on}
use Rattle.rx_event.proofs.Laws.ClosedInEveryCourse.{same_open, spared, completed_in_k, source_fails}
use Rattle.std.proofs.Common.{rules}

-- what has a child is a mirroring node, or a FlatMap or Switch
pub data IsParent (h : List Event) (n : ℕ) : Type 0 where
  mirrors : at is_mirroring h n ≡ true → IsParent h n
  merges : at is_merging h n ≡ true → IsParent h n

pub parent_sort : (base : Kept) → (h : List Event) → IsLawful base h → (d n : ℕ) → parent h d ≡ Some n → IsParent h n
parent_sort base h law d n below =
    let made : (e : Event) × (slice_get h d ≡ Some e) = event_at h d (parent_within h d n below) in
    by_event made.0 made.1 (parent_name h d n made.0 below made.1) where
      by_source : (o : Option Event) → slice_get h n ≡ o → option_map_or has_source o false ≡ true → IsParent h n
      by_source x0 at_n stands = search (rules, false≢true, mirrors, merges)

      by_notifier : (o : Option Event) → slice_get h n ≡ o → option_map_or is_until o false ≡ true → IsParent h n
      by_notifier (Some (Open place Until)) at_n stands = mirrors (rw at_n refl)
      by_notifier _ at_n stands = absurd (false≢true stands)

      named : (p : ℕ) → Some p ≡ Some n → p ≡ n
      named p same = cc

      by_event : (e : Event) → slice_get h d ≡ Some e → parent_named e ≡ Some n → IsParent h n
      by_event (Open (Source p) kind) at_d name =
          by_source (slice_get h n) refl (sym (ap (at has_source h) (named p name)) ∙ source_stands base h law d p kind at_d)
      by_event (Open (Inner p) kind) at_d name = merges (sym (ap (at is_merging h) (named p name)) ∙ inner_stands base h law d p kind at_d)
      by_event (Open (Notifier p) kind) at_d name =
          by_notifier (slice_get h n) refl (sym (ap (at is_until h) (named p name)) ∙ notifier_stands base h law d p kind at_d)
      by_event _ at_d name = absurd (cc)

-- in a settled history no child of an open node ended so that the node ends by it
pub settled_no_terminal : (base : Kept) → (h : List Event) → IsLawful base h → IsSettled base h → (n : ℕ) → is_open h n ≡ true → child_terminal h n ≡ None
settled_no_terminal base h law settled n o = by_terminal (child_terminal h n) refl where
  none_due : {e : Event} → IsDue base h e → ⊥
  none_due {e = e} d = settled.none e (due (settled_connected base h settled) d)

  by_merging : (t : Terminal) → ChildEnded h n t → at is_merging h n ≡ true → passes_on true t ≡ true → ⊥
  by_merging Completed child is passes = absurd (false≢true passes)
  by_merging (Error code) child is passes = none_due (failed o is child)

  by_sort : (t : Terminal) → ChildEnded h n t → passes_on (at is_merging h n) t ≡ true → IsParent h n → ⊥
  by_sort t child passes (mirrors m) = none_due (mirrored o m child)
  by_sort t child passes (merges m) = by_merging t child m (sym (ap (λ b. passes_on b t) m) ∙ passes)

  by_terminal : (x : Option Terminal) → child_terminal h n ≡ x → x ≡ None
  by_terminal None found = refl
  by_terminal (Some t) found = let w = child_terminal_some h n t found in absurd (by_sort t w.0 w.1 (parent_sort base h law w.0.child n w.0.below))

module _ (base : Kept) (b k j : List Event) (law : IsLawful base b) (whole : IsConnected b) (on_k : IsDueOn base b k) (settled_k : IsSettled base k)
    (on_j : IsDueOn base b j)
    (settled_j : IsSettled base j) where
  opens : (n : ℕ) → is_open k n ≡ is_open j n
  opens n = same_open base law whole on_k settled_k on_j settled_j n

  children : (n : ℕ) → open_children k n ≡ open_children j n
  unfolding open_children
  children n = sym (length-filter (is_open_child_of k n) (places k)) ∙ ap length lists ∙ length-filter (is_open_child_of j n) (places j) where
    lists : filter (is_open_child_of k n) (places k) ≡ filter (is_open_child_of j n) (places j)
    lists = same_filter (is_open_child_of k n) (is_open_child_of j n) (length k) (length j)
        (λ c i. opens c i && option_map_or (λ q. q == n) ((parent_on base on_k c ∙ sym (parent_on base on_j c)) i) false)
        (λ c l. ap (λ a. a && option_map_or (λ q. q == n) (parent k c) false) (is_open_past k c l))
        (λ c l. ap (λ a. a && option_map_or (λ q. q == n) (parent j c) false) (is_open_past j c l))

  -- what completed in one completed in the other
  completed_in : {p : List Event} (q : List Event) → IsDueOn base b p → IsSettled base p → IsDueOn base b q → IsSettled base q → (n : ℕ) → is_open q n ≡ true →
      source_completed base p n ≡ true → source_completed base q n ≡ true
  completed_in {p} q on_p settled_p on_q settled_q n o found = search (rules, completed_in_k, spared)

  any_both : (q : Event → Bool) → Fails q → list_any q k ≡ list_any q j
  any_both q fails = any_on base q fails on_k ∙ sym (any_on base q fails on_j)

  pub marks_both : (n : ℕ) → is_open k n ≡ true → marks_of base k n ≡ marks_of base j n
  marks_both n o =
      let also : is_open j n ≡ true = sym (opens n) ∙ o in
      same_marks base (ap (λ x. option_map_or (λ r. r.source_opened) (node_kept base n) false || x) (any_both (is_source_of n) (source_fails n)))
      (ap (λ x. option_map_or (λ r. r.notifier_opened) (node_kept base n) false || x)
      (any_both (is_notifier_of n) (record { at_end = λ c t. refl; at_close = λ c. refl }))) (fired_on base on_k n ∙ sym (fired_on base on_j n))
      (same_test (source_completed base k n) (source_completed base j n) (completed_in j on_k settled_k on_j settled_j n also)
      (completed_in k on_j settled_j on_k settled_k n o)) (settled_no_terminal base k (lawful_on base on_k law whole) settled_k n o ∙
      sym (settled_no_terminal base j (lawful_on base on_j law whole) settled_j n also)) (owed_on base on_k n ∙ sym (owed_on base on_j n)) (children n)
