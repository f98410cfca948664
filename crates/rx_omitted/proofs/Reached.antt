-- Where items go without what is left out.
use Rattle.rx_event.proofs.Laws.Common.{◌≡◌, ℕ, suc, Bool, true, false, List, [], ◌∷◌, ◌++◌, length, Option, Some, None, cond, slice_get, map}
use Rattle.rx_event.proofs.Laws.Common.{refl, sym, ap, ◌∙◌, ◌&&◌, Kept, both_ways, and_parts, false_from_ne_true, filter_map, cons_option, none-some}
use Rattle.rx_event.proofs.Laws.Common.{option_map, option_map_or, option_and_then, option_to_list, AllByRecursion, is_merging, is_subscriber_of, event_by, at}
use Rattle.rx_event.proofs.Laws.Common.{places, parent, is_open, Stop, Delivery, Projection, Firing, climb, most_visits, stops, visits}
use Rattle.rx_event.proofs.Laws.Common.{length-map, map-append, same_Some}
use Rattle.rx_event.specs.Climb.{stop_made, stop_at, onward_from, onward_unless, onward, visited}
use Rattle.rx_omitted.specs.Imports.{Event, Open, Connect, Root, Source, Notifier}
use Rattle.rx_omitted.specs.Named.{Stay_all}
use Rattle.rx_omitted.specs.Omitted.{number, what_stays}
use Rattle.rx_omitted.proofs.Omits.{Omits}
use Rattle.rx_omitted.specs.Omitted.{node_of_stop}
use Rattle.rx_event.proofs.Laws.Lists.{AllByRecursion-both, filtered}
use Rattle.rx_event.proofs.Laws.TreeRead.{stop_by, merging_by}
use Rattle.rx_omitted.proofs.Staying.{slice_by, at_by, at_gone}
use Rattle.rx_omitted.proofs.Tests.{subscribers_of}
use Rattle.rx_omitted.proofs.Tree.{parent_by, parent_stay}
use Rattle.rx_omitted.proofs.Fared.{subscribers_by}

module _ (base : Kept) (omit : ℕ → Bool) (h : List Event) (a : Omits base omit h) where
  pub stop_at_by : (n : ℕ) → omit n ≡ false → stop_at (what_stays omit h) (number omit n) ≡ option_map (stop_by (number omit)) (stop_at h n)
  stop_at_by n stay = ap (option_and_then (stop_made (what_stays omit h) (number omit n))) (slice_by omit h n stay) ∙ by_event (slice_get h n) refl where
    if_merging : (b : Bool) (f : ℕ) →
        cond {A = Option Stop} b (Some (Projection (number omit f))) None ≡ option_map (stop_by (number omit)) (cond b (Some (Projection f)) None)
    if_merging true f = refl
    if_merging false f = refl

    by_event : (x : Option Event) → slice_get h n ≡ x → option_and_then (stop_made (what_stays omit h) (number omit n))
        (option_map (event_by (number omit)) x) ≡
        option_map (stop_by (number omit)) (option_and_then (stop_made h n) x)
    by_event (Some (Open (Source f) kind)) at_n =
        ap (λ b. cond {A = Option Stop} b (Some (Projection (number omit f))) None)
        (at_by base omit h a is_merging is_merging (λ e all. merging_by (number omit) e)
        f (a.apart n (Open (Source f) kind) at_n stay).0) ∙ if_merging (at is_merging h f) f
    by_event _ at_n = refl

  -- where it stops stays
  stop_stays : (n : ℕ) → omit n ≡ false → (s : Stop) → stop_at h n ≡ Some s → omit (node_of_stop s) ≡ false
  stop_stays n stay s stop = by_event (slice_get h n) refl stop where
    if_merging : (b : Bool) (f : ℕ) → omit f ≡ false → cond {A = Option Stop} b (Some (Projection f)) None ≡ Some s → omit (node_of_stop s) ≡ false
    if_merging true f up is = ap (λ t. omit (node_of_stop t)) (sym (same_Some (Projection f) s is)) ∙ up
    if_merging false f up is = absurd (none-some s is)

    by_event : (x : Option Event) → slice_get h n ≡ x → option_and_then (stop_made h n) x ≡ Some s → omit (node_of_stop s) ≡ false
    by_event (Some (Open (Source f) kind)) at_n is = if_merging (at is_merging h f) f (a.apart n (Open (Source f) kind) at_n stay).0 is
    by_event (Some (Open Root kind)) at_n is = ap (λ t. omit (node_of_stop t)) (sym (same_Some (Delivery n) s is)) ∙ stay
    by_event (Some (Open (Notifier u) kind)) at_n is =
        ap (λ t. omit (node_of_stop t)) (sym (same_Some (Firing u) s is)) ∙ (a.apart n (Open (Notifier u) kind) at_n stay).0
    by_event _ at_n is = absurd (none-some s is)

  to_list : (x : Option ℕ) → option_to_list (option_map (number omit) x) ≡ map (number omit) (option_to_list x)
  to_list None = refl
  to_list (Some m) = refl

  onward_by : (n : ℕ) → omit n ≡ false → onward (what_stays omit h) (number omit n) ≡ map (number omit) (onward h n)
  onward_by n stay = (λ i. onward_unless (stop_at_by n stay i)
      ((ap (λ (x : Option Event). option_map_or (onward_from (what_stays omit h) (number omit n)) x []) (slice_by omit h n stay) ∙
      by_event (slice_get h n) refl) i)) ∙
      by_stop (stop_at h n)
    where
      by_stop : (x : Option Stop) → onward_unless (option_map (stop_by (number omit)) x)
          (map (number omit) (option_map_or (onward_from h n) (slice_get h n) [])) ≡
          map (number omit) (onward_unless x (option_map_or (onward_from h n) (slice_get h n) []))
      by_stop None = refl
      by_stop (Some t) = refl

      up : option_to_list (parent (what_stays omit h) (number omit n)) ≡ map (number omit) (option_to_list (parent h n))
      up = ap option_to_list (parent_by base omit h a n stay) ∙ to_list (parent h n)

      by_event : (x : Option Event) → slice_get h n ≡ x →
          option_map_or (onward_from (what_stays omit h) (number omit n)) (option_map (event_by (number omit)) x) [] ≡
          map (number omit) (option_map_or (onward_from h n) x [])
      by_event None at_n = refl
      by_event (Some (Connect g)) at_n = subscribers_by base omit h a g (a.apart n (Connect g) at_n stay).0
      by_event (Some _) at_n = up

  onward_stays : (n : ℕ) → omit n ≡ false → Stay_all omit (onward h n)
  onward_stays n stay = by_stop (stop_at h n) where
    by_parent : (x : Option ℕ) → ((p : ℕ) → x ≡ Some p → omit p ≡ false) → Stay_all omit (option_to_list x)
    by_parent None all = tt
    by_parent (Some p) all = (all p refl, tt)

    up : Stay_all omit (option_to_list (parent h n))
    up = by_parent (parent h n) (λ p. parent_stay base omit h a n p stay)

    subscriber : (g : ℕ) → omit g ≡ false → (s : ℕ) → (at (is_subscriber_of g) h s && is_open h s) ≡ true → omit s ≡ false
    subscriber g there s both = false_from_ne_true (omit s) (λ gone.
        both_ways (at (is_subscriber_of g) h s) (at_gone base omit h a (is_subscriber_of g) (is_subscriber_of (number omit g))
        (subscribers_of omit g there) s gone)
        (and_parts (at (is_subscriber_of g) h s) (is_open h s) both).0)

    by_event : (x : Option Event) → slice_get h n ≡ x → Stay_all omit (option_map_or (onward_from h n) x [])
    by_event None at_n = tt
    by_event (Some (Connect g)) at_n = filtered (λ s. at (is_subscriber_of g) h s && is_open h s) (λ s. omit s ≡ false)
        (subscriber g (a.apart n (Connect g) at_n stay).0) (places h)
    by_event (Some _) at_n = up

    by_stop : (x : Option Stop) → Stay_all omit (onward_unless x (option_map_or (onward_from h n) (slice_get h n) []))
    by_stop None = by_event (slice_get h n) refl
    by_stop (Some t) = tt

  visited_by : (left : ℕ) (todo : List ℕ) → Stay_all omit todo →
      (visited left (what_stays omit h) (map (number omit) todo) ≡ map (number omit) (visited left h todo)) × Stay_all omit (visited left h todo)
  visited_by (suc left) (n ∷ todo) all =
      let next : onward (what_stays omit h) (number omit n) ++ map (number omit) todo ≡ map (number omit) (onward h n ++ todo) =
      ap (λ (xs : List ℕ). xs ++ map (number omit) todo) (onward_by n all.0) ∙ sym (map-append (number omit) (onward h n) todo) in
      let rest = visited_by left (onward h n ++ todo) (AllByRecursion-both (λ m. omit m ≡ false) (onward h n) todo (onward_stays n all.0) all.1) in
      (ap (λ (xs : List ℕ). number omit n ∷ xs) (ap (visited left (what_stays omit h)) next ∙ rest.0), (all.0, rest.1))
  visited_by _ _ all = (refl, tt)

  climb_by : (l : ℕ) → omit l ≡ false → (climb (what_stays omit h) (number omit l) ≡ map (number omit) (climb h l)) × Stay_all omit (climb h l)
  unfolding climb
  climb_by l stay = visited_by (suc most_visits) (l ∷ []) (stay, tt)

  pub visits_by : (l : ℕ) → omit l ≡ false → visits (what_stays omit h) (number omit l) ≡ visits h l
  unfolding visits
  visits_by l stay = ap length (climb_by l stay).0 ∙ length-map (climb h l) (number omit)

  stops_all : (ns : List ℕ) → Stay_all omit ns →
      (filter_map (stop_at (what_stays omit h)) (map (number omit) ns) ≡ map (stop_by (number omit)) (filter_map (stop_at h) ns)) ×
      AllByRecursion (λ s. omit (node_of_stop s) ≡ false) (filter_map (stop_at h) ns)
  stops_all [] all = (refl, tt)
  stops_all (n ∷ ns) all = let rest = stops_all ns all.1 in
      ((λ i. cons_option (stop_at_by n all.0 i) (rest.0 i)) ∙ by_stop (stop_at h n), each (stop_at h n) (stop_stays n all.0) rest.1)
    where
      by_stop : (x : Option Stop) → cons_option (option_map (stop_by (number omit)) x) (map (stop_by (number omit)) (filter_map (stop_at h) ns)) ≡
          map (stop_by (number omit)) (cons_option x (filter_map (stop_at h) ns))
      by_stop None = refl
      by_stop (Some t) = refl

      each : (x : Option Stop) → ((s : Stop) → x ≡ Some s → omit (node_of_stop s) ≡ false) →
          AllByRecursion (λ s. omit (node_of_stop s) ≡ false) (filter_map (stop_at h) ns) →
          AllByRecursion (λ s. omit (node_of_stop s) ≡ false) (cons_option x (filter_map (stop_at h) ns))
      each None all rest = rest
      each (Some s) all rest = (all s refl, rest)

  pub stops_by : (l : ℕ) → omit l ≡ false → (stops (what_stays omit h) (number omit l) ≡ map (stop_by (number omit)) (stops h l)) ×
      AllByRecursion (λ s. omit (node_of_stop s) ≡ false) (stops h l)
  unfolding stops
  stops_by l stay =
      let all = stops_all (climb h l) (climb_by l stay).1 in (ap (filter_map (stop_at (what_stays omit h))) (climb_by l stay).0 ∙ all.0, all.1)
