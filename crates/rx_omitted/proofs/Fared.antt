-- How resources, leases and hubs fare without what is left out.
use Rattle.rx_event.proofs.Laws.Common.{◌≡◌, ℕ, Bool, true, false, List, [], ◌∷◌, Option, Some, None, cond, slice_get}
use Rattle.rx_event.proofs.Laws.Common.{refl, sym, ap, ◌∙◌, ◌==◌, nat_lt, filter, map, not, ◌&&◌, ◌||◌, Kept, both_ways, and_parts}
use Rattle.rx_event.proofs.Laws.Common.{option_map, option_map_or, option_and_then, false_from_ne_true, makes_resource, makes_lease, makes_hub}
use Rattle.rx_event.proofs.Laws.Common.{node_of_accept, is_remove_of, is_return_of, is_take_of, is_lease_of, is_connect_of, is_subscriber_of, event_by}
use Rattle.rx_event.proofs.Laws.Common.{at, places, is_open, open_nodes, open_subscribers, open_connections, parent, parent_named, is_open_child_of}
use Rattle.rx_event.proofs.Laws.Common.{is_owned, is_out, leases_of, is_leased, is_held, is_taken, is_waiting, held_resources, waiting_resources}
use Rattle.rx_event.specs.Tree.{hubs, has_open_child}
use Rattle.rx_event.specs.Resources.{is_out_of, leases_out}
use Rattle.rx_omitted.specs.Imports.{Event}
use Rattle.rx_omitted.specs.Omitted.{number, what_stays, NeedsNone, only_heard, lone_leaf, lone_end, lone_close}
use Rattle.rx_omitted.proofs.Omits.{Omits}
use Rattle.std.proofs.Common.{rules}
use Rattle.rx_event.proofs.Laws.Parents.{parent_name, parent_within}
use Rattle.rx_event.proofs.Laws.Stands.{event_at}
use Rattle.rx_event.proofs.Laws.Leases.{out_lease}
use Rattle.rx_event.proofs.Laws.Resources.{held_resource, waiting_parts}
use Rattle.rx_omitted.proofs.Numbers.{number_eq}
use Rattle.rx_omitted.proofs.Staying.{slice_by, at_by, at_gone, list_any-what_stays, filter_places, count_places, any_places, Renumbers}
use Rattle.rx_omitted.proofs.Tests as tests
use Rattle.rx_omitted.proofs.Tests.{node_of_by, node_of_stays, removes_of, returns_of, takes_of, leases_of_one, connects_of, subscribers_of}
use Rattle.rx_omitted.proofs.Tree.{open_by, parent_by, parent_stay}

-- what is left out has no parent
unnamed : (omit : ℕ → Bool) (h : List Event) (n : ℕ) {e : Event} → NeedsNone omit h n e → parent_named e ≡ None
unnamed omit h n (only_heard heard) = refl
unnamed omit h n lone_leaf = refl
unnamed omit h n (lone_end gone) = refl
unnamed omit h n (lone_close gone) = refl

module _ (base : Kept) (omit : ℕ → Bool) (h : List Event) (a : Omits base omit h) where
  -- a test of a place that what is left out fails
  gone_fails : (p : ℕ → Bool) (t u : Event → Bool) → Renumbers omit t u → ((n : ℕ) → p n ≡ true → at t h n ≡ true) → (n : ℕ) → omit n ≡ true → p n ≡ false
  gone_fails p t u test needs n gone =
      false_from_ne_true (p n) (λ holds. both_ways (at t h n) (at_gone base omit h a t u test n gone) (needs n holds))

  -- resources and leases ----------------------------------------------------------------------------------------

  pub owned_by : (q : ℕ) → omit q ≡ false → is_owned (what_stays omit h) (number omit q) ≡ is_owned h q
  unfolding is_owned
  owned_by q stay = λ i. node i && not (list_any-what_stays base omit h a (is_remove_of q) (is_remove_of (number omit q)) (removes_of omit q stay) i) where
    by_node : (o : Option ℕ) → ((n : ℕ) → o ≡ Some n → omit n ≡ false) →
        option_map_or (is_open (what_stays omit h)) (option_map (number omit) o) false ≡ option_map_or (is_open h) o false
    by_node None all = refl
    by_node (Some n) all = open_by base omit h a n (all n refl)

    by_event : (o : Option Event) → slice_get h q ≡ o →
        option_map_or (is_open (what_stays omit h)) (option_and_then node_of_accept (option_map (event_by (number omit)) o)) false ≡
        option_map_or (is_open h) (option_and_then node_of_accept o) false
    by_event None at_q = refl
    by_event (Some e) at_q = ap (λ o. option_map_or (is_open (what_stays omit h)) o false) (node_of_by (number omit) e) ∙
        by_node (node_of_accept e) (λ n named. node_of_stays omit e n named (a.apart q e at_q stay))

    node : option_map_or (is_open (what_stays omit h)) (option_and_then node_of_accept (slice_get (what_stays omit h) (number omit q))) false ≡
        option_map_or (is_open h) (option_and_then node_of_accept (slice_get h q)) false
    node = ap (λ o. option_map_or (is_open (what_stays omit h)) (option_and_then node_of_accept o) false) (slice_by omit h q stay) ∙
        by_event (slice_get h q) refl

  made_by : (q : ℕ) → omit q ≡ false → at makes_resource (what_stays omit h) (number omit q) ≡ at makes_resource h q
  made_by q stay = at_by base omit h a makes_resource makes_resource (λ e all. (tests.resources omit).by e all) q stay

  pub out_by : (l : ℕ) → omit l ≡ false → is_out (what_stays omit h) (number omit l) ≡ is_out h l
  unfolding is_out
  out_by l stay = λ i. at_by base omit h a makes_lease makes_lease (λ e all. (tests.leases omit).by e all) l stay i &&
      not (list_any-what_stays base omit h a (is_return_of l) (is_return_of (number omit l)) (returns_of omit l stay) i)

  pub leases_by : (q : ℕ) → omit q ≡ false → leases_of (what_stays omit h) (number omit q) ≡ leases_of h q
  unfolding leases_of
  leases_by q stay = count_places omit (is_out_of h q) (is_out_of (what_stays omit h) (number omit q))
      (λ l there i. at_by base omit h a (is_lease_of q) (is_lease_of (number omit q)) (leases_of_one omit q stay).by l there i && out_by l there i)
      (gone_fails (is_out_of h q) (is_lease_of q) (is_lease_of (number omit q)) (leases_of_one omit q stay)
      (λ l both. (and_parts (at (is_lease_of q) h l) (is_out h l) both).0)) h

  pub leased_by : (q : ℕ) → omit q ≡ false → is_leased (what_stays omit h) (number omit q) ≡ is_leased h q
  leased_by q stay = λ i. made_by q stay i && nat_lt 0 (leases_by q stay i)

  pub held_by : (q : ℕ) → omit q ≡ false → is_held (what_stays omit h) (number omit q) ≡ is_held h q
  unfolding is_held
  held_by q stay = λ i. owned_by q stay i || leased_by q stay i

  pub taken_by : (q : ℕ) → omit q ≡ false → is_taken (what_stays omit h) (number omit q) ≡ is_taken h q
  unfolding is_taken
  taken_by q stay = λ i. made_by q stay i && list_any-what_stays base omit h a (is_take_of q) (is_take_of (number omit q)) (takes_of omit q stay) i

  pub waiting_by : (q : ℕ) → omit q ≡ false → is_waiting (what_stays omit h) (number omit q) ≡ is_waiting h q
  unfolding is_waiting
  waiting_by q stay = λ i. (made_by q stay i && not (held_by q stay i)) && not (taken_by q stay i)

  held_gone : (q : ℕ) → omit q ≡ true → is_held h q ≡ false
  held_gone = gone_fails (is_held h) makes_resource makes_resource (tests.resources omit) (held_resource h)

  waiting_gone : (q : ℕ) → omit q ≡ true → is_waiting h q ≡ false
  waiting_gone = gone_fails (is_waiting h) makes_resource makes_resource (tests.resources omit) (λ q waits. (waiting_parts h q waits).0)

  pub all_held : held_resources (what_stays omit h) ≡ map (number omit) (held_resources h)
  all_held = filter_places omit (is_held h) (is_held (what_stays omit h)) held_by held_gone h

  pub all_waiting : waiting_resources (what_stays omit h) ≡ map (number omit) (waiting_resources h)
  all_waiting = filter_places omit (is_waiting h) (is_waiting (what_stays omit h)) waiting_by waiting_gone h

  pub all_out : leases_out (what_stays omit h) ≡ map (number omit) (leases_out h)
  all_out = filter_places omit (is_out h) (is_out (what_stays omit h)) out_by
      (gone_fails (is_out h) makes_lease makes_lease (tests.leases omit) (out_lease h)) h

  -- hubs ----------------------------------------------------------------------------------------------------------

  pub hub_there : (g : ℕ) → omit g ≡ false → at makes_hub (what_stays omit h) (number omit g) ≡ at makes_hub h g
  hub_there g stay = at_by base omit h a makes_hub makes_hub (tests.hubs omit).by g stay

  pub all_hubs : hubs (what_stays omit h) ≡ map (number omit) (hubs h)
  all_hubs = filter_places omit (at makes_hub h) (at makes_hub (what_stays omit h)) hub_there (at_gone base omit h a makes_hub makes_hub (tests.hubs omit)) h

  sorted_by : (t u : Event → Bool) → Renumbers omit t u →
      filter (λ n. at u (what_stays omit h) n && is_open (what_stays omit h) n) (places (what_stays omit h)) ≡ map (number omit)
      (filter (λ n. at t h n && is_open h n) (places h))
  sorted_by t u test = filter_places omit (λ n. at t h n && is_open h n) (λ n. at u (what_stays omit h) n && is_open (what_stays omit h) n)
      (λ n stay i. at_by base omit h a t u test.by n stay i && open_by base omit h a n stay i)
      (gone_fails (λ n. at t h n && is_open h n) t u test (λ n both. (and_parts (at t h n) (is_open h n) both).0)) h

  pub subscribers_by : (g : ℕ) → omit g ≡ false → open_subscribers (what_stays omit h) (number omit g) ≡ map (number omit) (open_subscribers h g)
  subscribers_by g stay = sorted_by (is_subscriber_of g) (is_subscriber_of (number omit g)) (subscribers_of omit g stay)

  pub connections_by : (g : ℕ) → omit g ≡ false → open_connections (what_stays omit h) (number omit g) ≡ map (number omit) (open_connections h g)
  connections_by g stay = sorted_by (is_connect_of g) (is_connect_of (number omit g)) (connects_of omit g stay)

  -- nodes -----------------------------------------------------------------------------------------------------------

  pub parent_gone : (n p : ℕ) → parent h n ≡ Some p → omit n ≡ false
  parent_gone n p below = by_test (omit n) refl where
    none : (x : Option ℕ) → x ≡ None → x ≡ Some p → ⊥
    none x1 named also = search (rules, tests.none_some)

    by_test : (b : Bool) → omit n ≡ b → omit n ≡ false
    by_test false stay = stay
    by_test true gone =
        let made : (e : Event) × (slice_get h n ≡ Some e) = event_at h n (parent_within h n p below) in
        absurd (none (parent_named made.0) (unnamed omit h n (a.each n made.0 made.1 gone)) (parent_name h n p made.0 below made.1))

  pub child_by : (p : ℕ) → omit p ≡ false → (n : ℕ) → omit n ≡ false →
      is_open_child_of (what_stays omit h) (number omit p) (number omit n) ≡ is_open_child_of h p n
  child_by p up n stay = λ i. open_by base omit h a n stay i &&
      (ap (λ o. option_map_or (λ q. q == number omit p) o false) (parent_by base omit h a n stay) ∙
      by_parent (parent h n) (λ q. parent_stay base omit h a n q stay)) i
    where
      by_parent : (x : Option ℕ) → ((q : ℕ) → x ≡ Some q → omit q ≡ false) →
          option_map_or (λ q. q == number omit p) (option_map (number omit) x) false ≡ option_map_or (λ q. q == p) x false
      by_parent None all = refl
      by_parent (Some q) all = number_eq omit q p (all q refl) up

  pub child_gone : (p n : ℕ) → omit n ≡ true → is_open_child_of h p n ≡ false
  child_gone p n gone = by_parent (parent h n) (parent_gone n) where
    by_parent : (x : Option ℕ) → ((q : ℕ) → x ≡ Some q → omit n ≡ false) → (is_open h n && option_map_or (λ q. q == p) x false) ≡ false
    by_parent None all = search (rules, tests.and_none)
    by_parent (Some q) all = absurd (both_ways (omit n) (all q refl) gone)

  pub has_child_by : (p : ℕ) → omit p ≡ false → has_open_child (what_stays omit h) (number omit p) ≡ has_open_child h p
  has_child_by p up = any_places omit (is_open_child_of h p) (is_open_child_of (what_stays omit h) (number omit p)) (child_by p up) (child_gone p) h

  -- the open nodes that stay
  pub all_open : open_nodes (what_stays omit h) ≡ map (number omit) (filter (λ n. not (omit n)) (open_nodes h))
  all_open = filter_places omit (λ n. not (omit n) && is_open h n) (is_open (what_stays omit h))
      (λ n stay. open_by base omit h a n stay ∙ sym (ap (λ b. not b && is_open h n) stay)) (λ n gone. ap (λ b. not b && is_open h n) gone) h ∙
      ap (map (number omit)) (filter_both (places h))
    where
      filter_both : (ns : List ℕ) → filter (λ n. not (omit n) && is_open h n) ns ≡ filter (λ n. not (omit n)) (filter (is_open h) ns)
      filter_both [] = refl
      filter_both (n ∷ ns) = by_tests (omit n) refl (is_open h n) refl (filter_both ns) where
        by_tests : (b : Bool) → omit n ≡ b → (o : Bool) → is_open h n ≡ o →
            filter (λ m. not (omit m) && is_open h m) ns ≡ filter (λ m. not (omit m)) (filter (is_open h) ns) →
            cond (not b && o) (n ∷ filter (λ m. not (omit m) && is_open h m) ns) (filter (λ m. not (omit m) && is_open h m) ns) ≡
            filter (λ m. not (omit m)) (cond o (n ∷ filter (is_open h) ns) (filter (is_open h) ns))
        by_tests true gone true is rest = rest ∙ sym (ap (λ b. cond (not b) (n ∷ filter (λ m. not (omit m)) (filter (is_open h) ns))
            (filter (λ m. not (omit m)) (filter (is_open h) ns))) gone)
        by_tests false stay true is rest = ap (λ xs. n ∷ xs) rest ∙
            sym (ap (λ b. cond (not b) (n ∷ filter (λ m. not (omit m)) (filter (is_open h) ns)) (filter (λ m. not (omit m)) (filter (is_open h) ns))) stay)
        by_tests true gone false is rest = rest
        by_tests false stay false is rest = rest
