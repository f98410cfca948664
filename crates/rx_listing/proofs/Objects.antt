-- Numbers that have names, and the objects of those.
use Rattle.rx_listing.proofs.Common.{◌≡◌, ◌↔◌, ℕ, ◌+◌, ◌<◌, ◌≤◌, Bool, true, false, cond, List, [], ◌∷◌, ◌++◌, length, take, filter, count_by, filter_map, ap}
use Rattle.rx_listing.proofs.Common.{get_or, Option, Some, None, HashMap, refl, sym, ◌∙◌, arith, is_some, IsTrue, nat_eq, get, list_any, cons_option, State}
use Rattle.rx_listing.proofs.Common.{range_with_len, option_and_then, false≢true, nat_eq_equiv, take_more, take_all, sum_by-cons, list_any_same_at}
use Rattle.rx_listing.proofs.Common.{name_of_number}
use Rattle.rx_listing.proofs.Common.{joined, Known, Part, Nodes, Resources, Leases, Hubs, has_no_texts, led_text, names_of_part, part_object, ArePlaced}
use Rattle.rx_listing.proofs.Common.{subscribes}
use Rattle.std.specs.HashMap.{values, IsUnique}
use Rattle.std.proofs.lemmas.List.Elements.{filter_map-append}
use Rattle.std.proofs.lemmas.Map.Made.{Contains-from_values_of, Contains-values_of}
use Rattle.std.proofs.lemmas.Map.Views.{Contains-from_any, list_any-from_Contains, exact_unsigned_eq, hash_map_get_iff}
use Rattle.rx_listing.specs.Listed.{open_name, if_open, AreNamesBelow}
use Rattle.rx_listing.specs.Whole.{ListedCounts, node_object, resource_object, lease_object, hub_object, hub_by}
use Rattle.rx_listing.proofs.Keeping.{turned}
use Rattle.rx_listing.proofs.Laws.Texts.{same_texts, more_nil, more_text}

-- what passes a test is counted among what has names
pub count_named : (p named : ℕ → Bool) (ns : List ℕ) → ((n : ℕ) → named n ≡ false → p n ≡ false) → count_by p (filter named ns) ≡ count_by p ns
count_named p named [] all = refl
count_named p named (n ∷ ns) all = by_name (named n) refl (count_named p named ns all) where
  by_name : (b : Bool) → named n ≡ b → count_by p (filter named ns) ≡ count_by p ns →
      count_by p (cond b (n ∷ filter named ns) (filter named ns)) ≡ count_by p (n ∷ ns)
  by_name true is rest =
      sum_by-cons (λ m. cond (p m) 1 0) n (filter named ns) ∙ ap (λ (k : ℕ). cond (p n) 1 0 + k) rest ∙ sym (sum_by-cons (λ m. cond (p m) 1 0) n ns)
  by_name false is rest =
      let none : count_by p (n ∷ ns) ≡ cond false 1 0 + count_by p ns =
      sum_by-cons (λ m. cond (p m) 1 0) n ns ∙ ap (λ (b : Bool). cond b 1 0 + count_by p ns) (all n is) in
      omega arith

-- objects, one more
module _ (f : ℕ → Option (List ℕ)) (ns : List ℕ) (i d : ℕ) (within : i < length ns) where
  more : {o : Option (List ℕ)} → f (get_or ns i d) ≡ o → filter_map f (take (i + 1) ns) ≡ filter_map f (take i ns) ++ cons_option o []
  more there =
      ap (filter_map f) (take_more ns i d within) ∙ filter_map-append f (take i ns) (get_or ns i d ∷ [])
      ∙ ap (λ (o : Option (List ℕ)). filter_map f (take i ns) ++ cons_option o []) there

  pub object_same : f (get_or ns i d) ≡ None → filter_map f (take i ns) ≡ filter_map f (take (i + 1) ns)
  object_same none = same_texts (filter_map f (take i ns)) (filter_map f (take (i + 1) ns)) (more none)

  pub object_nil : {object : List ℕ} → f (get_or ns i d) ≡ Some object → false ≡ has_no_texts (filter_map f (take (i + 1) ns))
  object_nil {object} there = more_nil (filter_map f (take i ns)) (filter_map f (take (i + 1) ns)) object (more there)

  pub object_text : {object : List ℕ} (first : Bool) (begun : List ℕ) {text new : List ℕ} → f (get_or ns i d) ≡ Some object →
      first ≡ has_no_texts (filter_map f (take i ns)) → text ≡ begun ++ joined (filter_map f (take i ns)) → new ≡ text ++ led_text first object →
      new ≡ begun ++ joined (filter_map f (take (i + 1) ns))
  object_text {object} first begun there is written next =
      more_text (filter_map f (take i ns)) (filter_map f (take (i + 1) ns)) object first begun (more there) is written next

-- what has no name has no object
named_alone : (f : ℕ → Option (List ℕ)) (named : ℕ → Bool) (ns : List ℕ) → ((n : ℕ) → named n ≡ false → f n ≡ None) →
    filter_map f (filter named ns) ≡ filter_map f ns
named_alone f named [] none = refl
named_alone f named (n ∷ ns) none = by_name (named n) refl (named_alone f named ns none) where
  by_name : (b : Bool) → named n ≡ b → filter_map f (filter named ns) ≡ filter_map f ns →
      filter_map f (cond b (n ∷ filter named ns) (filter named ns)) ≡ filter_map f (n ∷ ns)
  by_name true is rest = ap (cons_option (f n)) rest
  by_name false is rest = rest ∙ sym (ap (λ (o : Option (List ℕ)). cons_option o (filter_map f ns)) (none n is))

pub objects_all : (f : ℕ → Option (List ℕ)) (named : ℕ → Bool) (ns : List ℕ) (i len : ℕ) → length ns ≤ i → ns ≡ filter named (range_with_len 0 len) →
    ((n : ℕ) → named n ≡ false → f n ≡ None) → filter_map f (take i ns) ≡ filter_map f (range_with_len 0 len)
objects_all f named ns i len past are none = ap (filter_map f) (take_all i ns past ∙ are) ∙ named_alone f named (range_with_len 0 len) none

no_one : {X : Type 0} (o : Option X) → is_some o ≡ false → o ≡ None
no_one None is = refl
no_one (Some x) is = absurd (false≢true (sym is))

module _ (book : State) (known : Known) (n : ℕ) where
  no_open_name : is_some (name_of_number known.nodes.now n) ≡ false → open_name book known.nodes.now n ≡ None
  unfolding open_name
  no_open_name is = ap (option_and_then (if_open book known.nodes.now)) (no_one (name_of_number known.nodes.now n) is)

  pub no_subscriber : (hub : ℕ) → is_some (name_of_number known.nodes.now n) ≡ false → subscribes book known hub n ≡ false
  unfolding hub_by
  no_subscriber hub is = rw (no_open_name is) refl

  pub no_object : (counted : ListedCounts) (part : Part) → is_some (name_of_number (names_of_part known part) n) ≡ false
      → part_object book known counted part n ≡ None
  unfolding node_object resource_object lease_object hub_object
  no_object counted Nodes is = rw (no_open_name is) refl
  no_object counted Resources is = rw (no_one (name_of_number known.resources.now n) is) refl
  no_object counted Leases is = rw (no_one (name_of_number known.leases.now n) is) refl
  no_object counted Hubs is = rw (no_one (name_of_number known.hubs.now n) is) refl

pub placed_part : (len : ℕ) (known : Known) (part : Part) → ArePlaced len known → AreNamesBelow len (names_of_part known part)
placed_part len known Nodes placed = placed.nodes
placed_part len known Resources placed = placed.resources
placed_part len known Leases placed = placed.leases
placed_part len known Hubs placed = placed.hubs

-- a hub is connected where the table has it
pub is_connected : {S : Type 0} (m : HashMap ℕ ℕ S) (want : ℕ → Option ℕ) → IsUnique nat_eq m → ((c : ℕ) → get nat_eq m c ≡ want c) → (hub : ℕ) →
    IsTrue (list_any (λ one. nat_eq one hub) (values m)) ↔ ((n : ℕ) × (want n ≡ Some hub))
is_connected m want unique same hub = (to, from) where
  back : list_any (λ one. nat_eq one hub) (values m) ≡ list_any (nat_eq hub) (values m)
  back = list_any_same_at (λ one. nat_eq one hub) (nat_eq hub) (values m) (λ i one at. turned one hub)

  to : IsTrue (list_any (λ one. nat_eq one hub) (values m)) → (n : ℕ) × (want n ≡ Some hub)
  to any =
      let there = Contains-from_values_of m.entries hub (Contains-from_any exact_unsigned_eq hub (values m) (sym back ∙ any)) in
      (there.0, sym (same there.0) ∙ (hash_map_get_iff nat_eq_equiv exact_unsigned_eq m unique there.0 hub).1 there.1)

  from : (n : ℕ) × (want n ≡ Some hub) → IsTrue (list_any (λ one. nat_eq one hub) (values m))
  from w =
      back ∙ list_any-from_Contains nat_eq_equiv hub (values m)
      (Contains-values_of m.entries w.0 hub ((hash_map_get_iff nat_eq_equiv exact_unsigned_eq m unique w.0 hub).0 (same w.0 ∙ w.1)))
