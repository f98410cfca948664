-- An item that is only heard, and a root that is a leaf alone, may be left out.
use Rattle.rx_event.proofs.Laws.Common.{◌≡◌, ℕ, ℤ, ◌<◌, ◌≤◌, true, false, List, [], ◌∷◌, length, Option, Some, None, slice_get, take}
use Rattle.rx_event.proofs.Laws.Common.{refl, sym, ap, ◌∙◌, subst, inl, inr, ◌⊎◌, ◌==◌, ◌||◌, arith, Kept, shown, both_ways, false_from_ne_true, false≢true}
use Rattle.rx_event.proofs.Laws.Common.{option_map_or}
use Rattle.rx_event.proofs.Laws.Common.{makes_node, at, is_open, IsLawful, MayFollow, slice_get_within, same_Some, eq-eqb, eqb-true, ne_eqb}
use Rattle.rx_event.proofs.Laws.Common.{or_cases}
use Rattle.rx_event.proofs.Laws.Common.{list_all, Delivery, stops, length-take-le, or_right, option_and_then}
use Rattle.rx_event.specs.Climb.{stop_made}
use Rattle.rx_omitted.specs.Imports.{Event, Open, Accept, Item, End, Close, Root, Leaf}
use Rattle.rx_omitted.specs.Omitted.{NeedsNone, only_heard, lone_leaf, lone_end, lone_close, befalls, MayOmit, HasOwnPlaces, IsOnlyHeard, IsLoneLeaf, is_at}
use Rattle.rx_omitted.specs.Omitted.{is_of_leaf, is_delivery, reaches}
use Rattle.std.proofs.Common.{take-append-drop}
use Rattle.rx_event.proofs.Laws.Bases.{length-shown}
use Rattle.rx_event.proofs.Laws.Climbs.{stops_stop}
use Rattle.rx_event.proofs.Laws.Lawful.{in_base, since_base, FoundAt, found_at, may_end}
use Rattle.rx_event.proofs.Laws.Openness.{is_open_within}
use Rattle.rx_event.proofs.Laws.Places.{slice_get-append}
use Rattle.rx_event.proofs.Laws.Stands.{at_older, event_at, open_node}
use Rattle.rx_event.proofs.Laws.Steps.{may_accept, may_emit, may_close}

module _ (base : Kept) (h : List Event) (law : IsLawful base h) (own : HasOwnPlaces base) where
  in_front : (i : ℕ) (e : Event) → slice_get (shown base) i ≡ Some e → i < base.at_length
  in_front i e found = let l = slice_get_within (shown base) i e found in let long = length-shown base in omega arith

  at_node : (i n : ℕ) → i < length h → is_open (take i h) n ≡ true → (at makes_node h n ≡ true) × (n < i)
  at_node i n l o = (
    at_older makes_node h i n l (open_node (take i h) n o),
    (let w = is_open_within (take i h) n o in let k = length-take-le i h (omega arith) in omega arith),
  )

  -- what befalls n since the base befalls a node
  pub befalls_node : (i n : ℕ) (e : Event) → base.at_length ≤ n → slice_get h i ≡ Some e → befalls n e ≡ true →
      (is_open (take i h) n ≡ true) × (at makes_node h n ≡ true) × (n < i)
  befalls_node i n e past at_i is = by_case (found_at base h law i e at_i) where
    from_open : is_open (take i h) n ≡ true → (is_open (take i h) n ≡ true) × (at makes_node h n ≡ true) × (n < i)
    from_open o = let w = at_node i n (slice_get_within h i e at_i) o in (o, w.0, w.1)

    shown_not : (x : Event) → slice_get (shown base) i ≡ Some x → befalls n x ≡ true → ⊥
    shown_not (Item l v) found befallen = false≢true (law.started.making i (Item l v) found)
    shown_not (End m t) found befallen = false≢true (law.started.making i (End m t) found)
    shown_not (Close m) found befallen =
        let l = in_front i (Close m) found in let same = own i m found in let number = eqb-true m n befallen in omega arith
    shown_not _ found befallen = false≢true befallen

    by_event : (x : Event) → MayFollow base (take i h) x → befalls n x ≡ true → is_open (take i h) n ≡ true
    by_event (Item l v) next befallen = ap (is_open (take i h)) (sym (eqb-true l n befallen)) ∙ may_emit base next
    by_event (End m t) next befallen = ap (is_open (take i h)) (sym (eqb-true m n befallen)) ∙ may_end base next
    by_event (Close m) next befallen = ap (is_open (take i h)) (sym (eqb-true m n befallen)) ∙ may_close base next
    by_event _ next befallen = absurd (false≢true befallen)

    by_case : FoundAt base h i e → (is_open (take i h) n ≡ true) × (at makes_node h n ≡ true) × (n < i)
    by_case (in_base found same) = absurd (shown_not e found is)
    by_case (since_base next) = from_open (by_event e next is)

  -- what accepts at n since the base accepts at a node
  accepts_node : (r n tag : ℕ) → base.at_length ≤ n → slice_get h r ≡ Some (Accept n tag) → at makes_node h n ≡ true
  accepts_node r n tag past at_r = by_case (found_at base h law r (Accept n tag) at_r) where
    by_case : FoundAt base h r (Accept n tag) → at makes_node h n ≡ true
    by_case (in_base found same) = absurd (let l = in_front r _ found in let below = law.started.accepts r n tag found in omega arith)
    by_case (since_base next) = (at_node r n (slice_get_within h r _ at_r) (may_accept base next)).0

  no_node : (n : ℕ) (e : Event) → slice_get h n ≡ Some e → makes_node e ≡ false → at makes_node h n ≡ true → ⊥
  no_node n e at_n none holds = both_ways (makes_node e) none (sym (ap (λ o. option_map_or makes_node o false) at_n) ∙ holds)

  -- an item -------------------------------------------------------------------------------------------------------

  pub item_omitted : (k : ℕ) → IsOnlyHeard base h k → MayOmit base (is_at k) h
  item_omitted k x = record {
    since = λ n l. ne_eqb n k (λ same. let past = x.since in let e = same in absurd (omega arith));
    each = λ n e at_n here.
        let place : n ≡ k = eqb-true n k here in
        let event : e ≡ Item x.leaf x.value = same_Some e (Item x.leaf x.value) (sym at_n ∙ ap (slice_get h) place ∙ x.item) in
        subst (λ (y : Event). NeedsNone (is_at k) h n y) (sym event) (only_heard (ap (λ m. list_all is_delivery (stops (take m h) x.leaf)) place ∙ x.heard));
    holds_none = λ r n tag at_r. false_from_ne_true (n == k) (λ here.
        let place : n ≡ k = eqb-true n k here in
        no_node k (Item x.leaf x.value) x.item refl (ap (at makes_node h) (sym place) ∙
        accepts_node r n tag (let past = x.since in omega arith) at_r));
    whole = λ i n e at_i is here.
        let place : n ≡ k = eqb-true n k here in
        absurd (no_node k (Item x.leaf x.value) x.item refl (ap (at makes_node h) (sym place) ∙
        (befalls_node i n e (let past = x.since in omega arith) at_i is).1));
  }

  -- a leaf --------------------------------------------------------------------------------------------------------

  module _ (n : ℕ) (x : IsLoneLeaf base h n) where
    -- an item of it stops at it alone
    pub leaf_stops : (i : ℕ) → i < length h → n < i → stops (take i h) n ≡ Delivery n ∷ []
    leaf_stops i l less = stops_stop (take i h) n (Delivery n) (ap (option_and_then (stop_made (take i h) n)) before) where
      before : slice_get (take i h) n ≡ Some (Open Root Leaf)
      before = let long = length-take-le i h (omega arith) in
          sym (slice_get-append (take i h) (Rattle.rx_event.proofs.Laws.Common.drop i h) n (omega arith)) ∙
          ap (λ (xs : List Event). slice_get xs n) (take-append-drop i h) ∙ x.opened

    befallen : (i : ℕ) → at (befalls n) h i ≡ true → (e : Event) × (slice_get h i ≡ Some e) × (befalls n e ≡ true)
    befallen i is = by_event (slice_get h i) refl is where
      by_event : (o : Option Event) → slice_get h i ≡ o → option_map_or (befalls n) o false ≡ true →
          (e : Event) × (slice_get h i ≡ Some e) × (befalls n e ≡ true)
      by_event None at_i fails = absurd (false≢true fails)
      by_event (Some e) at_i holds = (e, at_i, holds)

    none_befalls : (i : ℕ) (e : Event) → slice_get h i ≡ Some e → makes_node e ≡ true → at (befalls n) h i ≡ false
    none_befalls i e at_i node = ap (λ o. option_map_or (befalls n) o false) at_i ∙ by_event e node where
      by_event : (y : Event) → makes_node y ≡ true → befalls n y ≡ false
      by_event (Item l v) made = absurd (false≢true made)
      by_event (End m t) made = absurd (false≢true made)
      by_event (Close m) made = absurd (false≢true made)
      by_event _ made = refl

    -- a node that is of the leaf is the leaf
    node_of_leaf : (m : ℕ) → at makes_node h m ≡ true → is_of_leaf h n m ≡ true → m ≡ n
    node_of_leaf m node is = by_event (event_at h m (Rattle.rx_event.proofs.Laws.Places.at_within makes_node h m node)) where
      by_event : (e : Event) × (slice_get h m ≡ Some e) → m ≡ n
      by_event (e, at_m) =
          let made : makes_node e ≡ true = sym (ap (λ o. option_map_or makes_node o false) at_m) ∙ node in
          eqb-true m n (sym (Rattle.rx_event.proofs.Laws.Common.or_false (m == n)) ∙ ap (λ b. (m == n) || b) (sym (none_befalls m e at_m made)) ∙ is)

    omitted_self : is_of_leaf h n n ≡ true
    omitted_self = ap (λ b. b || at (befalls n) h n) (eq-eqb n n refl)

    needs_none : (i : ℕ) (e : Event) → slice_get h i ≡ Some e → befalls n e ≡ true → NeedsNone (is_of_leaf h n) h i e
    needs_none i e at_i is = by_event e is where
      after : n < i
      after = (befalls_node i n e x.since at_i is).2

      by_event : (y : Event) → befalls n y ≡ true → NeedsNone (is_of_leaf h n) h i y
      by_event (Item l v) befalls_it =
          only_heard (ap (λ m. list_all is_delivery (stops (take i h) m)) (eqb-true l n befalls_it) ∙
          ap (list_all is_delivery) (leaf_stops i (slice_get_within h i e at_i) after))
      by_event (End m t) befalls_it = lone_end (ap (is_of_leaf h n) (eqb-true m n befalls_it) ∙ omitted_self)
      by_event (Close m) befalls_it = lone_close (ap (is_of_leaf h n) (eqb-true m n befalls_it) ∙ omitted_self)
      by_event _ befalls_it = absurd (false≢true befalls_it)

    of_leaf : (i : ℕ) → is_of_leaf h n i ≡ true → (i ≡ n) ⊎ (at (befalls n) h i ≡ true)
    of_leaf i is = by_case (or_cases (i == n) (at (befalls n) h i) is) where
      by_case : ((i == n) ≡ true) ⊎ (at (befalls n) h i ≡ true) → (i ≡ n) ⊎ (at (befalls n) h i ≡ true)
      by_case (inl here) = inl (eqb-true i n here)
      by_case (inr later) = inr later

    leaf_each : (i : ℕ) (e : Event) → slice_get h i ≡ Some e → is_of_leaf h n i ≡ true → NeedsNone (is_of_leaf h n) h i e
    leaf_each i e at_i is = by_case (of_leaf i is) where
      by_case : (i ≡ n) ⊎ (at (befalls n) h i ≡ true) → NeedsNone (is_of_leaf h n) h i e
      by_case (inl same) =
          let event : e ≡ Open Root Leaf = same_Some e (Open Root Leaf) (sym at_i ∙ ap (slice_get h) same ∙ x.opened) in
          subst (λ (y : Event). NeedsNone (is_of_leaf h n) h i y) (sym event) lone_leaf
      by_case (inr later) = needs_none i e at_i (sym (ap (λ o. option_map_or (befalls n) o false) at_i) ∙ later)

    past_base : (i : ℕ) → is_of_leaf h n i ≡ true → base.at_length ≤ i
    past_base i is = by_case (of_leaf i is) where
      by_case : (i ≡ n) ⊎ (at (befalls n) h i ≡ true) → base.at_length ≤ i
      by_case (inl same) = let past = x.since in omega arith
      by_case (inr later) = let w = befallen i later in
          let less = (befalls_node i n w.0 x.since w.1 w.2).2 in let past = x.since in omega arith

    pub leaf_omitted : MayOmit base (is_of_leaf h n) h
    leaf_omitted = record {
      since = λ i l. false_from_ne_true (is_of_leaf h n i) (λ is. let past = past_base i is in absurd (omega arith));
      each = leaf_each;
      holds_none = λ r m tag at_r. false_from_ne_true (is_of_leaf h n m) (λ is.
          let same : m ≡ n = node_of_leaf m (accepts_node r m tag (past_base m is) at_r) is in
          x.holds_none r tag (at_r ∙ ap (λ k. Some (Accept k tag)) same));
      whole = λ i m e at_i is gone.
          let w = befalls_node i m e (past_base m gone) at_i is in
          let same : m ≡ n = node_of_leaf m w.1 gone in
          or_right (i == n) (at (befalls n) h i) (ap (λ o. option_map_or (befalls n) o false) at_i ∙ ap (λ k. befalls k e) (sym same) ∙ is);
    }

    -- and no other root hears its items
    pub leaf_heard : (m : ℕ) → is_of_leaf h n m ≡ false → (i l : ℕ) (v : ℤ) → slice_get h i ≡ Some (Item l v) → is_of_leaf h n i ≡ true →
        reaches m (stops (take i h) l) ≡ false
    leaf_heard m other i l v at_i gone = by_case (of_leaf i gone) where
      apart : (n == m) ≡ false
      apart = false_from_ne_true (n == m) (λ same. both_ways (is_of_leaf h n m) other (ap (is_of_leaf h n) (sym (eqb-true n m same)) ∙ omitted_self))

      by_case : (i ≡ n) ⊎ (at (befalls n) h i ≡ true) → reaches m (stops (take i h) l) ≡ false
      by_case (inl same) =
          let event : Item l v ≡ Open Root Leaf = same_Some (Item l v) (Open Root Leaf) (sym at_i ∙ ap (slice_get h) same ∙ x.opened) in absurd (cc)
      by_case (inr later) =
          let is : befalls n (Item l v) ≡ true = sym (ap (λ o. option_map_or (befalls n) o false) at_i) ∙ later in
          let number : l ≡ n = eqb-true l n is in
          ap (λ k. reaches m (stops (take i h) k)) number ∙
          ap (reaches m) (leaf_stops i (slice_get_within h i _ at_i) (befalls_node i n (Item l v) x.since at_i is).2) ∙
          ap (λ b. b || false) apart
