-- What an item leaves of the records, stop by stop.
use Rattle.rx_ground.proofs.Common.{◌≡◌, ◌≢◌, ℕ, ℤ, true, false, cond, List, [], ◌∷◌, ◌++◌, Some, None, is_some, IsSome, option_map, slice_get, refl, sym, ap}
use Rattle.rx_ground.proofs.Common.{◌∙◌, inl, inr, ◌⊎◌, eq-eqb, ne_eqb, same_Some, Kept, Ghosts, Marks, Event, Item, is_open, marks_of, due_at, MayFollow}
use Rattle.rx_ground.proofs.Common.{IsLawful, slice_get-append, is_open_within, is_open_unchanged, marks-item_at, Key, Slots, find, Node, Tree, AreApart}
use Rattle.rx_ground.proofs.Common.{Rewrites, with_marks, with_due, is_on, cases_key, some_of, Hubs, HasKey, AreRecords, AreTied, ArePassed}
use Rattle.rx_event.specs.Climb.{Stop as NumberedStop, Delivery as DeliveryTo, Projection as ProjectionTo, Firing as FiringOf, stops}
use Rattle.rx_event.specs.Marks.{after_stop, after_stops, after_projection, after_firing}
use Rattle.rx_ground.proofs.HubsAfterEvent.{tied_on}
use Rattle.rx_ground.proofs.Records.{undue, off_due}
use Rattle.rx_ground.proofs.ResourcesAfterEvent.{all_stored}
use Rattle.std.proofs.Common.{rules}

-- marks -------------------------------------------------------------------------------------------

-- one stop more
after_stops-append : (n : ℕ) (ss : List NumberedStop) (s : NumberedStop) (m : Marks) → after_stops n (ss ++ s ∷ []) m ≡ after_stop n s (after_stops n ss m)
after_stops-append n [] s m = refl
after_stops-append n (x ∷ ss) s m = after_stops-append n ss s (after_stop n x m)

-- a stop that changes the marks of this node so, and those of no other
pub record Changes (n : ℕ) (s : NumberedStop) (change : Marks → Marks) : Type 0 where
  pub here : (m : Marks) → after_stop n s m ≡ change m
  pub others : (k : ℕ) → n ≢ k → (m : Marks) → after_stop k s m ≡ m

pub projection_changes : (n : ℕ) → Changes n (ProjectionTo n) after_projection
projection_changes n = record {
  here = λ m. ap (λ b. cond b (after_projection m) m) (eq-eqb n n refl);
  others = λ k differs m. ap (λ b. cond b (after_projection m) m) (ne_eqb n k differs);
}

pub firing_changes : (n : ℕ) → Changes n (FiringOf n) after_firing
firing_changes n = record {
  here = λ m. ap (λ b. cond b (after_firing m) m) (eq-eqb n n refl);
  others = λ k differs m. ap (λ b. cond b (after_firing m) m) (ne_eqb n k differs);
}

-- records -----------------------------------------------------------------------------------------

-- before the first stop
pub passed_none : (base : Kept) → (h : List Event) (nodes : Slots Node) (chain : List Key) → AreRecords base h nodes chain → ArePassed base h [] nodes chain
passed_none base h nodes chain r = search rules

-- at a stop that changes no marks
pub passed_told : (base : Kept) → (h : List Event) (done : List NumberedStop) (nodes : Slots Node) (chain : List Key) (root : ℕ) →
    ArePassed base h done nodes chain → ArePassed base h (done ++ DeliveryTo root ∷ []) nodes chain
passed_told base h done nodes chain root p = search (rules, after_stops-append)

-- at one that changes those of one record
pub passed_marked : {base : Kept} →
    {h : List Event} {done : List NumberedStop} {nodes new : Slots Node} {chain : List Key} (p : Key) (s : NumberedStop) (change : Marks → Marks) →
    ArePassed base h done nodes chain → AreApart nodes → IsSome (find nodes p) → Changes p.number s change →
    Rewrites nodes new p (λ node. with_marks (change node.marks) node) → ArePassed base h (done ++ s ∷ []) new (with_due new p chain)
passed_marked {base} {h} {done} {nodes} {new} {chain} p s change was apart there changes rewrites =
    record { made = made; alive = alive; marks = marks; every = every; quiet = quiet } where
      before : (x : Node) × (find nodes p ≡ Some x)
      before = some_of (find nodes p) there

      after : Node
      after = with_marks (change before.0.marks) before.0

      here : find new p ≡ Some after
      here = rewrites.changed ∙ ap (option_map (λ (node : Node). with_marks (change node.marks) node)) before.1

      is_after : (key : Key) (node : Node) → key ≡ p → find new key ≡ Some node → after ≡ node
      is_after key node same found = same_Some after node (sym here ∙ sym (ap (find new) same) ∙ found)

      other : (key : Key) (node : Node) → key ≢ p → find new key ≡ Some node → find nodes key ≡ Some node
      other key node differs found = sym (rewrites.others key differs) ∙ found

      number : (key : Key) → key ≡ p → key.number ≡ p.number
      number key same = ap (λ (k : Key). k.number) same

      made : (key : Key) (node : Node) → find new key ≡ Some node → slice_get h key.number ≡ Some node.made
      made key node found = by_key (cases_key key p) where
        by_key : (key ≡ p) ⊎ (key ≢ p) → slice_get h key.number ≡ Some node.made
        by_key (inl same) = ap (slice_get h) (number key same) ∙ was.made p before.0 before.1 ∙ ap (λ (x : Node). Some x.made) (is_after key node same found)
        by_key (inr differs) = was.made key node (other key node differs found)

      alive : (key : Key) (node : Node) → find new key ≡ Some node → is_open h key.number ≡ true
      alive key node found = by_key (cases_key key p) where
        by_key : (key ≡ p) ⊎ (key ≢ p) → is_open h key.number ≡ true
        by_key (inl same) = ap (is_open h) (number key same) ∙ was.alive p before.0 before.1
        by_key (inr differs) = was.alive key node (other key node differs found)

      marks : (key : Key) (node : Node) → find new key ≡ Some node → node.marks ≡ after_stops key.number (done ++ s ∷ []) (marks_of base h key.number)
      marks key node found = by_key (cases_key key p) where
        more : (n : ℕ) → after_stops n (done ++ s ∷ []) (marks_of base h n) ≡ after_stop n s (after_stops n done (marks_of base h n))
        more n = after_stops-append n done s (marks_of base h n)

        by_key : (key ≡ p) ⊎ (key ≢ p) → node.marks ≡ after_stops key.number (done ++ s ∷ []) (marks_of base h key.number)
        by_key (inl same) = sym (ap (λ (x : Node). x.marks) (is_after key node same found)) ∙ ap change (was.marks p before.0 before.1) ∙
            sym (changes.here (after_stops p.number done (marks_of base h p.number))) ∙ sym (more p.number) ∙
            ap (λ (n : ℕ). after_stops n (done ++ s ∷ []) (marks_of base h n)) (sym (number key same))
        by_key (inr differs) =
            let old = other key node differs found in
            let apart_numbers : p.number ≢ key.number = λ same. differs (apart key p (ap is_some old) there (sym same)) in
            was.marks key node old ∙ sym (changes.others key.number apart_numbers (after_stops key.number done (marks_of base h key.number))) ∙
            sym (more key.number)

      every : (n : ℕ) → is_open h n ≡ true → HasKey new n
      every n open_now = by_key (was.every n open_now) where
        by_key : HasKey nodes n → HasKey new n
        by_key has = by_cases (cases_key has.key p) where
          by_cases : (has.key ≡ p) ⊎ (has.key ≢ p) → HasKey new n
          by_cases (inl same) = record { key = p; value = after; found = here; numbered = sym (number has.key same) ∙ has.numbered }
          by_cases (inr differs) = record { key = has.key; value = has.value; found = rewrites.others has.key differs ∙ has.found; numbered = has.numbered }

      quiet : (key : Key) (node : Node) → find new key ≡ Some node → is_on key (with_due new p chain) ≡ false → due_at node.made node.marks key.number ≡ None
      quiet key node found off = by_key (cases_key key p) where
        by_key : (key ≡ p) ⊎ (key ≢ p) → due_at node.made node.marks key.number ≡ None
        by_key (inl same) = ap (λ (k : Key). due_at node.made node.marks k.number) same ∙
            undue new p node chain (sym (ap (find new) same) ∙ found) (sym (ap (λ (k : Key). is_on k (with_due new p chain)) same) ∙ off)
        by_key (inr differs) = was.quiet key node (other key node differs found) (off_due new key p chain off)

-- and after the last, once the item is written
pub passed_all : {base : Kept} → (h : List Event) (leaf : ℕ) (v : ℤ) (nodes : Slots Node) (chain : List Key) → IsLawful base h →
    MayFollow base h (Item leaf v) → ArePassed base h (stops h leaf) nodes chain → AreRecords base (h ++ Item leaf v ∷ []) nodes chain
passed_all {base} h leaf v nodes chain law next p = search (rules, is_open_within, slice_get-append, is_open_unchanged, marks-item_at)

-- ties --------------------------------------------------------------------------------------------

-- an item that went its whole way and is written
pub tied_item : {base : Kept} → {T : Type 0} {g : Ghosts T} {h : List Event} {leaf : ℕ} (v : ℤ) → IsLawful base h → MayFollow base h (Item leaf v) →
    {old : Tree T} (new : Tree T) {hubs : Hubs} → AreTied base g h old hubs → ArePassed base h (stops h leaf) new.nodes new.chain →
    ((key : Key) → IsSome (find old.nodes key) → IsSome (find new.nodes key)) →
    new.resources ≡ old.resources → AreTied base g (h ++ Item leaf v ∷ []) new hubs
tied_item {base} {g} {h} {leaf} v law next {old} new tied passed still same = search (rules, tied_on, passed_all, all_stored)
