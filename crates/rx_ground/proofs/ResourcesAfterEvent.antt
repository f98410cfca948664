-- What one event leaves of the resources in the store.
use Rattle.rx_ground.proofs.Common.{◌≡◌, ◌≢◌, ℕ, ◌+◌, ◌-◌, ◌<◌, ◌≤◌, Bool, true, false, cond, List, [], ◌∷◌, ◌++◌, length, Option, Some, None, is_some, refl}
use Rattle.rx_ground.proofs.Common.{IsSome, option_map, slice_get, sym, ap, subst, ◌∙◌, inl, inr, ◌⊎◌, arith, length-append, not, ◌&&◌, ◌||◌, list_any, Kept}
use Rattle.rx_ground.proofs.Common.{option_and_then, option_map_or, false≢true, cases_order, or_parts, or_right, both_ways, eq-eqb, ne_eqb, none-some, Ghosts}
use Rattle.rx_ground.proofs.Common.{same_Some, slice_get_within, Live, Event, Accept, Use, Remove, Lease, Return, Take, makes_resource, node_of_accept, at}
use Rattle.rx_ground.proofs.Common.{is_remove_of, is_lease_of, is_return, is_take_of, is_use_of, is_open, MayFollow, IsLawful, slice_get_last, at-append, Key}
use Rattle.rx_ground.proofs.Common.{at_within, list_any_push, or_false, is_cut, is_open_cut, is_open_unchanged, is_open_within, stays_closed, node_of, loses}
use Rattle.rx_ground.proofs.Common.{is_owned-push, is_owned-remove, is_owned_last, no_take, accepted_by-push, accepted_by_new, reads_owned, uses-push, Slots}
use Rattle.rx_ground.proofs.Common.{uses_new, find, entry_at, with_number, KeepsOthers, Node, Stowed, Tree, AreApart, Rewrites, stowed_at, removed, cases_key}
use Rattle.rx_ground.proofs.Common.{one_lease_more, one_lease_less, with_resource, some_of, HasKey, IsStored, AreStored}
use Rattle.rx_event.specs.Resources.{is_owned, leases_of, uses}
use Rattle.rx_event.proofs.Laws.Leases.{leases_of_kept, leases_of_still, leases_of_new, leases_of-return}
use Rattle.std.proofs.Common.{rules}

-- the event is about no resource of this number, and gives no lease back
pub record IsApart (r : ℕ) (e : Event) : Type 0 where
  pub removes : is_remove_of r e ≡ false
  pub takes : is_take_of r e ≡ false
  pub uses : is_use_of r e ≡ false
  pub leases : is_lease_of r e ≡ false
  pub returns : is_return e ≡ false

-- of this resource the event changes its leases alone
pub record IsOfLeases (r : ℕ) (e : Event) : Type 0 where
  pub makes : makes_resource e ≡ false
  pub removes : is_remove_of r e ≡ false
  pub takes : is_take_of r e ≡ false
  pub uses : is_use_of r e ≡ false

-- a new resource is held at this node, at a number that says when it came, and the others are as before
pub record IsHeldIn {T : Type 0} (h : List Event) (old new : Slots (Stowed T)) (home k : Key) (x : T) : Type 0 where
  pub numbered : k.number ≡ length h
  pub free : entry_at old k.slot ≡ None
  pub found : find new k ≡ Some (stowed_at home x)
  pub others : KeepsOthers old new k

at_most_one : (test : Bool) → cond {A = ℕ} test 1 0 ≤ 1
at_most_one x0 = search rules

module _ (base : Kept) {T : Type 0} (g : Ghosts T) (h : List Event) (law : IsLawful base h) where
  -- where a stored resource came to be held is an older node
  pub stored_within : (nodes : Slots Node) (r : ℕ) (s : Stowed T) → IsStored base g h nodes r s → (r < length h) × (s.node.number < r)
  stored_within nodes r s is = (at_within makes_resource h r is.made, is.older)

  module _ (e : Event) where
    -- a search for an event of a resource that this one is not about
    still : (q : Event → Bool) → q e ≡ false → list_any q (h ++ e ∷ []) ≡ list_any q h
    still q apart = list_any_push q h e ∙ ap (λ b. list_any q h || b) apart ∙ or_false (list_any q h)

    -- what is open after an event was open before, if it is no new node
    pub open_before : (n : ℕ) → n < length h → is_open (h ++ e ∷ []) n ≡ true → is_open h n ≡ true
    open_before n l alive = by_test (is_open h n) refl where
      by_test : (b : Bool) → is_open h n ≡ b → b ≡ true
      by_test true was = refl
      by_test false was = absurd (false≢true (sym (stays_closed h e n l was) ∙ alive))

    -- it is used no more often than there are events
    few_after : (r : ℕ) → uses base h r ≤ length h → uses base (h ++ e ∷ []) r ≤ length (h ++ e ∷ [])
    few_after r few = let u = uses-push base h e r in let o = at_most_one (is_use_of r e) in omega (arith, length-append h (e ∷ []))

    -- a resource that it does not remove is owned after it where it was, and its node stays open
    owned_still : (nodes : Slots Node) (r : ℕ) (s : Stowed T) → IsStored base g h nodes r s → is_remove_of r e ≡ false →
        is_owned (h ++ e ∷ []) r ≡ (is_open (h ++ e ∷ []) s.node.number && not s.removed)
    owned_still nodes r s is kept = is_owned-push base h e law r within.0 ∙ by_test (is_owned h r) refl ∙
        ap (λ o. o && not s.removed) (sym (is_open_cut h e n (let a = within.0 in let b = within.1 in omega arith)))
      where
        n : ℕ
        n = s.node.number

        within : (r < length h) × (n < r)
        within = stored_within nodes r s is

        shape : (o c m : Bool) → (o && not m) ≡ true → (not (c || false)) ≡ ((o && not c) && not m)
        shape true true false held = refl
        shape true false false held = refl
        shape true c true held = absurd (false≢true held)
        shape false c m held = absurd (false≢true held)

        shape_lost : (o c m : Bool) → (o && not m) ≡ false → false ≡ ((o && not c) && not m)
        shape_lost true c false lost = absurd (false≢true (sym lost))
        shape_lost true true true lost = refl
        shape_lost true false true lost = refl
        shape_lost false c m lost = refl

        by_test : (b : Bool) → is_owned h r ≡ b → (b && not (loses h e r)) ≡ ((is_open h n && not (is_cut h e n)) && not s.removed)
        by_test true owned =
            let node : node_of h r ≡ Some n = ap (option_and_then node_of_accept) (sym (reads_owned base h law r owned) ∙ is.accepted) in
            ap (λ o. not (option_map_or (is_cut h e) o false || is_remove_of r e)) node ∙ ap (λ b. not (is_cut h e n || b)) kept ∙
            shape (is_open h n) (is_cut h e n) s.removed (sym is.owned ∙ owned)
        by_test false lost = shape_lost (is_open h n) (is_cut h e n) s.removed (sym is.owned ∙ lost)

    -- so many leases of it are out after the event as are kept
    stored_so : {nodes : Slots Node} (new : Slots Node) {r : ℕ} (leases : ℕ) {s : Stowed T} → IsStored base g h nodes r s → is_remove_of r e ≡ false →
        is_take_of r e ≡ false → is_use_of r e ≡ false → leases ≡ leases_of (h ++ e ∷ []) r →
        ((key : Key) → IsSome (find nodes key) → is_open (h ++ e ∷ []) key.number ≡ true → IsSome (find new key)) →
        IsStored base g (h ++ e ∷ []) new r (record s { leases = leases })
    stored_so {nodes} new {r} leases {s} is removes takes no_use lent kept = record {
      made = at-append makes_resource h (e ∷ []) r within.0 ∙ is.made;
      accepted = accepted_by-push base h e r within.0 ∙ is.accepted;
      older = is.older;
      owned = owned_still nodes r s is removes;
      lent = lent;
      untaken = still (is_take_of r) takes ∙ is.untaken;
      home = λ alive. kept s.node (is.home (open_before s.node.number (let a = within.0 in let b = within.1 in omega arith) alive)) alive;
      live = is.live;
      few = few_after r is.few;
      uses = is.uses ∙ sym (uses-push base h e r ∙ ap (λ b. uses base h r + cond {A = ℕ} b 1 0) no_use ∙ no_more (uses base h r));
    }
      where
        within : (r < length h) × (s.node.number < r)
        within = stored_within nodes r s is

        no_more : (n : ℕ) → n + 0 ≡ n
        no_more n = omega arith

    pub stored_still : (nodes new : Slots Node) (r : ℕ) (s : Stowed T) → IsStored base g h nodes r s → IsApart r e →
        ((key : Key) → IsSome (find nodes key) → is_open (h ++ e ∷ []) key.number ≡ true → IsSome (find new key)) → IsStored base g (h ++ e ∷ []) new r s
    stored_still nodes new r s is apart kept =
        stored_so new s.leases is apart.removes apart.takes apart.uses (is.lent ∙ sym (leases_of_still base h e law apart.returns r apart.leases)) kept

    -- an acceptance is not of this event
    accepted_before : (r : ℕ) → makes_resource e ≡ false → at makes_resource (h ++ e ∷ []) r ≡ true → at makes_resource h r ≡ true
    accepted_before r none made = by_place (cases_order r (length h)) where
      by_place : (r ≡ length h) ⊎ ((r < length h) ⊎ (length h < r)) → at makes_resource h r ≡ true
      by_place (inl same) =
          absurd (both_ways _ none (sym (ap (λ o. option_map_or makes_resource o false) (ap (slice_get (h ++ e ∷ [])) same ∙ slice_get_last h e)) ∙ made))
      by_place (inr (inl l)) = sym (at-append makes_resource h (e ∷ []) r l) ∙ made
      by_place (inr (inr gr)) = absurd (let w = within_now r made in omega (arith, length-append h (e ∷ []))) where
        within_now : (r : ℕ) → at makes_resource (h ++ e ∷ []) r ≡ true → r < length (h ++ e ∷ [])
        within_now r made = by_event (slice_get (h ++ e ∷ []) r) refl made where
          by_event : (o : Option Event) → slice_get (h ++ e ∷ []) r ≡ o → option_map_or makes_resource o false ≡ true → r < length (h ++ e ∷ [])
          by_event None none made = absurd (false≢true made)
          by_event (Some x) found made = slice_get_within (h ++ e ∷ []) r x found

    untaken_before : (r : ℕ) → list_any (is_take_of r) (h ++ e ∷ []) ≡ false → list_any (is_take_of r) h ≡ false
    untaken_before r none = (or_parts (list_any (is_take_of r) h) (is_take_of r e) (sym (list_any_push (is_take_of r) h e) ∙ none)).0

    -- an event that is about no resource
    pub all_stored : (old new : Tree T) → AreStored base g h old → new.resources ≡ old.resources → makes_resource e ≡ false →
        ((r : ℕ) → IsApart r e) → ((key : Key) → IsSome (find old.nodes key) → is_open (h ++ e ∷ []) key.number ≡ true →
        IsSome (find new.nodes key)) → AreStored base g (h ++ e ∷ []) new
    all_stored old new s same none apart kept = record {
      each = λ key x found. stored_still old.nodes new.nodes key.number x (s.each key x (sym (ap (λ (r : Slots (Stowed T)). find r key) same) ∙ found))
          (apart key.number) kept;
      every = λ r made untaken. let has = s.every r (accepted_before r none made) (untaken_before r untaken) in
          record { key = has.key; value = has.value; found = ap (λ (x : Slots (Stowed T)). find x has.key) same ∙ has.found; numbered = has.numbered };
    }

-- each event --------------------------------------------------------------------------------------

module _ (base : Kept) {T : Type 0} (g : Ghosts T) (h : List Event) (law : IsLawful base h) (old new : Tree T) (s : AreStored base g h old)
    (unique : AreApart old.resources) (nodes : new.nodes ≡ old.nodes) where
  kept_all : (e : Event) (key : Key) → IsSome (find old.nodes key) → is_open (h ++ e ∷ []) key.number ≡ true → IsSome (find old.nodes key)
  kept_all e key some alive = some

  -- each other resource is as it was
  others_still : (e : Event) (k : ℕ) → ((r : ℕ) → r ≢ k → IsApart r e) → (r : ℕ) (x : Stowed T) → r ≢ k → IsStored base g h old.nodes r x →
      IsStored base g (h ++ e ∷ []) old.nodes r x
  others_still e k apart r x differs is = stored_still base g h law e old.nodes old.nodes r x is (apart r differs) (kept_all e)

  -- the event is about the resource of one key alone
  all_stored_but : (e : Event) (k : Key) → IsSome (find old.resources k) → KeepsOthers old.resources new.resources k → makes_resource e ≡ false →
      ((r : ℕ) (x : Stowed T) → r ≢ k.number → IsStored base g h old.nodes r x → IsStored base g (h ++ e ∷ []) old.nodes r x) →
      ((x : Stowed T) → find new.resources k ≡ Some x → IsStored base g (h ++ e ∷ []) old.nodes k.number x) →
      (list_any (is_take_of k.number) (h ++ e ∷ []) ≡ false → IsSome (find new.resources k)) → AreStored base g (h ++ e ∷ []) new
  all_stored_but e k there others none stays here left = record { each = each; every = every } where
    each : (key : Key) (x : Stowed T) → find new.resources key ≡ Some x → IsStored base g (h ++ e ∷ []) new.nodes key.number x
    each key x found = subst (λ (ns : Slots Node). IsStored base g (h ++ e ∷ []) ns key.number x) (sym nodes) (by_key (cases_key key k)) where
      by_key : (key ≡ k) ⊎ (key ≢ k) → IsStored base g (h ++ e ∷ []) old.nodes key.number x
      by_key (inl same) = subst (λ (j : Key). IsStored base g (h ++ e ∷ []) old.nodes j.number x) (sym same)
          (here x (sym (ap (find new.resources) same) ∙ found))
      by_key (inr differs) =
          let was : find old.resources key ≡ Some x = sym (others key differs) ∙ found in
          stays key.number x (λ same. differs (unique key k (ap is_some was) there same)) (s.each key x was)

    every : (r : ℕ) → at makes_resource (h ++ e ∷ []) r ≡ true → list_any (is_take_of r) (h ++ e ∷ []) ≡ false → HasKey new.resources r
    every r made untaken = by_key (s.every r (accepted_before base g h law e r none made) (untaken_before base g h law e r untaken)) where
      by_key : HasKey old.resources r → HasKey new.resources r
      by_key has = by_cases (cases_key has.key k) where
        by_cases : (has.key ≡ k) ⊎ (has.key ≢ k) → HasKey new.resources r
        by_cases (inl same) =
            let at_k : k.number ≡ r = ap (λ (j : Key). j.number) (sym same) ∙ has.numbered in
            let x = some_of (find new.resources k) (left (ap (λ (n : ℕ). list_any (is_take_of n) (h ++ e ∷ [])) at_k ∙ untaken)) in
            record { key = k; value = x.0; found = x.1; numbered = at_k }
        by_cases (inr differs) = record { key = has.key; value = has.value; found = others has.key differs ∙ has.found; numbered = has.numbered }

  -- a resource is used
  pub stored_used : (k : Key) (before : Stowed T) (after : T) → find old.resources k ≡ Some before → g.uses_of after ≡ g.uses_of before.resource + 1 →
      g.tag_of after ≡ g.tag_of before.resource → g.life_of after ≡ g.life_of before.resource →
      Rewrites old.resources new.resources k (with_resource after) → AreStored base g (h ++ Use k.number ∷ []) new
  stored_used k before after found used tagged lives w = all_stored_but (Use k.number) k (ap is_some found)
      w.others refl (others_still (Use k.number) k.number apart) here (λ untaken. ap is_some now)
    where
      now : find new.resources k ≡ Some (with_resource after before)
      now = w.changed ∙ ap (option_map (with_resource after)) found

      was : IsStored base g h old.nodes k.number before
      was = s.each k before found

      within : (k.number < length h) × (before.node.number < k.number)
      within = stored_within base g h law old.nodes k.number before was

      apart : (r : ℕ) → r ≢ k.number → IsApart r (Use k.number)
      apart r differs = record { removes = refl; takes = refl; uses = ne_eqb k.number r (λ same. differs (sym same)); leases = refl; returns = refl }

      after_it : IsStored base g (h ++ Use k.number ∷ []) old.nodes k.number (with_resource after before)
      after_it = record {
        made = at-append makes_resource h (Use k.number ∷ []) k.number within.0 ∙ was.made;
        accepted = accepted_by-push base h (Use k.number) k.number within.0 ∙ was.accepted ∙ ap (λ (t : ℕ). Some (Accept before.node.number t)) (sym tagged);
        older = was.older;
        owned = owned_still base g h law (Use k.number) old.nodes k.number before was refl;
        lent = was.lent ∙ sym (leases_of_still base h (Use k.number) law refl k.number refl);
        untaken = still base g h law (Use k.number) (is_take_of k.number) refl ∙ was.untaken;
        home = λ alive. was.home (open_before base g h law (Use k.number) before.node.number (let a = within.0 in let b = within.1 in omega arith) alive);
        live = lives ∙ was.live;
        few = few_after base g h law (Use k.number) k.number was.few;
        uses = used ∙ ap (λ (n : ℕ). n + 1) was.uses ∙ sym (uses-push base h (Use k.number) k.number ∙
            ap (λ b. uses base h k.number + cond {A = ℕ} b 1 0) (eq-eqb k.number k.number refl));
      }

      here : (x : Stowed T) → find new.resources k ≡ Some x → IsStored base g (h ++ Use k.number ∷ []) old.nodes k.number x
      here x f = subst (IsStored base g (h ++ Use k.number ∷ []) old.nodes k.number) (same_Some _ x (sym now ∙ f)) after_it

  -- a resource is removed
  pub stored_removed : (k : Key) (before : Stowed T) → find old.resources k ≡ Some before → Rewrites old.resources new.resources k removed →
      AreStored base g (h ++ Remove k.number ∷ []) new
  stored_removed k before found w = all_stored_but (Remove k.number) k (ap is_some found) w.others refl (others_still (Remove k.number) k.number apart)
      here (λ untaken. ap is_some now)
    where
      now : find new.resources k ≡ Some (removed before)
      now = w.changed ∙ ap (option_map removed) found

      was : IsStored base g h old.nodes k.number before
      was = s.each k before found

      within : (k.number < length h) × (before.node.number < k.number)
      within = stored_within base g h law old.nodes k.number before was

      apart : (r : ℕ) → r ≢ k.number → IsApart r (Remove k.number)
      apart r differs = record { removes = ne_eqb k.number r (λ same. differs (sym same)); takes = refl; uses = refl; leases = refl; returns = refl }

      no_more : (n : ℕ) → n + 0 ≡ n
      no_more n = omega arith

      both_false : (a b : Bool) → (a && false) ≡ (b && false)
      both_false true true = refl
      both_false true false = refl
      both_false false true = refl
      both_false false false = refl

      after_it : IsStored base g (h ++ Remove k.number ∷ []) old.nodes k.number (removed before)
      after_it = record {
        made = at-append makes_resource h (Remove k.number ∷ []) k.number within.0 ∙ was.made;
        accepted = accepted_by-push base h (Remove k.number) k.number within.0 ∙ was.accepted;
        older = was.older;
        owned = is_owned-remove base h k.number law k.number within.0 ∙ ap (λ b. is_owned h k.number && not b) (eq-eqb k.number k.number refl) ∙
            both_false (is_owned h k.number) (is_open (h ++ Remove k.number ∷ []) before.node.number);
        lent = was.lent ∙ sym (leases_of_still base h (Remove k.number) law refl k.number refl);
        untaken = still base g h law (Remove k.number) (is_take_of k.number) refl ∙ was.untaken;
        home = λ alive. was.home (open_before base g h law (Remove k.number) before.node.number (let a = within.0 in let b = within.1 in omega arith) alive);
        live = was.live;
        few = few_after base g h law (Remove k.number) k.number was.few;
        uses = was.uses ∙ sym (uses-push base h (Remove k.number) k.number ∙ no_more (uses base h k.number));
      }

      here : (x : Stowed T) → find new.resources k ≡ Some x → IsStored base g (h ++ Remove k.number ∷ []) old.nodes k.number x
      here x f = subst (IsStored base g (h ++ Remove k.number ∷ []) old.nodes k.number) (same_Some _ x (sym now ∙ f)) after_it

  -- so many leases of a resource are out after an event that is about its leases alone
  stored_lent : (e : Event) (k : Key) {before : Stowed T} {leases : ℕ} → IsOfLeases k.number e → find old.resources k ≡ Some before →
      find new.resources k ≡ Some (record before { leases = leases }) → leases ≡ leases_of (h ++ e ∷ []) k.number →
      KeepsOthers old.resources new.resources k →
      ((r : ℕ) (x : Stowed T) → r ≢ k.number → IsStored base g h old.nodes r x → IsStored base g (h ++ e ∷ []) old.nodes r x) →
      AreStored base g (h ++ e ∷ []) new
  stored_lent e k {before} {leases} of found now lent others stays =
      all_stored_but e k (ap is_some found) others of.makes stays here (λ untaken. ap is_some now) where
        after_it : IsStored base g (h ++ e ∷ []) old.nodes k.number (record before { leases = leases })
        after_it = stored_so base g h law e old.nodes leases (s.each k before found) of.removes of.takes of.uses lent (kept_all e)

        here : (x : Stowed T) → find new.resources k ≡ Some x → IsStored base g (h ++ e ∷ []) old.nodes k.number x
        here x f = subst (IsStored base g (h ++ e ∷ []) old.nodes k.number) (same_Some _ x (sym now ∙ f)) after_it

  -- a resource is leased
  pub stored_leased : (k : Key) (before : Stowed T) → find old.resources k ≡ Some before → Rewrites old.resources new.resources k one_lease_more →
      AreStored base g (h ++ Lease k.number ∷ []) new
  stored_leased k before found w =
      stored_lent e k (record { makes = refl; removes = refl; takes = refl; uses = refl }) found (w.changed ∙ ap (option_map one_lease_more) found) lent
      w.others (others_still e k.number apart) where
        e : Event
        e = Lease k.number

        apart : (r : ℕ) → r ≢ k.number → IsApart r e
        apart r differs = record { removes = refl; takes = refl; uses = refl; leases = ne_eqb k.number r (λ same. differs (sym same)); returns = refl }

        lent : before.leases + 1 ≡ leases_of (h ++ e ∷ []) k.number
        lent =
            let one = ap (λ b. cond {A = ℕ} b 1 0) (eq-eqb k.number k.number refl) in
            let more = leases_of_kept base h e law refl k.number in
            let was = (s.each k before found).lent in omega arith

  -- a lease of a resource is given back
  pub stored_returned : (l : ℕ) (k : Key) (before : Stowed T) → MayFollow base h (Return l) → slice_get h l ≡ Some (Lease k.number) →
      find old.resources k ≡ Some before → Rewrites old.resources new.resources k one_lease_less → AreStored base g (h ++ Return l ∷ []) new
  stored_returned l k before next made found w =
      stored_lent e k (record { makes = refl; removes = refl; takes = refl; uses = refl }) found (w.changed ∙ ap (option_map one_lease_less) found) lent
      w.others stays where
        e : Event
        e = Return l

        lent : before.leases - 1 ≡ leases_of (h ++ e ∷ []) k.number
        lent =
            let one = ap (λ b. cond {A = ℕ} b 1 0) (eq-eqb k.number k.number refl) in
            let fewer = leases_of-return base h l k.number law next made k.number in
            let was = (s.each k before found).lent in omega arith

        same_leases : (r : ℕ) → r ≢ k.number → leases_of (h ++ e ∷ []) r ≡ leases_of h r
        same_leases r differs =
            let none = ap (λ b. cond {A = ℕ} b 1 0) (ne_eqb k.number r (λ same. differs (sym same))) in
            let fewer = leases_of-return base h l k.number law next made r in omega arith

        stays : (r : ℕ) (x : Stowed T) → r ≢ k.number → IsStored base g h old.nodes r x → IsStored base g (h ++ e ∷ []) old.nodes r x
        stays r x differs is = stored_so base g h law e old.nodes x.leases is refl refl refl (is.lent ∙ sym (same_leases r differs)) (kept_all e)

  -- a resource is taken
  pub stored_taken : (k : Key) → IsSome (find old.resources k) → find new.resources k ≡ None → KeepsOthers old.resources new.resources k →
      AreStored base g (h ++ Take k.number ∷ []) new
  stored_taken k there gone others = all_stored_but (Take k.number) k there others refl
      (others_still (Take k.number) k.number apart) (λ x f. absurd (none-some x (sym gone ∙ f)))
      (λ untaken. absurd (both_ways _ untaken (list_any_push (is_take_of k.number) h (Take k.number) ∙
      or_right (list_any (is_take_of k.number) h) _ (eq-eqb k.number k.number refl))))
    where
      apart : (r : ℕ) → r ≢ k.number → IsApart r (Take k.number)
      apart r differs = record { removes = refl; takes = ne_eqb k.number r (λ same. differs (sym same)); uses = refl; leases = refl; returns = refl }

  -- a fresh resource is accepted
  pub stored_accepted : {home k : Key} {x : T} → IsSome (find old.nodes home) → is_open h home.number ≡ true → g.life_of x ≡ Live → g.uses_of x ≡ 0 →
      IsHeldIn h old.resources new.resources home k x → AreStored base g (h ++ Accept home.number (g.tag_of x) ∷ []) new
  stored_accepted {home} {k} {x} there alive lives unused held = record { each = each; every = every } where
    e : Event
    e = Accept home.number (g.tag_of x)

    by_open : (o : Bool) → o ≡ (o && true)
    by_open true = refl
    by_open false = refl

    after_it : IsStored base g (h ++ e ∷ []) old.nodes (length h) (stowed_at home x)
    after_it = record {
      made = ap (λ o. option_map_or makes_resource o false) (slice_get_last h e);
      accepted = accepted_by_new base h e law;
      older = is_open_within h home.number alive;
      owned = is_owned_last base h e law ∙ sym (is_open_unchanged h e refl refl home.number) ∙ by_open (is_open (h ++ e ∷ []) home.number);
      lent = sym (leases_of_new base h e law refl);
      untaken = still base g h law e (is_take_of (length h)) refl ∙ no_take base h law (length h) (omega arith);
      home = λ alive. there;
      live = lives;
      few = let none = uses_new base h e law refl in omega arith;
      uses = unused ∙ sym (uses_new base h e law refl);
    }

    kept : (key : Key) → IsSome (find old.nodes key) → is_open (h ++ e ∷ []) key.number ≡ true → IsSome (find old.nodes key)
    kept key some alive = some

    each : (key : Key) (y : Stowed T) → find new.resources key ≡ Some y → IsStored base g (h ++ e ∷ []) new.nodes key.number y
    each key y f = subst (λ (ns : Slots Node). IsStored base g (h ++ e ∷ []) ns key.number y) (sym nodes) (by_key (cases_key key k)) where
      by_key : (key ≡ k) ⊎ (key ≢ k) → IsStored base g (h ++ e ∷ []) old.nodes key.number y
      by_key (inl same) =
          let at_end : key.number ≡ length h = ap (λ (j : Key). j.number) same ∙ held.numbered in
          subst (λ (n : ℕ). IsStored base g (h ++ e ∷ []) old.nodes n y) (sym at_end)
          (subst (IsStored base g (h ++ e ∷ []) old.nodes (length h)) (same_Some _ y (sym held.found ∙ sym (ap (find new.resources) same) ∙ f)) after_it)
      by_key (inr differs) = stored_still base g h law e old.nodes old.nodes key.number y (s.each key y (sym (held.others key differs) ∙ f))
          (record { removes = refl; takes = refl; uses = refl; leases = refl; returns = refl }) kept

    every : (r : ℕ) → at makes_resource (h ++ e ∷ []) r ≡ true → list_any (is_take_of r) (h ++ e ∷ []) ≡ false → HasKey new.resources r
    every r made untaken = by_place (cases_order r (length h)) where
      by_place : (r ≡ length h) ⊎ ((r < length h) ⊎ (length h < r)) → HasKey new.resources r
      by_place (inl same) = record { key = k; value = stowed_at home x; found = held.found; numbered = held.numbered ∙ sym same }
      by_place (inr (inl l)) =
          let has = s.every r (sym (at-append makes_resource h (e ∷ []) r l) ∙ made) (untaken_before base g h law e r untaken) in
          record {
            key = has.key;
            value = has.value;
            found = held.others has.key (λ same. none-some has.value (sym (ap (find old.resources) same ∙ ap (with_number k.number) held.free) ∙ has.found)) ∙
                has.found;
            numbered = has.numbered;
          }
      by_place (inr (inr gr)) = absurd (let w = within_now in omega (arith, length-append h (e ∷ []))) where
        within_now : r < length (h ++ e ∷ [])
        within_now = by_event (slice_get (h ++ e ∷ []) r) refl made where
          by_event : (o : Option Event) → slice_get (h ++ e ∷ []) r ≡ o → option_map_or makes_resource o false ≡ true → r < length (h ++ e ∷ [])
          by_event None none m = absurd (false≢true m)
          by_event (Some x) f m = slice_get_within (h ++ e ∷ []) r x f
