-- What stands in slots, as lists and as counts; and that a tree keeps just what its history leaves open, held and waiting.
use Rattle.rx_ground.proofs.Common.{◌≡◌, ◌≢◌, ℕ, suc, ◌<◌, Bool, true, false, List, [], ◌∷◌, map, length, get_or, Option, Some, None, is_some, cond, count_by}
use Rattle.rx_ground.proofs.Common.{IsTrue, IsSome, refl, sym, ap, subst, ◌∙◌, arith, not, ◌&&◌, AllPairs, Contains, filter, list_any, range_with_len, Ghosts}
use Rattle.rx_ground.proofs.Common.{option_map_or, false≢true, and_parts, length-map, AllPairs-cons, sum_by-cons, length-filter, Event, makes_resource, at}
use Rattle.rx_ground.proofs.Common.{is_take_of, places, is_open, open_count, held_count, lease_count, waiting_count, IsLawful, is_open_within, is_out_within}
use Rattle.rx_ground.proofs.Common.{is_held_within, is_waiting_within, held_resource, held_not_taken, waiting_parts, Entry, Key, Slots, entry_of, find, Tree}
use Rattle.rx_ground.proofs.Common.{ResKey, Stowed, AreApart, is_owned, is_lent, is_held, lent_alone_count, found_entry, HasKey, IsTied, IsStored, AreLeased}
use Rattle.std.proofs.lemmas.List.Kept.{AllPairs-filter}
use Rattle.rx_event.specs.Kept.{Kept as Base}
use Rattle.rx_event.specs.Resources.{is_out, is_held as is_held_in, is_waiting, is_taken}
use Rattle.rx_ground.specs.Shown.{Kept, kept_from, kept_in, held_in, waiting_in}
use Rattle.rx_ground.proofs.Laws.Members.{Contains-map, All-members, AllPairs-nil, AllPairs-map, Contains-from_map}
use Rattle.rx_ground.proofs.FoundIsListed.{filter_member, filter_has, stands_from, kept_found, kept_listed}
use Rattle.rx_ground.proofs.TreeAgreesOnResource.{is_alone}
use Rattle.rx_ground.proofs.TakenResourceWaited.{held_agrees, alone_agrees, waits_agrees}
use Rattle.rx_ground.proofs.Laws.Numbers.{ListsJust, just_counted}
use Rattle.std.proofs.Common.{rules}

-- slots -------------------------------------------------------------------------------------------

module _ {X : Type 0} where
  abbrev pub numbers : List (Kept X) → List ℕ
  numbers ks = map (λ k. k.key.number) ks

  -- values of two numbers
  abbrev Differ : Kept X → Kept X → Type 0
  Differ a b = a.key.number ≢ b.key.number

  -- no number stands at two places
  abbrev AreOnce : List (Option (Entry X)) → Type 0
  AreOnce es = (i j : ℕ) (d e : Entry X) → get_or es i None ≡ Some d → get_or es j None ≡ Some e → d.number ≡ e.number → i ≡ j

  once_later : (o : Option (Entry X)) (es : List (Option (Entry X))) → AreOnce (o ∷ es) → AreOnce es
  once_later o es once i j d e at_i at_j same = let later : suc i ≡ suc j = once (suc i) (suc j) d e at_i at_j same in omega arith

  once_from : (first : ℕ) (es : List (Option (Entry X))) → AreOnce es → AllPairs Differ (kept_from first es)
  once_from first [] once = AllPairs-nil Differ
  once_from first (None ∷ es) once = once_from (suc first) es (once_later None es once)
  once_from first (Some e ∷ es) once = AllPairs-cons Differ here rest (All-members (Differ here) rest later) (once_from (suc first) es further) where
    here : Kept X
    here = record { key = record { slot = first; number = e.number }; value = e.value }

    rest : List (Kept X)
    rest = kept_from (suc first) es

    further : AreOnce es
    further = once_later (Some e) es once

    later : (k : Kept X) → Contains rest k → e.number ≢ k.key.number
    later k c same =
        let s = stands_from (suc first) es k c in
        let place : 0 ≡ suc s.0 = once 0 (suc s.0) e (entry_of k.key.number k.value) refl s.2 same in absurd (omega arith)

  -- an entry has a value that passes
  abbrev passes_in : (X → Bool) → Option (Entry X) → Bool
  passes_in p o = option_map_or (λ e. p e.value) o false

  length-kept_from : (first : ℕ) (es : List (Option (Entry X))) → length (kept_from first es) ≡ count_by is_some es
  length-kept_from first [] = refl
  length-kept_from first (None ∷ es) = search (rules, sum_by-cons, cond, is_some, length-kept_from (suc first) es)
  length-kept_from first (Some e ∷ es) = search (rules, sum_by-cons, cond, is_some, length-kept_from (suc first) es)

  count_by-kept_from : (p : X → Bool) (first : ℕ) (es : List (Option (Entry X))) → count_by (λ k. p k.value) (kept_from first es) ≡ count_by (passes_in p) es
  count_by-kept_from p first [] = refl
  count_by-kept_from p first (None ∷ es) = search (rules, sum_by-cons, cond, count_by-kept_from p (suc first) es)
  count_by-kept_from p first (Some e ∷ es) = search (rules, sum_by-cons, cond, count_by-kept_from p (suc first) es)

  -- a test on numbers says of the values in these slots what another test says of them, and passes no other number
  pub record Agrees (slots : Slots X) (p : X → Bool) (test : ℕ → Bool) : Type 0 where
    pub each : (k : Kept X) → Contains (kept_in slots) k → test k.key.number ≡ p k.value
    pub every : (n : ℕ) → test n ≡ true → HasKey slots n

  module _ (slots : Slots X) where
    -- as many are listed as there are entries, and as many of them pass as entries do
    pub length-kept : length (kept_in slots) ≡ count_by is_some slots.entries
    length-kept = length-kept_from 0 slots.entries

    pub length-filter_kept : (p : X → Bool) → length (filter (λ k. p k.value) (kept_in slots)) ≡ count_by (passes_in p) slots.entries
    length-filter_kept p = length-filter (λ (k : Kept X). p k.value) (kept_in slots) ∙ count_by-kept_from p 0 slots.entries

    kept_once : AreApart slots → AllPairs Differ (kept_in slots)
    kept_once apart = once_from 0 slots.entries one_slot where
      key_of : ℕ → Entry X → Key
      key_of slot e = record { slot = slot; number = e.number }

      there : (i : ℕ) (e : Entry X) → get_or slots.entries i None ≡ Some e → IsSome (find slots (key_of i e))
      there i e at_i = ap is_some (found_entry slots (key_of i e) e.value at_i)

      one_slot : AreOnce slots.entries
      one_slot i j d e at_i at_j same = ap (λ (k : Key). k.slot) (apart (key_of i d) (key_of j e) (there i d at_i) (there j e at_j) same)

    -- the numbers of the values that pass are just those that the test on numbers passes
    pub just_kept : (p : X → Bool) (test : ℕ → Bool) → AreApart slots → Agrees slots p test →
        ListsJust test (numbers (filter (λ k. p k.value) (kept_in slots)))
    just_kept p test apart agrees = record {
      each = All-members (λ n. IsTrue (test n)) (numbers passing) each;
      every = every;
      once = AllPairs-map number (λ m n. m ≢ n) passing (AllPairs-filter Differ passes (kept_in slots) (kept_once apart));
    }
      where
        passes : Kept X → Bool
        passes k = p k.value

        number : Kept X → ℕ
        number k = k.key.number

        passing : List (Kept X)
        passing = filter passes (kept_in slots)

        each : (n : ℕ) → Contains (numbers passing) n → test n ≡ true
        each n c =
            let m = Contains-from_map number passing n c in
            let f = filter_member passes (kept_in slots) m.0 m.1 in ap test (sym m.2) ∙ agrees.each m.0 f.0 ∙ f.1

        every : (n : ℕ) → test n ≡ true → Contains (numbers passing) n
        every n passes_n =
            let has = agrees.every n passes_n in
            let k : Kept X = record { key = has.key; value = has.value } in
            let listed = kept_listed slots has.key has.value has.found in
            let holds : passes k ≡ true = sym (agrees.each k listed) ∙ ap test has.numbered ∙ passes_n in
            subst (Contains (numbers passing)) has.numbered (Contains-map number passing k (filter_has passes (kept_in slots) k listed holds))

    -- where every value passes, of all of them
    pub just_all : (test : ℕ → Bool) → AreApart slots → Agrees slots (λ x. true) test → ListsJust test (numbers (kept_in slots))
    just_all test apart agrees = subst (λ (ks : List (Kept X)). ListsJust test (numbers ks)) (filter_true (kept_in slots)) passing where
      passing : ListsJust test (numbers (filter (λ k. true) (kept_in slots)))
      passing = just_kept (λ x. true) test apart agrees

      filter_true : (ks : List (Kept X)) → filter (λ k. true) ks ≡ ks
      filter_true [] = refl
      filter_true (k ∷ ks) = ap (λ (rest : List (Kept X)). k ∷ rest) (filter_true ks)

  -- and they are as many as numbers pass
  pub length-just : (test : ℕ → Bool) (ks : List (Kept X)) (m : ℕ) → ListsJust test (numbers ks) → ((n : ℕ) → test n ≡ true → n < m) →
      length ks ≡ count_by test (range_with_len 0 m)
  length-just test ks m just below = sym (length-map ks (λ (k : Kept X). k.key.number)) ∙ just_counted test (numbers ks) m just below

-- trees -------------------------------------------------------------------------------------------

module _ (base : Base) {T : Type 0} (g : Ghosts T) (h : List Event) (tree : Tree T) (tied : IsTied base g h tree) where
  -- what is listed is stored as its history says
  stored_kept : (k : Kept (Stowed T)) → Contains (kept_in tree.resources) k → IsStored base g h tree.nodes k.key.number k.value
  stored_kept k c = tied.stored.each k.key k.value (kept_found tree.resources k c)

  pub stored_held : (k : Kept (Stowed T)) → Contains (held_in tree) k → IsStored base g h tree.nodes k.key.number k.value
  stored_held k c = stored_kept k (filter_member (λ (j : Kept (Stowed T)). is_held tree.nodes j.value) (kept_in tree.resources) k c).0

  pub stored_waiting : (k : Kept (Stowed T)) → Contains (waiting_in tree) k → IsStored base g h tree.nodes k.key.number k.value
  stored_waiting k c = stored_kept k (filter_member (λ (j : Kept (Stowed T)). not (is_held tree.nodes j.value)) (kept_in tree.resources) k c).0

  -- the tree's nodes are just those that are open
  pub just_nodes : AreApart tree.nodes → ListsJust (is_open h) (numbers (kept_in tree.nodes))
  just_nodes apart = just_all tree.nodes (is_open h) apart (record {
    each = λ k c. (tied.records.each k.key k.value (kept_found tree.nodes k c)).alive;
    every = tied.records.every;
  })

  pub length-nodes : AreApart tree.nodes → length (kept_in tree.nodes) ≡ open_count h
  length-nodes apart = length-just (is_open h) (kept_in tree.nodes) (length h) (just_nodes apart) (is_open_within h)

  untaken : (r : ℕ) → at makes_resource h r ≡ true → is_taken h r ≡ false → list_any (is_take_of r) h ≡ false
  unfolding is_taken
  untaken r made none = search (rules, list_any, false≢true)

  -- the resources that wait there are just those that wait in the history
  pub just_waiting : AreApart tree.resources → ListsJust (is_waiting h) (numbers (waiting_in tree))
  just_waiting apart = just_kept tree.resources (λ s. not (is_held tree.nodes s)) (is_waiting h) apart (record {
    each = waits_agrees base g h tree tied;
    every = λ r waits. let parts = waiting_parts h r waits in tied.stored.every r parts.0 (untaken r parts.0 parts.2);
  })

  pub length-waiting : AreApart tree.resources → length (waiting_in tree) ≡ waiting_count h
  length-waiting apart = length-just (is_waiting h) (waiting_in tree) (length h) (just_waiting apart) (is_waiting_within h)

  -- and so it is with those that are held
  module _ (law : IsLawful base h) where
    pub just_held : AreApart tree.resources → ListsJust (is_held_in h) (numbers (held_in tree))
    just_held apart = just_kept tree.resources (is_held tree.nodes) (is_held_in h) apart (record {
      each = held_agrees base g h tree tied;
      every = λ r held. let made = held_resource h r held in tied.stored.every r made (untaken r made (held_not_taken base h law r held));
    })

    -- and with those that leases alone hold
    pub length-alone : AreApart tree.resources → lent_alone_count tree ≡ count_by (is_alone h) (places h)
    length-alone apart = sym (length-filter_kept tree.resources alone) ∙
        length-just (is_alone h) (filter (λ k. alone k.value) (kept_in tree.resources)) (length h)
        (just_kept tree.resources alone (is_alone h) apart (record { each = alone_agrees base g h tree tied; every = every }))
        (λ r a. is_held_within h r (and_parts (is_held_in h r) _ a).0)
      where
        alone : Stowed T → Bool
        alone s = is_lent s && not (is_owned tree.nodes s)

        every : (r : ℕ) → is_alone h r ≡ true → HasKey tree.resources r
        every r a =
            let held = (and_parts (is_held_in h r) _ a).0 in
            let made = held_resource h r held in
            tied.stored.every r made (untaken r made (held_not_taken base h law r held))

    pub length-held : AreApart tree.resources → length (held_in tree) ≡ held_count h
    length-held apart = length-just (is_held_in h) (held_in tree) (length h) (just_held apart) (is_held_within h)

-- leases ------------------------------------------------------------------------------------------

-- the leases kept are just those that are out
pub just_out : {T : Type 0} (h : List Event) (resources : Slots (Stowed T)) (leases : Slots ResKey) → AreLeased h resources leases → AreApart leases →
    ListsJust (is_out h) (numbers (kept_in leases))
just_out h resources leases leased apart = just_all leases (is_out h) apart (record {
  each = λ k c. (leased.each k.key k.value (kept_found leases k c)).out;
  every = leased.every;
})

-- and as many
pub count-leases : {T : Type 0} (h : List Event) (resources : Slots (Stowed T)) (leases : Slots ResKey) → AreLeased h resources leases → AreApart leases →
    count_by is_some leases.entries ≡ lease_count h
count-leases h resources leases leased apart = sym (length-kept leases) ∙
    length-just (is_out h) (kept_in leases) (length h) (just_out h resources leases leased apart) (is_out_within h)
