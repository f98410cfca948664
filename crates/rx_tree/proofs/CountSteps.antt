-- How the counts of a store follow what changes of its records.
use Rattle.rx_tree.proofs.Common.{◌≡◌, ◌≢◌, ℕ, ◌+◌, ◌-◌, ◌<◌, ◌≤◌, ◌==◌, cond, Bool, true, false, [], length, Option, Some, None, option_map, ap}
use Rattle.rx_tree.proofs.Common.{is_some, count_by, refl, sym, subst, ◌∙◌, inl, inr, ◌⊎◌, arith, true≢false, option_map_or, not, cases_eq, length-map, Entry}
use Rattle.rx_tree.proofs.Common.{count_by-le-length, Key, Slots, entry_of, value_at, find, Changes, Node, Stowed, Record, Counts, Store, owed_in, is_owned}
use Rattle.rx_tree.proofs.Common.{is_lent, is_held, removed, one_lease_more, one_lease_less, waits_in, waiting_count, on_entry, project, nodes_of, no_counts}
use Rattle.rx_tree.proofs.Common.{resources_of, held_count_at, count_if, one_more, one_less, freed, Relinks, Inserts, shown, Rewrites, unowned_in, owned_at}
use Rattle.rx_tree.proofs.Common.{AreCounted, is_free, IsCounted, cases_key, entry_found, found_entry, slot_within, option_and_then}
use Rattle.rx_tree.proofs.Common.{resource_ring, Held, Waiting, IfSome, IsTrue}
use Rattle.std.proofs.Math.Bool.{◌&&◌, ◌||◌}
use Rattle.rx_tree.specs.declared.store.Stored.{Stored as Kept}
use Rattle.rx_tree.proofs.CountLemmas.{bit, same_here, same_apart, count_changed, counted_changed, counted_placed, counted_out, are_counted_still}
use Rattle.rx_tree.proofs.Laws.Owed.{owed_came, owed_taken, owed_empty}
use Rattle.rx_tree.proofs.StoreLemmas.{find-project, Anew}
use Rattle.std.proofs.Common.{rules}

-- what of the counts is of those with a lease out, or of the others
abbrev part : Bool → Counts → ℕ
part l counts = count_if l counts

zero_of : (l : Bool) → part l no_counts ≡ 0
zero_of x0 = search rules

-- how a resource counts beside these nodes: with a lease out or none, with an owner or none
pub record CountsAs {T : Type 0} (nodes : Slots Node) (stowed : Stowed T) (lent owned : Bool) : Type 0 where
  pub lending : is_lent stowed ≡ lent
  pub owning : is_owned nodes stowed ≡ owned

-- over the same nodes, which owe the same, these are counted of the resources without an owner, and those of the node of this slot
pub record Recounts {T : Type 0} (a b : Store T) (slot : ℕ) (w x : Counts) : Type 0 where
  pub nodes : nodes_of b ≡ nodes_of a
  pub owed : b.owed ≡ a.owed
  pub waiting : b.waiting_count ≡ w
  pub held : (j : ℕ) → held_count_at b j ≡ cond (slot == j) x (held_count_at a j)

-- the test of it
abbrev test_of : {T : Type 0} → Bool → Stowed T → Bool
test_of l stowed = cond l (is_lent stowed) (is_free stowed)

module _ {T : Type 0} where
  -- the counts of one sort
  abbrev pub AreCountedAs : Bool → Slots Node → Slots (Stowed T) → Counts → (ℕ → Counts) → Type 0
  AreCountedAs l nodes resources unowned owned = AreCounted (test_of l) nodes resources (part l unowned) (λ j. part l (owned j))

  pub sort_of : (s : Store T) → IsCounted s → (l : Bool) → AreCountedAs l (nodes_of s) (resources_of s) s.waiting_count (held_count_at s)
  sort_of s c true = c.lent
  sort_of s c false = c.free

  pub counted_of : (s : Store T) → ((l : Bool) → AreCountedAs l (nodes_of s) (resources_of s) s.waiting_count (held_count_at s)) → s.owed ≡ owed_in
      (nodes_of s) → IsCounted s
  counted_of s each owed = record { free = each false; lent = each true; owed = owed }

  -- with counts that are the same
  re_counted : (l : Bool) {nodes : Slots Node} {resources : Slots (Stowed T)} (u v : Counts) (f g : ℕ → Counts) → u ≡ v → ((j : ℕ) → f j ≡ g j) →
      AreCountedAs l nodes resources u f → AreCountedAs l nodes resources v g
  re_counted l u v f g same each c = search rules

module _ {T : Type 0} (a b : Store T) where
  -- no count changes where the same resources are held
  pub counted_kept : IsCounted a → b.waiting_count ≡ a.waiting_count → ((j : ℕ) → held_count_at b j ≡ held_count_at a j) →
      (resources_of b).entries ≡ (resources_of a).entries → ((key : Key) (stowed : Stowed T) → find (resources_of a) key ≡ Some stowed → is_some (find
      (nodes_of b) stowed.node) ≡ is_some (find (nodes_of a) stowed.node)) → b.owed ≡ owed_in (nodes_of b) → IsCounted b
  counted_kept c waiting held entries same owed = search (rules, re_counted, held_count_at, waiting, held, are_counted_still, nodes_of, resources_of)

  pub counted_relinked : Relinks a b → IsCounted a → IsCounted b
  counted_relinked r c = search (rules, counted_kept)

  -- a node comes that is newer than each that a resource came to be held at
  pub found_before : (key : Key) (number : ℕ) (node : Node) → Inserts (nodes_of a) (nodes_of b) key number node → ((k : Key) (stowed : Stowed T) → find
      (resources_of a) k ≡ Some stowed → stowed.node.number < number) → (k : Key) (stowed : Stowed T) → find (resources_of a) k ≡ Some stowed →
      is_some (find (nodes_of b) stowed.node) ≡ is_some (find (nodes_of a) stowed.node)
  found_before key number node came homes k stowed found = search rules

  -- one that owes nothing changes nothing of what is owed
  pub owed_opened : (key : Key) (number : ℕ) (node : Node) → Inserts (nodes_of a) (nodes_of b) key number node → node.marks.owed ≡ 0 →
      owed_in (nodes_of b) ≡ owed_in (nodes_of a)
  owed_opened key number node came none =
      let more = owed_came (nodes_of a) (nodes_of b) key node came.was_free (subst (λ n. Changes (nodes_of a) (nodes_of b) key.slot (Some (entry_of n node)))
      (sym came.numbered) came.changes) in omega (arith, more, none)

  -- a node is written in the place of another
  pub found_marked : (key : Key) (change : Node → Node) → Rewrites (nodes_of a) (nodes_of b) key change → (k : Key) →
      is_some (find (nodes_of b) k) ≡ is_some (find (nodes_of a) k)
  found_marked key change written k = search (rules, cases_key, nodes_of)

  -- a resource comes that its node owns and that has no lease out
  module _ (c : IsCounted a) (key : Key) (number : ℕ) (stowed : Stowed T) (came : Inserts (resources_of a) (resources_of b) key number stowed)
      (owned : is_owned (nodes_of a) stowed ≡ true) (free : is_lent stowed ≡ false) where
    none_of : (l : Bool) → bit (unowned_in (test_of l) (nodes_of a) (Some (entry_of number stowed))) ≡ 0
    none_of true = λ i. bit (free i && not (owned i))
    none_of false = λ i. bit (not (free i) && not (owned i))

    each_of : (l : Bool) (j : ℕ) → bit (owned_at (test_of l) (nodes_of a) j (Some (entry_of number stowed))) ≡ cond l 0 (bit (stowed.node.slot == j))
    each_of true j = λ i. bit (free i && (owned i && (stowed.node.slot == j)))
    each_of false j = λ i. bit (not (free i) && (owned i && (stowed.node.slot == j)))

    pub count_fits : (held_count_at a stowed.node.slot).free < length b.resources.entries
    count_fits =
        let was = c.free.by_each stowed.node.slot in
        let e : count_by (owned_at is_free (nodes_of a) stowed.node.slot) (resources_of a).entries + bit
        (owned_at is_free (nodes_of a) stowed.node.slot (Some (entry_of number stowed))) ≡
        count_by (owned_at is_free (nodes_of a) stowed.node.slot) (resources_of b).entries + 0 =
        count_changed (owned_at is_free (nodes_of a) stowed.node.slot) (resources_of b) (resources_of a) (Some (entry_of number stowed)) refl
        (slot_within (resources_of b) key.slot (entry_of number stowed) came.changes.changed) came.changes.changed
        (record { changed = came.was_free; others = λ j other. sym (came.changes.others j other) }) in
        let here = each_of false stowed.node.slot in
        let one : bit (stowed.node.slot == stowed.node.slot) ≡ 1 = ap bit (same_here stowed.node.slot stowed.node.slot refl) in
        let few = count_by-le-length (owned_at is_free (nodes_of a) stowed.node.slot) (resources_of b).entries in
        let l = length-map b.resources.entries (option_map (on_entry (λ r. r.stowed))) in omega (arith, was, e, here, one, few, l)

    pub counted_came : nodes_of b ≡ nodes_of a → b.waiting_count ≡ a.waiting_count → ((j : ℕ) → held_count_at b j ≡ cond (stowed.node.slot == j)
        (one_more false (held_count_at a stowed.node.slot)) (held_count_at a j)) → b.owed ≡ a.owed → IsCounted b
    counted_came nodes waiting count owed = counted_of b (λ l. subst (λ n. AreCountedAs l n (resources_of b) b.waiting_count (held_count_at b)) (sym nodes)
        (counted_placed (test_of l) (entry_of number stowed)
        (part l b.waiting_count) (λ j. part l (held_count_at b j)) (sort_of a c l) came.was_free came.changes
        (let none = none_of l in let same = ap (part l) waiting in omega (arith, none, same))
        (λ j. of l j (cases_eq stowed.node.slot j)))) (owed ∙ c.owed ∙ ap owed_in (sym nodes))
      where
        of : (l : Bool) (j : ℕ) → (stowed.node.slot ≡ j) ⊎ (stowed.node.slot ≢ j) →
            part l (held_count_at b j) ≡ part l (held_count_at a j) + bit (owned_at (test_of l) (nodes_of a) j (Some (entry_of number stowed)))
        of l j (inl here) =
            let at = same_here stowed.node.slot j here in
            let now : held_count_at b j ≡ one_more false (held_count_at a stowed.node.slot) =
            count j ∙ ap (λ t. cond t (one_more false (held_count_at a stowed.node.slot)) (held_count_at a j)) at in
            ap (part l) (now ∙ ap (λ k. one_more false (held_count_at a k)) here) ∙ more l (held_count_at a j) ∙
            ap (λ n. part l (held_count_at a j) + n) (sym (each_of l j ∙ ap (λ t. cond l 0 (bit t)) at))
          where
            more : (l : Bool) (counts : Counts) → part l (one_more false counts) ≡ part l counts + cond l 0 1
            more true counts = omega arith
            more false counts = refl
        of l j (inr apart) =
            let at = same_apart stowed.node.slot j apart in
            let now : held_count_at b j ≡ held_count_at a j =
            count j ∙ ap (λ t. cond t (one_more false (held_count_at a stowed.node.slot)) (held_count_at a j)) at in
            let none : bit (owned_at (test_of l) (nodes_of a) j (Some (entry_of number stowed))) ≡ 0 = each_of l j ∙ ap (λ t. cond l 0 (bit t)) at ∙
            zero_both l in
            let same = ap (part l) now in
            omega (arith, none, same)
          where
            zero_both : (l : Bool) → cond {A = ℕ} l 0 0 ≡ 0
            zero_both true = refl
            zero_both false = refl

  -- a resource is written in the place of another, at the same home
  module _ (c : IsCounted a) (key : Key) (stowed other : Stowed T) (found : find (resources_of a) key ≡ Some stowed) (home : other.node ≡ stowed.node)
      (change : Changes (resources_of a) (resources_of b) key.slot (Some (entry_of key.number other))) where
    before : Option (Entry (Stowed T))
    before = Some (entry_of key.number stowed)

    later : Option (Entry (Stowed T))
    later = Some (entry_of key.number other)

    within : key.slot < length (resources_of a).entries
    within = slot_within (resources_of a) key.slot (entry_of key.number stowed) (entry_found (resources_of a) key stowed found)

    -- where one sort loses one by it, there is one
    pub some_unowned : (l : Bool) → unowned_in (test_of l) (nodes_of a) (Some (entry_of key.number stowed)) ≡ true → unowned_in (test_of l) (nodes_of a)
        (Some (entry_of key.number other)) ≡ false → 1 ≤ part l a.waiting_count
    some_unowned l was now =
        let counts = (sort_of a c l).by_none in
        let e : count_by (unowned_in (test_of l) (nodes_of a)) (resources_of b).entries + bit
        (unowned_in (test_of l) (nodes_of a) (Some (entry_of key.number stowed))) ≡
        count_by (unowned_in (test_of l) (nodes_of a)) (resources_of a).entries + bit (unowned_in (test_of l) (nodes_of a) (Some (entry_of key.number other))) =
        count_changed (unowned_in (test_of l) (nodes_of a)) (resources_of a) (resources_of b) (Some (entry_of key.number stowed)) refl within
        (entry_found (resources_of a) key stowed found) change in
        let one = ap bit was in let none = ap bit now in omega (arith, counts, e, one, none)

    pub some_owned : (l : Bool) (j : ℕ) → owned_at (test_of l) (nodes_of a) j (Some (entry_of key.number stowed)) ≡ true → owned_at (test_of l) (nodes_of a)
        j (Some (entry_of key.number other)) ≡ false → 1 ≤ part l (held_count_at a j)
    some_owned l j was now =
        let counts = (sort_of a c l).by_each j in
        let e : count_by (owned_at (test_of l) (nodes_of a) j) (resources_of b).entries + bit
        (owned_at (test_of l) (nodes_of a) j (Some (entry_of key.number stowed))) ≡
        count_by (owned_at (test_of l) (nodes_of a) j) (resources_of a).entries + bit (owned_at (test_of l) (nodes_of a) j (Some (entry_of key.number other))) =
        count_changed (owned_at (test_of l) (nodes_of a) j) (resources_of a) (resources_of b) (Some (entry_of key.number stowed)) refl within
        (entry_found (resources_of a) key stowed found) change in
        let one = ap bit was in let none = ap bit now in omega (arith, counts, e, one, none)

    -- and where one sort gains one, it fits
    pub unowned_fits : (l : Bool) → unowned_in (test_of l) (nodes_of a) (Some (entry_of key.number stowed)) ≡ false → unowned_in (test_of l) (nodes_of a)
        (Some (entry_of key.number other)) ≡ true → part l a.waiting_count < length b.resources.entries
    unowned_fits l was now =
        let counts = (sort_of a c l).by_none in
        let e : count_by (unowned_in (test_of l) (nodes_of a)) (resources_of b).entries + bit
        (unowned_in (test_of l) (nodes_of a) (Some (entry_of key.number stowed))) ≡
        count_by (unowned_in (test_of l) (nodes_of a)) (resources_of a).entries + bit (unowned_in (test_of l) (nodes_of a) (Some (entry_of key.number other))) =
        count_changed (unowned_in (test_of l) (nodes_of a)) (resources_of a) (resources_of b) (Some (entry_of key.number stowed)) refl within
        (entry_found (resources_of a) key stowed found) change in
        let one = ap bit now in let none = ap bit was in
        let few = count_by-le-length (unowned_in (test_of l) (nodes_of a)) (resources_of b).entries in
        let n = length-map b.resources.entries (option_map (on_entry (λ r. r.stowed))) in omega (arith, counts, e, one, none, few, n)

    pub owned_fits : (l : Bool) (j : ℕ) → owned_at (test_of l) (nodes_of a) j (Some (entry_of key.number stowed)) ≡ false → owned_at (test_of l)
        (nodes_of a) j (Some (entry_of key.number other)) ≡ true → part l (held_count_at a j) < length b.resources.entries
    owned_fits l j was now =
        let counts = (sort_of a c l).by_each j in
        let e : count_by (owned_at (test_of l) (nodes_of a) j) (resources_of b).entries + bit
        (owned_at (test_of l) (nodes_of a) j (Some (entry_of key.number stowed))) ≡
        count_by (owned_at (test_of l) (nodes_of a) j) (resources_of a).entries + bit (owned_at (test_of l) (nodes_of a) j (Some (entry_of key.number other))) =
        count_changed (owned_at (test_of l) (nodes_of a) j) (resources_of a) (resources_of b) (Some (entry_of key.number stowed)) refl within
        (entry_found (resources_of a) key stowed found) change in
        let one = ap bit now in let none = ap bit was in
        let few = count_by-le-length (owned_at (test_of l) (nodes_of a) j) (resources_of b).entries in
        let n = length-map b.resources.entries (option_map (on_entry (λ r. r.stowed))) in omega (arith, counts, e, one, none, few, n)

    -- the counts follow
    pub counted_rewritten : nodes_of b ≡ nodes_of a → b.owed ≡ a.owed →
        ((l : Bool) → part l b.waiting_count + bit (unowned_in (test_of l) (nodes_of a) (Some (entry_of key.number stowed))) ≡
        part l a.waiting_count + bit (unowned_in (test_of l) (nodes_of a) (Some (entry_of key.number other)))) →
        ((l : Bool) (j : ℕ) → part l (held_count_at b j) + bit (owned_at (test_of l) (nodes_of a) j (Some (entry_of key.number stowed))) ≡
        part l (held_count_at a j) + bit (owned_at (test_of l) (nodes_of a) j (Some (entry_of key.number other)))) → IsCounted b
    counted_rewritten nodes owed none each = counted_of b (λ l. subst (λ n. AreCountedAs l n (resources_of b) b.waiting_count (held_count_at b)) (sym nodes)
        (counted_changed (test_of l) (part l b.waiting_count) (λ j. part l (held_count_at b j)) (sort_of a c l) within
        (entry_found (resources_of a) key stowed found) change (none l) (each l))) (owed ∙ c.owed ∙ ap owed_in (sym nodes))

    -- with a lease out or not, owned or not: where it is counted
    abbrev same_sort : Bool → Bool → Bool
    same_sort l lent = cond l lent (not lent)

    bit_none : {st : Stowed T} {lent owned : Bool} → CountsAs (nodes_of a) st lent owned → (l : Bool) →
        bit (unowned_in (test_of l) (nodes_of a) (Some (entry_of key.number st))) ≡ bit (same_sort l lent && not owned)
    bit_none counts true = λ i. bit (counts.lending i && not (counts.owning i))
    bit_none counts false = λ i. bit (not (counts.lending i) && not (counts.owning i))

    bit_each : {st : Stowed T} {lent owned : Bool} → CountsAs (nodes_of a) st lent owned → st.node ≡ stowed.node → (l : Bool) (j : ℕ) →
        bit (owned_at (test_of l) (nodes_of a) j (Some (entry_of key.number st))) ≡ bit (same_sort l lent && (owned && (stowed.node.slot == j)))
    bit_each counts at true j = λ i. bit (counts.lending i && (counts.owning i && ((at i).slot == j)))
    bit_each counts at false j = λ i. bit (not (counts.lending i) && (counts.owning i && ((at i).slot == j)))

    -- the counts go with it
    pub counted_moved : {lent owned lent' owned' : Bool} {w x : Counts} → CountsAs (nodes_of a) stowed lent owned → CountsAs (nodes_of a) other lent' owned' →
        Recounts a b stowed.node.slot w x →
        ((l : Bool) → part l w + bit (same_sort l lent && not owned) ≡ part l a.waiting_count + bit (same_sort l lent' && not owned')) →
        ((l : Bool) → part l x + bit (same_sort l lent && owned) ≡ part l (held_count_at a stowed.node.slot) + bit (same_sort l lent' && owned')) → IsCounted b
    counted_moved {lent} {owned} {lent'} {owned'} {x} was_as now_as new none each = counted_rewritten new.nodes new.owed (λ l.
        let now = ap (part l) new.waiting in
        let was = bit_none was_as l in
        let then = bit_none now_as l in
        let e = none l in
        omega (arith, now, was, then, e)) (λ l j. of l j (cases_eq stowed.node.slot j))
      where
        of : (l : Bool) (j : ℕ) → (stowed.node.slot ≡ j) ⊎ (stowed.node.slot ≢ j) → part l (held_count_at b j) + bit
            (owned_at (test_of l) (nodes_of a) j (Some (entry_of key.number stowed))) ≡
            part l (held_count_at a j) + bit (owned_at (test_of l) (nodes_of a) j (Some (entry_of key.number other)))
        of l j (inl here) =
            let at = same_here stowed.node.slot j here in
            let now : part l (held_count_at b j) ≡ part l x = ap (part l) (new.held j ∙ ap (λ t. cond t x (held_count_at a j)) at) in
            let home_was : part l (held_count_at a stowed.node.slot) ≡ part l (held_count_at a j) = ap (λ k. part l (held_count_at a k)) here in
            let was = bit_each was_as refl l j ∙ ap (λ t. bit (same_sort l lent && (owned && t))) at ∙ and_yes (same_sort l lent) owned in
            let then = bit_each now_as home l j ∙ ap (λ t. bit (same_sort l lent' && (owned' && t))) at ∙ and_yes (same_sort l lent') owned' in
            let e = each l in
            omega (arith, now, home_was, was, then, e)
          where
            and_yes : (p q : Bool) → bit (p && (q && true)) ≡ bit (p && q)
            and_yes p true = refl
            and_yes p false = refl
        of l j (inr apart) =
            let at = same_apart stowed.node.slot j apart in
            let now : part l (held_count_at b j) ≡ part l (held_count_at a j) = ap (part l) (new.held j ∙ ap (λ t. cond t x (held_count_at a j)) at) in
            let was = bit_each was_as refl l j ∙ ap (λ t. bit (same_sort l lent && (owned && t))) at ∙ and_no (same_sort l lent) owned in
            let then = bit_each now_as home l j ∙ ap (λ t. bit (same_sort l lent' && (owned' && t))) at ∙ and_no (same_sort l lent') owned' in
            omega (arith, now, was, then)
          where
            and_no : (p q : Bool) → bit (p && (q && false)) ≡ 0
            and_no true true = refl
            and_no true false = refl
            and_no false q = refl

    -- where it is counted there is one
    pub some_counted : {lent lent' owned' : Bool} → CountsAs (nodes_of a) stowed lent true → CountsAs (nodes_of a) other lent' owned' →
        (same_sort lent lent' && owned') ≡ false → 1 ≤ part lent (held_count_at a stowed.node.slot)
    some_counted {lent} {lent'} {owned'} was_as now_as leaves = some_owned lent stowed.node.slot (was lent was_as.lending) (now lent leaves) where
      here : (stowed.node.slot == stowed.node.slot) ≡ true
      here = same_here stowed.node.slot stowed.node.slot refl

      was : (l : Bool) → is_lent stowed ≡ l → owned_at (test_of l) (nodes_of a) stowed.node.slot (Some (entry_of key.number stowed)) ≡ true
      was true is = λ i. is i && (was_as.owning i && here i)
      was false is = λ i. not (is i) && (was_as.owning i && here i)

      drop_here : (p q : Bool) → (p && q) ≡ false → (p && (q && true)) ≡ false
      drop_here true true e = e
      drop_here true false e = refl
      drop_here false q e = refl

      now : (l : Bool) → (same_sort l lent' && owned') ≡ false → owned_at (test_of l) (nodes_of a) stowed.node.slot (Some (entry_of key.number other)) ≡ false
      now true leaves = (λ i. now_as.lending i && (now_as.owning i && ((home i).slot == stowed.node.slot))) ∙
          ap (λ t. lent' && (owned' && t)) here ∙ drop_here lent' owned' leaves
      now false leaves = (λ i. not (now_as.lending i) && (now_as.owning i && ((home i).slot == stowed.node.slot))) ∙
          ap (λ t. not lent' && (owned' && t)) here ∙ drop_here (not lent') owned' leaves

  module _ (c : IsCounted a) (key : Key) (stowed : Stowed T) (found : find (resources_of a) key ≡ Some stowed) where
    -- one that waits is taken out
    module _ (waits : is_held (nodes_of a) stowed ≡ false) (change : Changes (resources_of a) (resources_of b) key.slot None) where
      out_parts : (is_owned (nodes_of a) stowed ≡ false) × (is_lent stowed ≡ false)
      out_parts = of (is_owned (nodes_of a) stowed) (is_lent stowed) waits where
        of : (o l : Bool) → (o || l) ≡ false → (o ≡ false) × (l ≡ false)
        of false false e = (refl, refl)
        of false true e = absurd (true≢false e)
        of true l e = absurd (true≢false e)

      none_out : (l : Bool) → bit (unowned_in (test_of l) (nodes_of a) (Some (entry_of key.number stowed))) ≡ cond l 0 1
      none_out true = λ i. bit (out_parts.1 i && not (out_parts.0 i))
      none_out false = λ i. bit (not (out_parts.1 i) && not (out_parts.0 i))

      each_out : (l : Bool) (j : ℕ) → bit (owned_at (test_of l) (nodes_of a) j (Some (entry_of key.number stowed))) ≡ 0
      each_out true j = λ i. bit (out_parts.1 i && (out_parts.0 i && (stowed.node.slot == j)))
      each_out false j = λ i. bit (not (out_parts.1 i) && (out_parts.0 i && (stowed.node.slot == j)))

      within_out : key.slot < length (resources_of a).entries
      within_out = slot_within (resources_of a) key.slot (entry_of key.number stowed) (entry_found (resources_of a) key stowed found)

      pub some_waiting : 1 ≤ a.waiting_count.free
      some_waiting =
          let counts = c.free.by_none in
          let e : count_by (unowned_in is_free (nodes_of a)) (resources_of b).entries + bit
          (unowned_in is_free (nodes_of a) (Some (entry_of key.number stowed))) ≡ count_by (unowned_in is_free (nodes_of a)) (resources_of a).entries + 0 =
          count_changed (unowned_in is_free (nodes_of a)) (resources_of a) (resources_of b) (Some (entry_of key.number stowed)) refl within_out
          (entry_found (resources_of a) key stowed found) change in
          let one = none_out false in omega (arith, counts, e, one)

      pub counted_taken : b.nodes ≡ a.nodes → b.waiting_count ≡ one_less false a.waiting_count → b.owed ≡ a.owed → IsCounted b
      counted_taken nodes waiting owed = counted_of b (λ l. subst (λ (n : Slots Record). AreCountedAs l (project (λ x. x.node) n) (resources_of b)
          b.waiting_count (λ j. option_map_or (λ x. x.held_count) (value_at n j) no_counts)) (sym nodes)
          (counted_changed (test_of l) (part l b.waiting_count) (λ j. part l (held_count_at a j)) (sort_of a c l) within_out
          (entry_found (resources_of a) key stowed found) change (less l) (λ j. let none = each_out l j in omega (arith, none))))
          (owed ∙ c.owed ∙ (λ i. owed_in (project (λ x. x.node) (sym nodes i))))
        where
          less : (l : Bool) → part l b.waiting_count + bit (unowned_in (test_of l) (nodes_of a) (Some (entry_of key.number stowed))) ≡ part l
              a.waiting_count + 0
          less true = let same = ap (part true) waiting in let none = none_out true in omega (arith, same, none)
          less false = let same = ap (part false) waiting in let one = none_out false in let some = some_waiting in omega (arith, same, one, some)

    -- another is written in its place that is the same but for the resource itself
    pub counted_written : (other : Stowed T) → other.node ≡ stowed.node → other.removed ≡ stowed.removed → other.leases ≡ stowed.leases → Changes
        (resources_of a)
        (resources_of b) key.slot (Some (entry_of key.number other)) → b.nodes ≡ a.nodes → b.waiting_count ≡ a.waiting_count → b.owed ≡ a.owed → IsCounted b
    counted_written other node off leases change nodes waiting owed = counted_rewritten c key stowed other found node change
        (ap (project (λ x. x.node)) nodes) owed
        (λ l. ap (λ w. part l w + bit (unowned_in (test_of l) (nodes_of a) (Some (entry_of key.number stowed)))) waiting ∙ ap
        (λ n. part l a.waiting_count + n) (sym (none l))) (λ l j. (λ i. part l (option_map_or (λ x. x.held_count) (value_at (nodes i) j) no_counts) + bit
        (owned_at (test_of l) (nodes_of a) j (Some (entry_of key.number stowed)))) ∙ ap (λ n. part l (held_count_at a j) + n) (sym (each l j)))
      where
        lent : is_lent other ≡ is_lent stowed
        lent = ap (λ n. not (n == 0)) leases

        owns : is_owned (nodes_of a) other ≡ is_owned (nodes_of a) stowed
        owns = λ i. is_some (find (nodes_of a) (node i)) && not (off i)

        none : (l : Bool) → bit (unowned_in (test_of l) (nodes_of a) (Some (entry_of key.number other))) ≡ bit
            (unowned_in (test_of l) (nodes_of a) (Some (entry_of key.number stowed)))
        none true = λ i. bit (lent i && not (owns i))
        none false = λ i. bit (not (lent i) && not (owns i))

        each : (l : Bool) (j : ℕ) → bit (owned_at (test_of l) (nodes_of a) j (Some (entry_of key.number other))) ≡ bit
            (owned_at (test_of l) (nodes_of a) j (Some (entry_of key.number stowed)))
        each true j = λ i. bit (lent i && (owns i && ((node i).slot == j)))
        each false j = λ i. bit (not (lent i) && (owns i && ((node i).slot == j)))

  -- a node is taken out, and what it owned no node owns
  module _ (c : IsCounted a) (key : Key) (linked : Record) (found : find a.nodes key ≡ Some linked) (change : Changes
      (nodes_of a) (nodes_of b) key.slot None) where
    here : held_count_at a key.slot ≡ linked.held_count
    here = ap (λ o. option_map_or (λ l. l.held_count) (option_map (λ e. e.value) o) no_counts) (entry_found a.nodes key linked found)

    pub out_fits : (l : Bool) → part l a.waiting_count + part l linked.held_count ≤ length a.resources.entries
    out_fits l =
        let out = counted_out (test_of l) (nodes_of a) (nodes_of b) (resources_of a) key.slot change (part l a.waiting_count) (λ j. part l (held_count_at a j))
        (λ j. cond (j == key.slot) 0 (part l (held_count_at a j))) (sort_of a c l) (ap (λ t. cond t 0 (part l (held_count_at a key.slot)))
        (same_here key.slot key.slot refl)) (λ j apart. ap (λ t. cond t 0 (part l (held_count_at a j))) (same_apart j key.slot apart)) in
        let total = out.by_none in
        let at = ap (part l) here in
        let few = count_by-le-length (unowned_in (test_of l) (nodes_of b)) (resources_of a).entries in
        let n = length-map a.resources.entries (option_map (on_entry (λ r. r.stowed))) in omega (arith, total, at, few, n)

    owed_less : owed_in (nodes_of b) + linked.node.marks.owed ≡ owed_in (nodes_of a)
    owed_less = owed_taken (nodes_of a) (nodes_of b) key linked.node (find-project (λ l. l.node) a.nodes key ∙ ap (option_map (λ l. l.node)) found) change

    pub some_owed : linked.node.marks.owed ≤ a.owed
    some_owed = let was = c.owed in let less = owed_less in omega (arith, was, less)

    pub counted_gone : b.resources ≡ a.resources → ((l : Bool) → part l b.waiting_count ≡ part l a.waiting_count + part l linked.held_count) →
        Changes a.nodes b.nodes key.slot None → b.owed ≡ a.owed - linked.node.marks.owed → IsCounted b
    counted_gone same waiting out owed = counted_of b (λ l. subst (λ (r : Slots (Kept T)). AreCountedAs l (nodes_of b) (project (λ x. x.stowed) r)
        b.waiting_count (held_count_at b)) (sym same)
        (sum l (counted_out (test_of l) (nodes_of a) (nodes_of b) (resources_of a) key.slot change (part l a.waiting_count) (λ j. part l (held_count_at a j))
        (λ j. part l (held_count_at b j)) (sort_of a c l) (ap (λ o. part l (value o)) out.changed ∙ zero_of l)
        (λ j apart. ap (λ o. part l (value o)) (out.others j apart)))))
        (let was = c.owed in let less = owed_less in let e : b.owed ≡ owed_in (nodes_of b) = omega (arith, owed, was, less) in e)
      where
        value : Option (Entry Record) → Counts
        value o = option_map_or (λ l. l.held_count) (option_map (λ e. e.value) o) no_counts

        sum : (l : Bool) → AreCounted (test_of l) (nodes_of b) (resources_of a) (part l a.waiting_count + part l (held_count_at a key.slot))
            (λ j. part l (held_count_at b j)) → AreCountedAs l (nodes_of b) (resources_of a) b.waiting_count (held_count_at b)
        sum l each = record {
          by_none = let total = each.by_none in let at = ap (part l) here in let w = waiting l in omega (arith, total, at, w);
          by_each = each.by_each;
        }

module _ {T : Type 0} (s : Store T) (c : IsCounted s) where
  -- more room changes no count
  pub counted_room_nodes : (m : Slots Record) → m ≡ record s.nodes { room = m.room } → IsCounted (record s { nodes = m })
  counted_room_nodes m same = subst (λ (n : Slots Record). IsCounted (record s { nodes = n })) (sym same) wider where
    wider : IsCounted (record s { nodes = record s.nodes { room = m.room } })
    wider = record {
      free = record { by_none = c.free.by_none; by_each = c.free.by_each };
      lent = record { by_none = c.lent.by_none; by_each = c.lent.by_each };
      owed = c.owed;
    }

  pub counted_room_resources : (m : Slots (Kept T)) → m ≡ record s.resources { room = m.room } → IsCounted (record s { resources = m })
  counted_room_resources m same = search rules

-- nothing is counted where nothing is
pub counted_empty : {T : Type 0} (s : Store T) → s.nodes.entries ≡ [] → s.resources.entries ≡ [] → s.waiting_count ≡ no_counts → s.owed ≡ 0 → IsCounted s
counted_empty s nodes resources none owed = search (rules, zero_of, unowned_in, nodes_of, owned_at, owed_empty, resources_of)

-- those without a lease out that no node owns are those that wait, and the others are held by leases alone
pub waiting_is : {T : Type 0} (s : Store T) → IsCounted s → s.waiting_count.free ≡ waiting_count (shown s)
waiting_is {T = T} s c = search (rules, resources_of, unowned_in, nodes_of, waits_in, is_lent)

-- what stays at each node, at one of them too
still : {T : Type 0} (a b : Store T) (home : ℕ) → ((j : ℕ) → held_count_at b j ≡ held_count_at a j) → (j : ℕ) → held_count_at b j ≡ cond (home == j)
    (held_count_at a home) (held_count_at a j)
still a b home count j = search (rules, cases_eq, held_count_at, same_here, same_apart)

-- an owned resource is removed
module _ {T : Type 0} {a b : Store T} (c : IsCounted a) {key : Key} {stowed : Stowed T} (w : Anew a b key removed stowed)
    (owner : IfSome (find (resources_of a) key) (λ x. IsTrue (is_owned (nodes_of a) x))) where
  owned : is_owned (nodes_of a) stowed ≡ true
  owned = subst (λ o. IfSome o (λ x. IsTrue (is_owned (nodes_of a) x))) w.found owner

  off : is_owned (nodes_of a) (removed stowed) ≡ false
  off = search (rules, nodes_of)

  no_more : (p : Bool) → (p && false) ≡ false
  no_more x0 = search rules

  pub removed_some : 1 ≤ count_if (is_lent stowed) (held_count_at a stowed.node.slot)
  removed_some = some_counted a b c key stowed (removed stowed) w.found refl w.change (record { lending = refl; owning = owned })
      (record { lending = refl; owning = off }) (no_more _)

  pub removed_fits : count_if (is_lent stowed) a.waiting_count < length b.resources.entries
  removed_fits = unowned_fits a b c key stowed (removed stowed) w.found refl w.change (is_lent stowed)
      (was (is_lent stowed) refl) (now (is_lent stowed) refl) where
        was : (l : Bool) → is_lent stowed ≡ l → unowned_in (test_of l) (nodes_of a) (Some (entry_of key.number stowed)) ≡ false
        was true is = λ i. is i && not (owned i)
        was false is = λ i. not (is i) && not (owned i)

        now : (l : Bool) → is_lent stowed ≡ l → unowned_in (test_of l) (nodes_of a) (Some (entry_of key.number (removed stowed))) ≡ true
        now true is = λ i. is i && not (off i)
        now false is = λ i. not (is i) && not (off i)

  pub counted_removed : nodes_of b ≡ nodes_of a → b.waiting_count ≡ one_more (is_lent stowed) a.waiting_count →
      ((j : ℕ) → held_count_at b j ≡ cond (stowed.node.slot == j) (one_less (is_lent stowed) (held_count_at a stowed.node.slot)) (held_count_at a j)) →
      b.owed ≡ a.owed → IsCounted b
  counted_removed nodes waiting count owed = counted_moved a b c key stowed (removed stowed) w.found refl w.change
      {x = one_less (is_lent stowed) (held_count_at a stowed.node.slot)} (record { lending = refl; owning = owned }) (record { lending = refl; owning = off })
      (record { nodes = nodes; owed = owed; waiting = waiting; held = count }) (λ l. more l (is_lent stowed)) (λ l. less l (is_lent stowed) removed_some)
    where
      more : (l lent : Bool) → part l (one_more lent a.waiting_count) + bit (cond l lent (not lent) && not true) ≡ part l a.waiting_count + bit
          (cond l lent (not lent) && not false)
      more true true = omega arith
      more true false = omega arith
      more false true = omega arith
      more false false = omega arith

      less : (l lent : Bool) → 1 ≤ count_if lent (held_count_at a stowed.node.slot) → part l (one_less lent (held_count_at a stowed.node.slot)) + bit
          (cond l lent (not lent) && true) ≡ part l (held_count_at a stowed.node.slot) + bit (cond l lent (not lent) && false)
      less true true some = omega arith
      less true false some = omega arith
      less false true some = omega arith
      less false false some = omega arith

-- what is leased once more has a lease out
pub more_lent : {T : Type 0} (stowed : Stowed T) → is_lent (one_lease_more stowed) ≡ true
more_lent stowed = ap not (same_apart (stowed.leases + 1) 0 (λ e. absurd (omega (arith, e))))

-- a lease more is out
module _ {T : Type 0} {a b : Store T} (c : IsCounted a) {key : Key} {stowed : Stowed T} (w : Anew a b key one_lease_more stowed)
    (owner : IfSome (find (resources_of a) key) (λ x. IsTrue (is_owned (nodes_of a) x))) where
  owned_now : is_owned (nodes_of a) stowed ≡ true
  owned_now = subst (λ o. IfSome o (λ x. IsTrue (is_owned (nodes_of a) x))) w.found owner

  lent_now : is_lent (one_lease_more stowed) ≡ true
  lent_now = more_lent stowed

  module _ (none : stowed.leases ≡ 0) where
    first : is_lent stowed ≡ false
    first = ap not (same_here stowed.leases 0 none)

    pub first_some : 1 ≤ (held_count_at a stowed.node.slot).free
    first_some = some_counted a b c key stowed (one_lease_more stowed) w.found refl w.change (record { lending = first; owning = owned_now })
        (record { lending = lent_now; owning = owned_now }) refl

    pub first_fits : (held_count_at a stowed.node.slot).lent < length b.resources.entries
    first_fits = owned_fits a b c key stowed (one_lease_more stowed) w.found refl w.change true stowed.node.slot
        (λ i. first i && (owned_now i && (stowed.node.slot == stowed.node.slot))) (λ i. lent_now i &&
        (owned_now i && same_here stowed.node.slot stowed.node.slot refl i))

    pub counted_first : nodes_of b ≡ nodes_of a → b.waiting_count ≡ a.waiting_count → ((j : ℕ) → held_count_at b j ≡ cond (stowed.node.slot == j)
        (one_more true (one_less false (held_count_at a stowed.node.slot))) (held_count_at a j)) → b.owed ≡ a.owed → IsCounted b
    counted_first nodes waiting count owed = counted_moved a b c key stowed (one_lease_more stowed) w.found refl w.change
        {x = one_more true (one_less false (held_count_at a stowed.node.slot))} (record { lending = first; owning = owned_now })
        (record { lending = lent_now; owning = owned_now }) (record { nodes = nodes; owed = owed; waiting = waiting; held = count }) same (each first_some)
      where
        same : (l : Bool) → part l a.waiting_count + bit (cond l false true && not true) ≡ part l a.waiting_count + bit (cond l true false && not true)
        same true = refl
        same false = refl

        each : 1 ≤ (held_count_at a stowed.node.slot).free → (l : Bool) → part l (one_more true (one_less false (held_count_at a stowed.node.slot))) + bit
            (cond l false true && true) ≡ part l (held_count_at a stowed.node.slot) + bit (cond l true false && true)
        each some true = omega arith
        each some false = omega arith

  -- not the first
  pub counted_again : stowed.leases ≢ 0 → nodes_of b ≡ nodes_of a → b.waiting_count ≡ a.waiting_count →
      ((j : ℕ) → held_count_at b j ≡ held_count_at a j) → b.owed ≡ a.owed → IsCounted b
  counted_again some nodes waiting count owed = counted_moved a b c key stowed (one_lease_more stowed) w.found refl w.change
      {x = held_count_at a stowed.node.slot} (record { lending = ap not (same_apart stowed.leases 0 some); owning = owned_now })
      (record { lending = lent_now; owning = owned_now })
      (record { nodes = nodes; owed = owed; waiting = waiting; held = still a b stowed.node.slot count }) (λ l. refl) (λ l. refl)

-- a lease less is out
module _ {T : Type 0} {a b : Store T} (c : IsCounted a) {key : Key} {stowed : Stowed T} (w : Anew a b key one_lease_less stowed)
    (leased : IfSome (find (resources_of a) key) (λ x. IsTrue (is_lent x))) {owned : Bool}
    (owns : owned ≡ option_map_or (is_owned (nodes_of a)) (find (resources_of a) key) false) where
  lent : is_lent stowed ≡ true
  lent = subst (λ o. IfSome o (λ x. IsTrue (is_lent x))) w.found leased

  own : is_owned (nodes_of a) stowed ≡ owned
  own = sym (owns ∙ ap (λ o. option_map_or (is_owned (nodes_of a)) o false) w.found)

  -- the ring that it then belongs on
  pub ring_told : {l : Bool} → nodes_of b ≡ nodes_of a → is_lent (one_lease_less stowed) ≡ l → option_and_then (resource_ring (nodes_of b))
      (find (resources_of b) key) ≡ cond l None (Some (cond owned (Held stowed.node.slot) Waiting))
  ring_told {l} nodes is = ap (option_and_then (resource_ring (nodes_of b))) (found_entry (resources_of b) key (one_lease_less stowed) w.change.changed) ∙
      (λ i. cond (is i) None (Some (cond (is_owned (nodes i) stowed) (Held stowed.node.slot) Waiting))) ∙
      (λ i. cond l None (Some (cond (own i) (Held stowed.node.slot) Waiting)))

  module _ (none : stowed.leases - 1 ≡ 0) where
    last : is_lent (one_lease_less stowed) ≡ false
    last = ap not (same_here (stowed.leases - 1) 0 none)

    pub last_some : 1 ≤ (cond owned (held_count_at a stowed.node.slot) a.waiting_count).lent
    last_some = of owned own where
      of : (o : Bool) → is_owned (nodes_of a) stowed ≡ o → 1 ≤ (cond o (held_count_at a stowed.node.slot) a.waiting_count).lent
      of true own = some_counted a b c key stowed (one_lease_less stowed) w.found refl w.change (record { lending = lent; owning = own })
          (record { lending = last; owning = own }) refl
      of false own = some_unowned a b c key stowed (one_lease_less stowed) w.found refl w.change true (λ i. lent i && not (own i)) (λ i. last i && not (own i))

    pub last_fits : (cond owned (held_count_at a stowed.node.slot) a.waiting_count).free < length b.resources.entries
    last_fits = of owned own where
      of : (o : Bool) → is_owned (nodes_of a) stowed ≡ o → (cond o (held_count_at a stowed.node.slot) a.waiting_count).free < length b.resources.entries
      of true own = owned_fits a b c key stowed (one_lease_less stowed) w.found refl w.change false stowed.node.slot
          (λ i. not (lent i) && (own i && (stowed.node.slot == stowed.node.slot))) (λ i. not (last i) &&
          (own i && same_here stowed.node.slot stowed.node.slot refl i))
      of false own = unowned_fits a b c key stowed (one_lease_less stowed) w.found refl w.change false (λ i. not (lent i) && not (own i))
          (λ i. not (last i) && not (own i))

    pub counted_last : nodes_of b ≡ nodes_of a → b.waiting_count ≡ cond owned a.waiting_count (freed a.waiting_count) → ((j : ℕ) → held_count_at b j ≡
        cond (owned && stowed.node.slot == j) (freed (held_count_at a stowed.node.slot)) (held_count_at a j)) → b.owed ≡ a.owed → IsCounted b
    counted_last nodes waiting count owed = of owned own waiting count last_some where
      move : (x : Counts) → 1 ≤ x.lent → (l : Bool) → part l (freed x) + bit (cond l true false && true) ≡ part l x + bit (cond l false true && true)
      move x some true = omega arith
      move x some false = omega arith

      none_same : (l : Bool) → part l a.waiting_count + bit (cond l true false && not true) ≡ part l a.waiting_count + bit (cond l false true && not true)
      none_same true = refl
      none_same false = refl

      each_same : (x : Counts) (l : Bool) → part l x + bit (cond l true false && false) ≡ part l x + bit (cond l false true && false)
      each_same x true = refl
      each_same x false = refl

      of : (o : Bool) → is_owned (nodes_of a) stowed ≡ o → b.waiting_count ≡ cond o a.waiting_count (freed a.waiting_count) → ((j : ℕ) → held_count_at b j ≡
          cond (o && stowed.node.slot == j) (freed (held_count_at a stowed.node.slot)) (held_count_at a j)) → 1 ≤
          (cond o (held_count_at a stowed.node.slot) a.waiting_count).lent → IsCounted b
      of true own waiting count some = counted_moved a b c key stowed (one_lease_less stowed) w.found refl w.change
          {x = freed (held_count_at a stowed.node.slot)} (record { lending = lent; owning = own }) (record { lending = last; owning = own })
          (record { nodes = nodes; owed = owed; waiting = waiting; held = count }) none_same (move (held_count_at a stowed.node.slot) some)
      of false own waiting count some = counted_moved a b c key stowed (one_lease_less stowed) w.found refl w.change
          {x = held_count_at a stowed.node.slot} (record { lending = lent; owning = own }) (record { lending = last; owning = own })
          (record { nodes = nodes; owed = owed; waiting = waiting; held = still a b stowed.node.slot count }) (move a.waiting_count some)
          (each_same (held_count_at a stowed.node.slot))

  pub counted_fewer : stowed.leases - 1 ≢ 0 → nodes_of b ≡ nodes_of a → b.waiting_count ≡ a.waiting_count →
      ((j : ℕ) → held_count_at b j ≡ held_count_at a j) → b.owed ≡ a.owed → IsCounted b
  counted_fewer some nodes waiting count owed = counted_moved a b c key stowed (one_lease_less stowed) w.found refl w.change
      {x = held_count_at a stowed.node.slot}
      (record { lending = lent; owning = own }) (record { lending = ap not (same_apart (stowed.leases - 1) 0 some); owning = own })
      (record { nodes = nodes; owed = owed; waiting = waiting; held = still a b stowed.node.slot count }) (λ l. refl) (λ l. refl)
