-- What a store has once the marks of one record are written in place.
use Rattle.rx_tree.proofs.Common.{◌≡◌, ℕ, ◌+◌, ◌-◌, ◌<◌, ◌≤◌, Some, option_map, IsSome, IfSome, refl, sym, ap, subst, ◌∙◌, arith, Marks, Key, Slots, entry_at}
use Rattle.rx_tree.proofs.Common.{value_at, find, with_value, with_value_at, found_there, find-value_at, some_same, Record, Children, Held, Sibling, Noted}
use Rattle.rx_tree.proofs.Common.{Node, Store, alone, no_counts, nodes_of, IsCounted, IsRemarked, with_marks}
use Rattle.rx_slots.proofs.Laws.EntryByNumber.{with_value_at-found}
use Rattle.rx_tree.proofs.Laws.Owed.{owed_part, owed_written}
use Rattle.rx_tree.proofs.StoreLemmas.{find-project, found-project, changes-written, rewrites-project, part-rewritten, nodes_keep_links}
use Rattle.rx_tree.proofs.CountSteps.{counted_kept, found_marked}

-- what is owed in all after one record owes other than it did
pub owed_alike : (all part : ℕ) → all ≡ all + part - part
owed_alike all part = omega arith

pub owed_more : (all part : ℕ) → all + 1 ≡ all + (part + 1) - part
owed_more all part = omega arith

pub owed_less : (all part : ℕ) → 0 < part → all - 1 ≡ all + (part - 1) - part
owed_less all part some = omega (arith, some)

module _ {T : Type 0} (s : Store T) (key : Key) («open» : IsSome (find (nodes_of s) key)) where
  -- a node that is seen has its record
  pub found_in : IsSome (find s.nodes key)
  found_in = found-project (λ l. l.node) s.nodes key «open»

  pub slot_there : IsSome (entry_at s.nodes key.slot)
  slot_there = found_there s.nodes key found_in

  module _ (l : Record) (at : value_at s.nodes key.slot ≡ Some l) where
    pub record_found : find s.nodes key ≡ Some l
    record_found = find-value_at s.nodes key found_in ∙ at

    pub node_found : find (nodes_of s) key ≡ Some l.node
    node_found = find-project (λ x. x.node) s.nodes key ∙ ap (option_map (λ x. x.node)) record_found

    pub node_holds : (P : Node → Type 0) → IfSome (find (nodes_of s) key) P → P l.node
    node_holds P holds = rw node_found at holds

    module _ (counted : IsCounted s) where
      -- what it owes is within what all owe
      pub owed_within : l.node.marks.owed ≤ s.owed
      owed_within = let part = owed_part (nodes_of s) key l.node node_found in let was = counted.owed in omega (arith, part, was)

      module _ (f : Node → Marks) (owed : ℕ) (is : owed ≡ s.owed + (f l.node).owed - l.node.marks.owed) where
        abbrev marked : Record
        marked = record l { node = with_marks (f l.node) l.node }

        abbrev stored : Store T
        stored = record s { nodes = with_value s.nodes key marked; owed = owed }

        written : IsRemarked s stored key l.node (f l.node)
        written =
            let change = changes-written (λ x. x.node) s.nodes key marked l.node (with_marks (f l.node)) record_found refl node_found in
            let rewrite = rewrites-project (λ x. x.node) s.nodes key l marked (with_marks (f l.node)) record_found refl in
            record {
              changes = change;
              rewrites = rewrite;
              links = nodes_keep_links s (with_value s.nodes key marked)
                  (part-rewritten (λ x. x.children) (λ j. alone (Children j)) s.nodes _ key.slot key.number l marked record_found refl refl)
                  (part-rewritten (λ x. x.held) (λ j. alone (Held j)) s.nodes _ key.slot key.number l marked record_found refl refl)
                  (part-rewritten (λ x. x.sibling) (λ j. alone (Sibling j)) s.nodes _ key.slot key.number l marked record_found refl refl)
                  (part-rewritten (λ x. x.noted) (λ j. alone (Noted j)) s.nodes _ key.slot key.number l marked record_found refl refl);
              resources = refl;
              counted = counted_kept s stored counted refl
                  (part-rewritten (λ x. x.held_count) (λ j. no_counts) s.nodes _ key.slot key.number l marked record_found refl refl) refl
                  (λ k stowed found. found_marked s stored key (with_marks (f l.node)) rewrite stowed.node)
                  (let part = owed_part (nodes_of s) key l.node node_found in
                  let more = owed_written (nodes_of s) (nodes_of stored) key l.node (with_marks (f l.node) l.node) node_found change in
                  let was = counted.owed in
                  let now = is in
                  omega (arith, part, more, was, now));
            }

        pub remarked : (marks : Marks) → marks ≡ f l.node → (node : Node) → find (nodes_of s) key ≡ Some node →
            IsRemarked s (record s { nodes = with_value_at s.nodes key.slot (record l { node = with_marks marks l.node }); owed = owed }) key node (f node)
        remarked marks wrote node found =
            let after : Record = record l { node = with_marks marks l.node } in
            let same : l.node ≡ node = some_same l.node node (sym node_found ∙ found) in
            let nodes : with_value_at s.nodes key.slot after ≡ with_value s.nodes key marked =
            ap (λ m. with_value_at s.nodes key.slot (record l { node = with_marks m l.node })) wrote ∙ with_value_at-found s.nodes key marked found_in in
            subst (λ (x : Node). IsRemarked s (record s { nodes = with_value_at s.nodes key.slot after; owed = owed }) key x (f x)) same
            (subst (λ (n : Slots Record). IsRemarked s (record s { nodes = n; owed = owed }) key l.node (f l.node)) (sym nodes) written)
