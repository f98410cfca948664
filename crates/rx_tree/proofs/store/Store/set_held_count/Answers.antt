use Rattle.rx_tree.proofs.Common.{◌≡◌, ℕ, Some, refl, value_at, with_value_at, Children, Held, Sibling, Noted, Counts, Record, Store, alone}
use Rattle.rx_tree.proofs.Common.{KeepsLinks}
use Rattle.rx_tree.proofs.InPlace.{there_project, seen_at}
use Rattle.rx_tree.proofs.StoreLemmas.{part-kept, project-written, nodes_keep_links}
use Rattle.rx_tree.proofs.store.Store.set_held_count.Goals as goal

pub at_mut-record-requires : goal.at_mut-record-requires
at_mut-record-requires g c = record { there = there_project (λ l. l.node) c.args.self.now.nodes c.args.slot c.requires.there }

links_kept : {T : Type 0} (s : Store T) (slot : ℕ) (count : Counts) (l : Record) → value_at s.nodes slot ≡ Some l →
    KeepsLinks s (record s { nodes = with_value_at s.nodes slot (record l { held_count = count }) })
links_kept s slot count l at =
    let new : Record = record l { held_count = count } in
    nodes_keep_links s (with_value_at s.nodes slot new) (λ j. part-kept (λ x. x.children) (alone (Children j)) s.nodes slot new j at refl)
    (λ j. part-kept (λ x. x.held) (alone (Held j)) s.nodes slot new j at refl)
    (λ j. part-kept (λ x. x.sibling) (alone (Sibling j)) s.nodes slot new j at refl)
    (λ j. part-kept (λ x. x.noted) (alone (Noted j)) s.nodes slot new j at refl)

pub returns-clause-links : goal.returns-clause-links
returns-clause-links g c =
    links_kept c.args.self.now c.args.slot c.args.count _ (seen_at c.at_mut-record.ensures.value c.record.view_is)

pub returns-clause-nodes : goal.returns-clause-nodes
returns-clause-nodes g c = project-written (λ l. l.node) c.args.self.now.nodes c.args.slot _ _
    (seen_at c.at_mut-record.ensures.value c.record.view_is) refl
