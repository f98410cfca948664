-- What the use of a resource leaves of a tree.
use Rattle.rx_tree.proofs.Common.{◌≡◌, ℕ, ◌+◌, Option, Some, option_map, is_some, IfSome, refl, sym, ap, subst, ◌∙◌, inl, inr, cases_eq, option_and_then, Key}
use Rattle.rx_tree.proofs.Common.{Place, Entry, entry_of, entry_at, find, with_value, Changes, Stored, ResKey, Stowed, Store, store_key, stowed_of, Uses}
use Rattle.rx_tree.proofs.Common.{with_resource, alone, nodes_of, resources_of, next_of, previous_of, KeepsLinks, shown, resource_ring, home_of, IsTied}
use Rattle.rx_tree.proofs.Common.{IsCounted, IsKept, Rewrites, cases_key, entry_found}
use Rattle.rx_resource.specs.declared.Resource.{Ghosts}
use Rattle.rx_tree.specs.declared.store.Stored.{Stored as Kept}
use Rattle.rx_tree.proofs.Chain.{chain_is}
use Rattle.rx_tree.proofs.CountSteps.{counted_written}
use Rattle.rx_tree.proofs.StoreLemmas.{find-project, changes-written, rewrites-project, part-rewritten, resources_keep_links}
use Rattle.rx_tree.proofs.TieRecords.{HomesStay, home_by}
use Rattle.rx_tree.proofs.TieSteps.{rings_same, tied_links}
use Rattle.std.proofs.Common.{rules}

module _ {T : Type 0} (s : Store T) (tied : IsTied s) (res : ResKey) (kept : Kept T) (after : T) (found : find s.resources (store_key res) ≡ Some kept) where
  -- with what the use left in the place of the resource
  abbrev pub with_used : Store T
  with_used = record s { resources = with_value s.resources (store_key res) (record kept { stowed = with_resource after kept.stowed }) }

  pub seen : find (resources_of s) (store_key res) ≡ Some kept.stowed
  seen = find-project (λ r. r.stowed) s.resources (store_key res) ∙ ap (option_map (λ r. r.stowed)) found

  pub used_links : KeepsLinks s with_used
  used_links = resources_keep_links s with_used.resources (part-rewritten (λ r. r.link) (λ j. alone
      (Stored j)) s.resources with_used.resources res.slot res.number kept (record kept { stowed = with_resource after kept.stowed }) found refl refl)

  pub used_change : Changes (resources_of s) (resources_of with_used) res.slot (Some (entry_of res.number (with_resource after kept.stowed)))
  used_change = changes-written (λ r. r.stowed) s.resources (store_key res)
      (record kept { stowed = with_resource after kept.stowed }) kept.stowed (with_resource after) found refl seen

  pub used_rewrites : Rewrites (resources_of s) (resources_of with_used) (store_key res) (with_resource after)
  used_rewrites = search (rules, rewrites-project, with_resource)

  -- a resource stands on the ring that it stood on
  pub used_ring : (r : ℕ) → option_and_then (λ e. resource_ring (nodes_of s) e.value) (entry_at (resources_of with_used) r) ≡ option_and_then
      (λ e. resource_ring (nodes_of s) e.value) (entry_at (resources_of s) r)
  used_ring r =
      let ring : Option (Entry (Stowed T)) → Option Place = option_and_then (λ e. resource_ring (nodes_of s) e.value) in
      elim (cases_eq res.slot r) [
        | inl here ↦ subst (λ k. ring (entry_at (resources_of with_used) k) ≡ ring (entry_at (resources_of s) k)) here (ap ring used_change.changed ∙
            sym (ap ring (entry_found (resources_of s) (store_key res) kept.stowed seen)))
        | inr apart ↦ ap ring (used_change.others r (λ e. apart (sym e)))
      ]

  pub used_some : (k : Key) → is_some (find (resources_of with_used) k) ≡ is_some (find (resources_of s) k)
  used_some k = elim (cases_key k (store_key res)) [
    | inl same ↦ ap (λ z. is_some (find (resources_of with_used) z)) same ∙ ap is_some (used_rewrites.changed ∙ ap (option_map
        (with_resource after)) seen) ∙ sym (ap is_some seen) ∙ ap (λ z. is_some (find (resources_of s) z)) (sym same)
    | inr other ↦ ap is_some (used_rewrites.others k other)
  ]

  pub homes_used : HomesStay (λ _. Unit {0}) (nodes_of s) (nodes_of s) (resources_of s) (resources_of with_used) tied.noted tied.noted
  homes_used = record { sibling = λ j c. refl; note = λ j c. refl; stored = λ r c. used_ring r }

  abbrev pub used_tied : IsTied with_used
  used_tied = tied_links (previous_of s) (next_of with_used) (previous_of with_used) (nodes_of s) (resources_of with_used) (λ q. ap
      (λ l. l.next) (used_links q)) (λ q. ap (λ l. l.previous) (used_links q)) (record {
        rings = tied.rings;
        noted = tied.noted;
        ringed = rings_same (next_of s) (previous_of s) (home_of (nodes_of s) (resources_of s) tied.noted) (home_of (nodes_of s)
            (resources_of with_used) tied.noted) tied.rings tied.ringed (λ q. home_by homes_used q tt);
        rises = tied.rises;
        sound = tied.sound;
        resources_apart = λ a b found_a found_b numbers. tied.resources_apart a b (sym (used_some a) ∙ found_a) (sym (used_some b) ∙ found_b) numbers;
      })

  pub used_kept : IsCounted s → IsKept with_used
  used_kept c = record {
    tied = used_tied;
    counted = counted_written s with_used c (store_key res) kept.stowed seen (with_resource after kept.stowed) refl refl refl used_change refl refl refl;
  }

  pub used_chain : (shown with_used).chain ≡ (shown s).chain
  used_chain = chain_is with_used (nodes_of s) (resources_of with_used) refl used_tied ∙ sym (chain_is s (nodes_of s) (resources_of s) refl tied)

  pub used : (g : Ghosts T) → g.uses_of after ≡ g.uses_of kept.stowed.resource + 1 → g.tag_of after ≡ g.tag_of kept.stowed.resource →
      g.life_of after ≡ g.life_of kept.stowed.resource → IfSome (stowed_of (shown s) res) (Uses g (shown s) (shown with_used) res)
  used g uses tag life = search (rules, seen, used_rewrites, used_chain)
