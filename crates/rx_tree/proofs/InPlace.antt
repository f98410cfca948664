-- What is read in place, at a slot that has a record, is what callers see there.
use Rattle.rx_tree.proofs.Common.{◌≡◌, ℕ, Option, Some, None, option_map, is_some, IsSome, IfSome, refl, sym, ap, ◌∙◌, true≢false, Entry, Key, Slots, key_at}
use Rattle.rx_tree.proofs.Common.{entry_of, entry_at, value_at, number_at, find, some_same, Record, Node, on_entry, project, IsSound, found_entry}
use Rattle.rx_tree.proofs.Common.{Store, Children, Held, Sibling, alone, link_at, option_map_or}
use Rattle.rx_tree.proofs.StoreLemmas.{entry_at-project}
use Rattle.std.proofs.Common.{rules}

module _ {X Y : Type 0} (f : X → Y) (s : Slots X) (i : ℕ) where
  pub value_at-project : value_at (project f s) i ≡ option_map f (value_at s i)
  value_at-project = ap (option_map (λ e. e.value)) (entry_at-project f s i) ∙ of (entry_at s i) where
    of : (o : Option (Entry X)) → option_map (λ e. e.value) (option_map (on_entry f) o) ≡ option_map f (option_map (λ e. e.value) o)
    of None = refl
    of (Some e) = refl

  pub number_at-project : number_at (project f s) i ≡ number_at s i
  number_at-project = ap (option_map (λ e. e.number)) (entry_at-project f s i) ∙ of (entry_at s i) where
    of : (o : Option (Entry X)) → option_map (λ e. e.number) (option_map (on_entry f) o) ≡ option_map (λ e. e.number) o
    of None = refl
    of (Some e) = refl

  pub key_at-project : key_at (project f s) i ≡ key_at s i
  key_at-project = ap key_of (entry_at-project f s i) ∙ of (entry_at s i) where
    key_of : {Z : Type 0} → Option (Entry Z) → Option Key
    key_of o = option_map (λ e. record { slot = i; number = e.number }) o

    of : (o : Option (Entry X)) → key_of (option_map (on_entry f) o) ≡ key_of o
    of None = refl
    of (Some e) = refl

  pub there_project : IsSome (entry_at (project f s) i) → IsSome (entry_at s i)
  there_project there = of (entry_at s i) (ap is_some (sym (entry_at-project f s i)) ∙ there) where
    of : (o : Option (Entry X)) → IsSome (option_map (on_entry f) o) → IsSome o
    of None some = some
    of (Some e) some = refl

-- a number and its slot are a key
pub key_of_number : {X : Type 0} (s : Slots X) (slot number : ℕ) → number_at s slot ≡ Some number →
    key_at s slot ≡ Some (record { slot = slot; number = number })
key_of_number {X} s slot number at = search (rules, true≢false)

-- what stands at a slot, as it is seen once it is read in place
pub seen_at : {X : Type 0} {at : Option X} {before seen : X} → at ≡ Some before → seen ≡ before → at ≡ Some seen
seen_at at is = at ∙ ap (λ x. Some x) (sym is)

-- a link that is read at a slot is that of its place
module _ {T : Type 0} (s : Store T) (slot : ℕ) {before : Record} (l : Record) (at : value_at s.nodes slot ≡ Some before) (seen : l ≡ before) where
  pub children_read : l.children ≡ link_at s (Children slot)
  children_read = ap (λ x. x.children) seen ∙ sym (ap (λ o. option_map_or (λ x. x.children) o (alone (Children slot))) at)

  pub held_read : l.held ≡ link_at s (Held slot)
  held_read = ap (λ x. x.held) seen ∙ sym (ap (λ o. option_map_or (λ x. x.held) o (alone (Held slot))) at)

  pub sibling_read : l.sibling ≡ link_at s (Sibling slot)
  sibling_read = ap (λ x. x.sibling) seen ∙ sym (ap (λ o. option_map_or (λ x. x.sibling) o (alone (Sibling slot))) at)

-- the node above one that a key finds is open
pub above_found : (nodes : Slots Node) → IsSound nodes → (key : Key) (o : Option Record) → option_map (λ l. l.node) o ≡ find nodes key →
    IfSome o (λ l. IfSome l.node.above (λ up. IsSome (find nodes up)))
above_found nodes sound key None is = tt
above_found nodes sound key (Some l) is = (sound.placed key l.node (sym is)).there

-- and so is that above one that stands at a slot
pub above_at : (nodes : Slots Node) → IsSound nodes → (slot : ℕ) (node : Node) → value_at nodes slot ≡ Some node →
    IfSome node.above (λ up. IsSome (find nodes up))
above_at nodes sound slot node at = of (entry_at nodes slot) refl at where
  of : (o : Option (Entry Node)) → entry_at nodes slot ≡ o → option_map (λ e. e.value) o ≡ Some node → IfSome node.above (λ up. IsSome (find nodes up))
  of None read e = absurd (true≢false (ap is_some (sym e)))
  of (Some x) read e =
      let key : Key = record { slot = slot; number = x.number } in
      let same : x.value ≡ node = some_same x.value node e in
      (sound.placed key node (found_entry nodes key node (read ∙ ap (λ v. Some (entry_of x.number v)) same))).there
