-- Slots that are seen through a function, and what a write of one link changes.
use Rattle.rx_tree.proofs.Common.{◌≡◌, ℕ, ◌+◌, ◌==◌, cond, Bool, true, false, Option, Some, None, option_map, is_some, IsSome, refl, sym, ap, ◌∙◌, true≢false}
use Rattle.rx_tree.proofs.Common.{option_map_or, map-set_same, cases_eq, cases_lt, nat_tests, get_or_past, get_or-set_same, get_or-set_other, Entry, Key, Slots}
use Rattle.rx_tree.proofs.Common.{entry_of, entry_at, value_at, with_number, find, IsWithin, with_value, with_value_at, Changes, KeepsOthers, Link, Place}
use Rattle.rx_tree.proofs.Common.{Children, Held, Sibling, Noted, Stored, Record, Store, alone, on_entry, project, link_at, set_link_at, Relinks, KeepsLinks}
use Rattle.rx_tree.proofs.Common.{Inserts, Takes_out, Rewrites, find-written, KeepsOthers-written, entry_found, slot_within, resources_of, Stowed, subst}
use Rattle.std.proofs.Math.ListN.{get_or-map}
use Rattle.rx_tree.specs.declared.store.Stored.{Stored as Kept}
use Rattle.std.proofs.Common.{rules}

module _ {X Y : Type 0} (f : X → Y) where
  pub entry_at-project : (s : Slots X) (i : ℕ) → entry_at (project f s) i ≡ option_map (on_entry f) (entry_at s i)
  entry_at-project s i = get_or-map (option_map (on_entry f)) s.entries i None

  pub find-project : (s : Slots X) (key : Key) → find (project f s) key ≡ option_map f (find s key)
  find-project s key = ap (with_number key.number) (entry_at-project s key.slot) ∙ of (entry_at s key.slot) where
    of : (o : Option (Entry X)) → with_number key.number (option_map (on_entry f) o) ≡ option_map f (with_number key.number o)
    of None = refl
    of (Some e) = by_test (e.number == key.number) where
      by_test : (b : Bool) → cond b (Some (f e.value)) None ≡ option_map f (cond b (Some e.value) None)
      by_test true = refl
      by_test false = refl

  -- a value that is seen is there
  pub found-project : (s : Slots X) (key : Key) → IsSome (find (project f s) key) → IsSome (find s key)
  found-project s key found = of (find s key) (ap is_some (sym (find-project s key)) ∙ found) where
    of : (o : Option X) → IsSome (option_map f o) → IsSome o
    of None some = some
    of (Some x) some = refl

  pub within-project : (s : Slots X) → IsWithin s → IsWithin (project f s)
  within-project s within key found = within key (of (find s key) (sym (ap is_some (find-project s key)) ∙ found)) where
    of : (o : Option X) → is_some (option_map f o) ≡ true → is_some o ≡ true
    of None e = e
    of (Some x) e = refl

  -- a write that the function does not see
  pub project-written : (s : Slots X) (slot : ℕ) (before after : X) → value_at s slot ≡ Some before → f after ≡ f before →
      project f (with_value_at s slot after) ≡ project f s
  project-written s slot before after at same = search (rules, map-set_same, entry_of)

module _ {X : Type 0} where
  -- what stands at a slot after a write
  pub value_at-written : (s : Slots X) (slot : ℕ) (before after : X) (j : ℕ) → value_at s slot ≡ Some before →
      value_at (with_value_at s slot after) j ≡ cond (slot == j) (Some after) (value_at s j)
  value_at-written s slot before after j at =
      search (rules, entry_of, cases_eq, nat_tests, get_or-set_same, get_or-set_other, true≢false, cases_lt, get_or_past)

  -- a part of what stands at a slot
  pub part-written : {Z : Type 0} (g : X → Z) (d : Z) (s : Slots X) (slot : ℕ) (before after : X) (j : ℕ) → value_at s slot ≡ Some before →
      option_map_or g (value_at (with_value_at s slot after) j) d ≡ cond (slot == j) (g after) (option_map_or g (value_at s j) d)
  part-written g d s slot before after j at = search (rules, value_at-written)

  pub part-kept : {Z : Type 0} (g : X → Z) (d : Z) (s : Slots X) (slot : ℕ) {before : X} (after : X) (j : ℕ) → value_at s slot ≡ Some before →
      g after ≡ g before → option_map_or g (value_at (with_value_at s slot after) j) d ≡ option_map_or g (value_at s j) d
  part-kept g d s slot {before} after j at same = search (rules, part-written, nat_tests)

module _ {T : Type 0} (s : Store T) (slot : ℕ) (link : Link) where
  pub linked-Children : (l : Record) → value_at s.nodes slot ≡ Some l → (q : Place) →
      link_at (record s { nodes = with_value_at s.nodes slot (record l { children = link }) }) q ≡ set_link_at (Children slot) link s q
  linked-Children l at (Children j) =
      part-written (λ x. x.children) (record { next = Children j; previous = Children j }) s.nodes slot l (record l { children = link }) j at
  linked-Children l at (Held j) = part-kept (λ x. x.held) (record { next = Held j; previous = Held j }) s.nodes slot (record l { children = link }) j at refl
  linked-Children l at (Sibling j) =
      part-kept (λ x. x.sibling) (record { next = Sibling j; previous = Sibling j }) s.nodes slot (record l { children = link }) j at refl
  linked-Children l at (Noted j) =
      part-kept (λ x. x.noted) (record { next = Noted j; previous = Noted j }) s.nodes slot (record l { children = link }) j at refl
  linked-Children l at _ = refl

  pub relinks-Children : (l : Record) → value_at s.nodes slot ≡ Some l → Relinks s
      (record s { nodes = with_value_at s.nodes slot (record l { children = link }) })
  relinks-Children l at = search (rules, project-written, part-kept)

  pub linked-Held : (l : Record) → value_at s.nodes slot ≡ Some l → (q : Place) →
      link_at (record s { nodes = with_value_at s.nodes slot (record l { held = link }) }) q ≡ set_link_at (Held slot) link s q
  linked-Held l at (Children j) =
      part-kept (λ x. x.children) (record { next = Children j; previous = Children j }) s.nodes slot (record l { held = link }) j at refl
  linked-Held l at (Held j) = part-written (λ x. x.held) (record { next = Held j; previous = Held j }) s.nodes slot l (record l { held = link }) j at
  linked-Held l at (Sibling j) = part-kept (λ x. x.sibling) (record { next = Sibling j; previous = Sibling j }) s.nodes slot (record l { held = link }) j at
      refl
  linked-Held l at (Noted j) = part-kept (λ x. x.noted) (record { next = Noted j; previous = Noted j }) s.nodes slot (record l { held = link }) j at refl
  linked-Held l at _ = refl

  pub relinks-Held : (l : Record) → value_at s.nodes slot ≡ Some l → Relinks s (record s { nodes = with_value_at s.nodes slot (record l { held = link }) })
  relinks-Held l at = search (rules, project-written, part-kept)

  pub linked-Sibling : (l : Record) → value_at s.nodes slot ≡ Some l → (q : Place) →
      link_at (record s { nodes = with_value_at s.nodes slot (record l { sibling = link }) }) q ≡ set_link_at (Sibling slot) link s q
  linked-Sibling l at (Children j) =
      part-kept (λ x. x.children) (record { next = Children j; previous = Children j }) s.nodes slot (record l { sibling = link }) j at refl
  linked-Sibling l at (Held j) = part-kept (λ x. x.held) (record { next = Held j; previous = Held j }) s.nodes slot (record l { sibling = link }) j at refl
  linked-Sibling l at (Sibling j) =
      part-written (λ x. x.sibling) (record { next = Sibling j; previous = Sibling j }) s.nodes slot l (record l { sibling = link }) j at
  linked-Sibling l at (Noted j) =
      part-kept (λ x. x.noted) (record { next = Noted j; previous = Noted j }) s.nodes slot (record l { sibling = link }) j at refl
  linked-Sibling l at _ = refl

  pub relinks-Sibling : (l : Record) → value_at s.nodes slot ≡ Some l → Relinks s
      (record s { nodes = with_value_at s.nodes slot (record l { sibling = link }) })
  relinks-Sibling l at = search (rules, project-written, part-kept)

  pub linked-Noted : (l : Record) → value_at s.nodes slot ≡ Some l → (q : Place) →
      link_at (record s { nodes = with_value_at s.nodes slot (record l { noted = link }) }) q ≡ set_link_at (Noted slot) link s q
  linked-Noted l at (Children j) =
      part-kept (λ x. x.children) (record { next = Children j; previous = Children j }) s.nodes slot (record l { noted = link }) j at refl
  linked-Noted l at (Held j) = part-kept (λ x. x.held) (record { next = Held j; previous = Held j }) s.nodes slot (record l { noted = link }) j at refl
  linked-Noted l at (Sibling j) =
      part-kept (λ x. x.sibling) (record { next = Sibling j; previous = Sibling j }) s.nodes slot (record l { noted = link }) j at refl
  linked-Noted l at (Noted j) = part-written (λ x. x.noted) (record { next = Noted j; previous = Noted j }) s.nodes slot l (record l { noted = link }) j at
  linked-Noted l at _ = refl

  pub relinks-Noted : (l : Record) → value_at s.nodes slot ≡ Some l → Relinks s (record s { nodes = with_value_at s.nodes slot (record l { noted = link }) })
  relinks-Noted l at = search (rules, project-written, part-kept)

  pub linked-Stored : (r : Kept T) → value_at s.resources slot ≡ Some r → (q : Place) →
      link_at (record s { resources = with_value_at s.resources slot (record r { link = link }) }) q ≡ set_link_at (Stored slot) link s q
  linked-Stored r at x2 = search (rules, part-written)

  pub relinks-Stored : (r : Kept T) → value_at s.resources slot ≡ Some r → Relinks s
      (record s { resources = with_value_at s.resources slot (record r { link = link }) })
  relinks-Stored r at = search (rules, project-written)

module _ {X Y : Type 0} (f : X → Y) where
  pub keeps-project : (old new : Slots X) (key : Key) → KeepsOthers old new key → KeepsOthers (project f old) (project f new) key
  keeps-project old new key kept other apart = find-project f new other ∙ ap (option_map f) (kept other apart) ∙ sym (find-project f old other)

  pub changes-project : (old new : Slots X) (slot : ℕ) (entry : Option (Entry X)) → Changes old new slot entry →
      Changes (project f old) (project f new) slot (option_map (on_entry f) entry)
  changes-project old new slot entry c = record {
    changed = entry_at-project f new slot ∙ ap (option_map (on_entry f)) c.changed;
    others = λ other apart. entry_at-project f new other ∙ ap (option_map (on_entry f)) (c.others other apart) ∙ sym (entry_at-project f old other);
  }

  pub inserts-project : {old new : Slots X} {key : Key} (number : ℕ) (value : X) → key.number ≡ number → entry_at old key.slot ≡ None →
      Changes old new key.slot (Some (entry_of number value)) → find new key ≡ Some value → KeepsOthers old new key → new.count ≡ old.count + 1 →
      Inserts (project f old) (project f new) key number (f value)
  inserts-project {old} {new} {key} number value numbered free changes found kept count = record {
    numbered = numbered;
    was_free = entry_at-project f old key.slot ∙ ap (option_map (on_entry f)) free;
    changes = changes-project old new key.slot (Some (entry_of number value)) changes;
    found = find-project f new key ∙ ap (option_map f) found;
    kept = keeps-project old new key kept;
    count = count;
  }

  pub takes-project : (old new : Slots X) (key : Key) → Changes old new key.slot None → find new key ≡ None → KeepsOthers old new key →
      new.count + 1 ≡ old.count → new.room ≡ old.room + 1 → Takes_out (project f old) (project f new) key
  takes-project old new key changes gone kept count room = record {
    changes = changes-project old new key.slot None changes;
    gone = find-project f new key ∙ ap (option_map f) gone;
    kept = keeps-project old new key kept;
    count = count;
    room = room;
  }

  pub rewrites-project : (s : Slots X) (key : Key) (before after : X) (change : Y → Y) → find s key ≡ Some before → f after ≡ change (f before) →
      Rewrites (project f s) (project f (with_value s key after)) key change
  rewrites-project s key before after change found same =
      let t = with_value s key after in
      record {
        changed = find-project f t key ∙ ap (option_map f) (find-written s t key before after found refl) ∙ ap (λ y. Some y) same ∙
            ap (option_map change) (sym (find-project f s key ∙ ap (option_map f) found));
        others = keeps-project s t key (KeepsOthers-written s t key before after found refl);
        rest = refl;
      }

  pub changes-written : (s : Slots X) (key : Key) {before : X} (after : X) (seen : Y) (change : Y → Y) → find s key ≡ Some before →
      f after ≡ change (f before) →
      find (project f s) key ≡ Some seen → Changes (project f s) (project f (with_value s key after)) key.slot (Some (entry_of key.number (change seen)))
  changes-written s key {before} after seen change found same at =
      let t = with_value s key after in
      let e = Some (entry_of key.number after) in
      let within = slot_within s key.slot (entry_of key.number before) (entry_found s key before found) in
      let seen_is : f before ≡ seen = let h : Some (f before) ≡ Some seen = sym (ap (option_map f) found) ∙ sym (find-project f s key) ∙ at in cc in
      let now : Some (entry_of key.number (f after)) ≡ Some (entry_of key.number (change seen)) =
      ap (λ y. Some (entry_of key.number y)) (same ∙ ap change seen_is) in
      record {
        changed = entry_at-project f t key.slot ∙ ap (option_map (on_entry f)) (get_or-set_same s.entries key.slot e None within) ∙ now;
        others = λ other apart. entry_at-project f t other ∙ ap (option_map (on_entry f)) (get_or-set_other s.entries key.slot other e None apart) ∙
            sym (entry_at-project f s other);
      }

module _ {X Z : Type 0} (g : X → Z) (d : ℕ → Z) (old new : Slots X) (slot : ℕ) where
  -- a part that an added value has as if nothing stood there
  pub part-added : (number : ℕ) (value : X) → entry_at old slot ≡ None → Changes old new slot (Some (entry_of number value)) → g value ≡ d slot → (j : ℕ) →
      option_map_or g (value_at new j) (d j) ≡ option_map_or g (value_at old j) (d j)
  part-added number value free c same j = search (rules, cases_eq)

  -- a part that a value had as if nothing stood there, once it is taken out
  pub part-taken : Changes old new slot None → option_map_or g (value_at old slot) (d slot) ≡ d slot → (j : ℕ) →
      option_map_or g (value_at new j) (d j) ≡ option_map_or g (value_at old j) (d j)
  part-taken c same j = search (rules, cases_eq)

  -- a part of what is taken out is then as if nothing stood there
  pub part-gone : Changes old new slot None → (j : ℕ) →
      option_map_or g (value_at new j) (d j) ≡ cond (slot == j) (d slot) (option_map_or g (value_at old j) (d j))
  part-gone c j = search (rules, cases_eq, nat_tests)

  -- a part that a write at a key leaves
  pub part-rewritten : (number : ℕ) (before after : X) → find old (record { slot = slot; number = number }) ≡ Some before →
      new ≡ with_value old (record { slot = slot; number = number }) after → g after ≡ g before → (j : ℕ) →
      option_map_or g (value_at new j) (d j) ≡ option_map_or g (value_at old j) (d j)
  part-rewritten number before after found is same j = search (rules, entry_found, slot_within, entry_of, cases_eq, get_or-set_same, get_or-set_other)

module _ {T : Type 0} (old : Store T) where
  -- links stay where each part of the nodes' records does, but for that of a node among its siblings, which goes with it
  pub links_taken : (nodes : Slots Record) (slot : ℕ) → let new = record old { nodes = nodes } in
      ((j : ℕ) → link_at new (Children j) ≡ link_at old (Children j)) → ((j : ℕ) → link_at new (Held j) ≡ link_at old (Held j)) →
      ((j : ℕ) → link_at new (Sibling j) ≡ set_link_at (Sibling slot) (alone (Sibling slot)) old (Sibling j)) →
      ((j : ℕ) → link_at new (Noted j) ≡ link_at old (Noted j)) → (q : Place) → link_at new q ≡ set_link_at (Sibling slot) (alone (Sibling slot)) old q
  links_taken nodes slot c h s n x6 = search rules

  -- links stay where each part of the nodes' records does
  pub nodes_keep_links : (nodes : Slots Record) → let new = record old { nodes = nodes } in
      ((j : ℕ) → link_at new (Children j) ≡ link_at old (Children j)) → ((j : ℕ) → link_at new (Held j) ≡ link_at old (Held j)) →
      ((j : ℕ) → link_at new (Sibling j) ≡ link_at old (Sibling j)) → ((j : ℕ) → link_at new (Noted j) ≡ link_at old (Noted j)) → KeepsLinks old new
  nodes_keep_links nodes c h s n x5 = search rules

  -- and where that of the resources' records does
  pub resources_keep_links : (resources : Slots (Kept T)) → let new = record old { resources = resources } in
      ((j : ℕ) → link_at new (Stored j) ≡ link_at old (Stored j)) → KeepsLinks old new
  resources_keep_links resources t x2 = search rules

-- what stands under a key of one store is written anew in the other
pub record Anew {T : Type 0} (a b : Store T) (key : Key) (write : Stowed T → Stowed T) (stowed : Stowed T) : Type 0 where
  pub found : find (resources_of a) key ≡ Some stowed
  pub change : Changes (resources_of a) (resources_of b) key.slot (Some (entry_of key.number (write stowed)))
  pub changes : (seen : Stowed T) → find (resources_of a) key ≡ Some seen → Changes (resources_of a) (resources_of b) key.slot
      (Some (entry_of key.number (write seen)))
  pub rewrites : Rewrites (resources_of a) (resources_of b) key write
  pub links : KeepsLinks a b

module _ {T : Type 0} (a : Store T) (key : Key) (write : Stowed T → Stowed T) {stored : Kept T} (at : find a.resources key ≡ Some stored) where
  -- it is so after a write
  pub written : Anew a (record a { resources = with_value a.resources key (record stored { stowed = write stored.stowed }) }) key write stored.stowed
  written =
      let after = record stored { stowed = write stored.stowed } in
      let found = find-project (λ r. r.stowed) a.resources key ∙ ap (option_map (λ r. r.stowed)) at in
      record {
        found = found;
        change = changes-written (λ r. r.stowed) a.resources key after stored.stowed write at refl found;
        changes = λ seen same. changes-written (λ r. r.stowed) a.resources key after seen write at refl same;
        rewrites = rewrites-project (λ r. r.stowed) a.resources key stored after write at refl;
        links = resources_keep_links a (with_value a.resources key after) (part-rewritten (λ r. r.link) (λ j. alone (Stored j)) a.resources _ key.slot
            key.number stored after at refl refl);
      }

  -- and in a store with those resources and links
  pub written_then : (b : Store T) → b.resources ≡ with_value a.resources key (record stored { stowed = write stored.stowed }) →
      KeepsLinks (record a { resources = with_value a.resources key (record stored { stowed = write stored.stowed }) }) b →
      Anew a b key write stored.stowed
  written_then b same links =
      let r = ap (project (λ (r : Kept T). r.stowed)) (sym same) in
      record {
        found = written.found;
        change = subst (λ r. Changes (resources_of a) r key.slot (Some (entry_of key.number (write stored.stowed)))) r written.change;
        changes = λ seen found. subst (λ r. Changes (resources_of a) r key.slot (Some (entry_of key.number (write seen)))) r (written.changes seen found);
        rewrites = subst (λ r. Rewrites (resources_of a) r key write) r written.rewrites;
        links = λ p. links p ∙ written.links p;
      }
