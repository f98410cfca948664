-- The children of a Switch: its source, and one inner.
use Rattle.rx_ground.proofs.Common.{IfNone, ◌≡◌, ℕ, ◌+◌, true, false, List, Option, Some, is_some, IsSome, IfSome, option_map, slice_get, sym, ap, ◌∙◌, inl}
use Rattle.rx_ground.proofs.Common.{inr, ◌⊎◌, arith, option_map_or, false≢true, both_ways, eq-eqb, false_from_ne_true, none-some, same_Some, Kept, Place}
use Rattle.rx_ground.proofs.Common.{Source, Inner, Notifier, Event, Open, is_switch, is_until, is_source_of, is_inner_of, inner_named, at, Key, named_by}
use Rattle.rx_ground.proofs.Common.{parent_named, is_open, parent, IsLawful, one_source, parent_within, parent_name, event_at, notifier_stands, Slots, find}
use Rattle.rx_ground.proofs.Common.{Node, IsChild, IsFirst, HasNone, some_of, child_found, AreRecords, IsInner, HasNoInner, ReplacesNone, Bool}
use Rattle.rx_event.proofs.Laws.MarksInner.{switched_parent}
use Rattle.rx_slots.proofs.Laws.EntryByNumber.{find-value_at}
use Rattle.rx_slots.specs.Slots.{value_at}
use Rattle.rx_ground.proofs.Records.{parent_in_tree}
use Rattle.std.proofs.Common.{rules}

-- children ----------------------------------------------------------------------------------------

no_until : (o : Option Event) → option_map_or is_switch o false ≡ true → option_map_or is_until o false ≡ true → ⊥
no_until x0 s u = search (rules, false≢true)

-- what stands below a Switch is a source or an inner
child_of_switch : (base : Kept) → (h : List Event) → IsLawful base h → (f n : ℕ) → at is_switch h f ≡ true → parent h n ≡ Some f →
    (at (is_source_of f) h n ≡ true) ⊎ (at (is_inner_of f) h n ≡ true)
child_of_switch base h law f n switch below = by_event e.0 e.1 (parent_name h n f e.0 below e.1) where
  e : (e : Event) × (slice_get h n ≡ Some e)
  e = event_at h n (parent_within h n f below)

  by_event : (e : Event) → slice_get h n ≡ Some e → parent_named e ≡ Some f → (at (is_source_of f) h n ≡ true) ⊎ (at (is_inner_of f) h n ≡ true)
  by_event (Open (Source q) kind) at_n named = inl (ap (λ (o : Option Event). option_map_or (is_source_of f) o false) at_n ∙ eq-eqb q f (same_Some q f named))
  by_event (Open (Inner q) kind) at_n named = inr (ap (λ (o : Option Event). option_map_or (is_inner_of f) o false) at_n ∙ eq-eqb q f (same_Some q f named))
  by_event (Open (Notifier q) kind) at_n named =
      absurd (no_until (slice_get h f) switch (ap (at is_until h) (sym (same_Some q f named)) ∙ notifier_stands base h law n q kind at_n))
  by_event _ at_n named = absurd (none-some f named)

module _ (base : Kept) (h : List Event) (law : IsLawful base h) (nodes : Slots Node) (chain : List Key) (r : AreRecords base h nodes chain)
    (switch : Key) (there : IsSome (find nodes switch)) (switches : at is_switch h switch.number ≡ true) where
  -- a child of the tree stands there in the history, at one of the two places
  child_place : (key : Key) → IsChild nodes switch key →
      (at (is_source_of switch.number) h key.number ≡ true) ⊎ (at (is_inner_of switch.number) h key.number ≡ true)
  child_place key child =
      let x = some_of (find nodes key) (child_found nodes key switch.number child.named) in
      child_of_switch base h law switch.number key.number switches (sym (parent_in_tree base h nodes chain r key x.0 x.1) ∙ child.named)

  -- an open inner is a child of the tree
  inner_child : (n : ℕ) → at (is_inner_of switch.number) h n ≡ true → is_open h n ≡ true → (key : Key) × IsChild nodes switch key × (key.number ≡ n)
  inner_child n inner alive =
      let has = r.every n alive in (
        has.key,
        record {
          there = there;
          named = parent_in_tree base h nodes chain r has.key has.value has.found ∙ ap (parent h) has.numbered ∙
              switched_parent base h law switch.number n inner;
        },
        has.numbered,
      )

  -- without a child it has no inner
  pub no_child : HasNone (IsChild nodes switch) 0 → HasNoInner h switch.number
  no_child none n inner = search (rules, false_from_ne_true, inner_child)

  -- a child whose event opened an inner is one
  pub inner_first : (first : Key) (node : Node) → IsChild nodes switch first → find nodes first ≡ Some node → is_some (inner_named node.made) ≡ true →
      IsInner h nodes switch.number first
  inner_first first node child found inner = search (rules, child_place, slice_get, is_some, false≢true, option_map_or)

  module _ (first : Key) (node : Node) (oldest : IsFirst (IsChild nodes switch) 0 first) (found : find nodes first ≡ Some node)
      (not_inner : is_some (inner_named node.made) ≡ false) where
    no_inner : at (is_inner_of switch.number) h first.number ≡ true → ⊥
    no_inner inner =
        of_event node.made (sym (ap (λ (o : Option Event). option_map_or (is_inner_of switch.number) o false) (r.each first node found).made) ∙ inner)
        not_inner
      where
        of_event : (e : Event) → is_inner_of switch.number e ≡ true → is_some (inner_named e) ≡ false → ⊥
        of_event (Open (Inner q) kind) s i = absurd (false≢true (sym i))
        of_event _ s i = absurd (false≢true s)

    source_first : at (is_source_of switch.number) h first.number ≡ true
    source_first = by_place (child_place first oldest.one) where
      by_place : (at (is_source_of switch.number) h first.number ≡ true) ⊎ (at (is_inner_of switch.number) h first.number ≡ true) →
          at (is_source_of switch.number) h first.number ≡ true
      by_place (inl source) = source
      by_place (inr inner) = absurd (no_inner inner)

    -- after the source comes the inner
    pub inner_next : (next : Key) → IsFirst (IsChild nodes switch) (first.number + 1) next → IsInner h nodes switch.number next
    inner_next next younger = by_place (child_place next younger.one) where
      by_place : (at (is_source_of switch.number) h next.number ≡ true) ⊎ (at (is_inner_of switch.number) h next.number ≡ true) →
          IsInner h nodes switch.number next
      by_place (inl source) =
          absurd (let same = one_source base h law switch.number first.number next.number source_first source in let more = younger.at_least in omega arith)
      by_place (inr inner) = record { stands = inner; found = child_found nodes next switch.number younger.one.named }

    -- or nothing
    pub no_next : HasNone (IsChild nodes switch) (first.number + 1) → HasNoInner h switch.number
    no_next none n inner = false_from_ne_true (is_open h n) (λ alive.
        let key = inner_child n inner alive in
        let less = none key.0 key.1 in
        let most = oldest.least key.0 key.1 (omega arith) in
        let same : n ≡ first.number = let at_n = key.2 in omega arith in
        absurd (no_inner (ap (at (is_inner_of switch.number) h) (sym same) ∙ inner)))

-- values that may be there ------------------------------------------------------------------------

pub if_none : {X : Type 0} (o : Option X) (P : Type 0) → P → IfNone o P
if_none x0 x1 holds = search rules

pub if_some_by : {X : Type 0} (o : Option X) (P Q : X → Type 0) → ((x : X) → P x → Q x) → IfSome o P → IfSome o Q
if_some_by x0 x1 x2 then holds = search rules

pub if_none_by : {X : Type 0} (o : Option X) (P Q : Type 0) → (P → Q) → IfNone o P → IfNone o Q
if_none_by x0 x1 x2 then holds = search rules

-- the record whose event was read
pub made_found : (o : Option Node) (made : Event) → option_map (λ (x : Node). x.made) o ≡ Some made → (x : Node) × (o ≡ Some x) × (x.made ≡ made)
made_found x0 made read = search (rules, none-some, same_Some)

-- where the node above is no Switch, nothing is replaced
pub no_switch : {base : Kept} → {h : List Event} {nodes : Slots Node} {chain : List Key} (r : AreRecords base h nodes chain) {place : Place}
    (above : Option Key) (merging : Key) (node : Node) → named_by place ≡ option_map (λ k. k.number) above → above ≡ Some merging →
    IsSome (find nodes merging) → value_at nodes merging.slot ≡ Some node → (b : Bool) → b ≡ is_switch node.made → b ≡ false → ReplacesNone h place
no_switch {h} {nodes} r above merging node named at_above there value b told flat f inner switch =
    let same : f ≡ merging.number = same_Some f merging.number (sym (ap named_by inner) ∙ named ∙ ap (option_map (λ (k : Key). k.number)) at_above) in
    absurd (both_ways (at is_switch h f)
    (ap (at is_switch h) same ∙ ap (λ (o : Option Event). option_map_or is_switch o false) (r.each merging node (find-value_at nodes merging there ∙ value)).made ∙
    sym told ∙ flat) switch)
