-- All that stays comes to the same.
use Rattle.rx_event.proofs.Laws.Common.{◌≡◌, ℕ, Bool, false, List, slice_get, take, sym, ap, ◌∙◌, Kept, IsLawful, eqb-true}
use Rattle.rx_event.proofs.Laws.Common.{same_Some, stops, notes_to}
use Rattle.rx_event.specs.Refusals.{refusal_order}
use Rattle.rx_event.specs.Renumbered.{call_by}
use Rattle.rx_event.specs.Calls.{Call}
use Rattle.rx_event.specs.Causes.{causes}
use Rattle.rx_omitted.specs.Imports.{Event, Item}
use Rattle.rx_omitted.specs.Named.{named_in_call, Stay_all}
use Rattle.rx_omitted.specs.Omitted.{number, what_stays, reaches, MayOmit, HasOwnPlaces, IsOnlyHeard, IsLoneLeaf, is_at, is_of_leaf}
use Rattle.rx_omitted.specs.Claims.{RefusedTheSame, ComesToTheSame, HearsAll}
use Rattle.rx_omitted.proofs.Numbers.{length-what_stays}
use Rattle.rx_omitted.proofs.Omits.{Omits}
use Rattle.rx_omitted.proofs.Naming.{omits}
use Rattle.rx_omitted.proofs.Staying.{slice_by}
use Rattle.rx_omitted.proofs.Tree.{open_by}
use Rattle.rx_omitted.proofs.Fared.{owned_by, out_by, leases_by, held_by, taken_by, waiting_by, all_held, all_waiting, all_out, all_hubs, subscribers_by}
use Rattle.rx_omitted.proofs.Fared.{connections_by, all_open}
use Rattle.rx_omitted.proofs.Told.{notes_by, told_by, told_all_by}
use Rattle.rx_omitted.proofs.Kept.{uses_by}
use Rattle.rx_omitted.proofs.Due.{settled_there}
use Rattle.rx_omitted.proofs.Marked.{marks_by, released_by}
use Rattle.rx_omitted.proofs.May.{lawful_what_stays}
use Rattle.rx_omitted.proofs.Refused.{eased, eased_same, eased_stands, first_none, first_same}
use Rattle.rx_omitted.proofs.Alone.{item_omitted, leaf_omitted, leaf_heard}

refused_same : (base : Kept) (omit : ℕ → Bool) (h : List Event) → Omits base omit h → IsLawful base h → (limit : ℕ) (is_fresh : Bool) (call : Call) →
    Stay_all omit (named_in_call call) → RefusedTheSame base omit h limit is_fresh call
refused_same base omit h a law limit is_fresh call all = record {
  same = λ why other. eased_same (eased base omit h a law limit is_fresh call all why) other;
  no_more = λ why stands. eased_stands (eased base omit h a law limit is_fresh call all why) stands;
  accepted = first_none (causes base h limit is_fresh call) (causes base (what_stays omit h) limit is_fresh (call_by (number omit) call))
      (λ why stands. eased_stands (eased base omit h a law limit is_fresh call all why) stands) refusal_order;
  refused = λ why other found. first_same (causes base h limit is_fresh call) (causes base (what_stays omit h) limit is_fresh (call_by (number omit) call))
      (λ cause stands. eased_stands (eased base omit h a law limit is_fresh call all cause) stands) why
      (eased_same (eased base omit h a law limit is_fresh call all why) other) refusal_order found;
}

same_by : (base : Kept) (omit : ℕ → Bool) (h : List Event) → Omits base omit h → IsLawful base h → ComesToTheSame base omit h
same_by base omit h a law = record {
  lawful = lawful_what_stays base omit h law a;
  settled = settled_there base omit h a law;
  stands = slice_by omit h;
  long = length-what_stays omit h;
  same_open = open_by base omit h a;
  nodes = all_open base omit h a;
  all_hubs = all_hubs base omit h a;
  connections = connections_by base omit h a;
  subscribers = subscribers_by base omit h a;
  marks = marks_by base omit h a law;
  owned = owned_by base omit h a;
  leases = leases_by base omit h a;
  held = held_by base omit h a;
  waiting = waiting_by base omit h a;
  taken = taken_by base omit h a;
  used = uses_by base omit h a law;
  out = out_by base omit h a;
  all_held = all_held base omit h a;
  all_waiting = all_waiting base omit h a;
  all_out = all_out base omit h a;
  all_released = released_by base omit h a law;
  all_told = notes_by base omit h a;
  told = told_by base omit h a;
  told_all = told_all_by base omit h a;
  refusals = refused_same base omit h a law;
}

pub same_what_stays : (base : Kept) (omit : ℕ → Bool) (h : List Event) → HasOwnPlaces base → IsLawful base h → MayOmit base omit h → ComesToTheSame base omit h
same_what_stays base omit h own law m = same_by base omit h (omits base omit h law own m) law

-- an item, and a leaf -----------------------------------------------------------------------------------------------

pub item_others : (base : Kept) (h : List Event) (k : ℕ) → HasOwnPlaces base → IsLawful base h → (heard : IsOnlyHeard base h k) → (n : ℕ) → is_at k n ≡ false →
    reaches n (stops (take k h) heard.leaf) ≡ false → notes_to (what_stays (is_at k) h) (number (is_at k) n) ≡ notes_to h n
item_others base h k own law heard n other none = (same_what_stays base (is_at k) h own law (item_omitted base h law own k heard)).told_all n other hears where
  hears : HearsAll (is_at k) h n
  hears i l v at_i here =
      let place : i ≡ k = eqb-true i k here in
      let event : Item l v ≡ Item heard.leaf heard.value = same_Some _ _ (sym at_i ∙ ap (slice_get h) place ∙ heard.item) in
      let leaf : l ≡ heard.leaf = cc in
      (λ j. reaches n (stops (take (place j) h) (leaf j))) ∙ none

pub leaf_others : (base : Kept) (h : List Event) (n : ℕ) → HasOwnPlaces base → IsLawful base h → IsLoneLeaf base h n → (m : ℕ) → is_of_leaf h n m ≡ false →
    notes_to (what_stays (is_of_leaf h n) h) (number (is_of_leaf h n) m) ≡ notes_to h m
leaf_others base h n own law x m other = (same_what_stays base (is_of_leaf h n) h own law (leaf_omitted base h law own n x)).told_all m other
    (λ i l v at_i gone. leaf_heard base h law own n x m other i l v at_i gone)
