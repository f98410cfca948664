-- The base of a settled stored history is sound, and agrees with it.
use Rattle.rx_event.proofs.Laws.Common.{◌≡◌, ℕ, suc, ◌+◌, ◌-◌, ◌<◌, ◌≤◌, Bool, true, false, List, [], ◌∷◌, ◌++◌, length, cond, Option, Some, None, refl, sym}
use Rattle.rx_event.proofs.Laws.Common.{ap, ◌∙◌, arith, inl, inr, ◌⊎◌, slice_get, nat_lt, not, ◌&&◌, ◌||◌, list_any, option_and_then, option_map_or, cases_Bool}
use Rattle.rx_event.proofs.Laws.Common.{cases_lt, both_ways, false≢true, and_parts, eqb-true, slice_get_past, slice_get_within, none-some, same_Some}
use Rattle.rx_event.proofs.Laws.Common.{sum_by-cons, Terminal, Completed, Error, Place, Leaf, Sub, IsInOrderAt, Root, Source, Inner, Notifier, Event, Open, Hub}
use Rattle.rx_event.proofs.Laws.Common.{Connect, Accept, Item, End, is_merging, makes_node, makes_hub, makes_resource}
use Rattle.rx_event.proofs.Laws.Common.{makes_lease, parent_named, node_of_accept, is_source_of, is_inner_of, is_switch, is_remove_of, is_take_of}
use Rattle.rx_event.proofs.Laws.Common.{is_use_of, pays, at, is_open, is_owned, is_out, leases_of, is_held, is_taken, is_waiting, uses, accepted_by, Stop}
use Rattle.rx_event.proofs.Laws.Common.{Moment, moments, moments_after, is_projection_to, stops_of, projections, is_fired, owed, completes_source}
use Rattle.rx_event.proofs.Laws.Common.{source_completed, child_terminal, marks_of, mirrored, fired, failed, completed, cut, left, connecting, due, IsConnected}
use Rattle.rx_event.proofs.Laws.Common.{IsDue, IsForced, IsSettled, IsLawful, Kept, node_kept, resource_kept, shown, source_opened, base_of, Agree, and_false}
use Rattle.rx_event.proofs.Laws.Common.{and_true, or_false, false_from_ne_true as never, counted_once, IsInOrder, is_notifier_of, is_take, accepted_count}
use Rattle.rx_event.proofs.Laws.Common.{taken_count, notifier_opened, keep_node, is_untaken}
use Rattle.std.proofs.Common.{count_by, sum_by, rules}
use Rattle.rx_event.proofs.Laws.SameForcedAndAllowed.{hub_is, in_order_too}
use Rattle.rx_event.specs.Events.{is_item, is_making}
use Rattle.rx_event.specs.Moments.{projected_by}
use Rattle.rx_event.specs.Totals.{item_count}
use Rattle.rx_event.specs.Kept.{lease_kept, resource_shown, lease_shown}
use Rattle.rx_event.specs.Bases.{keep_hub, keep_resource, keep_lease, accept_node, accept_tag}
use Rattle.rx_event.proofs.Laws.SoundForm.{StandsWell, SubscribesWell, TwoOpenInners, Sound}
use Rattle.rx_event.proofs.Laws.Searches.{list_any_found, list_any_holds}
use Rattle.rx_event.proofs.Laws.Places.{at_within}
use Rattle.rx_event.proofs.Laws.Openness.{parent_open}
use Rattle.rx_event.proofs.Laws.Stands.{open_node}
use Rattle.rx_event.proofs.Laws.Resources.{node_of, held_is, owned_held, is_held_within, is_waiting_within, held_resource, waiting_parts}
use Rattle.rx_event.proofs.Laws.Leases.{is_out_within, out_lease, leases_of_same}
use Rattle.rx_event.proofs.Laws.Sums.{sum_by_no_rise, count_by-places}
use Rattle.rx_event.proofs.Laws.SameTree.{Alike, at_hub_alike, at_alike, auto_alike, childless_alike, subscribers_alike, trees_alike, alike_back, read_alike}
use Rattle.rx_event.proofs.Laws.TreeRead.{named_parent, children_by, trees_back}
use Rattle.rx_event.proofs.Laws.Steps.{named_below}
use Rattle.rx_event.proofs.Laws.MarksFound.{child_terminal_some}
use Rattle.rx_event.proofs.Laws.MarksAfter.{same_marks}
use Rattle.rx_event.proofs.Laws.SameMarks.{parent_sort}
use Rattle.rx_event.proofs.Laws.ReadDue.{connect_due_by}
use Rattle.rx_event.proofs.Laws.SameRules.{fired_until, due_by_child}
use Rattle.rx_event.proofs.Laws.Bases.{found, node_of_base, hub_of_base, shown_get, length_base, base_length, is_inert, KeptAt, kept_at, kept_open, base_alike}
use Rattle.rx_event.proofs.Laws.Sound.{count_none, sound_of}
use Rattle.rx_event.proofs.Laws.MakingRemovesNothing.{made_unremoved, made_unreturned, made_untaken, made_unfired}

pub resource_of_base : (b : Kept) (h : List Event) (r : ℕ) → resource_kept (base_of b h) r ≡ cond (is_untaken h r) (Some (keep_resource b h r)) None
unfolding base_of
resource_of_base b h = search (rules, found, length, is_held_within, is_waiting_within, false≢true)

lease_of_base : (b : Kept) (h : List Event) (l : ℕ) → lease_kept (base_of b h) l ≡ cond (is_out h l) (Some (keep_lease h l)) None
unfolding base_of
lease_of_base b h = search (rules, found, length, is_out_within)

waiting_is : (h : List Event) (r : ℕ) → is_waiting h r ≡ ((at makes_resource h r && not (is_held h r)) && not (is_taken h r))
unfolding is_waiting
waiting_is h r = refl

owed_is_less : (b : Kept) (h : List Event) (f : ℕ) → owed b h f ≡ projected_by b h f - count_by (pays f) h
unfolding owed
owed_is_less b h f = refl

base_items : (b : Kept) (h : List Event) → (base_of b h).items ≡ item_count b h
unfolding base_of
base_items b h = refl

base_accepted : (b : Kept) (h : List Event) → (base_of b h).accepted ≡ accepted_count b h
unfolding base_of
base_accepted b h = refl

base_taken : (b : Kept) (h : List Event) → (base_of b h).taken ≡ taken_count b h
unfolding base_of
base_taken b h = refl

uses_read : (b : Kept) (h : List Event) (r : ℕ) →
    uses b h r ≡ option_map_or (λ x. x.uses + count_by (is_use_of r) h) (resource_kept b r) (count_by (is_use_of r) h)
unfolding uses
uses_read b h r = refl

completed_read : (b : Kept) (h : List Event) (n : ℕ) →
    source_completed b h n ≡ (option_map_or (λ x. x.source_completed) (node_kept b n) false || list_any (completes_source h n) h)
unfolding source_completed
completed_read b h n = refl

abbrev leaf_of : Event → Option ℕ
leaf_of (Item l v) = Some l
leaf_of _ = None

-- lists without items -------------------------------------------------------------------------------

no_stops : (before : List Event) (x : Event) → leaf_of x ≡ None → stops_of before x ≡ []
no_stops before x1 none = search (rules, none-some)

itemless_sum : (f : List Stop → ℕ) → f [] ≡ 0 → (before xs : List Event) → ((i : ℕ) (x : Event) → slice_get xs i ≡ Some x → leaf_of x ≡ None) →
    sum_by (λ (m : Moment). f (stops_of m.before m.event)) (moments_after before xs) ≡ 0
itemless_sum f nothing before [] none = refl
itemless_sum f nothing before (x ∷ xs) none =
    let rest = itemless_sum f nothing (before ++ x ∷ []) xs (λ j y at_j. none (suc j) y at_j) in
    let whole = sum_by-cons (λ (m : Moment). f (stops_of m.before m.event)) (record { before = before; event = x }) (moments_after (before ++ x ∷ []) xs) in
    let first : f (stops_of before x) ≡ 0 = ap f (no_stops before x (none 0 x refl)) ∙ nothing in omega arith

itemless_projections : (xs : List Event) → ((i : ℕ) (x : Event) → slice_get xs i ≡ Some x → leaf_of x ≡ None) → (f : ℕ) → projections xs f ≡ 0
unfolding projections moments
itemless_projections xs none f = itemless_sum (count_by (is_projection_to f)) refl [] xs none

-- what a base shows -----------------------------------------------------------------------------------

inert_making : (m : ℕ) (x : Event) → is_inert m x ≡ true → is_making x ≡ true
inert_making m x1 i = search (rules, false≢true)

node_making : (x : Event) → makes_node x ≡ true → is_making x ≡ true
node_making x i = grind arith

module _ (b : Kept) (h : List Event) where
  pub s_making : (i : ℕ) (x : Event) → slice_get (shown (base_of b h)) i ≡ Some x → is_making x ≡ true
  s_making i x at_i = by_case (kept_at b h i x at_i) where
    by_case : KeptAt h i x → is_making x ≡ true
    by_case (inl there) = node_making x (sym (ap (λ o. option_map_or makes_node o false) there.1) ∙ open_node h i there.0)
    by_case (inr inert) = inert_making i x inert

  -- no test that only other events pass holds
  s_none : (t : Event → Bool) → ((x : Event) → is_making x ≡ true → t x ≡ false) → list_any t (shown (base_of b h)) ≡ false
  s_none t fails = search (rules, never, list_any, list_any_found, both_ways, s_making)

  s_count : (t : Event → Bool) → ((x : Event) → is_making x ≡ true → t x ≡ false) → count_by t (shown (base_of b h)) ≡ 0
  s_count t fails = count_none t (shown (base_of b h)) (λ i x at_i. fails x (s_making i x at_i))

  s_itemless : (i : ℕ) (x : Event) → slice_get (shown (base_of b h)) i ≡ Some x → leaf_of x ≡ None
  s_itemless i x at_i = by_event x (s_making i x at_i) where
    by_event : (x : Event) → is_making x ≡ true → leaf_of x ≡ None
    by_event (Item l v) making = absurd (false≢true making)
    by_event _ making = refl

  -- the place of a resource: what accepted it where it is held, an acceptance at no node where it waits, and else none
  s_resource : (r : ℕ) → r < length h → is_open h r ≡ false → at makes_hub h r ≡ false →
      slice_get (shown (base_of b h)) r ≡ Some (option_map_or (resource_shown r) (cond (is_untaken h r) (Some (keep_resource b h r)) None)
      (lease_shown (base_of b h) r))
  s_resource r l closed no_hub = search (rules, shown_get, base_length, option_map_or, node_of_base, cond, hub_of_base, resource_of_base)

  -- the place of a hub
  s_hub : (g : ℕ) → g < length h → is_open h g ≡ false → at makes_hub h g ≡ true → slice_get (shown (base_of b h)) g ≡ Some (Hub (keep_hub h g).mode)
  s_hub g l closed hub = search (rules, shown_get, base_length, option_map_or, node_of_base, cond, hub_of_base)

  resource_closed : (r : ℕ) → at makes_resource h r ≡ true → (is_open h r ≡ false) × (at makes_hub h r ≡ false)
  resource_closed r makes = search (rules, never, slice_get, open_node, Accept, false≢true, option_map_or)

  accepted_some : (r : ℕ) → at makes_resource h r ≡ true →
      accepted_by b h r ≡ Some (Accept (option_map_or accept_node (accepted_by b h r) 0) (option_map_or accept_tag (accepted_by b h r) 0))
  accepted_some r makes = search (rules, option_map_or, Accept, slice_get)

  -- an owned one
  pub s_owned : Sound b h → (r : ℕ) → is_owned h r ≡ true → slice_get (shown (base_of b h)) r ≡ slice_get h r
  s_owned sound r owned = search (rules, owned_held, held_resource, resource_closed, s_resource, is_held_within, option_map_or, cond, Accept, accepted_some)

  untaken_made : (r : ℕ) → is_untaken h r ≡ true → at makes_resource h r ≡ true
  untaken_made r untaken = search (rules, held_resource, waiting_parts)

  -- one that leases alone hold, or that waits
  pub s_unowned : (r : ℕ) → is_untaken h r ≡ true → is_owned h r ≡ false → slice_get (shown (base_of b h)) r ≡ Some (Accept r (keep_resource b h r).tag)
  s_unowned r untaken free = search (rules, resource_closed, untaken_made, s_resource, at_within, option_map_or, cond, Accept)

  -- else none
  pub s_no_resource : (r : ℕ) → is_untaken h r ≡ false → at makes_resource (shown (base_of b h)) r ≡ false
  s_no_resource r none = search (rules, cases_lt, length, option_map_or, s_hub, kept_open, slice_get, open_node, s_resource, cond, cases_Bool, slice_get_past, length_base)

  -- a place that is neither a node nor a hub nor a resource
  s_other : (l : ℕ) → l < length h → is_open h l ≡ false → at makes_hub h l ≡ false → is_untaken h l ≡ false → slice_get (shown (base_of b h)) l ≡ Some
      (lease_shown (base_of b h) l)
  s_other l less closed no_hub none = search (rules, s_resource, option_map_or, cond)

  pub s_lease : (l : ℕ) → is_out h l ≡ true → slice_get (shown (base_of b h)) l ≡ slice_get h l
  s_lease l out =
      search (rules, out_lease, false≢true, s_other, is_out_within, never, both_ways, open_node, untaken_made, option_map_or, lease_of_base, cond, slice_get)

  pub s_no_lease : (l : ℕ) → is_out h l ≡ false → at makes_lease (shown (base_of b h)) l ≡ false
  s_no_lease l back = search (rules, never, slice_get, false≢true, length, length_base, slice_get_within, option_map_or, kept_open, open_node, both_ways, same_Some, s_hub, s_resource, cond, s_other, lease_of_base, cases_Bool)

  pub s_is_out : (l : ℕ) → is_out h l ≡ is_out (shown (base_of b h)) l
  unfolding is_out
  s_is_out l = by_test (is_out h l) refl ∙ sym (ap (λ c. at makes_lease (shown (base_of b h)) l && not c) (made_unreturned (shown
      (base_of b h)) s_making l) ∙ and_true (at makes_lease (shown (base_of b h)) l)) where
        by_test : (x : Bool) → is_out h l ≡ x → x ≡ at makes_lease (shown (base_of b h)) l
        by_test true out = sym (ap (λ o. option_map_or makes_lease o false) (s_lease l out) ∙ out_lease h l out)
        by_test false back = sym (s_no_lease l back)

  pub s_leases_of : (r : ℕ) → leases_of h r ≡ leases_of (shown (base_of b h)) r
  s_leases_of r = search (rules, leases_of_same, length_base, s_is_out, s_lease)

  pub s_fired : (u : ℕ) → is_fired (shown (base_of b h)) u ≡ false
  s_fired u = made_unfired (shown (base_of b h)) s_making u

  s_completed : (n : ℕ) → list_any (completes_source (shown (base_of b h)) n) (shown (base_of b h)) ≡ false
  s_completed n = search (rules, s_none, false≢true)

  pub s_no_end : (i n : ℕ) (t : Terminal) → slice_get (shown (base_of b h)) i ≡ Some (End n t) → ⊥
  s_no_end i n t at_i = false≢true (s_making i (End n t) at_i)

  pub s_unremoved : (r : ℕ) → list_any (is_remove_of r) (shown (base_of b h)) ≡ false
  s_unremoved r = made_unremoved (shown (base_of b h)) s_making r

  pub s_untaken : (r : ℕ) → list_any (is_take_of r) (shown (base_of b h)) ≡ false
  s_untaken r = made_untaken (shown (base_of b h)) s_making r

  pub s_unused : (r : ℕ) → count_by (is_use_of r) (shown (base_of b h)) ≡ 0
  s_unused r = search (rules, s_count, false≢true)

  s_items : count_by is_item (shown (base_of b h)) ≡ 0
  s_items = search (rules, s_count)

  s_takes : count_by is_take (shown (base_of b h)) ≡ 0
  s_takes = search (rules, s_count)

  s_taken : (r : ℕ) → is_taken (shown (base_of b h)) r ≡ false
  unfolding is_taken
  s_taken r = search (rules, s_untaken, and_false)

  module _ (sound : Sound b h) where
    pub base_is_alike : Alike h (shown (base_of b h))
    base_is_alike = base_alike b h sound.one_inner

    pub owned_node : (r : ℕ) → is_owned h r ≡ true → option_map_or (is_open h) (node_of h r) false ≡ true
    unfolding is_owned
    owned_node r owned = (and_parts (option_map_or (is_open h) (node_of h r) false) _ owned).0

    node_open_there : (o : Option Event) → option_map_or (is_open h) (option_and_then node_of_accept o) false ≡
        option_map_or (is_open (shown (base_of b h))) (option_and_then node_of_accept o) false
    node_open_there (Some (Accept n tag)) = base_is_alike.same_open n
    node_open_there _ = refl

    pub s_is_owned : (r : ℕ) → is_owned h r ≡ is_owned (shown (base_of b h)) r
    unfolding is_owned
    s_is_owned r = by_state (is_owned h r) refl (is_untaken h r) refl ∙ sym (ap (λ c. option_map_or (is_open (shown (base_of b h)))
        (node_of (shown (base_of b h)) r) false && not c) (s_unremoved r) ∙ and_true (option_map_or (is_open (shown (base_of b h)))
        (node_of (shown (base_of b h)) r) false)) where
          no_accept : (o : Option Event) → option_map_or makes_resource o false ≡ false → option_and_then node_of_accept o ≡ None
          no_accept o none = grind arith

          by_state : (x : Bool) → is_owned h r ≡ x → (y : Bool) → is_untaken h r ≡ y → x ≡ option_map_or (is_open (shown (base_of b h)))
              (node_of (shown (base_of b h)) r) false
          by_state true owned y untaken = sym (ap (λ o. option_map_or (is_open (shown (base_of b h))) (option_and_then node_of_accept o) false)
              (s_owned sound r owned) ∙ sym (node_open_there (slice_get h r)) ∙ owned_node r owned)
          by_state false owned true untaken =
              sym (ap (λ o. option_map_or (is_open (shown (base_of b h))) (option_and_then node_of_accept o) false) (s_unowned r untaken owned) ∙ sym
              (base_is_alike.same_open r) ∙ (resource_closed r (untaken_made r untaken)).0)
          by_state false owned false none = sym (ap (λ o. option_map_or (is_open (shown (base_of b h))) o false)
              (no_accept (slice_get (shown (base_of b h)) r) (s_no_resource r none)))

    -- just what was not taken is a resource there
    pub s_resource_at : (r : ℕ) → at makes_resource (shown (base_of b h)) r ≡ is_untaken h r
    s_resource_at r = by_state (is_untaken h r) refl (is_owned h r) refl where
      by_state : (u : Bool) → is_untaken h r ≡ u → (o : Bool) → is_owned h r ≡ o → at makes_resource (shown (base_of b h)) r ≡ u
      by_state true untaken true owned = ap (λ x. option_map_or makes_resource x false) (s_owned sound r owned) ∙ untaken_made r untaken
      by_state true untaken false owned = ap (λ x. option_map_or makes_resource x false) (s_unowned r untaken owned)
      by_state false none o owned = s_no_resource r none

    pub s_is_held : (r : ℕ) → is_held h r ≡ is_held (shown (base_of b h)) r
    s_is_held r = held_is h r ∙ shape (is_owned h r) (at makes_resource h r) (is_untaken h r) (nat_lt 0 (leases_of h r)) up (untaken_made r) ∙
        (λ i. s_is_owned r i || (sym (s_resource_at r) i && nat_lt 0 (s_leases_of r i))) ∙ sym (held_is (shown (base_of b h)) r)
      where
        up : (is_owned h r || (at makes_resource h r && nat_lt 0 (leases_of h r))) ≡ true → is_untaken h r ≡ true
        up held = ap (λ c. c || is_waiting h r) (held_is h r ∙ held)

        shape : (o a u n : Bool) → ((o || (a && n)) ≡ true → u ≡ true) → (u ≡ true → a ≡ true) → (o || (a && n)) ≡ (o || (u && n))
        shape o a u n up down = grind arith

    s_is_waiting : (r : ℕ) → is_waiting h r ≡ is_waiting (shown (base_of b h)) r
    s_is_waiting r = sym (waiting_is (shown (base_of b h)) r ∙ (λ i. (s_resource_at r i && not (sym (s_is_held r) i)) && not (s_taken r i)) ∙ shape
        (is_held h r) (is_waiting h r) (λ w. (waiting_parts h r w).1)) where
          shape : (x y : Bool) → (y ≡ true → x ≡ false) → (((x || y) && not x) && true) ≡ y
          shape x y apart = grind arith

    s_kept : (r : ℕ) → is_untaken h r ≡ true → resource_kept (base_of b h) r ≡ Some (keep_resource b h r)
    s_kept r untaken = resource_of_base b h r ∙ ap (λ c. cond c (Some (keep_resource b h r)) None) untaken

    s_accepts : (r : ℕ) → is_untaken h r ≡ true → accepted_by b h r ≡ accepted_by (base_of b h) (shown (base_of b h)) r
    s_accepts r untaken = accepted_some r (untaken_made r untaken) ∙
        sym (ap (λ k. option_map_or (λ x. Some (Accept x.node x.tag)) k (slice_get (shown (base_of b h)) r)) (s_kept r untaken))

    s_uses : (r : ℕ) → is_untaken h r ≡ true → uses b h r ≡ uses (base_of b h) (shown (base_of b h)) r
    s_uses r untaken = sym (uses_is ∙
        ap (λ k. option_map_or (λ x. x.uses + count_by (is_use_of r) (shown (base_of b h))) k (count_by (is_use_of r) (shown (base_of b h))))
        (s_kept r untaken) ∙ (let none = s_unused r in let e : uses b h r + count_by (is_use_of r) (shown (base_of b h)) ≡ uses b h r = omega arith in e))
      where
        uses_is : uses (base_of b h) (shown (base_of b h)) r ≡
            option_map_or (λ x. x.uses + count_by (is_use_of r) (shown (base_of b h))) (resource_kept (base_of b h) r)
            (count_by (is_use_of r) (shown (base_of b h)))
        uses_is = uses_read (base_of b h) (shown (base_of b h)) r

    -- marks of an open node
    s_node : (n : ℕ) → is_open h n ≡ true → node_kept (base_of b h) n ≡ Some (keep_node b h n)
    s_node n o = node_of_base b h n ∙ ap (λ c. cond c (Some (keep_node b h n)) None) o

    shown_some : (t : Event → Bool) → ((m : ℕ) (x : Event) → is_inert m x ≡ true → t x ≡ false) → list_any t (shown (base_of b h)) ≡ true → list_any t h ≡ true
    shown_some t fails some =
        let place = list_any_found t (shown (base_of b h)) some in
        by_case place.0 place.1 place.3 (kept_at b h place.0 place.1 place.2)
      where
        by_case : (i : ℕ) (x : Event) → t x ≡ true → KeptAt h i x → list_any t h ≡ true
        by_case i x passes (inl there) = list_any_holds t h i x there.1 passes
        by_case i x passes (inr inert) = absurd (both_ways _ (fails i x inert) passes)

    or_more : (x y z : Bool) → (z ≡ true → y ≡ true) → ((x || y) || z) ≡ (x || y)
    or_more x y z up = grind arith

    inert_source : (n m : ℕ) (x : Event) → is_inert m x ≡ true → is_source_of n x ≡ false
    inert_source n m (Open place kind) i = absurd (false≢true i)
    inert_source n m _ i = refl

    inert_notifier : (n m : ℕ) (x : Event) → is_inert m x ≡ true → is_notifier_of n x ≡ false
    inert_notifier n m (Open place kind) i = absurd (false≢true i)
    inert_notifier n m _ i = refl

    s_sources : (n : ℕ) → is_open h n ≡ true → source_opened b h n ≡ source_opened (base_of b h) (shown (base_of b h)) n
    s_sources n o = sym (ap (λ k. option_map_or (λ x. x.source_opened) k false || list_any (is_source_of n) (shown (base_of b h))) (s_node n o) ∙
        or_more (option_map_or (λ x. x.source_opened) (node_kept b n) false) (list_any (is_source_of n) h) (list_any (is_source_of n) (shown (base_of b h)))
        (shown_some (is_source_of n) (inert_source n)))

    s_notifiers : (n : ℕ) → is_open h n ≡ true → notifier_opened b h n ≡ notifier_opened (base_of b h) (shown (base_of b h)) n
    s_notifiers n o = sym (ap (λ k. option_map_or (λ x. x.notifier_opened) k false || list_any (is_notifier_of n) (shown (base_of b h))) (s_node n o) ∙
        or_more (option_map_or (λ x. x.notifier_opened) (node_kept b n) false) (list_any (is_notifier_of n) h)
        (list_any (is_notifier_of n) (shown (base_of b h))) (shown_some (is_notifier_of n) (inert_notifier n)))

    s_completions : (n : ℕ) → is_open h n ≡ true → source_completed b h n ≡ source_completed (base_of b h) (shown (base_of b h)) n
    s_completions n o = sym (completed_read (base_of b h) (shown (base_of b h)) n ∙
        (λ i. option_map_or (λ x. x.source_completed) (s_node n o i) false || s_completed n i) ∙ or_false (source_completed b h n))

    pub s_debts : (n : ℕ) → is_open h n ≡ true → owed b h n ≡ owed (base_of b h) (shown (base_of b h)) n
    s_debts n o =
        let owed_is : owed (base_of b h) (shown (base_of b h)) n ≡ projected_by (base_of b h) (shown (base_of b h)) n - count_by (pays n) (shown
        (base_of b h)) = owed_is_less (base_of b h) (shown (base_of b h)) n in
        let paid = count_by (pays n) (shown (base_of b h)) in
        let shows = projections (shown (base_of b h)) n in
        let none : shows ≡ 0 = (itemless_projections (shown (base_of b h)) s_itemless n) in
        let e : owed b h n + paid + shows - paid ≡ owed b h n = omega arith in
        sym (owed_is ∙ ap (λ k. option_map_or (λ x. x.owed + paid + shows) k shows - paid) (s_node n o) ∙ e)

    -- a base is sound ---------------------------------------------------------------------------------

    s_below : (n m : ℕ) (e : Event) → slice_get (shown (base_of b h)) n ≡ Some e → parent_named e ≡ Some m → m < n
    s_below n m e at_n named = by_case (kept_at b h n e at_n) where
      inert : (x : Event) → is_inert n x ≡ true → parent_named x ≡ Some m → m < n
      inert (Open place kind) i named = absurd (false≢true i)
      inert _ i named = absurd (none-some m named)

      by_case : KeptAt h n e → m < n
      by_case (inl there) = sound.below n m e there.1 named
      by_case (inr i) = inert e i named

    pub s_one_inner : (f x y : ℕ) → TwoOpenInners (shown (base_of b h)) f x y → x ≡ y
    s_one_inner f x y two =
        let a = base_is_alike in
        let back = alike_back h (shown (base_of b h)) a in
        let x_open : is_open h x ≡ true = a.same_open x ∙ two.one_open in
        let y_open : is_open h y ≡ true = a.same_open y ∙ two.other_open in
        let one : at (is_inner_of f) h x ≡ true = at_alike h (shown (base_of b h)) a (is_inner_of f) x x_open ∙ two.one in
        let f_open : is_open h f ≡ true = inner_open f x x_open one in
        sound.one_inner f x y (record {
          switch = at_alike h (shown (base_of b h)) a is_switch f f_open ∙ two.switch;
          one = one;
          one_open = x_open;
          other = at_alike h (shown (base_of b h)) a (is_inner_of f) y y_open ∙ two.other;
          other_open = y_open;
        })
      where
        names : (f : ℕ) (o : Option Event) → option_map_or (is_inner_of f) o false ≡ true → (e : Event) × (o ≡ Some e) × (parent_named e ≡ Some f)
        names f (Some (Open (Inner g) kind)) inner = (Open (Inner g) kind, refl, ap Some (eqb-true g f inner))
        names f _ inner = absurd (false≢true inner)

        inner_open : (f x : ℕ) → is_open h x ≡ true → at (is_inner_of f) h x ≡ true → is_open h f ≡ true
        inner_open f x o inner =
            let named = names f (slice_get h x) inner in
            parent_open h x f o (named_parent h x f named.0 named.1 named.2 (sound.below x f named.0 named.1 named.2))

    pub s_paid : (f : ℕ) → is_open h f ≡ true → count_by (pays f) (shown (base_of b h)) ≤ projected_by (base_of b h) (shown (base_of b h)) f
    s_paid f o =
        let paid = count_by (pays f) (shown (base_of b h)) in
        let shows = projections (shown (base_of b h)) f in
        let known : projected_by (base_of b h) (shown (base_of b h)) f ≡ owed b h f + paid + shows =
        ap (λ k. option_map_or (λ x. x.owed + paid + shows) k shows) (s_node f o) in omega arith

    pub base_sound : Sound (base_of b h) (shown (base_of b h))
    base_sound =
        record {
          below = s_below;
          stands = λ n x at_n. stands_there n x at_n (kept_at b h n x at_n);
          subscribes = λ n x at_n. subscribes_there n x (kept_at b h n x at_n);
          one_inner = s_one_inner;
          accepted = λ r owned. (sym (s_accepts r (λ i. owned_held h r (s_is_owned r ∙ owned) i || is_waiting h r)) ∙ sound.accepted r (s_is_owned r ∙
              owned) ∙ sym (s_owned sound r (s_is_owned r ∙ owned)));
        }
      where
        -- the parent of an open node is open
        above : (n p : ℕ) (x : Event) → is_open h n ≡ true → slice_get h n ≡ Some x → parent_named x ≡ Some p → is_open h p ≡ true
        above n p x o at_n named = parent_open h n p o (named_parent h n p x at_n named (sound.below n p x at_n named))

        at_there : (q : Event → Bool) (p : ℕ) → is_open h p ≡ true → at q h p ≡ true → at q (shown (base_of b h)) p ≡ true
        at_there q p o passes = sym (at_alike h (shown (base_of b h)) base_is_alike q p o) ∙ passes

        hub_there : (g : ℕ) → at makes_hub h g ≡ true → at makes_hub (shown (base_of b h)) g ≡ true
        hub_there g hub = at_hub_alike h (shown (base_of b h)) base_is_alike makes_hub hub_is g hub

        inert_stands : (n : ℕ) (x : Event) → is_inert n x ≡ true → StandsWell (shown (base_of b h)) x
        inert_stands n x1 i = search (rules, false≢true)

        open_stands : (n : ℕ) (x : Event) → is_open h n ≡ true → slice_get h n ≡ Some x → StandsWell h x → StandsWell (shown (base_of b h)) x
        open_stands n x1 o at_n well = search (rules, at_there, above, hub_there)

        stands_there : (n : ℕ) (x : Event) → slice_get (shown (base_of b h)) n ≡ Some x → KeptAt h n x → StandsWell (shown (base_of b h)) x
        stands_there n x at_n (inl there) = open_stands n x there.0 there.1 (sound.stands n x there.1)
        stands_there n x at_n (inr inert) = inert_stands n x inert

        open_subscribes : (n : ℕ) (x : Event) → is_open h n ≡ true → slice_get h n ≡ Some x → SubscribesWell h x → SubscribesWell (shown (base_of b h)) x
        open_subscribes n (Open place (Sub g)) o at_n well = (hub_there g well.0, in_order place at_n well.1) where
          ordered : (p : ℕ) → is_open h p ≡ true → IsInOrderAt h g p → IsInOrderAt (shown (base_of b h)) g p
          ordered p p_open order = in_order_too h (shown (base_of b h)) base_is_alike g p p_open order

          in_order : (place : Place) → slice_get h n ≡ Some (Open place (Sub g)) → IsInOrder h g place → IsInOrder (shown (base_of b h)) g place
          in_order Root at_n order = tt
          in_order (Source p) at_n order = ordered p (above n p (Open (Source p) (Sub g)) o at_n refl) order
          in_order (Inner p) at_n order = ordered p (above n p (Open (Inner p) (Sub g)) o at_n refl) order
          in_order (Notifier p) at_n order = ordered p (above n p (Open (Notifier p) (Sub g)) o at_n refl) order
        open_subscribes n (Open place Leaf) o at_n well = tt
        open_subscribes n _ o at_n well = tt

        inert_subscribes : (n : ℕ) (x : Event) → is_inert n x ≡ true → SubscribesWell (shown (base_of b h)) x
        inert_subscribes n x1 i = search (rules, false≢true)

        subscribes_there : (n : ℕ) (x : Event) → KeptAt h n x → SubscribesWell (shown (base_of b h)) x
        subscribes_there n x (inl there) = open_subscribes n x there.0 there.1 (sound.subscribes n x there.1)
        subscribes_there n x (inr inert) = inert_subscribes n x inert

    s_accepted_less : count_by makes_resource (shown (base_of b h)) ≤ count_by makes_resource h
    s_accepted_less =
        let one = count_by-places makes_resource (shown (base_of b h)) in
        let two = count_by-places makes_resource h in
        let less = sum_by_no_rise (λ n. cond (at makes_resource h n) 1 0) (λ n. cond (at makes_resource (shown (base_of b h)) n) 1 0) (length h)
        (λ n l. counted_once (at makes_resource (shown (base_of b h)) n) (at makes_resource h n) (made n)) in
        rw (one, two, length_base b h) less
      where
        made : (n : ℕ) → at makes_resource (shown (base_of b h)) n ≡ true → at makes_resource h n ≡ true
        made n there = by_test (cases_Bool (is_untaken h n)) where
          by_test : (is_untaken h n ≡ true) ⊎ (is_untaken h n ≡ false) → at makes_resource h n ≡ true
          by_test (inl untaken) = untaken_made n untaken
          by_test (inr none) = absurd (both_ways _ (s_no_resource n none) there)

-- and agrees ---------------------------------------------------------------------------------------------

module _ (b : Kept) (h : List Event) (law : IsLawful b h) (settled : IsSettled b h) where
  abbrev c : Kept
  c = base_of b h

  abbrev s : List Event
  s = shown (base_of b h)

  sound : Sound b h
  sound = sound_of b h law

  alike : Alike h s
  alike = base_is_alike b h sound

  whole : IsConnected h
  whole g d = settled.none (Connect g) (connecting d)

  -- nothing ended or fired below an open node
  unended : (n : ℕ) → is_open h n ≡ true → child_terminal h n ≡ None
  unended n o = by_terminal (child_terminal h n) refl where
    by_terminal : (x : Option Terminal) → child_terminal h n ≡ x → child_terminal h n ≡ None
    by_terminal None none = none
    by_terminal (Some t) some = let w = child_terminal_some h n t some in
        absurd (settled.none (End n t) (due whole (due_by_child {b = b} t o (parent_sort b h law w.0.child n w.0.below) w.0 w.1)))

  s_unended : (n : ℕ) → child_terminal s n ≡ None
  s_unended n = by_terminal (child_terminal s n) refl where
    by_terminal : (x : Option Terminal) → child_terminal s n ≡ x → child_terminal s n ≡ None
    by_terminal None none = none
    by_terminal (Some t) some = let w = child_terminal_some s n t some in absurd (s_no_end b h w.0.ended.place w.0.child t w.0.ended.found)

  marks_still : (n : ℕ) → is_open h n ≡ true → marks_of c s n ≡ marks_of b h n
  marks_still n o = same_marks b (sym (s_sources b h sound n o)) (sym (s_notifiers b h sound n o)) (s_fired b h n ∙
      sym (never (is_fired h n) (λ is. settled.none (End n Completed) (due whole (fired o (fired_until b h law n is) is)))))
      (sym (s_completions b h sound n o)) (s_unended n ∙ sym (unended n o)) (sym (s_debts b h sound n o))
      (children_by (λ n. n) (λ n. n) h s (trees_alike h s alike (named_below b h law)) n o)

  pub base_agrees : Agree b h c s
  base_agrees =
      record {
        same_length = alike.same_length;
        there = read_alike alike marks_still (λ n t o x. absurd (settled.none (End n t) (due whole (cut o x))));
        back = read_alike (alike_back h s alike) (λ n o. sym (marks_still n (alike.same_open n ∙ o))) (λ n t o x.
            absurd (s_no_end b h x.place x.connection t x.ended));
        owned = s_is_owned b h sound;
        held = s_is_held b h sound;
        waiting = s_is_waiting b h sound;
        accepts = s_accepts b h sound;
        used = s_uses b h sound;
        out = s_is_out b h;
        leased = λ l out. sym (s_lease b h l out);
        item_total = let none = s_items b h in let sum = base_items b h in omega arith;
        accepted_total = let less = s_accepted_less b h sound in let sum = base_accepted b h in omega arith;
        taken_total = let none = s_takes b h in let sum = base_taken b h in omega arith;
      }

  -- what is due in the base is due before it, so nothing is
  due_before : {e : Event} → IsDue c s e → IsDue b h e
  due_before (mirrored {t = t} o m child) = absurd (s_no_end b h child.ended.place child.child t child.ended.found)
  due_before (fired {u = u} o m f) = absurd (both_ways _ (s_fired b h u) f)
  due_before (failed {c = code} o m child) = absurd (s_no_end b h child.ended.place child.child (Error code) child.ended.found)
  due_before (completed {f = f} o m none source childless paid) =
      let was : is_open h f ≡ true = alike.same_open f ∙ o in
      let merges : at is_merging h f ≡ true = at_alike h s alike is_merging f was ∙ m in
      completed was merges (λ code child. settled.none (End f (Error code)) (due whole (failed was merges child))) (s_completions b h sound f was ∙ source)
      (childless_alike s h (alike_back h s alike) f childless) (s_debts b h sound f was ∙ paid)
  due_before (cut {t = t} o x) = absurd (s_no_end b h x.place x.connection t x.ended)
  due_before (left {c = n} {g = g} o connects auto none) =
      let was : is_open h n ≡ true = alike.same_open n ∙ o in
      left was (alike.same_made n was ∙ connects) (auto_alike s h (alike_back h s alike) g auto) (subscribers_alike h s alike g ∙ none)

  pub base_undue : (n : ℕ) (t : Terminal) → IsDue c s (End n t) → ⊥
  base_undue n t d = settled.none (End n t) (due whole (due_before d))

  pub shown_settled : IsSettled c s
  shown_settled = record { none = λ e f. settled.none e (by_force f) } where
    by_force : {e : Event} → IsForced c s e → IsForced b h e
    by_force (due connected d) = due whole (due_before d)
    by_force (connecting {g = g} d) = connecting (connect_due_by (λ n. n) (λ n. n) s h (trees_back (trees_alike h s alike (named_below b h law)))
        (λ n t o x. absurd (settled.none (End n t) (due whole (cut o x)))) g d)
