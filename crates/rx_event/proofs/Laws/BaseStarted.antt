-- A history may begin with the base of a lawful settled one.
use Rattle.rx_event.proofs.Laws.Common.{◌≡◌, ℕ, ◌<◌, ◌≤◌, Bool, true, false, List, ◌++◌, length, take, drop, cond, Some, None, refl, sym, ap, ◌∙◌}
use Rattle.rx_event.proofs.Laws.Common.{arith, inl, inr, ◌⊎◌, ◌==◌, slice_get, ◌||◌, list_any, option_map_or, cases_Bool, both_ways, false≢true, eqb-true}
use Rattle.rx_event.proofs.Laws.Common.{length-take-le, slice_get_within, same_Some, none-some, Place, Root, Source, Inner, Notifier, Kind, Leaf, Sub, Event}
use Rattle.rx_event.proofs.Laws.Common.{Open, Connect, Accept, Lease, Kept, resource_kept, shown, makes_node, makes_hub, makes_resource}
use Rattle.rx_event.proofs.Laws.Common.{makes_lease, has_source, is_merging, is_until, is_source_of, parent_named, node_of_accept, pays, at, is_open, is_within}
use Rattle.rx_event.proofs.Laws.Common.{is_owned, is_out, is_waiting, uses, IsSettled, IsInOrderAt, Started, IsLawful, base_of}
use Rattle.rx_event.proofs.Laws.Common.{false_from_ne_true as never, IsHubbed, IsInOrder, keep_node, is_untaken}
use Rattle.std.proofs.Common.{count_by, rules}
use Rattle.std.proofs.lemmas.List.{take-append-drop}
use Rattle.rx_event.specs.Events.{is_making}
use Rattle.rx_event.specs.Moments.{projected_by}
use Rattle.rx_event.specs.Lawful.{HasPlace}
use Rattle.rx_event.specs.Bases.{keep_resource}
use Rattle.rx_event.proofs.Laws.Places.{slice_get-append, at-take, at_within}
use Rattle.rx_event.proofs.Laws.Parents.{ancestors-append}
use Rattle.rx_event.proofs.Laws.Openness.{is_open_past, stays_closed_after, parent_open}
use Rattle.rx_event.proofs.Laws.Hubs.{one_connection, hub_before}
use Rattle.rx_event.proofs.Laws.Resources.{node_of-lt, leased_held, is_held_past, is_waiting_past}
use Rattle.rx_event.proofs.Laws.Leases.{lease_older}
use Rattle.rx_event.proofs.Laws.NothingOpenNothingHeld.{out_leased}
use Rattle.rx_event.proofs.Laws.Plain.{owed_plain}
use Rattle.rx_event.proofs.Laws.Sources.{one_source}
use Rattle.rx_event.proofs.Laws.Totals.{accepted_count-parts}
use Rattle.rx_event.proofs.Laws.SoundForm.{Sound}
use Rattle.rx_event.proofs.Laws.Sound.{sound_of, count_none, hubbed_before}
use Rattle.rx_event.proofs.Laws.TreeRead.{named_parent}
use Rattle.rx_event.proofs.Laws.Bases.{is_inert, KeptAt, kept_at, node_of_base, length_base}
use Rattle.rx_event.proofs.Laws.SameTree.{Alike}
use Rattle.rx_event.proofs.Laws.BaseAgrees.{resource_of_base, s_making, s_unused, s_owned, s_unowned, s_no_resource, s_resource_at, s_lease, s_no_lease}
use Rattle.rx_event.proofs.Laws.BaseAgrees.{base_is_alike, owned_node, s_one_inner, s_paid, base_sound, s_debts, base_agrees, base_undue, shown_settled}
use Rattle.rx_event.proofs.Laws.ShownBase.{base_one_connection, agree_accepted}

-- what an event names stands before it ----------------------------------------------------------------------

within_front : (h : List Event) (n m : ℕ) → n < length h → m < length (take n h) → m < n
within_front h n m l w = let t = length-take-le n h (omega arith) in omega arith

-- an open node was open as soon as there was a later event
open_front : (h : List Event) (n p : ℕ) → n < length h → p < n → is_open h p ≡ true → is_open (take n h) p ≡ true
open_front h n p l less o = by_test (cases_Bool (is_open (take n h) p)) where
  by_test : (is_open (take n h) p ≡ true) ⊎ (is_open (take n h) p ≡ false) → is_open (take n h) p ≡ true
  by_test (inl before) = before
  by_test (inr closed) = absurd (both_ways _ (ap (λ k. is_open k p) (sym (take-append-drop n h)) ∙
      stays_closed_after (take n h) (drop n h) p (let t = length-take-le n h (omega arith) in omega arith) closed) o)

order_front : (h : List Event) (n g p : ℕ) → n < length h → p < n → IsInOrderAt h g p → IsInOrderAt (take n h) g p
order_front h n g p l less ordered a k within connects =
    let short = length-take-le n h (omega arith) in
    let whole : take n h ++ drop n h ≡ h = take-append-drop n h in
    let inside : is_within h a p ≡ true =
    ap (λ x. is_within x a p) (sym whole) ∙ ap (list_any (λ x. a == x)) (ancestors-append (take n h) (drop n h) p (omega arith)) ∙ within in
    ordered a k inside (ap (λ x. slice_get x a) (sym whole) ∙ slice_get-append (take n h) (drop n h) a (slice_get_within (take n h) a _ connects) ∙ connects)

module _ (b : Kept) (h : List Event) (law : IsLawful b h) (settled : IsSettled b h) where
  abbrev s : List Event
  s = shown (base_of b h)

  sound : Sound b h
  sound = sound_of b h law

  alike : Alike h s
  alike = base_is_alike b h sound

  sound_s : Sound (base_of b h) s
  sound_s = base_sound b h sound

  inert_names : (n : ℕ) (x : Event) → is_inert n x ≡ true → parent_named x ≡ None
  inert_names n x1 i = search (rules, false≢true)

  inert_not_node : (n : ℕ) (x : Event) → is_inert n x ≡ true → makes_node x ≡ true → ⊥
  inert_not_node n x1 i made = search (rules, false≢true)

  -- what an open node's event names as its parent is open
  parent_there : (n p : ℕ) (e : Event) → slice_get s n ≡ Some e → parent_named e ≡ Some p → is_open h p ≡ true
  parent_there n p e at_n named = by_case (kept_at b h n e at_n) where
    by_case : KeptAt h n e → is_open h p ≡ true
    by_case (inl there) = parent_open h n p there.0 (named_parent h n p e there.1 named (sound.below n p e there.1 named))
    by_case (inr i) = absurd (none-some p (sym (inert_names n e i) ∙ named))

  old : (n : ℕ) (e : Event) → slice_get s n ≡ Some e → n < length s
  old n e at_n = slice_get_within s n e at_n

  made_there : (n : ℕ) (e : Event) → slice_get s n ≡ Some e → makes_node e ≡ true → (is_open h n ≡ true) × (slice_get h n ≡ Some e)
  made_there n e at_n made = elim (kept_at b h n e at_n) [ inl there ↦ there | inr i ↦ absurd (inert_not_node n e i made) ]

  names : (n p : ℕ) (e : Event) → slice_get s n ≡ Some e → parent_named e ≡ Some p → is_open (take n s) p ≡ true
  names n p e at_n named = open_front s n p (old n e at_n) (sound_s.below n p e at_n named) (sym (alike.same_open p) ∙ parent_there n p e at_n named)

  at_front : (q : Event → Bool) (n p : ℕ) → p < n → n < length s → at q s p ≡ true → at q (take n s) p ≡ true
  at_front q n p less l passes = at-take q s n p less l ∙ passes

  placed : (n : ℕ) (place : Place) (kind : Kind) → slice_get s n ≡ Some (Open place kind) → HasPlace (take n s) place
  placed n Root kind at_n = tt
  placed n (Source p) kind at_n = at_front has_source n p (sound_s.below n p _ at_n refl) (old n _ at_n) (sound_s.stands n _ at_n)
  placed n (Inner p) kind at_n = at_front is_merging n p (sound_s.below n p _ at_n refl) (old n _ at_n) (sound_s.stands n _ at_n)
  placed n (Notifier p) kind at_n = at_front is_until n p (sound_s.below n p _ at_n refl) (old n _ at_n) (sound_s.stands n _ at_n)

  hubbed : (n : ℕ) (place : Place) (kind : Kind) → slice_get s n ≡ Some (Open place kind) → IsHubbed (take n s) place kind
  hubbed n place (Sub g) at_n =
      let well : IsHubbed s place (Sub g) = sound_s.subscribes n (Open place (Sub g)) at_n in
      (at_front makes_hub n g below (old n _ at_n) well.0, in_order place at_n well.1) where
        there : slice_get h n ≡ Some (Open place (Sub g))
        there = (made_there n _ at_n refl).1

        below : g < n
        below = within_front h n g (slice_get_within h n _ there) (at_within makes_hub (take n h) g (hubbed_before b h law n place (Sub g) there).0)

        in_order : (place : Place) → slice_get s n ≡ Some (Open place (Sub g)) → IsInOrder s g place → IsInOrder (take n s) g place
        in_order Root at_n order = tt
        in_order (Source p) at_n order = order_front s n g p (old n _ at_n) (sound_s.below n p _ at_n refl) order
        in_order (Inner p) at_n order = order_front s n g p (old n _ at_n) (sound_s.below n p _ at_n refl) order
        in_order (Notifier p) at_n order = order_front s n g p (old n _ at_n) (sound_s.below n p _ at_n refl) order
  hubbed n place Leaf at_n = tt
  hubbed n place _ at_n = tt

  connects : (c g : ℕ) → slice_get s c ≡ Some (Connect g) → at makes_hub (take c s) g ≡ true
  connects c g at_c =
      let there : slice_get h c ≡ Some (Connect g) = (made_there c _ at_c refl).1 in
      let below : g < c = within_front h c g (slice_get_within h c _ there) (at_within makes_hub (take c h) g (hub_before b h law c g there)) in
      at_front makes_hub c g below (old c _ at_c) (sound_s.stands c _ at_c)

  -- an acceptance names an open node before it, or itself
  data AcceptsAt (r n : ℕ) : Type 0 where
    owned_at : n ≤ r → is_open s n ≡ true → AcceptsAt r n
    at_itself : n ≡ r → AcceptsAt r n

  accept_at : (r n tag : ℕ) → slice_get s r ≡ Some (Accept n tag) → AcceptsAt r n
  accept_at r n tag at_r = by_state (is_owned h r) refl (is_untaken h r) refl where
    node_is : (x y : ℕ) → Some (Accept x y) ≡ Some (Accept n tag) → x ≡ n
    node_is x y same = same_Some x n (ap (Rattle.std.specs.Option.option_and_then node_of_accept) same)

    by_state : (x : Bool) → is_owned h r ≡ x → (y : Bool) → is_untaken h r ≡ y → AcceptsAt r n
    by_state true owned y untaken =
        let there : slice_get h r ≡ Some (Accept n tag) = sym (s_owned b h sound r owned) ∙ at_r in
        owned_at (node_of-lt b h law r n (ap (Rattle.std.specs.Option.option_and_then node_of_accept) there))
        (sym (alike.same_open n) ∙ sym (ap (λ o. option_map_or (is_open h) (Rattle.std.specs.Option.option_and_then node_of_accept o) false) there) ∙
        owned_node b h sound r owned)
    by_state false owned true untaken = at_itself (sym (node_is r (keep_resource b h r).tag (sym (s_unowned b h r untaken owned) ∙ at_r)))
    by_state false owned false none = absurd (both_ways _ (s_no_resource b h r none) (ap (λ o. option_map_or makes_resource o false) at_r))

  -- a lease names a resource before it
  leases : (l r : ℕ) → slice_get s l ≡ Some (Lease r) → at makes_resource (take l s) r ≡ true
  leases l r at_l = by_state (is_out h l) refl where
    by_state : (x : Bool) → is_out h l ≡ x → at makes_resource (take l s) r ≡ true
    by_state true out =
        let there : slice_get h l ≡ Some (Lease r) = sym (s_lease b h l out) ∙ at_l in
        at_front makes_resource l r (lease_older b h law l r there) (old l _ at_l)
        (s_resource_at b h sound r ∙ ap (λ c. c || is_waiting h r) (leased_held h r (out_leased b h law l r there out)))
    by_state false back = absurd (both_ways _ (s_no_lease b h l back) (ap (λ o. option_map_or makes_lease o false) at_l))

  past : (n : ℕ) → length s ≤ n → length h ≤ n
  past n l = rw (← length_base b h) l

  unnumbered : (r : ℕ) → length s ≤ r → resource_kept (base_of b h) r ≡ None
  unnumbered r l = search (rules, resource_of_base, cond, is_held_past, past, is_waiting_past)

  unused : (r : ℕ) → length s ≤ r → uses (base_of b h) s r ≡ 0
  unfolding uses
  unused r l = search (rules, option_map_or, count_by, unnumbered, s_unused)

  paid : (f : ℕ) → count_by (pays f) s ≤ projected_by (base_of b h) s f
  paid f = by_test (is_open h f) refl where
    pays_named : (x : Event) → is_making x ≡ true → pays f x ≡ true → parent_named x ≡ Some f
    pays_named x0 making p = search (rules, eqb-true, false≢true)

    by_test : (o : Bool) → is_open h f ≡ o → count_by (pays f) s ≤ projected_by (base_of b h) s f
    by_test true o = s_paid b h sound f o
    by_test false closed =
        let none : count_by (pays f) s ≡ 0 = count_none (pays f) s
        (λ i x at_i. never (pays f x) (λ p. both_ways _ closed (parent_there i f x at_i (pays_named x (s_making b h i x at_i) p)))) in omega arith

  at_there : (q : Event → Bool) → ((e : Event) → q e ≡ true → makes_node e ≡ true) → (n : ℕ) → at q s n ≡ true → at q h n ≡ true
  at_there q makes n passes = search (rules, slice_get, option_map_or, false≢true, made_there)

  makes_source : (f : ℕ) (e : Event) → is_source_of f e ≡ true → makes_node e ≡ true
  makes_source f e source = grind arith

  pub base_started : Started (base_of b h)
  base_started =
      record {
        names = names;
        placed = placed;
        hubbed = hubbed;
        connects = connects;
        accepts = λ r n tag at_r. search (rules, accept_at);
        holds = λ r n tag at_r less. search (rules, accept_at);
        one_source = λ f x y one other. one_source b h law f x y (at_there (is_source_of f) (makes_source f) x one)
            (at_there (is_source_of f) (makes_source f) y other);
        leases = leases;
        one_inner = λ f x y switch one one_open other other_open. s_one_inner b h sound f x y
            (record { switch = switch; one = one; one_open = one_open; other = other; other_open = other_open });
        one_connection = λ g x y one one_open other other_open. base_one_connection b h sound (one_connection b h law) g x y
            (record { one = one; one_open = one_open; other = other; other_open = other_open });
        unused = unused;
        parts = agree_accepted b h (base_of b h) s (base_agrees b h law settled) (accepted_count-parts b h law);
        unkept = λ n l. node_of_base b h n ∙ ap (λ c. cond c (Some (keep_node b h n)) None) (is_open_past h n (past n l));
        paid = paid;
        plain = λ f o none.
            let was : is_open h f ≡ true = alike.same_open f ∙ o in
            sym (s_debts b h sound f was) ∙ owed_plain b h law f was (ap (λ x. option_map_or is_merging x false) (alike.same_made f was) ∙ none);
        settled = shown_settled b h law settled;
        alive = λ n e at_n made. sym (alike.same_open n) ∙ (made_there n e at_n made).0;
        making = s_making b h;
        unnumbered = unnumbered;
        reads_owned = sound_s.accepted;
        undue = base_undue b h law settled;
      }
