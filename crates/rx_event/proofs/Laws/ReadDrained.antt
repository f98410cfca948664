-- Taking all that waits, in whatever order, leaves two histories the same that were the same but for their numbers.
use Rattle.rx_event.proofs.Laws.Common.{◌≡◌, ℕ, ◌<◌, Bool, true, false, List, [], ◌∷◌, ◌++◌, length, Option, Some, cond, map, slice_get, refl, sym, ap}
use Rattle.rx_event.proofs.Laws.Common.{◌∙◌, inl, inr, ◌⊎◌, arith, append-nil, not, ◌&&◌, count_by, option_map_or, false≢true, both_ways}
use Rattle.rx_event.proofs.Laws.Common.{false_from_ne_true, sum_by_push, slice_get_within, none-some, Terminal, Kept, shown, Mode, Event, Hub, Accept, Lease}
use Rattle.rx_event.proofs.Laws.Common.{Take, makes_node, makes_resource, makes_lease, at, places, is_open, is_owned, is_out, leases_of, is_held, is_taken}
use Rattle.rx_event.proofs.Laws.Common.{is_waiting, uses, waiting_resources, SourceEnded, MayFollow, IsLawful, event_by, is_named, and_true, length-map}
use Rattle.rx_event.proofs.Laws.Common.{length-filter, held_resources, accepted_count, taken_count, held_count, waiting_count, notes_to, IsRead}
use Rattle.rx_event.proofs.Laws.Common.{AreRenumbered, AreSameBy}
use Rattle.rx_event.specs.Renumbered.{IsShown}
use Rattle.rx_event.proofs.Laws.Lists.{filter_nonempty}
use Rattle.rx_event.proofs.Laws.Places.{slice_get-append, at_within, cases_push}
use Rattle.rx_event.proofs.Laws.Openness.{is_open_within, is_open_unchanged}
use Rattle.rx_event.proofs.Laws.Lawful.{IsLawful-push}
use Rattle.rx_event.proofs.Laws.Resources.{is_owned_kept, is_held_kept, held_not_taken, held_resource, is_held_within, is_waiting_within}
use Rattle.rx_event.proofs.Laws.Leases.{is_out-push, leases_of_still}
use Rattle.rx_event.proofs.Laws.Totals.{uses-push, accepted_count-parts}
use Rattle.rx_event.proofs.Laws.Notes.{notes_to-push}
use Rattle.rx_event.proofs.Laws.Waits.{at_before, source_ended-push}
use Rattle.rx_event.proofs.Laws.MarksAfter.{marks_kept}
use Rattle.rx_event.proofs.Laws.OneEnd.{ends_as, source_ended_before}
use Rattle.rx_event.proofs.Laws.ReadShown.{made_at, resource_named, resource_made, lease_made}
use Rattle.rx_event.proofs.Laws.RisingLists.{same_list}
use Rattle.std.proofs.Common.{rules}

-- from h on resources were taken, and nothing else happened
pub data TakesOn (base : Kept) (h : List Event) : List Event → Type 0 where
  takes_none : TakesOn base h h
  takes_one : {k : List Event} {q : ℕ} → TakesOn base h k → MayFollow base k (Take q) → TakesOn base h (k ++ Take q ∷ [])

-- all that a report shows but what was taken
record IsShownBut (base : Kept) (r s : ℕ → ℕ) (h c : List Event) : Type 0 where
  pub kept : (n : ℕ) (e : Event) → is_named e ≡ true → slice_get h n ≡ Some e → slice_get c (r n) ≡ Some (event_by r e)
  pub apart : (n : ℕ) → at is_named h n ≡ true → s (r n) ≡ n
  pub in_order : (m n : ℕ) → at is_named h m ≡ true → at is_named h n ≡ true → m < n → r m < r n
  pub told : (n : ℕ) → at makes_node h n ≡ true → notes_to c (r n) ≡ notes_to h n
  pub owned : (q : ℕ) → at makes_resource h q ≡ true → is_owned c (r q) ≡ is_owned h q
  pub leases : (q : ℕ) → at makes_resource h q ≡ true → leases_of c (r q) ≡ leases_of h q
  pub held : (q : ℕ) → at makes_resource h q ≡ true → is_held c (r q) ≡ is_held h q
  pub out : (l : ℕ) → at makes_lease h l ≡ true → is_out c (r l) ≡ is_out h l
  pub used : (q : ℕ) → at makes_resource h q ≡ true → uses base c (r q) ≡ uses base h q
  pub node_total : count_by makes_node c ≡ count_by makes_node h
  pub accepted_total : accepted_count base c ≡ accepted_count base h

-- what one taking leaves --------------------------------------------------------------------------------------------------------------

notes_take : (h : List Event) (q n : ℕ) → notes_to (h ++ Take q ∷ []) n ≡ notes_to h n
notes_take h q n = notes_to-push h (Take q) n ∙ append-nil (notes_to h n)

uses_take : (base : Kept) → (h : List Event) (q n : ℕ) → uses base (h ++ Take q ∷ []) n ≡ uses base h n
uses_take base h q n = let push = uses-push base h (Take q) n in omega arith

out_take : (h : List Event) (q l : ℕ) → l < length h → is_out (h ++ Take q ∷ []) l ≡ is_out h l
out_take h q l less = is_out-push h (Take q) l less ∙ and_true (is_out h l)

counts_take : (p : Event → Bool) (h : List Event) (q : ℕ) → p (Take q) ≡ false → count_by p (h ++ Take q ∷ []) ≡ count_by p h
counts_take p h q fails = search (rules, count_by, cond, sum_by_push)

accepted_take : (base : Kept) → (h : List Event) (q : ℕ) → accepted_count base (h ++ Take q ∷ []) ≡ accepted_count base h
accepted_take base h q = search (rules, count_by, counts_take)

hub_take : (h : List Event) (q g : ℕ) (mode : Mode) → slice_get (h ++ Take q ∷ []) g ≡ Some (Hub mode) → slice_get h g ≡ Some (Hub mode)
hub_take h q g mode at_g = search (rules, cases_push, slice_get)

named_take : (h : List Event) (q n : ℕ) (e : Event) → is_named e ≡ true → slice_get (h ++ Take q ∷ []) n ≡ Some e → slice_get h n ≡ Some e
named_take h q n e named at_n = search (rules, cases_push, slice_get, false≢true)

kept_take : (h : List Event) (q n : ℕ) (e : Event) → slice_get h n ≡ Some e → slice_get (h ++ Take q ∷ []) n ≡ Some e
kept_take h q n e at_n = slice_get-append h (Take q ∷ []) n (slice_get_within h n e at_n) ∙ at_n

module _ (base : Kept) (r s : ℕ → ℕ) (h c : List Event) (there : IsRead base base r s h c) (q : ℕ) where
  -- taken in the one
  read_left : IsLawful base h → MayFollow base h (Take q) → IsRead base base r s (h ++ Take q ∷ []) c
  read_left law next = record {
    alive = λ n o. there.alive n (was n o);
    undone = λ n o. there.undone n (was n o);
    order = λ m n o p l. there.order m n (was m o) (was n p) l;
    made = λ n e o at_n. there.made n e (was n o) (sym (slice_get-append h (Take q ∷ []) n (is_open_within h n (was n o))) ∙ at_n);
    marks = λ n o. there.marks n (was n o) ∙ sym (marks_kept base h (Take q) law next refl n (is_open_within h n (was n o)));
    hub = λ g mode at_g. there.hub g mode (hub_take h q g mode at_g);
    hub_undone = λ g mode at_g. there.hub_undone g mode (hub_take h q g mode at_g);
    ended = λ n t o x. by_case n t (was n o) (source_ended_before base h (Take q) law n t x);
  } where
    was : (n : ℕ) → is_open (h ++ Take q ∷ []) n ≡ true → is_open h n ≡ true
    was n o = sym (is_open_unchanged h (Take q) refl refl n) ∙ o

    by_case : (n : ℕ) (t : Terminal) → is_open h n ≡ true → (SourceEnded h n t × (n < length h)) ⊎ (ends_as (Take q) ≡ Some t) → SourceEnded c (r n) t
    by_case n t o (inl (x, l)) = there.ended n t o x
    by_case n t o (inr ends) = absurd (none-some t ends)

  -- and in the other
  read_right : IsLawful base c → MayFollow base c (Take q) → IsRead base base r s h (c ++ Take q ∷ [])
  read_right law next = record {
    alive = λ n o. is_open_unchanged c (Take q) refl refl (r n) ∙ there.alive n o;
    undone = there.undone;
    order = there.order;
    made = λ n e o at_n. kept_take c q (r n) (event_by r e) (there.made n e o at_n);
    marks = λ n o. marks_kept base c (Take q) law next refl (r n) (is_open_within c (r n) (there.alive n o)) ∙ there.marks n o;
    hub = λ g mode at_g. kept_take c q (r g) (Hub mode) (there.hub g mode at_g);
    hub_undone = there.hub_undone;
    ended = λ n t o x. source_ended-push base c (Take q) (r n) t (there.ended n t o x);
  }

module _ (base : Kept) (r s : ℕ → ℕ) (h c : List Event) (shown : IsShownBut base r s h c) (q : ℕ) where
  shown_left : IsLawful base h → IsShownBut base r s (h ++ Take q ∷ []) c
  shown_left law = record {
    kept = λ n e named at_n. shown.kept n e named (named_take h q n e named at_n);
    apart = λ n named. shown.apart n (at_before is_named h (Take q) n refl named);
    in_order = λ m n named also l. shown.in_order m n (at_before is_named h (Take q) m refl named) (at_before is_named h (Take q) n refl also) l;
    told = λ n node. shown.told n (at_before makes_node h (Take q) n refl node) ∙ sym (notes_take h q n);
    held = λ p made.
        let was : at makes_resource h p ≡ true = at_before makes_resource h (Take q) p refl made in
        shown.held p was ∙ sym (is_held_kept (Take q) law p (at_within makes_resource h p was) refl refl refl refl);
    owned = λ p made.
        let was : at makes_resource h p ≡ true = at_before makes_resource h (Take q) p refl made in
        shown.owned p was ∙ sym (is_owned_kept base h (Take q) law p (at_within makes_resource h p was) refl refl);
    leases = λ p made. shown.leases p (at_before makes_resource h (Take q) p refl made) ∙ sym (leases_of_still base h (Take q) law refl p refl);
    out = λ l made.
        let was : at makes_lease h l ≡ true = at_before makes_lease h (Take q) l refl made in
        shown.out l was ∙ sym (out_take h q l (at_within makes_lease h l was));
    used = λ p made. shown.used p (at_before makes_resource h (Take q) p refl made) ∙ sym (uses_take base h q p);
    node_total = shown.node_total ∙ sym (counts_take makes_node h q refl);
    accepted_total = shown.accepted_total ∙ sym (accepted_take base h q);
  }

  shown_right : IsLawful base c → IsShownBut base r s h (c ++ Take q ∷ [])
  shown_right law = record {
    kept = λ n e named at_n. kept_take c q (r n) (event_by r e) (shown.kept n e named at_n);
    apart = shown.apart;
    in_order = shown.in_order;
    told = λ n node. notes_take c q (r n) ∙ shown.told n node;
    held = λ p made.
        let w = resource_made h p made in
        is_held_kept (Take q) law (r p) (slice_get_within c (r p) _ (shown.kept p (Accept w.0 w.1) refl w.2)) refl refl refl refl ∙ shown.held p made;
    owned = λ p made.
        let w = resource_made h p made in
        is_owned_kept base c (Take q) law (r p) (slice_get_within c (r p) _ (shown.kept p (Accept w.0 w.1) refl w.2)) refl refl ∙ shown.owned p made;
    leases = λ p made. leases_of_still base c (Take q) law refl (r p) refl ∙ shown.leases p made;
    out = λ l made.
        let w = lease_made h l made in
        out_take c q (r l) (slice_get_within c (r l) _ (shown.kept l (Lease w.0) refl w.1)) ∙ shown.out l made;
    used = λ p made. uses_take base c q (r p) ∙ shown.used p made;
    node_total = counts_take makes_node c q refl ∙ shown.node_total;
    accepted_total = accepted_take base c q ∙ shown.accepted_total;
  }

-- the same but for what was taken
record SameBut (base : Kept) (r s : ℕ → ℕ) (h c : List Event) : Type 0 where
  pub numbers : AreRenumbered base r s h c
  pub shown : IsShownBut base r s h c
  pub shown_back : IsShownBut base s r c h

takes_left : (base : Kept) → {r s : ℕ → ℕ} {h k c : List Event} → TakesOn base h k → SameBut base r s h c → SameBut base r s k c
takes_left base takes_none a = a
takes_left base {r = r} {s = s} {h = h} {c = c} (takes_one {k = k} {q = q} on next) a = one_more_taken (takes_left base on a) where
  one_more_taken : SameBut base r s k c → SameBut base r s (k ++ Take q ∷ []) c
  one_more_taken b = record {
    numbers = record {
      law = IsLawful-push base k (Take q) b.numbers.law next;
      other_law = b.numbers.other_law;
      there = read_left base r s k c b.numbers.there q b.numbers.law next;
      back = read_right base s r c k b.numbers.back q b.numbers.law next;
    };
    shown = shown_left base r s k c b.shown q b.numbers.law;
    shown_back = shown_right base s r c k b.shown_back q b.numbers.law;
  }

swapped : (base : Kept) → {r s : ℕ → ℕ} {h c : List Event} → SameBut base r s h c → SameBut base s r c h
swapped base a = record {
  numbers = record { law = a.numbers.other_law; other_law = a.numbers.law; there = a.numbers.back; back = a.numbers.there };
  shown = a.shown_back;
  shown_back = a.shown;
}

-- where nothing waits --------------------------------------------------------------------------------------------------------------------

none_waiting : (h : List Event) → waiting_resources h ≡ [] → (p : ℕ) → is_waiting h p ≡ false
none_waiting h none p = false_from_ne_true (is_waiting h p) (λ waits.
    let l : p < length h = is_waiting_within h p waits in
    filter_nonempty (is_waiting h) 0 (length h) p (omega arith) (omega arith) waits none)

-- what is not held was taken
taken_where : (base : Kept) → (h : List Event) → IsLawful base h → (p : ℕ) → at makes_resource h p ≡ true → is_waiting h p ≡ false →
    is_taken h p ≡ not (is_held h p)
unfolding is_waiting
taken_where base h law p made waits = by_test (is_held h p) refl (is_taken h p) refl (λ i. made i && not (is_held h p) && not (is_taken h p)) where
  by_test : (held : Bool) → is_held h p ≡ held → (taken : Bool) → is_taken h p ≡ taken →
      (at makes_resource h p && not (is_held h p) && not (is_taken h p)) ≡ (true && not (is_held h p) && not (is_taken h p)) → taken ≡ not held
  by_test true holds true is same = absurd (both_ways (is_taken h p) (held_not_taken base h law p holds) is)
  by_test false holds false is same = absurd (false≢true (sym waits ∙ same ∙ (λ i. true && not (holds i) && not (is i))))
  by_test _ holds _ is same = refl

module _ (base : Kept) (r s : ℕ → ℕ) (k j : List Event) (b : SameBut base r s k j) (none : waiting_resources k ≡ [])
    (none_there : waiting_resources j ≡ []) where
  made_there : (p : ℕ) → at makes_resource k p ≡ true → at makes_resource j (r p) ≡ true
  made_there p made =
      let w = resource_made k p made in ap (λ (x : Option Event). option_map_or makes_resource x false) (b.shown.kept p (Accept w.0 w.1) refl w.2)

  taken_same : (p : ℕ) → at makes_resource k p ≡ true → is_taken j (r p) ≡ is_taken k p
  taken_same p made = taken_where base j b.numbers.other_law (r p) (made_there p made) (none_waiting j none_there (r p)) ∙ ap not (b.shown.held p made) ∙
      sym (taken_where base k b.numbers.law p made (none_waiting k none p))

held_back : (base : Kept) → (r s : ℕ → ℕ) (k j : List Event) (b : SameBut base r s k j) (p : ℕ) → is_held j p ≡ true → (is_held k (s p) ≡ true) × (r (s p) ≡ p)
held_back base r s k j b p held =
    let made : at makes_resource j p ≡ true = held_resource j p held in
    (b.shown_back.held p made ∙ held, b.shown_back.apart p (made_at makes_resource is_named resource_named j p made))

held_lists : (base : Kept) → (r s : ℕ → ℕ) (k j : List Event) (b : SameBut base r s k j) → held_resources j ≡ map r (held_resources k)
held_lists base r s k j b = same_list r s (is_held k) (is_held j) (length k) (length j) (record {
  within = is_held_within k;
  within_there = is_held_within j;
  there = λ p held. b.shown.held p (held_resource k p held) ∙ held;
  back = held_back base r s k j b;
  grows = λ m n held also l. b.shown.in_order m n (made_at makes_resource is_named resource_named k m (held_resource k m held))
      (made_at makes_resource is_named resource_named k n (held_resource k n also)) l;
})

taken_totals : (base : Kept) → (r s : ℕ → ℕ) (k j : List Event) (b : SameBut base r s k j) → waiting_resources k ≡ [] → waiting_resources j ≡ [] →
    taken_count base j ≡ taken_count base k
taken_totals base r s k j b none none_there =
    let held : held_count j ≡ held_count k = sym (length-filter (is_held j) (places j)) ∙ ap length (held_lists base r s k j b) ∙
    length-map (held_resources k) r ∙ length-filter (is_held k) (places k) in
    let one : waiting_count k ≡ 0 = sym (length-filter (is_waiting k) (places k)) ∙ ap length none in
    let other : waiting_count j ≡ 0 = sym (length-filter (is_waiting j) (places j)) ∙ ap length none_there in
    let parts = accepted_count-parts base k b.numbers.law in
    let parts_there = accepted_count-parts base j b.numbers.other_law in
    let total = b.shown.accepted_total in omega arith

shown_again : (base : Kept) → (r s : ℕ → ℕ) (k j : List Event) (b : SameBut base r s k j) → waiting_resources k ≡ [] → waiting_resources j ≡ [] →
    IsShown base r s k j
shown_again base r s k j b none none_there = record {
  kept = b.shown.kept;
  apart = b.shown.apart;
  in_order = b.shown.in_order;
  told = b.shown.told;
  owned = b.shown.owned;
  leases = b.shown.leases;
  held = b.shown.held;
  out = b.shown.out;
  taken = taken_same base r s k j b none none_there;
  used = b.shown.used;
  node_total = b.shown.node_total;
  accepted_total = b.shown.accepted_total;
  taken_total = taken_totals base r s k j b none none_there;
}

but : (base : Kept) → {r s : ℕ → ℕ} {h c : List Event} → IsShown base r s h c → IsShownBut base r s h c
but base shown = record {
  kept = shown.kept;
  apart = shown.apart;
  in_order = shown.in_order;
  told = shown.told;
  owned = shown.owned;
  leases = shown.leases;
  held = shown.held;
  out = shown.out;
  used = shown.used;
  node_total = shown.node_total;
  accepted_total = shown.accepted_total;
}

-- Two drains, in whatever orders
pub drained_same : {base : Kept} → {r s : ℕ → ℕ} {h : List Event} (c k j : List Event) → AreSameBy base r s h c → TakesOn base h k → waiting_resources k ≡ [] →
    TakesOn base c j → waiting_resources j ≡ [] → AreSameBy base r s k j
drained_same {base} {r} {s} c k j a on_k none on_j none_there =
    let b : SameBut base r s k j = swapped base (takes_left base on_j
    (swapped base (takes_left base on_k (record { numbers = a.numbers; shown = but base a.shown; shown_back = but base a.shown_back })))) in
    record { numbers = b.numbers; shown = shown_again base r s k j b none none_there; shown_back = shown_again base s r j k (swapped base b) none_there none }
