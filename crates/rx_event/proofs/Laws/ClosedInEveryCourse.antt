-- Whatever one course of what is due closes, another closes too, once nothing is left to be done in it.
use Rattle.rx_event.proofs.Laws.Common.{◌≡◌, ℕ, ◌<◌, Bool, true, false, List, [], ◌∷◌, ◌++◌, length, Some, slice_get, refl, sym, ap, ◌∙◌, inl, inr}
use Rattle.rx_event.proofs.Laws.Common.{◌==◌, arith, not, AllByRecursion, list_any, false≢true, both_ways, false_from_ne_true, or_cases, eqb-true}
use Rattle.rx_event.proofs.Laws.Common.{and_from, same_Some, none-some, Terminal, Completed, Error, Kept, Event, Connect, End}
use Rattle.rx_event.proofs.Laws.Common.{Close, is_mirroring, is_merging, is_until, is_source_of, is_subscriber_of, is_auto_hub, at, parent, ancestors}
use Rattle.rx_event.proofs.Laws.Common.{is_open, is_within, mirrored, fired, failed, completed, cut, left, due, SourceEnded, IsDue}
use Rattle.rx_event.proofs.Laws.Common.{IsConnected, IsSettled, source_completed, IsLawful, ChildEnded}
use Rattle.rx_event.specs.Forced.{Has}
use Rattle.rx_event.proofs.Laws.Openness.{is_open_within, is_open_outside-end, is_open_outside-close, ancestors_open}
use Rattle.rx_event.proofs.Laws.Stands.{connection_parent}
use Rattle.rx_event.proofs.Laws.Calm.{subscriber_listed, none_subscribed}
use Rattle.rx_event.proofs.Laws.MarksFound.{completed_by, completed_kept, source_completed_true, source_completed_has}
use Rattle.rx_event.proofs.Laws.MarksEnds.{source_parent}
use Rattle.rx_event.proofs.Laws.Dues.{IsDueOn, none_more, one_more, Fails, at_on, parent_on, ancestors_on, kept_on, connect_on, was_open_on, owed_on}
use Rattle.rx_event.proofs.Laws.Dues.{fired_on, connected_on, lawful_on, EndsSo, ends_one, EndStands, stood_before, came_after, end_stands, HowClosed}
use Rattle.rx_event.proofs.Laws.Dues.{ended_so, left_alone, closed_with, how_closed, IsClosing, by_end, by_close, closing_of}
use Rattle.std.proofs.Common.{rules}

-- the node that the event takes away
abbrev pub taken_away : Event → ℕ
taken_away (End n t) = n
taken_away (Close n) = n
taken_away _ = 0

mirroring_fails : Fails is_mirroring
mirroring_fails = record { at_end = λ c t. refl; at_close = λ c. refl }

merging_fails : Fails is_merging
merging_fails = record { at_end = λ c t. refl; at_close = λ c. refl }

until_fails : Fails is_until
until_fails = record { at_end = λ c t. refl; at_close = λ c. refl }

auto_fails : Fails is_auto_hub
auto_fails = record { at_end = λ c t. refl; at_close = λ c. refl }

pub source_fails : (f : ℕ) → Fails (is_source_of f)
source_fails f = record { at_end = λ c t. refl; at_close = λ c. refl }

subscriber_fails : (g : ℕ) → Fails (is_subscriber_of g)
subscriber_fails g = record { at_end = λ c t. refl; at_close = λ c. refl }

-- Two courses of what is due after b: p, which may go on, and k, after which nothing is forced. What k leaves open p has not closed so far
-- of two courses of what is due after b, k has come to its end, and what it leaves open p has left open so far
pub record ArriveApart (base : Kept) (b p k : List Event) : Type 0 where
  pub law : IsLawful base b
  pub whole : IsConnected b
  pub on_p : IsDueOn base b p
  pub on_k : IsDueOn base b k
  pub settled : IsSettled base k
  pub spares : (n : ℕ) → is_open k n ≡ true → is_open p n ≡ true

module _ {base : Kept} {b p k : List Event} (both : ArriveApart base b p k) where
  open both use {law, whole, on_p, on_k, settled, spares}

  closed_in_k : (n : ℕ) → is_open p n ≡ false → is_open k n ≡ false
  closed_in_k n closed = false_from_ne_true (is_open k n) (λ o. both_ways (is_open p n) closed (spares n o))

  none_due : {e : Event} → IsDue base k e → ⊥
  none_due {e = e} d = settled.none e (due (connected_on base on_k whole) d)

  same_at : (q : Event → Bool) → Fails q → (n : ℕ) → at q p n ≡ true → at q k n ≡ true
  same_at q fails n holds = at_on base q fails on_k n ∙ sym (at_on base q fails on_p n) ∙ holds

  same_parent : (n : ℕ) → parent p n ≡ parent k n
  same_parent n = parent_on base on_p n ∙ sym (parent_on base on_k n)

  -- a child that ended in p ended so in k, where its parent is open
  pub ended_in_k : (d c : ℕ) (t : Terminal) → parent p d ≡ Some c → is_open k c ≡ true → Has p (End d t) → Has k (End d t)
  ended_in_k d c t below alive ended = by_place (end_stands base on_p law whole d t ended.place ended.found) where
    under : parent k d ≡ Some c
    under = sym (same_parent d) ∙ below

    by_way : EndsSo base b t → HowClosed base b k d → Has k (End d t)
    by_way so (ended_so {t = u} place far found other) = record { place = place; found = found ∙ ap (λ v. Some (End d v)) (ends_one base b law u t other so) }
    by_way so (left_alone g at_d none) = absurd (none-some c (sym (connection_parent k d g at_d) ∙ under))
    by_way so (closed_with q above gone) = absurd (both_ways (is_open k c) (sym (ap (is_open k) (same_Some q c (sym above ∙ under))) ∙ gone) alive)

    by_place : EndStands base b p d t ended.place → Has k (End d t)
    by_place (stood_before found) = record { place = ended.place; found = kept_on base on_k ended.place _ found }
    by_place (came_after was gone so) = by_way so (how_closed base on_k law whole d was (closed_in_k d gone))

  child_in_k : (c : ℕ) (t : Terminal) → is_open k c ≡ true → ChildEnded p c t → ChildEnded k c t
  child_in_k c t alive child = search (rules, same_parent, ended_in_k)

  -- a connection that ended in p ended so in k, where a subscriber of its hub is open
  source_in_k : (s : ℕ) (t : Terminal) → is_open k s ≡ true → SourceEnded p s t → SourceEnded k s t
  source_in_k s t alive x = by_place (end_stands base on_p law whole x.connection t x.place x.ended) where
    subscribes : at (is_subscriber_of x.hub) k s ≡ true
    subscribes = same_at (is_subscriber_of x.hub) (subscriber_fails x.hub) s x.subscribes

    connects : slice_get k x.connection ≡ Some (Connect x.hub)
    connects = kept_on base on_k x.connection _ (connect_on base on_p x.connection x.hub x.connects)

    old : s < length b
    old = is_open_within b s (was_open_on base on_k s alive)

    by_way : EndsSo base b t → HowClosed base b k x.connection → SourceEnded k s t
    by_way so (ended_so {t = u} place far found other) = record {
      hub = x.hub;
      connection = x.connection;
      place = place;
      subscribes = subscribes;
      connects = connects;
      later = (let l = old in omega arith);
      ended = found ∙ ap (λ v. Some (End x.connection v)) (ends_one base b law u t other so);
    }
    by_way so (left_alone g at_c none) = search (rules, connects, subscriber_listed, subscribes)
    by_way so (closed_with q above gone) = absurd (none-some q (sym (connection_parent k x.connection x.hub connects) ∙ above))

    by_place : EndStands base b p x.connection t x.place → SourceEnded k s t
    by_place (stood_before found) = record {
      hub = x.hub;
      connection = x.connection;
      place = x.place;
      subscribes = subscribes;
      connects = connects;
      later = x.later;
      ended = kept_on base on_k x.place _ found;
    }
    by_place (came_after was gone so) = by_way so (how_closed base on_k law whole x.connection was (closed_in_k x.connection gone))

  -- what completed a source in p did so in k
  pub completed_in_k : (n : ℕ) → is_open k n ≡ true → source_completed base p n ≡ true → source_completed base k n ≡ true
  completed_in_k n alive found = elim (completed_by base p n found) [
    | inl kept ↦ completed_kept base k n kept
    | inr listed ↦
        let w = source_completed_true base p n listed in
        source_completed_has base k n w.0 (same_at (is_source_of n) (source_fails n) w.0 w.1)
        (ended_in_k w.0 n Completed (source_parent base p (lawful_on base on_p law whole) n w.0 w.1) alive w.2)
  ]

  -- so what is due in p at a node that k leaves open is due in k: each rule in turn
  due_in_k : {e : Event} → IsDue base p e → is_open k (taken_away e) ≡ true → IsDue base k e
  due_in_k (mirrored {p = c} {t = t} o m child) alive = mirrored alive (same_at is_mirroring mirroring_fails c m) (child_in_k c t alive child)
  due_in_k (fired {u = u} o m f) alive = fired alive (same_at is_until until_fails u m) (fired_on base on_k u ∙ sym (fired_on base on_p u) ∙ f)
  due_in_k (failed {f = f} {c = code} o m child) alive = failed alive (same_at is_merging merging_fails f m) (child_in_k f (Error code) alive child)
  due_in_k (completed {f = f} o m unfailed source below paid) alive =
      let merges : at is_merging k f ≡ true = same_at is_merging merging_fails f m in
      completed alive merges (λ code child. none_due (failed alive merges child)) (completed_in_k f alive source)
      (λ d under. closed_in_k d (below d (same_parent d ∙ under))) (owed_on base on_k f ∙ sym (owed_on base on_p f) ∙ paid)
  due_in_k (cut {s = s} {t = t} o x) alive = cut alive (source_in_k s t alive x)
  due_in_k (left {c = c} {g = g} o at_c auto none) alive =
      left alive (kept_on base on_k c _ (connect_on base on_p c g at_c)) (same_at is_auto_hub auto_fails g auto)
      (none_subscribed k g (λ s subscribes still. subscriber_listed p g s
      (at_on base (is_subscriber_of g) (subscriber_fails g) on_p s ∙ sym (at_on base (is_subscriber_of g) (subscriber_fails g) on_k s) ∙ subscribes)
      (spares s still) none))

  -- and since nothing is, k leaves no such node open
  closes_in_k : {e : Event} → IsDue base p e → is_open k (taken_away e) ≡ true → ⊥
  closes_in_k d alive = none_due (due_in_k d alive)

-- two courses ----------------------------------------------------------------------------------------------

all_any : (P : ℕ → Type 0) (c : ℕ) (xs : List ℕ) → AllByRecursion P xs → list_any (λ a. c == a) xs ≡ true → P c
all_any P c [] all found = absurd (false≢true found)
all_any P c (x ∷ xs) all found = search (rules, or_cases, list_any, eqb-true, all_any P c xs all.1)

-- what stands above an open node is open
pub open_above : (h : List Event) (c n : ℕ) → is_open h n ≡ true → is_within h c n ≡ true → is_open h c ≡ true
open_above h c n o inside = all_any (λ a. is_open h a ≡ true) c (ancestors h n) (ancestors_open h n o) inside

not_within : (a : Bool) → (a ≡ true → ⊥) → not a ≡ true
not_within a out = grind arith

spared_step : {base : Kept} {b p k : List Event} → ArriveApart base b p k → {e : Event} → IsDue base p e → IsClosing base p e → (n : ℕ) →
    is_open k n ≡ true → is_open (p ++ e ∷ []) n ≡ true
spared_step {base} {b} {p} {k} both d closing n o = by_closing closing d where
  old : n < length b
  old = is_open_within b n (was_open_on base both.on_k n o)

  above : (c : ℕ) → is_within p c n ≡ true → is_open k c ≡ true
  above c inside = open_above k c n o (ap (list_any (λ a. c == a)) (ancestors_on base both.on_k n old ∙ sym (ancestors_on base both.on_p n old)) ∙ inside)

  by_closing : {x : Event} → IsClosing base p x → IsDue base p x → is_open (p ++ x ∷ []) n ≡ true
  by_closing (by_end c {t = t} y alive) d = is_open_outside-end p c t n ∙
      and_from _ _ (both.spares n o) (not_within (is_within p c n) (λ inside. closes_in_k both d (above c inside)))
  by_closing (by_close c g at_c none alive) d = is_open_outside-close p c n ∙
      and_from _ _ (both.spares n o) (not_within (is_within p c n) (λ inside. closes_in_k both d (above c inside)))

-- what k leaves open no course has closed
pub spared : {base : Kept} → {b p : List Event} → IsDueOn base b p → (k : List Event) → IsLawful base b → IsConnected b → IsDueOn base b k →
    IsSettled base k → (n : ℕ) → is_open k n ≡ true → is_open p n ≡ true
spared {base} none_more k law whole on_k settled = λ n o. was_open_on base on_k n o
spared {base} {b = b} (one_more {k = p} on d) k law whole on_k settled =
    spared_step (record { law = law; whole = whole; on_p = on; on_k = on_k; settled = settled; spares = spared on k law whole on_k settled }) d
    (closing_of base d)

-- so two that leave nothing to be done leave the same open
pub same_open : (base : Kept) → {b k j : List Event} → IsLawful base b → IsConnected b → IsDueOn base b k → IsSettled base k → IsDueOn base b j →
    IsSettled base j → (n : ℕ) → is_open k n ≡ is_open j n
same_open base {k = k} {j = j} law whole on_k settled_k on_j settled_j n = search (rules, spared, law, on_k)
