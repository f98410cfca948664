-- What is due, event after event: it ends and closes open nodes, all in one way, and leaves all else as it was.
use Rattle.rx_event.proofs.Laws.Common.{◌≡◌, ℕ, ◌+◌, ◌<◌, ◌≤◌, Bool, true, false, List, [], ◌∷◌, ◌++◌, length, Option, Some, None, cond, slice_get, refl, sym}
use Rattle.rx_event.proofs.Laws.Common.{ap, subst, ◌∙◌, inl, inr, ◌⊎◌, arith, length-append, not, ◌&&◌, ◌||◌, list_any, count_by, option_and_then}
use Rattle.rx_event.proofs.Laws.Common.{option_map_or, cases_order, false≢true, both_ways, sum_by_push, slice_get_within, slice_get_past, same_Some, none-some}
use Rattle.rx_event.proofs.Laws.Common.{Terminal, Kept, Event, Connect, End, Close, parent_named, is_subscriber_of, at, parent, if_less, ancestors, is_open}
use Rattle.rx_event.proofs.Laws.Common.{is_within, open_subscribers, owed, is_fired, mirrored, fired, failed, completed, cut, connecting, due, IsDue, IsForced}
use Rattle.rx_event.proofs.Laws.Common.{IsConnected, forced, stays, more, IsLawful, IsForcedOn, and_false, or_false, list_any-append}
use Rattle.rx_event.proofs.Laws.Places.{slice_get-append, slice_get_last, cases_push}
use Rattle.rx_event.proofs.Laws.Parents.{ancestors-append, within_cases}
use Rattle.rx_event.proofs.Laws.Openness.{is_open_outside-end, is_open_outside-close, open_before}
use Rattle.rx_event.proofs.Laws.Lawful.{IsLawful-push, due_open}
use Rattle.rx_event.proofs.Laws.Totals.{is_within_self}
use Rattle.rx_event.proofs.Laws.Waits.{kept_due}
use Rattle.rx_event.proofs.Laws.Projections.{owed_kept}
use Rattle.rx_event.proofs.Laws.MarksAfter.{is_fired-push}
use Rattle.rx_event.proofs.Laws.Calm.{subscriber_listed, none_subscribed}
use Rattle.rx_event.proofs.Laws.OneEnd.{ends_as, completes, completes_one, fires_it, due_before, one_end}
use Rattle.std.proofs.Common.{rules}

-- From b to k each event was due in the history before it
pub data IsDueOn (base : Kept) (b : List Event) : List Event → Type 0 where
  none_more : IsDueOn base b b
  one_more : {k : List Event} {e : Event} → IsDueOn base b k → IsDue base k e → IsDueOn base b (k ++ e ∷ [])

-- an event that is due ends an open node, or closes an open connection that nobody uses
pub data IsClosing (base : Kept) (h : List Event) : Event → Type 0 where
  by_end : (c : ℕ) {t : Terminal} → IsDue base h (End c t) → is_open h c ≡ true → IsClosing base h (End c t)
  by_close : (c g : ℕ) → slice_get h c ≡ Some (Connect g) → open_subscribers h g ≡ [] → is_open h c ≡ true → IsClosing base h (Close c)

pub closing_of : (base : Kept) → {h : List Event} {e : Event} → IsDue base h e → IsClosing base h e
closing_of base x1 = search (rules, by_end, mirrored, fired, failed, completed, cut, by_close)

inside_by : (a : Bool) → (true && not a) ≡ false → a ≡ true
inside_by a gone = grind arith

-- what it leaves alone ------------------------------------------------------------------------------

-- what reads ends and closings as it reads a place without an event
pub record SeesNone {X : Type 0} (f : Option Event → X) : Type 0 where
  pub no_end : (c : ℕ) (t : Terminal) → f (Some (End c t)) ≡ f None
  pub no_close : (c : ℕ) → f (Some (Close c)) ≡ f None

seen_same : {X : Type 0} (f : Option Event → X) (h : List Event) (e : Event) → f (Some e) ≡ f None → (n : ℕ) → f (slice_get (h ++ e ∷ []) n) ≡ f (slice_get h n)
seen_same {X = X} f h e unseen n = by_place (cases_order n (length h)) where
  by_place : (n ≡ length h) ⊎ ((n < length h) ⊎ (length h < n)) → f (slice_get (h ++ e ∷ []) n) ≡ f (slice_get h n)
  by_place (inr (inl l)) = ap f (slice_get-append h (e ∷ []) n l)
  by_place (inl same) = ap (λ m. f (slice_get (h ++ e ∷ []) m)) same ∙ ap f (slice_get_last h e) ∙ unseen ∙ sym (ap f (slice_get_past h n (omega arith)))
  by_place (inr (inr past)) = ap f (slice_get_past (h ++ e ∷ []) n (omega (arith, length-append h (e ∷ [])))) ∙ sym (ap f (slice_get_past h n (omega arith)))

unseen_closing : (base : Kept) → {X : Type 0} (f : Option Event → X) → SeesNone f → {h : List Event} {e : Event} → IsClosing base h e → f (Some e) ≡ f None
unseen_closing base f sees x3 = search rules

pub seen_on : (base : Kept) → {X : Type 0} (f : Option Event → X) → SeesNone f → {b k : List Event} → IsDueOn base b k → (n : ℕ) →
    f (slice_get k n) ≡ f (slice_get b n)
seen_on base f sees none_more n = refl
seen_on base f sees (one_more {k = k} {e = e} on d) n = seen_same f k e (unseen_closing base f sees (closing_of base d)) n ∙ seen_on base f sees on n

-- a test that fails on ends and closings
pub record Fails (p : Event → Bool) : Type 0 where
  pub at_end : (c : ℕ) (t : Terminal) → p (End c t) ≡ false
  pub at_close : (c : ℕ) → p (Close c) ≡ false

fails_closing : (base : Kept) → (p : Event → Bool) → Fails p → {h : List Event} {e : Event} → IsClosing base h e → p e ≡ false
fails_closing base p fails x3 = search rules

pub at_on : (base : Kept) → (p : Event → Bool) → Fails p → {b k : List Event} → IsDueOn base b k → (n : ℕ) → at p k n ≡ at p b n
at_on base p fails on n = seen_on base (λ o. option_map_or p o false) (record { no_end = fails.at_end; no_close = fails.at_close }) on n

pub any_on : (base : Kept) → (p : Event → Bool) → Fails p → {b k : List Event} → IsDueOn base b k → list_any p k ≡ list_any p b
any_on base p fails none_more = refl
any_on base p fails (one_more {k = k} {e = e} on d) = list_any-append p k (e ∷ []) ∙
    ap (λ c. list_any p k || (c || false)) (fails_closing base p fails (closing_of base d)) ∙ or_false (list_any p k) ∙ any_on base p fails on

pub count_on : (base : Kept) → (p : Event → Bool) → Fails p → {b k : List Event} → IsDueOn base b k → count_by p k ≡ count_by p b
count_on base p fails none_more = refl
count_on base p fails {b = b} (one_more {k = k} {e = e} on d) =
    let none : cond {A = ℕ} (p e) 1 0 ≡ 0 = ap (λ c. cond {A = ℕ} c 1 0) (fails_closing base p fails (closing_of base d)) in
    let push : count_by p (k ++ e ∷ []) ≡ count_by p k + cond (p e) 1 0 = sum_by_push (λ (x : Event). cond (p x) 1 0) k e in
    let rest : count_by p k ≡ count_by p b = count_on base p fails on in omega arith

-- no parents
pub parent_on : (base : Kept) → {b k : List Event} → IsDueOn base b k → (n : ℕ) → parent k n ≡ parent b n
unfolding parent
parent_on base on n =
    seen_on base (λ o. option_and_then (if_less n) (option_and_then parent_named o)) (record { no_end = λ c t. refl; no_close = λ c. refl }) on n

pub longer_on : (base : Kept) → {b k : List Event} → IsDueOn base b k → length b ≤ length k
longer_on base none_more = omega arith
longer_on base (one_more {k = k} {e = e} on d) = let l = longer_on base on in omega (arith, length-append k (e ∷ []))

pub ancestors_on : (base : Kept) → {b k : List Event} → IsDueOn base b k → (n : ℕ) → n < length b → ancestors k n ≡ ancestors b n
ancestors_on base none_more n l = refl
ancestors_on base (one_more {k = k} {e = e} on d) n l =
    let longer = longer_on base on in
    ancestors-append k (e ∷ []) n (omega arith) ∙ ancestors_on base on n l

-- each event stays
pub kept_on : (base : Kept) → {b k : List Event} → IsDueOn base b k → (n : ℕ) (x : Event) → slice_get b n ≡ Some x → slice_get k n ≡ Some x
kept_on base none_more n x at_n = at_n
kept_on base (one_more {k = k} {e = e} on d) n x at_n = search (rules, slice_get-append, slice_get_within, kept_on base on n x at_n)

-- and a connection is no new one
abbrev connect_of : Option Event → Option ℕ
connect_of (Some (Connect g)) = Some g
connect_of _ = None

pub connect_on : (base : Kept) → {b k : List Event} → IsDueOn base b k → (n g : ℕ) → slice_get k n ≡ Some (Connect g) → slice_get b n ≡ Some (Connect g)
connect_on base {b = b} {k = k} on n g at_n =
    is_connect (slice_get b n) (sym (seen_on base connect_of (record { no_end = λ c t. refl; no_close = λ c. refl }) on n) ∙ ap connect_of at_n)
  where
    is_connect : (o : Option Event) → connect_of o ≡ Some g → o ≡ Some (Connect g)
    is_connect (Some (Connect j)) same = ap (λ i. Some (Connect i)) (same_Some j g same)
    is_connect _ same = absurd (none-some g same)

pub was_open_on : (base : Kept) → {b k : List Event} → IsDueOn base b k → (n : ℕ) → is_open k n ≡ true → is_open b n ≡ true
was_open_on base none_more n o = o
was_open_on base (one_more {k = k} {e = e} on d) n o = was_open_on base on n (before (closing_of base d) o) where
  before : {x : Event} → IsClosing base k x → is_open (k ++ x ∷ []) n ≡ true → is_open k n ≡ true
  before (by_end c {t = t} d o) now = open_before k (End c t) n refl now
  before (by_close c g at_c none o) now = open_before k (Close c) n refl now

pub stays_closed_on : (base : Kept) → {b k : List Event} → IsDueOn base b k → {e : Event} → IsDue base k e → (n : ℕ) → is_open k n ≡ false →
    is_open (k ++ e ∷ []) n ≡ false
stays_closed_on base {k = k} on {e = e} d n closed = by_test (is_open (k ++ e ∷ []) n) refl where
  by_test : (a : Bool) → is_open (k ++ e ∷ []) n ≡ a → a ≡ false
  by_test false now = refl
  by_test true now = absurd (both_ways (is_open k n) closed (was_open_on base (one_more none_more d) n now))

-- what is owed, and what was fired
pub owed_on : (base : Kept) → {b k : List Event} → IsDueOn base b k → (f : ℕ) → owed base k f ≡ owed base b f
owed_on base none_more f = refl
owed_on base (one_more {k = k} on d) f = by_event (closing_of base d) ∙ owed_on base on f where
  by_event : {x : Event} → IsClosing base k x → owed base (k ++ x ∷ []) f ≡ owed base k f
  by_event (by_end c {t = t} d o) = owed_kept base k (End c t) f refl refl
  by_event (by_close c g at_c none o) = owed_kept base k (Close c) f refl refl

pub fired_on : (base : Kept) → {b k : List Event} → IsDueOn base b k → (u : ℕ) → is_fired k u ≡ is_fired b u
fired_on base none_more u = refl
fired_on base (one_more {k = k} on d) u = by_event (closing_of base d) ∙ fired_on base on u where
  by_event : {x : Event} → IsClosing base k x → is_fired (k ++ x ∷ []) u ≡ is_fired k u
  by_event (by_end c {t = t} d o) = is_fired-push k (End c t) u ∙ or_false (is_fired k u)
  by_event (by_close c g at_c none o) = is_fired-push k (Close c) u ∙ or_false (is_fired k u)

-- the history stays lawful, and no hub comes to wait ---------------------------------------------------

pub connected_on : (base : Kept) → {b k : List Event} → IsDueOn base b k → IsConnected b → IsConnected k
connected_on base none_more whole = whole
connected_on base (one_more {k = k} {e = e} on d) whole = kept_due base k e (connected_on base on whole) d

pub lawful_on : (base : Kept) → {b k : List Event} → IsDueOn base b k → IsLawful base b → IsConnected b → IsLawful base k
lawful_on base none_more law whole = law
lawful_on base (one_more {k = k} {e = e} on d) law whole = IsLawful-push base k e (lawful_on base on law whole) (forced (due (connected_on base on whole) d))

-- where no hub waits, what is forced is due
pub forced_due_on : (base : Kept) → {b k : List Event} → IsForcedOn base b k → IsConnected b → IsDueOn base b k
forced_due_on base stays whole = none_more
forced_due_on base {b = b} (more {k = k} {e = e} on f) whole = by_forced f (forced_due_on base on whole) where
  by_forced : {x : Event} → IsForced base k x → IsDueOn base b k → IsDueOn base b (k ++ x ∷ [])
  by_forced (due none d) before = one_more before d
  by_forced (connecting {g = g} d) before = absurd (connected_on base before whole g d)

-- one terminal ------------------------------------------------------------------------------------------

-- something is due to end so
pub record EndsSo (base : Kept) (h : List Event) (t : Terminal) : Type 0 where
  pub node : ℕ
  pub ends_due : IsDue base h (End node t)

-- in one way alone
pub ends_one : (base : Kept) → (b : List Event) → IsLawful base b → (t u : Terminal) → EndsSo base b t → EndsSo base b u → t ≡ u
ends_one base b law t u a c = one_end b law a.node c.node t u a.ends_due c.ends_due

begun_step : {base : Kept} → {b k : List Event} (e : Event) → IsLawful base k → IsConnected k → IsDue base k e →
    ((n : ℕ) (t : Terminal) → IsDue base k (End n t) → EndsSo base b t) → (n : ℕ) (t : Terminal) → IsDue base (k ++ e ∷ []) (End n t) → EndsSo base b t
begun_step {base} {b} {k} e law whole d before n t now = search (rules, due_before, forced, due, ends_as, by_end, same_Some, by_close, none-some, completes, false≢true, list_any, closing_of, completes_one, fires_it, both_ways)

-- so does all that follows, since a due end is the reason of none but such ends
pub begun_on : (base : Kept) → {b k : List Event} → IsDueOn base b k → IsLawful base b → IsConnected b → (n : ℕ) (t : Terminal) → IsDue base k (End n t) →
    EndsSo base b t
begun_on base none_more law whole = λ n t d. record { node = n; ends_due = d }
begun_on base {b = b} (one_more {k = k} {e = e} on d) law whole =
    begun_step e (lawful_on base on law whole) (connected_on base on whole) d (begun_on base on law whole)

-- where an end stands: in b, or it ended what was open
pub data EndStands (base : Kept) (b k : List Event) (n : ℕ) (t : Terminal) (place : ℕ) : Type 0 where
  stood_before : slice_get b place ≡ Some (End n t) → EndStands base b k n t place
  came_after : is_open b n ≡ true → is_open k n ≡ false → EndsSo base b t → EndStands base b k n t place

pub end_stands : (base : Kept) → {b k : List Event} → IsDueOn base b k → IsLawful base b → IsConnected b → (n : ℕ) (t : Terminal) (place : ℕ) →
    slice_get k place ≡ Some (End n t) → EndStands base b k n t place
end_stands base none_more law whole n t place found = stood_before found
end_stands base {b = b} (one_more {k = k} {e = e} on d) law whole n t place found =
    by_place (cases_push k e (End n t) place found) (end_stands base on law whole n t place)
  where
    now : IsDue base k (End n t) → EndStands base b (k ++ End n t ∷ []) n t place
    now x = came_after (was_open_on base on n (due_open base x)) (is_open_outside-end k n t n ∙ rw (is_within_self k n) (and_false (is_open k n)))
        (begun_on base on law whole n t x)

    by_before : EndStands base b k n t place → EndStands base b (k ++ e ∷ []) n t place
    by_before (stood_before at_place) = stood_before at_place
    by_before (came_after was gone so) = came_after was (stays_closed_on base on d n gone) so

    by_place : (slice_get k place ≡ Some (End n t)) ⊎ (e ≡ End n t) → (slice_get k place ≡ Some (End n t) → EndStands base b k n t place) →
        EndStands base b (k ++ e ∷ []) n t place
    by_place (inl at_place) rest = by_before (rest at_place)
    by_place (inr same) rest = subst (λ (x : Event). EndStands base b (k ++ x ∷ []) n t place) (sym same) (now (subst (λ (x : Event). IsDue base k x) same d))

-- how a node was closed ---------------------------------------------------------------------------------

-- It ended, or it was a connection that nobody used, or its parent was closed
pub data HowClosed (base : Kept) (b k : List Event) (n : ℕ) : Type 0 where
  ended_so : {t : Terminal} (place : ℕ) → length b ≤ place → slice_get k place ≡ Some (End n t) → EndsSo base b t → HowClosed base b k n
  left_alone : (g : ℕ) → slice_get k n ≡ Some (Connect g) → open_subscribers k g ≡ [] → HowClosed base b k n
  closed_with : (p : ℕ) → parent k n ≡ Some p → is_open k p ≡ false → HowClosed base b k n

subscriber_fails : (g : ℕ) → Fails (is_subscriber_of g)
subscriber_fails g = record { at_end = λ c t. refl; at_close = λ c. refl }

-- a hub that lost its subscribers gets none
pub unsubscribed_on : (base : Kept) → {b k : List Event} → IsDueOn base b k → (g : ℕ) → open_subscribers b g ≡ [] → open_subscribers k g ≡ []
unsubscribed_on base {b = b} {k = k} on g none = none_subscribed k g (λ s subscribes o.
    subscriber_listed b g s (sym (at_on base (is_subscriber_of g) (subscriber_fails g) on s) ∙ subscribes) (was_open_on base on s o) none)

how_closed_push : (base : Kept) → {b k : List Event} → IsDueOn base b k → {e : Event} → IsDue base k e → (n : ℕ) → HowClosed base b k n →
    HowClosed base b (k ++ e ∷ []) n
how_closed_push base {k = k} on {e = e} d n (ended_so place far at_place so) = ended_so place far (kept_on base (one_more none_more d) place _ at_place) so
how_closed_push base {k = k} on {e = e} d n (left_alone g at_n none) =
    left_alone g (kept_on base (one_more none_more d) n _ at_n) (unsubscribed_on base (one_more none_more d) g none)
how_closed_push base {k = k} on {e = e} d n (closed_with p below gone) =
    closed_with p (parent_on base (one_more none_more d) n ∙ below) (stays_closed_on base on d p gone)

module _ (base : Kept) (b k : List Event) (on : IsDueOn base b k) (law : IsLawful base b) (whole : IsConnected b) (n : ℕ) (alive : is_open k n ≡ true) where
  -- what closes it now
  closed_by : {e : Event} → IsDue base k e → IsClosing base k e → is_open (k ++ e ∷ []) n ≡ false → HowClosed base b (k ++ e ∷ []) n
  closed_by d (by_end c {t = t} x o) gone =
      let inside : is_within k c n ≡ true = inside_by (is_within k c n) (rw alive at (sym (is_open_outside-end k c t n) ∙ gone)) in
      by_case (within_cases k c n inside) where
        by_case : (c ≡ n) ⊎ ((p : ℕ) × (parent k n ≡ Some p) × (is_within k c p ≡ true)) → HowClosed base b (k ++ End c t ∷ []) n
        by_case (inl same) =
            ended_so (length k) (longer_on base on) (slice_get_last k (End c t) ∙ ap (λ (m : ℕ). Some (End m t)) same) (begun_on base on law whole c t x)
        by_case (inr (p, below, within)) =
            closed_with p (parent_on base (one_more none_more d) n ∙ below) (is_open_outside-end k c t p ∙ rw within (and_false (is_open k p)))
  closed_by d (by_close c g at_c none o) gone =
      let inside : is_within k c n ≡ true = inside_by (is_within k c n) (rw alive at (sym (is_open_outside-close k c n) ∙ gone)) in
      by_case (within_cases k c n inside) where
        by_case : (c ≡ n) ⊎ ((p : ℕ) × (parent k n ≡ Some p) × (is_within k c p ≡ true)) → HowClosed base b (k ++ Close c ∷ []) n
        by_case (inl same) =
            left_alone g (kept_on base (one_more none_more d) n _ (ap (slice_get k) (sym same) ∙ at_c)) (unsubscribed_on base (one_more none_more d) g none)
        by_case (inr (p, below, within)) =
            closed_with p (parent_on base (one_more none_more d) n ∙ below) (is_open_outside-close k c p ∙ rw within (and_false (is_open k p)))

pub how_closed : (base : Kept) → {b k : List Event} → IsDueOn base b k → IsLawful base b → IsConnected b → (n : ℕ) → is_open b n ≡ true →
    is_open k n ≡ false → HowClosed base b k n
how_closed base none_more law whole n o gone = absurd (both_ways _ gone o)
how_closed base {b = b} (one_more {k = k} {e = e} on d) law whole n o gone = by_test (is_open k n) refl (how_closed base on law whole n o) where
  by_test : (a : Bool) → is_open k n ≡ a → (is_open k n ≡ false → HowClosed base b k n) → HowClosed base b (k ++ e ∷ []) n
  by_test true alive rest = closed_by base b k on law whole n alive d (closing_of base d) gone
  by_test false closed rest = how_closed_push base on d n (rest closed)
