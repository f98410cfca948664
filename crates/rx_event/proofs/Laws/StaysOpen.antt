-- What a caller opens stays open through all that is forced after it, and so does the node at which it hands in a resource.
use Rattle.rx_event.proofs.Laws.Common.{◌≡◌, ℕ, zero, suc, ◌+◌, ◌<◌, ◌≤◌, Bool, true, false, List, [], ◌∷◌, ◌++◌, length, Option, Some, None, slice_get, refl}
use Rattle.rx_event.proofs.Laws.Common.{sym, ap, subst, ◌∙◌, inl, inr, ◌⊎◌, ◌==◌, arith, length-append, append_assoc, append-nil, not, ◌&&◌, list_any}
use Rattle.rx_event.proofs.Laws.Common.{option_map_or, false≢true, cases_order, and_parts, or_cases, slice_get_within, same_Some, Completed, Error, Kept, shown}
use Rattle.rx_event.proofs.Laws.Common.{Place, Root, Source, Inner, Notifier, Kind, Pass, Event, Open, Connect, Accept, Close, is_subscriber_of, parent_named}
use Rattle.rx_event.proofs.Laws.Common.{at, parent, ancestors, is_open, is_within, shuts, mirrored, fired, failed, completed, cut, left, connecting, due, IsDue}
use Rattle.rx_event.proofs.Laws.Common.{IsForced, IsSettled, forced, allowed, opened_with, stays, more, MayFollow, IsLawful, IsForcedOn}
use Rattle.rx_event.proofs.Laws.Lawful.{IsLawful_empty, IsLawful-push}
use Rattle.rx_event.specs.Claims.Stays.{ends_or_declines, FiresNone}
use Rattle.rx_event.proofs.Laws.Places.{slice_get-append, slice_get_last, at-append, at_within}
use Rattle.rx_event.proofs.Laws.Parents.{ancestors_step, ancestors-append, within_cases, within_parent, is_within-le, parent-lt, parent_name}
use Rattle.rx_event.proofs.Laws.Openness.{is_open_within, is_open_cut, is_open_outside-close, is_cut, shuts_none}
use Rattle.rx_event.proofs.Laws.Steps.{by_events, forced_kind, may_accept}
use Rattle.rx_event.proofs.Laws.Totals.{is_open_new}
use Rattle.rx_event.proofs.Laws.Hubs.{hubs_in_order}
use Rattle.rx_event.proofs.Laws.MarksInner.{switched_parent}
use Rattle.rx_event.proofs.Laws.Calm.{EndsNone, IsUnused, KeepsSubscribers, ends_none_on, settled_ends_none, settled_used, unused_older, opened_settled}
use Rattle.rx_event.proofs.Laws.Calm.{closes_none_kept, settled_on, unforced}
use Rattle.std.proofs.Common.{rules}

-- what a step may not harm --------------------------------------------------------------------------

-- c is a connection of g that n stands below, or n itself
pub record IsUnder (h : List Event) (n c g : ℕ) : Type 0 where
  pub above : is_within h c n ≡ true
  pub connection : slice_get h c ≡ Some (Connect g)

-- A step that began after h has come to k, and n is open, and will be: the connections above it are older than the step, and their
-- hubs, and all later ones, have the subscribers that they had
pub record IsUnharmed (base : Kept) (h k : List Event) (n : ℕ) : Type 0 where
  pub settled : IsSettled base h
  pub added : List Event
  pub grown : k ≡ h ++ added
  pub law : IsLawful base k
  pub ends_none : EndsNone base k
  pub alive : is_open k n ≡ true
  pub older : (c g : ℕ) → IsUnder k n c g → c < length h
  pub keeps : (c g j : ℕ) → IsUnder k n c g → g ≤ j → KeepsSubscribers h k j

module _ (base : Kept) (h k : List Event) (n : ℕ) (w : IsUnharmed base h k n) where
  -- an older connection whose hub keeps its subscribers is used
  used : (c g : ℕ) → c < length h → KeepsSubscribers h k g → ¬ IsUnused k c g
  used c g l keeps u = settled_used base h w.settled c g (unused_older h w.added w.grown w.law g u l keeps)

  under_before : (e : Event) (c g : ℕ) → IsUnder (k ++ e ∷ []) n c g → IsUnder k n c g
  under_before e c g under =
      let l : n < length k = is_open_within k n w.alive in
      let before : is_within k c n ≡ true = sym (ap (list_any (λ a. c == a)) (ancestors-append k (e ∷ []) n l)) ∙ under.above in
      let near : c < length k = let le = is_within-le k c n before in let m = l in omega arith in
      record { above = before; connection = sym (slice_get-append k (e ∷ []) c near) ∙ under.connection }

  -- one more event that keeps n and those subscribers open
  carried : (e : Event) → MayFollow base k e → ends_or_declines e ≡ false → FiresNone k e → is_open (k ++ e ∷ []) n ≡ true →
      ((c g j s : ℕ) → IsUnder k n c g → g ≤ j → at (is_subscriber_of j) h s ≡ true → is_open k s ≡ true → is_open (k ++ e ∷ []) s ≡ true) →
      IsUnharmed base h (k ++ e ∷ []) n
  carried e next calm unfired alive still = record {
    settled = w.settled;
    added = w.added ++ e ∷ [];
    grown = ap (λ (q : List Event). q ++ e ∷ []) w.grown ∙ append_assoc h w.added (e ∷ []);
    law = IsLawful-push base k e w.law next;
    ends_none = ends_none_on base k e w.law next calm unfired w.ends_none;
    alive = alive;
    older = λ c g under. w.older c g (under_before e c g under);
    keeps = λ c g j under le s subscribes was.
        let before = under_before e c g under in
        still c g j s before le subscribes (w.keeps c g j before le s subscribes was);
  }

  -- one that shuts nothing
  carried_whole : (e : Event) → MayFollow base k e → ends_or_declines e ≡ false → FiresNone k e → shuts_none e ≡ true → IsUnharmed base h (k ++ e ∷ []) n
  carried_whole e next calm unfired spares = search (rules, closes_none_kept, carried)

  -- the closing of a connection that nobody uses
  carried_close : (c g : ℕ) → IsForced base k (Close c) → IsUnused k c g → IsUnharmed base h (k ++ Close c ∷ []) n
  carried_close c g f u = carried (Close c) (forced f) refl (λ m. refl) (outside n w.alive spares_node)
      (λ d i j s under le subscribes was. outside s was (spares_subscriber d i j s under le subscribes)) where
        outside : (m : ℕ) → is_open k m ≡ true → (is_within k c m ≡ true → ⊥) → is_open (k ++ Close c ∷ []) m ≡ true
        outside m was apart = is_open_outside-close k c m ∙ by_test (is_within k c m) refl where
          by_test : (b : Bool) → is_within k c m ≡ b → (is_open k m && not b) ≡ true
          by_test false out = rw was refl
          by_test true inside = absurd (apart inside)

        spares_node : is_within k c n ≡ true → ⊥
        spares_node above =
            let under : IsUnder k n c g = record { above = above; connection = u.made } in
            used c g (w.older c g under) (w.keeps c g g under (omega arith)) u

        -- a subscriber within c is of an earlier hub than that of c
        spares_subscriber : (d i j s : ℕ) → IsUnder k n d i → i ≤ j → at (is_subscriber_of j) h s ≡ true → is_within k c s ≡ true → ⊥
        spares_subscriber d i j s under le subscribes inside =
            let l : s < length h = at_within (is_subscriber_of j) h s subscribes in
            let now = ap (λ (q : List Event). at (is_subscriber_of j) q s) w.grown ∙ at-append (is_subscriber_of j) h w.added s l ∙ subscribes in
            let order : j < g = hubs_in_order w.law j s c now inside u.made in
            let near : c ≤ s = is_within-le k c s inside in used c g (omega arith) (w.keeps d i g under (omega arith)) u

  -- what is forced
  carried_forced : (e : Event) → IsForced base k e → IsUnharmed base h (k ++ e ∷ []) n
  carried_forced e (connecting {g = g} d) = carried_whole (Connect g) (forced (connecting d)) refl (λ m. refl) refl
  carried_forced e (due none d) = by_due d where
    by_due : {x : Event} → IsDue base k x → IsUnharmed base h (k ++ x ∷ []) n
    by_due (mirrored {p = p} {t = t} o m c) = absurd (w.ends_none p t (mirrored o m c))
    by_due (fired {u = u} o m c) = absurd (w.ends_none u Completed (fired o m c))
    by_due (failed {f = f} {c = code} o m c) = absurd (w.ends_none f (Error code) (failed o m c))
    by_due (completed {f = f} o m x y z v) = absurd (w.ends_none f Completed (completed o m x y z v))
    by_due (cut {s = s} {t = t} o c) = absurd (w.ends_none s t (cut o c))
    by_due (left {c = c} {g = g} o at_c a s) = carried_close c g (due none (left o at_c a s)) (record { alive = o; made = at_c; auto = a; unsubscribed = s })

-- so all that is forced keeps n open
unharmed_on : (base : Kept) → {b k : List Event} → IsForcedOn base b k → (h : List Event) (n : ℕ) → IsUnharmed base h b n → IsUnharmed base h k n
unharmed_on base stays h n w = w
unharmed_on base (more {k = k} {e = e} before f) h n w = carried_forced base h k n (unharmed_on base before h n w) e f

-- where a step begins -------------------------------------------------------------------------------

-- an open node of a settled history
unharmed_settled : (base : Kept) → (h : List Event) (n : ℕ) → IsLawful base h → IsSettled base h → is_open h n ≡ true → IsUnharmed base h h n
unharmed_settled base h n law settled o = record {
  settled = settled;
  added = [];
  grown = sym (append-nil h);
  law = law;
  ends_none = settled_ends_none base h settled;
  alive = o;
  older = λ c g under. slice_get_within h c (Connect g) under.connection;
  keeps = λ c g j under le s subscribes was. was;
}

-- what an event cuts stands within c, where all that it shuts does
cut_within : (steps : ℕ) (h : List Event) (e : Event) (c s : ℕ) → s < steps → ((a : ℕ) → shuts h a e ≡ true → is_within h c a ≡ true) → is_cut h e s ≡ true →
    is_within h c s ≡ true
cut_within zero h e c s l each found = absurd (omega arith)
cut_within (suc steps) h e c s l each found =
    let above : List ℕ = option_map_or (ancestors h) (parent h s) [] in
    by_first (search (rules, or_cases, list_any, above, ancestors_step)) (λ p m inside. cut_within steps h e c p (let b = l in omega arith) each inside) where
      shut : ℕ → Bool
      shut a = shuts h a e

      by_parent : (o : Option ℕ) → parent h s ≡ o → list_any (λ a. shuts h a e) (option_map_or (ancestors h) o []) ≡ true →
          ((p : ℕ) → p < s → is_cut h e p ≡ true → is_within h c p ≡ true) → is_within h c s ≡ true
      by_parent None below later rest = absurd (false≢true later)
      by_parent (Some p) below later rest = within_parent h c s p below (rest p (parent-lt h s p below) later)

      by_first : (shuts h s e ≡ true) ⊎ (list_any (λ a. shuts h a e) (option_map_or (ancestors h) (parent h s) []) ≡ true) →
          ((p : ℕ) → p < s → is_cut h e p ≡ true → is_within h c p ≡ true) → is_within h c s ≡ true
      by_first (inl here) rest = each s here
      by_first (inr later) rest = by_parent (parent h s) refl later rest

-- what an opening shuts stands below the same node as what it opens
shut_beside : {base : Kept} → (h : List Event) → IsLawful base h → (place : Place) (kind : Kind) (p a : ℕ) → parent_named (Open place kind) ≡ Some p →
    shuts h a (Open place kind) ≡ true → parent h a ≡ Some p
shut_beside {base} h law (Inner f) kind p a named shut = switched_parent base h law f a (and_parts _ _ shut).1 ∙ named
shut_beside h law Root kind p a named shut = absurd (false≢true shut)
shut_beside h law (Source f) kind p a named shut = absurd (false≢true shut)
shut_beside h law (Notifier f) kind p a named shut = absurd (false≢true shut)

module _ (base : Kept) (h : List Event) (place : Place) (kind : Kind) (law : IsLawful base h) (next : MayFollow base h (Open place kind)) where
  abbrev opened_on : List Event
  opened_on = h ++ Open place kind ∷ []

  -- a connection above the new node is older
  older_above : (c g : ℕ) → IsUnder opened_on (length h) c g → c < length h
  older_above c g under = by_place (cases_order c (length h)) where
    by_place : (c ≡ length h) ⊎ ((c < length h) ⊎ (length h < c)) → c < length h
    by_place (inr (inl l)) = l
    by_place (inr (inr past)) = absurd (let le = is_within-le opened_on c (length h) under.above in omega arith)
    by_place (inl last) = search (rules, slice_get_last)

  -- and all that the opening takes away stands below it
  cut_under : (c g s : ℕ) → IsUnder opened_on (length h) c g → is_cut h (Open place kind) s ≡ true → is_within h c s ≡ true
  cut_under c g s under cut_off = by_case (within_cases opened_on c (length h) under.above) where
    by_case : (c ≡ length h) ⊎ ((p : ℕ) × (parent opened_on (length h) ≡ Some p) × (is_within opened_on c p ≡ true)) → is_within h c s ≡ true
    by_case (inl same) = absurd (let l = older_above c g under in omega arith)
    by_case (inr (p, below, inside)) =
        let named = parent_name opened_on (length h) p (Open place kind) below (slice_get_last h (Open place kind)) in
        let stays_above = ancestors-append h (Open place kind ∷ []) p (parent-lt opened_on (length h) p below) in
        let above : is_within h c p ≡ true = sym (ap (list_any (λ a. c == a)) stays_above) ∙ inside in
        cut_within (suc s) h (Open place kind) c s (omega arith) (λ a shut. within_parent h c a p (shut_beside h law place kind p a named shut) above) cut_off

  -- so it takes away no subscriber of the hub of that connection, or of a later one
  keeps_later : (c g j : ℕ) → IsUnder opened_on (length h) c g → g ≤ j → KeepsSubscribers h opened_on j
  keeps_later c g j under le s subscribes was = is_open_cut h (Open place kind) s (is_open_within h s was) ∙ by_test (is_cut h (Open place kind) s) refl where
    at_c : slice_get h c ≡ Some (Connect g)
    at_c = sym (slice_get-append h (Open place kind ∷ []) c (older_above c g under)) ∙ under.connection

    by_test : (b : Bool) → is_cut h (Open place kind) s ≡ b → (is_open h s && not b) ≡ true
    by_test false apart = rw was refl
    by_test true cut_off = absurd (let order : j < g = hubs_in_order law j s c subscribes (cut_under c g s under cut_off) at_c in omega arith)

  -- what was just opened
  unharmed_opened : IsUnharmed base h opened_on (length h)
  unharmed_opened = record {
    settled = opened_settled base next;
    added = Open place kind ∷ [];
    grown = refl;
    law = IsLawful-push base h (Open place kind) law next;
    ends_none = ends_none_on base h (Open place kind) law next refl (λ x. refl) (settled_ends_none base h (opened_settled base next));
    alive = is_open_new base h (Open place kind) next;
    older = older_above;
    keeps = keeps_later;
  }

-- a resource is accepted in a step that began before, or with the opening of its node
record IsBegun (base : Kept) (k : List Event) (n : ℕ) : Type 0 where
  pub before : List Event
  pub unharmed : IsUnharmed base before k n

begun_opened : (base : Kept) → (h : List Event) → IsLawful base h → (n : ℕ) (place : Place) → slice_get h n ≡ Some (Open place Pass) → length h ≡ n + 1 →
    IsBegun base h n
begun_opened base = by_events base (λ h. (n : ℕ) (place : Place) → slice_get h n ≡ Some (Open place Pass) → length h ≡ n + 1 → IsBegun base h n)
    (λ s n place at_n long. record {
      before = shown base;
      unharmed = unharmed_settled base (shown base) n (IsLawful_empty base s) s.settled (s.alive n (Open place Pass) at_n refl);
    }) (λ h e law next earlier. after law next)
  where
    opened : (h : List Event) (place : Place) → IsLawful base h → MayFollow base h (Open place Pass) → (n : ℕ) → length h ≡ n →
        IsBegun base (h ++ Open place Pass ∷ []) n
    opened h place law next n same =
        subst (λ (m : ℕ). IsBegun base (h ++ Open place Pass ∷ []) m) same (record { before = h; unharmed = unharmed_opened base h place Pass law next })

    after : {h : List Event} {e : Event} → IsLawful base h → MayFollow base h e → (n : ℕ) (place : Place) →
        slice_get (h ++ e ∷ []) n ≡ Some (Open place Pass) → length (h ++ e ∷ []) ≡ n + 1 → IsBegun base (h ++ e ∷ []) n
    after {h} {e} law next n place at_n long =
        let same : length h ≡ n = omega (arith, length-append h (e ∷ [])) in
        let is : e ≡ Open place Pass = same_Some e (Open place Pass) (sym (slice_get_last h e) ∙ ap (slice_get (h ++ e ∷ [])) same ∙ at_n) in
        subst (λ (x : Event). IsBegun base (h ++ x ∷ []) n) (sym is) (opened h place law (subst (λ (x : Event). MayFollow base h x) is next) n same)

accepted_begun : (base : Kept) → (h : List Event) (n tag : ℕ) → IsLawful base h → MayFollow base h (Accept n tag) → IsBegun base h n
accepted_begun base h n tag law (forced f) = absurd (false≢true (forced_kind base f))
accepted_begun base h n tag law (allowed settled a) =
    record { before = h; unharmed = unharmed_settled base h n law settled (may_accept base (allowed settled a)) }
accepted_begun base h n tag law (opened_with {place = place} at_n long o) = begun_opened base h law n place at_n long

-- what stays open -----------------------------------------------------------------------------------

-- What a caller opens stays open through all that is forced, also where it takes the place of a Switch's open inner
pub opened_stays : (base : Kept) → (h k : List Event) (place : Place) (kind : Kind) → IsLawful base h → MayFollow base h (Open place kind) →
    IsForcedOn base (h ++ Open place kind ∷ []) k → is_open k (length h) ≡ true
opened_stays base h k place kind law next on = (unharmed_on base on h (length h) (unharmed_opened base h place kind law next)).alive

-- So does the node at which a resource is accepted
pub accepted_stays : (base : Kept) → (h k : List Event) (n tag : ℕ) → IsLawful base h → MayFollow base h (Accept n tag) →
    IsForcedOn base (h ++ Accept n tag ∷ []) k → is_open k n ≡ true
accepted_stays base h k n tag law next on =
    let b = accepted_begun base h n tag law next in
    (unharmed_on base on b.before n (carried_whole base b.before h n b.unharmed (Accept n tag) next refl (λ m. refl) refl)).alive

-- also where it came with that node (Using)
pub opened_using_stays : (base : Kept) → (h k : List Event) (place : Place) (tag : ℕ) → IsLawful base h → MayFollow base h (Open place Pass) →
    IsForcedOn base (h ++ Open place Pass ∷ Accept (length h) tag ∷ []) k → is_open k (length h) ≡ true
opened_using_stays base h k place tag law next on =
    accepted_stays base (h ++ Open place Pass ∷ []) k (length h) tag (IsLawful-push base h (Open place Pass) law next)
    (opened_with (slice_get_last h (Open place Pass)) (length-append h (Open place Pass ∷ [])) (is_open_new base h (Open place Pass) next))
    (subst (λ (q : List Event). IsForcedOn base q k) (sym (append_assoc h (Open place Pass ∷ []) (Accept (length h) tag ∷ []))) on)

-- What a caller connects stays open
pub connected_stays : (base : Kept) → (h k : List Event) (g : ℕ) → IsLawful base h → IsSettled base h → MayFollow base h (Connect g) →
    IsForcedOn base (h ++ Connect g ∷ []) k → is_open k (length h) ≡ true
connected_stays base h k g law settled next on = search (rules, settled_on, law, settled, closes_none_kept, length, unforced, is_open_new)
