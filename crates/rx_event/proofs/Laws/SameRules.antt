-- How the children of a node ended, and what each rule gives in two histories that are the same, number for number.
use Rattle.rx_event.proofs.Laws.Common.{◌≡◌, ℕ, true, List, [], ◌∷◌, ◌++◌, Option, Some, None, refl, sym, ap, ◌∙◌, inl, inr, ◌⊎◌, slice_get, not}
use Rattle.rx_event.proofs.Laws.Common.{AllByRecursion, list_any, option_map_or, false≢true, or_cases, eqb-true, Terminal, Error, Kept, shown, Event, Item, End}
use Rattle.rx_event.proofs.Laws.Common.{is_until, is_mirroring, is_merging, at, is_open, Stop, Delivery, Projection, Firing, stops, is_fired, is_firing_of}
use Rattle.rx_event.proofs.Laws.Common.{stops_of, mirrored, failed, IsDue, child_terminal, passes_on, MayFollow, IsLawful, AreRead, StopsAtOpen, ChildEnded}
use Rattle.rx_event.specs.Bases.{Mirrors, Fires, Fails, Completes, Cuts, Leaves}
use Rattle.rx_event.proofs.Laws.Places.{at-append, at_within}
use Rattle.rx_event.proofs.Laws.Steps.{by_events, may_emit}
use Rattle.rx_event.proofs.Laws.Projections.{stops_open}
use Rattle.rx_event.proofs.Laws.MarksFound.{child_terminal_some, child_terminal_none}
use Rattle.rx_event.proofs.Laws.MarksAfter.{is_fired-push}
use Rattle.rx_event.proofs.Laws.MakingRemovesNothing.{made_unfired}
use Rattle.rx_event.proofs.Laws.OneEnd.{one_end}
use Rattle.rx_event.proofs.Laws.SameMarks.{IsParent, mirrors, merges}
use Rattle.rx_event.proofs.Laws.SameTree.{Alike, at_alike, auto_alike, childless_alike, subscribers_alike}
use Rattle.std.proofs.Common.{rules}

-- what items fire is a TakeUntil --------------------------------------------------------------------

fires_until : (h : List Event) (ss : List Stop) → AllByRecursion (StopsAtOpen h) ss → (u : ℕ) → list_any (is_firing_of u) ss ≡ true → at is_until h u ≡ true
fires_until h [] well u found = absurd (false≢true found)
fires_until h (Delivery m ∷ ss) well u found = fires_until h ss well.1 u found
fires_until h (Projection m ∷ ss) well u found = fires_until h ss well.1 u found
fires_until h (Firing v ∷ ss) well u found = search (rules, list_any, eqb-true, fires_until h ss well.1 u)

event_fires_until : (base : Kept) (h : List Event) (e : Event) → IsLawful base h → MayFollow base h e → (u : ℕ) →
    list_any (is_firing_of u) (stops_of h e) ≡ true → at is_until h u ≡ true
event_fires_until base h (Item leaf v) law next u found = fires_until h (stops h leaf) (stops_open base h leaf law (may_emit base next)) u found
event_fires_until base h _ law next u found = absurd (false≢true found)

until_stays : (h : List Event) (e : Event) (u : ℕ) → at is_until h u ≡ true → at is_until (h ++ e ∷ []) u ≡ true
until_stays h e u is = at-append is_until h (e ∷ []) u (at_within is_until h u is) ∙ is

pub fired_until : (base : Kept) (h : List Event) → IsLawful base h → (u : ℕ) → is_fired h u ≡ true → at is_until h u ≡ true
fired_until base = by_events base (λ h. (u : ℕ) → is_fired h u ≡ true → at is_until h u ≡ true) begun further where
  begun : Rattle.rx_event.specs.Lawful.Started base → (u : ℕ) → is_fired (shown base) u ≡ true → at is_until (shown base) u ≡ true
  begun started u is = absurd (false≢true (sym (made_unfired (shown base) started.making u) ∙ is))

  further : (h : List Event) (e : Event) → IsLawful base h → MayFollow base h e → ((u : ℕ) → is_fired h u ≡ true → at is_until h u ≡ true) →
      (u : ℕ) → is_fired (h ++ e ∷ []) u ≡ true → at is_until (h ++ e ∷ []) u ≡ true
  further h e law next before u is = by_reason (or_cases (is_fired h u) (list_any (is_firing_of u) (stops_of h e)) (sym (is_fired-push h e u) ∙ is)) where
    by_reason : (is_fired h u ≡ true) ⊎ (list_any (is_firing_of u) (stops_of h e) ≡ true) → at is_until (h ++ e ∷ []) u ≡ true
    by_reason (inl was) = until_stays h e u (before u was)
    by_reason (inr now) = until_stays h e u (event_fires_until base h e law next u now)

-- how a child ended ---------------------------------------------------------------------------------

mirroring_passes : (h : List Event) (n : ℕ) (t : Terminal) → at is_mirroring h n ≡ true → passes_on (at is_merging h n) t ≡ true
mirroring_passes h n x2 mirroring = search (rules, not, slice_get, option_map_or)

pub due_by_child : {b : Kept} {h : List Event} {n : ℕ} (t : Terminal) → is_open h n ≡ true → IsParent h n → ChildEnded h n t →
    passes_on (at is_merging h n) t ≡ true → IsDue b h (End n t)
due_by_child t o x2 child passes = search (rules, mirrored, failed, false≢true)

-- all that ends now ends in one way, so a child that ended is as good as the first
terminal_is : {b : Kept} (h : List Event) (n : ℕ) (t : Terminal) → IsLawful b h → is_open h n ≡ true → IsParent h n → ChildEnded h n t →
    passes_on (at is_merging h n) t ≡ true → child_terminal h n ≡ Some t
terminal_is {b} h n t law o sort child passes = by_terminal (child_terminal h n) refl where
  by_terminal : (x : Option Terminal) → child_terminal h n ≡ x → child_terminal h n ≡ Some t
  by_terminal None found = absurd (child_terminal_none h n t found passes child)
  by_terminal (Some u) found =
      let w = child_terminal_some h n u found in
      found ∙ ap (λ v. Some v) (one_end h law n n u t (due_by_child {b = b} u o sort w.0 w.1) (due_by_child {b = b} t o sort child passes))

-- what each rule gives in two histories that are the same --------------------------------------------

module _ (b c : Kept) (h k : List Event) (alike : Alike h k) (a : AreRead b c (λ n. n) (λ n. n) h k) where
  child : (n : ℕ) (t : Terminal) → is_open h n ≡ true → child_terminal h n ≡ Some t → ChildEnded k n t
  child n t o found = (child_terminal_some k n t ((λ i. (a.there.marks n o i).child_terminal) ∙ found)).0

  pub mirrors_too : (p : ℕ) (t : Terminal) → Mirrors h p t → Mirrors k p t
  mirrors_too p t m = (
    a.there.alive p m.0,
    sym (at_alike h k alike is_mirroring p m.0) ∙ m.1,
    child p t m.0 (terminal_is h p t a.law m.0 (mirrors m.1) m.2 (mirroring_passes h p t m.1)),
  )

  pub fires_too : (u : ℕ) → Fires h u → Fires k u
  fires_too u m = search (rules, at_alike)

  pub fails_too : (f code : ℕ) → Fails h f code → Fails k f code
  fails_too f code m = (
    a.there.alive f m.0,
    sym (at_alike h k alike is_merging f m.0) ∙ m.1,
    child f (Error code) m.0 (terminal_is h f (Error code) a.law m.0 (merges m.1) m.2 refl),
  )

  pub cuts_too : (s : ℕ) (t : Terminal) → Cuts h s t → Cuts k s t
  cuts_too s t m = (a.there.alive s m.0, a.there.ended s t m.0 m.1)

  pub completes_too : ((f code : ℕ) → Fails k f code → Fails h f code) → (f : ℕ) → Completes b h f → Completes c k f
  completes_too back f d = record {
    alive = a.there.alive f d.alive;
    merging = sym (at_alike h k alike is_merging f d.alive) ∙ d.merging;
    fails_not = λ e fails. d.fails_not e (back f e fails);
    source = (λ i. (a.there.marks f d.alive i).source_completed) ∙ d.source;
    childless = childless_alike h k alike f d.childless;
    paid = (λ i. (a.there.marks f d.alive i).owed) ∙ d.paid;
  }

  pub leaves_too : (n : ℕ) → Leaves h n → Leaves k n
  leaves_too n d = search (rules, auto_alike, subscribers_alike)
