-- A new node has blank marks.
use Rattle.rx_event.proofs.Laws.Common.{◌≡◌, ℕ, ◌<◌, ◌≤◌, true, false, List, [], ◌∷◌, ◌++◌, length, Option, Some, None, refl, ◌∙◌, arith, slice_get}
use Rattle.rx_event.proofs.Laws.Common.{length-append, AllByRecursion, list_any, option_map_or, false≢true, ne_eqb, slice_get_within, Terminal, ◌||◌, Kept}
use Rattle.rx_event.proofs.Laws.Common.{node_kept, shown, Event, Item, is_source_of, parent_named, parent, Stop, Delivery, Projection, Firing, stops, moments}
use Rattle.rx_event.proofs.Laws.Common.{is_fired, stops_of, is_firing_of, source_completed, completes_source, child_terminal, marks_of, MayFollow, IsLawful}
use Rattle.rx_event.proofs.Laws.Common.{StopsAtOpen, false_from_ne_true, is_notifier_of}
use Rattle.rx_event.proofs.Laws.Lawful.{shown_within, IsLawful-push}
use Rattle.rx_event.specs.Marks.{blank_marks}
use Rattle.rx_event.proofs.Laws.Parents.{parent-lt, parent_within}
use Rattle.rx_event.proofs.Laws.Openness.{is_open_within}
use Rattle.rx_event.proofs.Laws.Steps.{by_events, may_emit, named_below}
use Rattle.rx_event.proofs.Laws.Projections.{stops_open, owed_new}
use Rattle.rx_event.proofs.Laws.Searches.{list_any_found}
use Rattle.rx_event.proofs.Laws.MarksFound.{child_terminal_some, source_completed_true, open_children_zero}
use Rattle.rx_event.proofs.Laws.MarksAfter.{is_fired-push, same_marks}
use Rattle.rx_event.proofs.Laws.MakingRemovesNothing.{made_unfired}
use Rattle.std.proofs.Common.{rules}

-- a new node --------------------------------------------------------------------------------------

names_new : {base : Kept} → (h : List Event) (e : Event) → IsLawful base h → MayFollow base h e → (i : ℕ) (x : Event) → slice_get (h ++ e ∷ []) i ≡ Some x →
    parent_named x ≡ Some (length h) → ⊥
names_new {base} h e law next i x at_i named =
    let a : length h < i = named_below base (h ++ e ∷ []) (IsLawful-push base h e law next) i (length h) x at_i named in
    let b : i < length (h ++ e ∷ []) = slice_get_within (h ++ e ∷ []) i x at_i in absurd (omega (arith, length-append h (e ∷ [])))

source_names : (n : ℕ) (x : Event) → is_source_of n x ≡ true → parent_named x ≡ Some n
source_names n x source = grind arith

notifier_names : (n : ℕ) (x : Event) → is_notifier_of n x ≡ true → parent_named x ≡ Some n
notifier_names n x notifier = grind arith

-- stops of an open leaf fire what is there
pub firing_old : (h : List Event) (ss : List Stop) → AllByRecursion (StopsAtOpen h) ss → (u : ℕ) → length h ≤ u → list_any (is_firing_of u) ss ≡ false
firing_old h [] well u past = refl
firing_old h (Firing v ∷ ss) well u past = let l : v < length h = is_open_within h v well.0.0 in rw (ne_eqb v u (omega arith)) (firing_old h ss well.1 u past)
firing_old h (Delivery m ∷ ss) well u past = firing_old h ss well.1 u past
firing_old h (Projection m ∷ ss) well u past = firing_old h ss well.1 u past

fires_old : (base : Kept) → (h : List Event) (e : Event) → IsLawful base h → MayFollow base h e → (u : ℕ) → length h ≤ u →
    list_any (is_firing_of u) (stops_of h e) ≡ false
fires_old base h (Item leaf v) law next u past = firing_old h (stops h leaf) (stops_open base h leaf law (may_emit base next)) u past
fires_old base h _ law next u past = refl

pub fired_past : (base : Kept) → (h : List Event) → IsLawful base h → (u : ℕ) → length h ≤ u → is_fired h u ≡ false
unfolding is_fired moments
fired_past base =
    by_events base (λ h. (u : ℕ) → length h ≤ u → is_fired h u ≡ false) (λ s u l. made_unfired (shown base) s.making u) (λ h e law next before u past.
    let b : length h ≤ u = omega (arith, length-append h (e ∷ [])) in
    is_fired-push h e u ∙ rw (before u b, fires_old base h e law next u b) refl)

child_new_none : (h : List Event) (e : Event) (c : ℕ) → parent (h ++ e ∷ []) c ≡ Some (length h) → ⊥
child_new_none h e c below = search (rules, length, parent-lt, parent_within, length-append)

pub source_completed_is : (base : Kept) → (h : List Event) (n : ℕ) →
    source_completed base h n ≡ (option_map_or (λ k. k.source_completed) (node_kept base n) false || list_any (completes_source h n) h)
unfolding source_completed
source_completed_is base h n = refl

pub marks-new : (base : Kept) → (h : List Event) (e : Event) → IsLawful base h → MayFollow base h e → marks_of base (h ++ e ∷ []) (length h) ≡ blank_marks
marks-new base h e law next =
    let unkept : node_kept base (length h) ≡ None = law.started.unkept (length h) (shown_within base h law) in
    let completed_new : source_completed base (h ++ e ∷ []) (length h) ≡ false =
    (source_completed_is base (h ++ e ∷ []) (length h)) ∙ (λ i. option_map_or (λ k. k.source_completed) (unkept i) false ||
    false_from_ne_true _ (λ s. let r = source_completed_true base (h ++ e ∷ []) (length h) s in source_new r.0 (slice_get (h ++ e ∷ []) r.0) refl r.1) i) in
    same_marks base (λ i. option_map_or (λ k. k.source_opened) (unkept i) false ||
    false_from_ne_true _ (λ s. let r = list_any_found (is_source_of (length h)) (h ++ e ∷ []) s in
    names_new h e law next r.0 r.1 r.2 (source_names (length h) r.1 r.3)) i) (λ i. option_map_or (λ k. k.notifier_opened) (unkept i) false ||
    false_from_ne_true _ (λ s. let r = list_any_found (is_notifier_of (length h)) (h ++ e ∷ []) s in
    names_new h e law next r.0 r.1 r.2 (notifier_names (length h) r.1 r.3)) i)
    (is_fired-push h e (length h) ∙ rw (fired_past base h law (length h) (omega arith), fires_old base h e law next (length h) (omega arith)) refl)
    completed_new (terminal_new (child_terminal (h ++ e ∷ []) (length h)) refl) (owed_new base h law e)
    (open_children_zero (h ++ e ∷ []) (length h) (λ c below. absurd (child_new_none h e c below))) where
      source_new : (s : ℕ) (x : Option Event) → slice_get (h ++ e ∷ []) s ≡ x → option_map_or (is_source_of (length h)) x false ≡ true → ⊥
      source_new s None at_s source = false≢true source
      source_new s (Some x) at_s source = names_new h e law next s x at_s (source_names (length h) x source)

      terminal_new : (o : Option Terminal) → child_terminal (h ++ e ∷ []) (length h) ≡ o → o ≡ None
      terminal_new None ended = refl
      terminal_new (Some t) ended = let c = (child_terminal_some (h ++ e ∷ []) (length h) t ended).0 in absurd (child_new_none h e c.child c.below)
