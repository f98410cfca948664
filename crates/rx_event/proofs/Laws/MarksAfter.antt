-- How one more event changes each mark of an older node.
use Rattle.rx_event.proofs.Laws.Common.{◌≡◌, ℕ, ℤ, ◌+◌, ◌-◌, ◌<◌, Bool, true, false, List, [], ◌∷◌, ◌++◌, length, Option, Some, None, cond, refl, sym, ap, ◌∙◌}
use Rattle.rx_event.proofs.Laws.Common.{arith, ◌==◌, slice_get, not, ◌&&◌, ◌||◌, list_any, count_by, option_map_or, option_or, false≢true, slice_get_within}
use Rattle.rx_event.proofs.Laws.Common.{Terminal, Kept, node_kept, source_opened, Root, Source, Inner, Notifier, Kind, Event, Open, Hub, Connect, Accept, Use}
use Rattle.rx_event.proofs.Laws.Common.{Remove, Lease, Return, Item, Decline, End, Close, Take, is_source_of, makes_node, parent_named, pays, places, parent}
use Rattle.rx_event.proofs.Laws.Common.{is_open, is_open_child_of, stops, owed, is_fired, stops_of, is_firing_of, is_projection_to, is_child_of}
use Rattle.rx_event.proofs.Laws.Common.{completes_source, child_terminal, source_completed, open_children, marks_of, MayFollow, IsLawful, or_false, or_assoc}
use Rattle.rx_event.proofs.Laws.Common.{none_counted, notifier_opened, Marks, is_notifier_of, ends_by}
use Rattle.rx_event.specs.Marks.{first_some}
use Rattle.rx_event.proofs.Laws.Places.{slice_get_last, at-append}
use Rattle.rx_event.proofs.Laws.Parents.{parent-append}
use Rattle.rx_event.proofs.Laws.Openness.{is_open_within, is_open_cut, is_cut, is_cut_none, shuts_none}
use Rattle.rx_event.proofs.Laws.Lawful.{moments-push, ended_after, may_end, IsLawful-push}
use Rattle.rx_event.proofs.Laws.Steps.{parent-named}
use Rattle.rx_event.proofs.Laws.Sums.{sum_by_none, sums_balance, sum_by-places-push}
use Rattle.rx_event.proofs.Laws.Totals.{is_open_new}
use Rattle.rx_event.proofs.Laws.Projections.{owed-push}
use Rattle.rx_event.proofs.Laws.Searches.{list_any_push, list_any_same_at, or_nothing, first_some_push, first_some_same_at}
use Rattle.std.proofs.Common.{rules}

-- one more event: each mark -----------------------------------------------------------------------

-- what ends was there before
ended_old : (base : Kept) → (h : List Event) (e : Event) → MayFollow base h e → (c : ℕ) (u : Terminal) → e ≡ End c u → c < length h
ended_old base h e next c u same = let now : MayFollow base h (End c u) = rw (← same) next in is_open_within h c (may_end base now)

pub ended_older : {base : Kept} → (h : List Event) → IsLawful base h → (i : ℕ) (x : Event) → slice_get h i ≡ Some x → (c : ℕ) (u : Terminal) → x ≡ End c u →
    c < length h
ended_older {base} h law i x at_i c u same =
    let a : c < i = ended_after base h law i c u (at_i ∙ ap Some same) in
    let b : i < length h = slice_get_within h i x at_i in omega arith

ends_by_kept : (h t : List Event) (n : ℕ) → n < length h → (x : Event) → ((c : ℕ) (u : Terminal) → x ≡ End c u → c < length h) →
    ends_by (h ++ t) n x ≡ ends_by h n x
ends_by_kept h t n l x4 old = search (rules, parent-append, at-append)

completes_kept : (h t : List Event) (n : ℕ) (x : Event) → ((c : ℕ) (u : Terminal) → x ≡ End c u → c < length h) →
    completes_source (h ++ t) n x ≡ completes_source h n x
completes_kept h t n x3 old = search (rules, at-append)

pub child_terminal-push : (base : Kept) → (h : List Event) (e : Event) → IsLawful base h → MayFollow base h e → (n : ℕ) → n < length h →
    child_terminal (h ++ e ∷ []) n ≡ option_or (child_terminal h n) (ends_by h n e)
unfolding child_terminal
child_terminal-push base h e law next n l = first_some_push (ends_by (h ++ e ∷ []) n) h e ∙ ap (λ o. option_or o (ends_by (h ++ e ∷ []) n e))
    (first_some_same_at (ends_by (h ++ e ∷ []) n) (ends_by h n) h (λ i x at_i. ends_by_kept h (e ∷ []) n l x (ended_older h law i x at_i))) ∙
    ap (option_or (first_some (ends_by h n) h)) (ends_by_kept h (e ∷ []) n l e (ended_old base h e next))

pub source_opened-push : (base : Kept) → (h : List Event) (e : Event) (n : ℕ) →
    source_opened base (h ++ e ∷ []) n ≡ (source_opened base h n || is_source_of n e)
source_opened-push base h e n = search (rules, option_map_or, list_any_push, or_assoc, list_any)

pub notifier_opened-push : (base : Kept) → (h : List Event) (e : Event) (n : ℕ) →
    notifier_opened base (h ++ e ∷ []) n ≡ (notifier_opened base h n || is_notifier_of n e)
notifier_opened-push base h e n = search (rules, option_map_or, list_any_push, or_assoc, list_any)

pub source_completed-push : (base : Kept) → (h : List Event) (e : Event) → IsLawful base h → MayFollow base h e → (n : ℕ) →
    source_completed base (h ++ e ∷ []) n ≡ (source_completed base h n || completes_source h n e)
unfolding source_completed
source_completed-push base h e law next n =
    ap (λ c. option_map_or (λ k. k.source_completed) (node_kept base n) false || c) (list_any_push (completes_source (h ++ e ∷ []) n) h e ∙
    ap (λ b. b || completes_source (h ++ e ∷ []) n e) (list_any_same_at (completes_source (h ++ e ∷ []) n) (completes_source h n) h
    (λ i x at_i. completes_kept h (e ∷ []) n x (ended_older h law i x at_i))) ∙
    ap (λ b. list_any (completes_source h n) h || b) (completes_kept h (e ∷ []) n e (ended_old base h e next))) ∙
    or_assoc (option_map_or (λ k. k.source_completed) (node_kept base n) false) (list_any (completes_source h n) h) (completes_source h n e)

pub is_fired-push : (h : List Event) (e : Event) (u : ℕ) → is_fired (h ++ e ∷ []) u ≡ (is_fired h u || list_any (is_firing_of u) (stops_of h e))
unfolding is_fired
is_fired-push h e u = search (rules, list_any, moments-push, list_any_push)

-- the event brings a child of n
abbrev pub adds_child : ℕ → Event → Bool
adds_child n e = option_map_or (λ q. q == n) (parent_named e) false

-- how many open children of n the event takes away
abbrev pub cut_children : List Event → Event → ℕ → ℕ
cut_children h e n = count_by (λ k. is_open_child_of h n k && is_cut h e k) (places h)

adds_made : (n : ℕ) (e : Event) → (makes_node e && adds_child n e) ≡ adds_child n e
adds_made n x1 = search rules

parent_none : (h : List Event) (e : Event) → parent_named e ≡ None → parent (h ++ e ∷ []) (length h) ≡ None
unfolding parent
parent_none h e named = rw (slice_get_last h e, named) refl

pub child_new : (base : Kept) → (h : List Event) (e : Event) → IsLawful base h → MayFollow base h e → (n : ℕ) →
    is_open_child_of (h ++ e ∷ []) n (length h) ≡ adds_child n e
child_new base h e law next n = rw (is_open_new base h e next, parent_last (parent_named e) refl) (adds_made n e) where
  parent_last : (o : Option ℕ) → parent_named e ≡ o → parent (h ++ e ∷ []) (length h) ≡ parent_named e
  parent_last (Some p) named = parent-named base (h ++ e ∷ []) (IsLawful-push base h e law next) (length h) p e (slice_get_last h e) named ∙ sym named
  parent_last None named = parent_none h e named ∙ sym named

pub open_children-push : (base : Kept) → (h : List Event) (e : Event) → IsLawful base h → MayFollow base h e → (n : ℕ) →
    open_children (h ++ e ∷ []) n + cut_children h e n ≡ open_children h n + cond (adds_child n e) 1 0
unfolding open_children
open_children-push base h e law next n =
    let more = sum_by-places-push (λ k. cond (is_open_child_of (h ++ e ∷ []) n k) 1 0) h e in
    let new : cond {A = ℕ} (is_open_child_of (h ++ e ∷ []) n (length h)) 1 0 ≡ cond (adds_child n e) 1 0 =
    ap (λ b. cond {A = ℕ} b 1 0) (child_new base h e law next n) in
    let rest = sums_balance (λ k. cond (is_open_child_of (h ++ e ∷ []) n k) 1 0) (λ k. cond (is_open_child_of h n k && is_cut h e k) 1 0)
    (λ k. cond (is_open_child_of h n k) 1 0) (λ k. 0) (length h)
    (λ k l. rw (is_open_cut h e k l, parent-append h (e ∷ []) k l) (shape (is_open h k) (is_cut h e k) (is_child_of h n k))) in
    let zeros = sum_by_none (λ k. 0) (length h) (λ k l. refl) in
    omega arith
  where
    shape : (o c b : Bool) → cond {A = ℕ} ((o && not c) && b) 1 0 + cond {A = ℕ} ((o && b) && c) 1 0 ≡ cond (o && b) 1 0 + 0
    shape o c b = grind arith

-- one more event: all marks of an older node ------------------------------------------------------

-- the marks of n after the event
abbrev pub marks_after : (base : Kept) → List Event → Event → ℕ → Marks → Marks
marks_after base h e n m =
    record {
      source_opened = m.source_opened || is_source_of n e;
      notifier_opened = m.notifier_opened || is_notifier_of n e;
      fired = m.fired || list_any (is_firing_of n) (stops_of h e);
      source_completed = m.source_completed || completes_source h n e;
      child_terminal = option_or m.child_terminal (ends_by h n e);
      owed = m.owed + count_by (is_projection_to n) (stops_of h e) - cond (pays n e) 1 0;
      open_children = m.open_children + cond (adds_child n e) 1 0 - cut_children h e n;
    }

-- the marks of these seven
abbrev pub marks_made : Bool → Bool → Bool → Bool → Option Terminal → ℕ → ℕ → Marks
marks_made s n f c t o q = record { source_opened = s; notifier_opened = n; fired = f; source_completed = c; child_terminal = t; owed = o; open_children = q }

pub same_marks : (base : Kept) → {a b : Bool} {c d : Bool} {i j : Bool} {k l : Bool} {t u : Option Terminal} {o p : ℕ} {q r : ℕ} →
    a ≡ b → c ≡ d → i ≡ j → k ≡ l → t ≡ u → o ≡ p → q ≡ r → marks_made a c i k t o q ≡ marks_made b d j l u p r
same_marks base s n f c t o q = λ x. marks_made (s x) (n x) (f x) (c x) (t x) (o x) (q x)

pub marks-push : (base : Kept) → (h : List Event) (e : Event) → IsLawful base h → MayFollow base h e → (n : ℕ) → n < length h →
    marks_of base (h ++ e ∷ []) n ≡ marks_after base h e n (marks_of base h n)
marks-push base h e law next n l =
    search (rules, owed-push, open_children-push, same_marks, source_opened-push, notifier_opened-push, is_fired-push, source_completed-push, child_terminal-push)

pub cut_children_none : (h : List Event) (e : Event) (n : ℕ) → ((k : ℕ) → is_cut h e k ≡ false) → cut_children h e n ≡ 0
cut_children_none h e n whole = search (rules, sum_by_none, cond, length, none_counted)

-- an item sets what it fires and adds what it projects
pub marks-item : (base : Kept) → (h : List Event) (leaf : ℕ) (v : ℤ) → IsLawful base h → MayFollow base h (Item leaf v) → (n : ℕ) → n < length h →
    marks_of base (h ++ Item leaf v ∷ []) n ≡
    record (marks_of base h n) {
      fired = is_fired h n || list_any (is_firing_of n) (stops h leaf);
      owed = owed base h n + count_by (is_projection_to n) (stops h leaf);
    }
marks-item base h leaf v law next n l =
    let z = cut_children_none h (Item leaf v) n (λ k. is_cut_none h (Item leaf v) k refl) in
    marks-push base h (Item leaf v) law next n l ∙ same_marks base (or_false _) (or_false _) refl (or_false _) (or_nothing _) (omega arith) (omega arith)

-- a declining pays one
pub marks-decline : (base : Kept) → (h : List Event) (f : ℕ) → IsLawful base h → MayFollow base h (Decline f) → (n : ℕ) → n < length h →
    marks_of base (h ++ Decline f ∷ []) n ≡ record (marks_of base h n) { owed = owed base h n - cond (f == n) 1 0 }
marks-decline base h f law next n l =
    let z = cut_children_none h (Decline f) n (λ k. is_cut_none h (Decline f) k refl) in
    let p : count_by (is_projection_to n) [] ≡ 0 = refl in
    marks-push base h (Decline f) law next n l ∙ same_marks base (or_false _) (or_false _) (or_false _) (or_false _) (or_nothing _) (omega arith) (omega arith)

-- what neither makes nor shuts a node, nor projects nor pays, leaves all marks
abbrev pub is_still : Event → Bool
is_still (Hub mode) = true
is_still (Connect g) = true
is_still (Open Root kind) = true
is_still (Accept n tag) = true
is_still (Use r) = true
is_still (Remove r) = true
is_still (Lease r) = true
is_still (Return l) = true
is_still (Take r) = true
is_still _ = false

-- The event shuts nothing and projects nothing, and is of no mark of n: no child of it, no end of one, and no payment
record SparesMarks (h : List Event) (e : Event) (n : ℕ) : Type 0 where
  pub shuts : shuts_none e ≡ true
  pub source : is_source_of n e ≡ false
  pub notifier : is_notifier_of n e ≡ false
  pub climbs : stops_of h e ≡ []
  pub completes : completes_source h n e ≡ false
  pub ends : ends_by h n e ≡ None
  pub declines : pays n e ≡ false
  pub adds : adds_child n e ≡ false

spares_marks : (h : List Event) (e : Event) (n : ℕ) → is_still e ≡ true → SparesMarks h e n
spares_marks h (Open (Source p) kind) n still = absurd (false≢true still)
spares_marks h (Open (Inner f) kind) n still = absurd (false≢true still)
spares_marks h (Open (Notifier u) kind) n still = absurd (false≢true still)
spares_marks h (Item l v) n still = absurd (false≢true still)
spares_marks h (Decline f) n still = absurd (false≢true still)
spares_marks h (End c t) n still = absurd (false≢true still)
spares_marks h (Close c) n still = absurd (false≢true still)
spares_marks h _ n still = record { shuts = refl; source = refl; notifier = refl; climbs = refl; completes = refl; ends = refl; declines = refl; adds = refl }

pub marks_kept : (base : Kept) → (h : List Event) (e : Event) → IsLawful base h → MayFollow base h e → is_still e ≡ true → (n : ℕ) → n < length h →
    marks_of base (h ++ e ∷ []) n ≡ marks_of base h n
marks_kept base h e law next still n l =
    let same = spares_marks h e n still in
    let z = cut_children_none h e n (λ k. is_cut_none h e k same.shuts) in
    let p : count_by (is_projection_to n) (stops_of h e) ≡ 0 = ap (count_by (is_projection_to n)) same.climbs in
    let w : cond {A = ℕ} (pays n e) 1 0 ≡ 0 = ap (λ b. cond {A = ℕ} b 1 0) same.declines in
    let y : cond {A = ℕ} (adds_child n e) 1 0 ≡ 0 = ap (λ b. cond {A = ℕ} b 1 0) same.adds in
    marks-push base h e law next n l ∙ same_marks base (ap (λ b. source_opened base h n || b) same.source ∙ or_false (source_opened base h n))
    (ap (λ b. notifier_opened base h n || b) same.notifier ∙ or_false (notifier_opened base h n))
    (ap (λ ss. is_fired h n || list_any (is_firing_of n) ss) same.climbs ∙ or_false (is_fired h n))
    (ap (λ b. source_completed base h n || b) same.completes ∙ or_false (source_completed base h n))
    (ap (option_or (child_terminal h n)) same.ends ∙ or_nothing (child_terminal h n)) (omega arith) (omega arith)

-- a source, a notifier
pub marks-source : (base : Kept) → (h : List Event) (p : ℕ) (kind : Kind) → IsLawful base h → MayFollow base h (Open (Source p) kind) → (n : ℕ) →
    n < length h → marks_of base (h ++ Open (Source p) kind ∷ []) n ≡
    record (marks_of base h n) { source_opened = source_opened base h n || (p == n); open_children = open_children h n + cond (p == n) 1 0 }
marks-source base h p kind law next n l =
    let z = cut_children_none h (Open (Source p) kind) n (λ k. is_cut_none h (Open (Source p) kind) k refl) in
    let w : count_by (is_projection_to n) [] ≡ 0 = refl in
    marks-push base h (Open (Source p) kind) law next n l ∙
    same_marks base refl (or_false _) (or_false _) (or_false _) (or_nothing _) (omega arith) (omega arith)

pub marks-notifier : (base : Kept) → (h : List Event) (p : ℕ) (kind : Kind) → IsLawful base h → MayFollow base h (Open (Notifier p) kind) → (n : ℕ) →
    n < length h → marks_of base (h ++ Open (Notifier p) kind ∷ []) n ≡
    record (marks_of base h n) { notifier_opened = notifier_opened base h n || (p == n); open_children = open_children h n + cond (p == n) 1 0 }
marks-notifier base h p kind law next n l =
    let z = cut_children_none h (Open (Notifier p) kind) n (λ k. is_cut_none h (Open (Notifier p) kind) k refl) in
    let w : count_by (is_projection_to n) [] ≡ 0 = refl in
    marks-push base h (Open (Notifier p) kind) law next n l ∙
    same_marks base (or_false _) refl (or_false _) (or_false _) (or_nothing _) (omega arith) (omega arith)
