-- What the marks of a node give is due there, and where they give none only a hub's rule is left.
use Rattle.rx_event.proofs.Laws.Common.{◌≡◌, ℕ, ◌<◌, Bool, true, false, List, length, Option, Some, None, refl, sym, ap, ◌∙◌, arith, ◌==◌, slice_get, take, not}
use Rattle.rx_event.proofs.Laws.Common.{◌&&◌, list_any, option_map_or, option_or, both_ways, false≢true, and_parts, and_from, eq-eqb, eqb-true, length-take-le}
use Rattle.rx_event.proofs.Laws.Common.{slice_get_within, same_Some, none-some, Terminal, Completed, Error, Kept, Event, Connect, End, Close, is_merging}
use Rattle.rx_event.proofs.Laws.Common.{is_mirroring, is_until, makes_hub, is_auto_hub, at, is_open, owed, is_fired, mirrored, fired, failed, completed, cut}
use Rattle.rx_event.proofs.Laws.Common.{left, connecting, due, SourceEnded, IsDue, IsForced, IsConnectDue, IsSettled, passes_on, child_terminal}
use Rattle.rx_event.proofs.Laws.Common.{source_completed, open_children, marks_of, due_at, IsLawful, cond_some, Marks, terminal_due}
use Rattle.std.specs.Option.{option_map}
use Rattle.rx_event.proofs.Laws.Hubs.{hub_before}
use Rattle.rx_event.specs.Marks.{is_over, completed_if}
use Rattle.rx_event.proofs.Laws.Places.{at-take, at_within}
use Rattle.rx_event.proofs.Laws.Openness.{is_open_step}
use Rattle.rx_event.proofs.Laws.Searches.{list_any_holds}
use Rattle.rx_event.proofs.Laws.MarksFound.{child_terminal_some, child_terminal_none, open_children_none, open_children_zero}
use Rattle.rx_event.proofs.Laws.Lawful.{due_open}
use Rattle.std.proofs.Common.{rules}

-- the rule at one node ----------------------------------------------------------------------------

completed_if_some : (b : Bool) (t : Terminal) → completed_if b ≡ Some t → (b ≡ true) × (Completed ≡ t)
completed_if_some b t found = cond_some b Completed t found

over_parts : (base : Kept) → (h : List Event) (n : ℕ) → is_over (marks_of base h n) ≡ true →
    (source_completed base h n ≡ true) × (open_children h n ≡ 0) × (owed base h n ≡ 0)
over_parts base h n over = search (rules, and_parts, eqb-true)

-- what a FlatMap's or a Switch's marks give is due
pub merging_due : (base : Kept) → (h : List Event) (n : ℕ) (t : Terminal) → is_open h n ≡ true → at is_merging h n ≡ true →
    option_or (child_terminal h n) (completed_if (is_over (marks_of base h n))) ≡ Some t → IsDue base h (End n t)
merging_due base h n t o m found = by_child (child_terminal h n) refl found where
  as_failed : (u : Terminal) → child_terminal h n ≡ Some u → IsDue base h (End n u)
  as_failed (Error c) ended = failed o m (child_terminal_some h n (Error c) ended).0
  as_failed Completed ended = absurd (both_ways _ (ap not m) (child_terminal_some h n Completed ended).1)

  by_child : (c : Option Terminal) → child_terminal h n ≡ c → option_or c (completed_if (is_over (marks_of base h n))) ≡ Some t → IsDue base h (End n t)
  by_child (Some u) ended same = rw (← same_Some u t same) (as_failed u ended)
  by_child None none over =
      let w = completed_if_some (is_over (marks_of base h n)) t over in
      let parts = over_parts base h n w.0 in
      rw (← w.1) (completed o m (λ c. child_terminal_none h n (Error c) none refl) parts.0 (open_children_none h n parts.1) parts.2)

-- the terminal that the marks of an open node give is due
pub terminal_due_due : (base : Kept) → (h : List Event) (n : ℕ) (made : Event) (t : Terminal) → is_open h n ≡ true → slice_get h n ≡ Some made →
    terminal_due made (marks_of base h n) ≡ Some t → IsDue base h (End n t)
terminal_due_due base h n x3 t o at_n found = search (rules, mirrored, child_terminal_some, same_Some, completed_if_some, fired, merging_due, none-some)

-- so is the event
pub due_at_due : (base : Kept) → (h : List Event) (n : ℕ) (made e : Event) → is_open h n ≡ true → slice_get h n ≡ Some made →
    due_at made (marks_of base h n) n ≡ Some e → IsDue base h e
due_at_due base h n made e o at_n found = search (rules, none-some, same_Some, terminal_due_due)

-- where nothing is due ----------------------------------------------------------------------------

or_none : {X : Type 0} (a b : Option X) → option_or a b ≡ None → (a ≡ None) × (b ≡ None)
or_none x0 b none = search (rules, none-some)

completed_if_none : (b : Bool) → completed_if b ≡ None → b ≡ false
completed_if_none b none = grind arith

any_passes : (t : Terminal) → passes_on false t ≡ true
any_passes t = grind arith

mirroring_none : (made : Event) (m : Marks) → is_mirroring made ≡ true → terminal_due made m ≡ None → (m.child_terminal ≡ None) × (is_merging made ≡ false)
mirroring_none x0 m mirrors none = search (rules, or_none, false≢true)

until_none : (made : Event) (m : Marks) → is_until made ≡ true → terminal_due made m ≡ None → m.fired ≡ false
until_none x0 m until none = search (rules, completed_if_none, or_none, false≢true)

merging_none : (made : Event) (m : Marks) → is_merging made ≡ true → terminal_due made m ≡ None → (m.child_terminal ≡ None) × (is_over m ≡ false)
merging_none x0 m merges none = search (rules, or_none, completed_if_none, false≢true)

pub made_passes : (q : Event → Bool) (h : List Event) (n : ℕ) (made : Event) → slice_get h n ≡ Some made → at q h n ≡ true → q made ≡ true
made_passes q h n made at_n passes = sym (ap (λ o. option_map_or q o false) at_n) ∙ passes

-- Where the marks of a node give none, only the end of a connection ends it
pub none_due : (base : Kept) → (h : List Event) (n : ℕ) (made : Event) (t : Terminal) → slice_get h n ≡ Some made →
    terminal_due made (marks_of base h n) ≡ None → IsDue base h (End n t) → SourceEnded h n t
none_due base h n made t at_n none (mirrored o m c) =
    let w = mirroring_none made (marks_of base h n) (made_passes is_mirroring h n made at_n m) none in
    absurd (child_terminal_none h n t w.0 (ap (λ b. passes_on b t) (ap (λ o. option_map_or is_merging o false) at_n ∙ w.1) ∙ any_passes t) c)
none_due base h n made t at_n none (fired o u f) =
    absurd (both_ways (is_fired h n) (until_none made (marks_of base h n) (made_passes is_until h n made at_n u) none) f)
none_due base h n made t at_n none (failed {c = code} o m c) =
    absurd (child_terminal_none h n (Error code) (merging_none made (marks_of base h n) (made_passes is_merging h n made at_n m) none).0 refl c)
none_due base h n made t at_n none (completed o m unfailed source closed paid) =
    let over : is_over (marks_of base h n) ≡ true = and_from (source_completed base h n && (open_children h n == 0)) (owed base h n == 0)
    (and_from (source_completed base h n) (open_children h n == 0) source (eq-eqb (open_children h n) 0 (open_children_zero h n closed)))
    (eq-eqb (owed base h n) 0 paid) in
    absurd (both_ways (is_over (marks_of base h n)) (merging_none made (marks_of base h n) (made_passes is_merging h n made at_n m) none).1 over)
none_due base h n made t at_n none (cut o e) = e

-- the same of the event
pub due_at_none : (base : Kept) → (h : List Event) (n : ℕ) (made : Event) (t : Terminal) → slice_get h n ≡ Some made →
    due_at made (marks_of base h n) n ≡ None → IsDue base h (End n t) → SourceEnded h n t
due_at_none base h n made t at_n none d = search (rules, none_due, none-some)

-- what the marks of an open node give is forced, where no hub waits
pub due_at_forced : {base : Kept} → (h : List Event) (n : ℕ) (made e : Event) → ((g : ℕ) → ¬ IsConnectDue h g) → is_open h n ≡ true →
    slice_get h n ≡ Some made → due_at made (marks_of base h n) n ≡ Some e → IsForced base h e
due_at_forced {base} h n made e none_waits o at_n found = due none_waits (due_at_due base h n made e o at_n found)

-- a settled history -------------------------------------------------------------------------------

pub open_made : (h : List Event) (n : ℕ) → is_open h n ≡ true → (made : Event) × (slice_get h n ≡ Some made)
open_made h n o = search (rules, slice_get, both_ways, is_open_step)

-- A history is settled where no marks of an open node give an event, and no hub's rule does
pub settled_by_marks : (base : Kept) → (h : List Event) → ((g : ℕ) → ¬ IsConnectDue h g) → ((n : ℕ) (t : Terminal) → is_open h n ≡ true → ¬ SourceEnded h n t) →
    ((c : ℕ) → ¬ IsDue base h (Close c)) →
    ((n : ℕ) (made : Event) → is_open h n ≡ true → slice_get h n ≡ Some made → due_at made (marks_of base h n) n ≡ None) → IsSettled base h
settled_by_marks base h none_waits whole kept quiet = record { none = none } where
  ended : (n : ℕ) (t : Terminal) → IsDue base h (End n t) → ⊥
  ended n t d =
      let made = open_made h n (due_open base d) in
      whole n t (due_open base d) (due_at_none base h n made.0 t made.1 (quiet n made.0 (due_open base d) made.1) d)

  none_is : {e : Event} → IsDue base h e → ⊥
  none_is (mirrored {p = p} {t = t} o k e) = ended p t (mirrored o k e)
  none_is (fired {u = u} o k e) = ended u Completed (fired o k e)
  none_is (failed {f = f} {c = code} o k e) = ended f (Error code) (failed o k e)
  none_is (completed {f = f} o k n e c w) = ended f Completed (completed o k n e c w)
  none_is (cut {s = s} {t = t} o e) = ended s t (cut o e)
  none_is (left {c = c} o at_c a n) = kept c (left o at_c a n)

  none : (e : Event) → IsForced base h e → ⊥
  none e (connecting {g = g} d) = none_waits g d
  none e (due n d) = none_is d

hub_at : (h : List Event) (q : Event → Bool) → ((e : Event) → q e ≡ true → makes_hub e ≡ true) → list_any makes_hub h ≡ false → (g : ℕ) → at q h g ≡ true → ⊥
hub_at h q hubbed hubless g passes = search (rules, slice_get, option_map_or, false≢true, both_ways, list_any, list_any_holds)

auto_makes_hub : (e : Event) → is_auto_hub e ≡ true → makes_hub e ≡ true
auto_makes_hub e a = grind arith

-- without a hub nothing was connected
pub unconnected : (base : Kept) → (h : List Event) → IsLawful base h → list_any makes_hub h ≡ false → (c g : ℕ) → slice_get h c ≡ Some (Connect g) → ⊥
unconnected base h law hubless c g at_c = hub_at h makes_hub (λ e is. is) hubless g (older makes_hub (hub_before base h law c g at_c)) where
  l : c < length h
  l = slice_get_within h c (Connect g) at_c

  older : (q : Event → Bool) → at q (take c h) g ≡ true → at q h g ≡ true
  older q passes =
      let w : g < length (take c h) = at_within q (take c h) g passes in
      let b : c < length h = l in
      let k : length (take c h) ≡ c = length-take-le c h (omega arith) in sym (at-take q h c g (omega arith) l) ∙ passes

due_close_auto : (base : Kept) → {h : List Event} {c : ℕ} → IsDue base h (Close c) → (g : ℕ) × (at is_auto_hub h g ≡ true)
due_close_auto base (left {g = g} o at_c a n) = (g, a)

-- a lawful history without hubs is settled where no marks give an event
pub settled_hubless : (base : Kept) → (h : List Event) → IsLawful base h → list_any makes_hub h ≡ false →
    ((n : ℕ) (made : Event) → is_open h n ≡ true → slice_get h n ≡ Some made → due_at made (marks_of base h n) n ≡ None) → IsSettled base h
settled_hubless base h law hubless quiet = settled_by_marks base h (λ g d. hub_at h is_auto_hub auto_makes_hub hubless g d.auto)
    (λ n t o s. unconnected base h law hubless s.connection s.hub s.connects)
    (λ c d. let w = due_close_auto base d in hub_at h is_auto_hub auto_makes_hub hubless w.0 w.1) quiet

-- settled and due ---------------------------------------------------------------------------------

-- in a settled history no marks of an open node give an event
pub settled_quiet : (base : Kept) → (h : List Event) → IsSettled base h → (n : ℕ) (made : Event) → is_open h n ≡ true → slice_get h n ≡ Some made →
    due_at made (marks_of base h n) n ≡ None
settled_quiet base h settled n made o at_n = by_event (due_at made (marks_of base h n) n) refl where
  by_event : (x : Option Event) → due_at made (marks_of base h n) n ≡ x → x ≡ None
  by_event None none = refl
  by_event (Some e) found = absurd (settled.none e (due_at_forced h n made e (λ g d. settled.none (Connect g) (connecting d)) o at_n found))

-- what is due at a node, if not by the end of a connection, its marks give an end of it
pub due_by_marks : (base : Kept) → (h : List Event) (n : ℕ) (made : Event) (t : Terminal) → slice_get h n ≡ Some made → ¬ SourceEnded h n t →
    IsDue base h (End n t) → (u : Terminal) × (due_at made (marks_of base h n) n ≡ Some (End n u))
due_by_marks base h n made t at_n whole d = by_terminal (terminal_due made (marks_of base h n)) refl where
  by_terminal : (o : Option Terminal) → terminal_due made (marks_of base h n) ≡ o → (u : Terminal) × (option_map (λ v. End n v) o ≡ Some (End n u))
  by_terminal (Some u) found = (u, refl)
  by_terminal None none = absurd (whole (none_due base h n made t at_n none d))
