-- What a step tells: ends only to nodes that it closes, and no item but those of its own event.
use Rattle.rx_event.proofs.Laws.Common.{◌≡◌, ℕ, ℤ, ◌+◌, ◌≤◌, Bool, true, false, List, [], ◌∷◌, ◌++◌, length, refl, sym, ap, ◌∙◌, arith, subst}
use Rattle.rx_event.proofs.Laws.Common.{append_assoc, append-nil, length-append, cond, ◌||◌, ◌==◌}
use Rattle.rx_event.proofs.Laws.Common.{Kept, is_open, is_root, at, notes, mail_of, MayFollow, forced, due, IsLawful, IsForcedOn, IsDue, filter_map}
use Rattle.rx_event.proofs.Laws.Common.{Stop, Delivery, Projection, Firing}
use Rattle.rx_event.specs.declared.event.Event.{Event}
use Rattle.rx_event.specs.declared.event.Event.TheVariants.{Item, End}
use Rattle.rx_event.specs.declared.mail.Mail.{Mail}
use Rattle.rx_note.specs.declared.note.Terminal.{Terminal}
use Rattle.rx_event.specs.Notes.{told}
use Rattle.rx_event.proofs.Laws.Counts.{notes-push}
use Rattle.rx_event.proofs.Laws.Lawful.{may_end, IsLawful-push}
use Rattle.rx_event.proofs.Laws.Openness.{is_open_within, is_open_outside-end, stays_closed}
use Rattle.rx_event.proofs.Laws.Totals.{is_within_self}
use Rattle.std.proofs.lemmas.Bool.{eqb-true, or_cases, false≢true}
use Rattle.std.proofs.lemmas.List.Folds.{list_any-append}
use Rattle.rx_event.proofs.Laws.Common.{◌⊎◌, inl, inr}
use Rattle.rx_event.proofs.Laws.Dues.{IsDueOn, none_more, one_more, IsClosing, by_end, by_close, closing_of, connected_on, lawful_on, forced_due_on}
use Rattle.rx_roles.proofs.Laws.JustThose.{just_none}
use Rattle.rx_roles.proofs.Laws.NodesAfterStep.{StepMakes, older, is_new_none, makes_none_more, connected_after}
use Rattle.rx_event.proofs.Laws.Common.{IsConnected, IsSettled, makes_node}
use Rattle.rx_event.specs.Allowed.{IsAllowed}
use Rattle.rx_event.specs.Lawful.{allowed}
use Rattle.std.proofs.lemmas.Grind.{common_steps}
use Rattle.rx_roles.specs.Effects.{items_in, ends_of, after_all, AllListened}
use Rattle.rx_roles.specs.Roles.{is_among, role_of, AreRolesOf}
use Rattle.rx_roles.specs.declared.roles.Role.{Role}
use Rattle.rx_roles.proofs.Laws.RolesTaken.{listened-append, roles_taken_all, after_all_ends}
use Rattle.rx_event.proofs.Laws.Common.{◌&&◌, not, is_merging, AllByRecursion, StopsAtOpen}
use Rattle.rx_event.proofs.Laws.Places.{at-append}
use Rattle.rx_event.proofs.Laws.Projections.{stops_open}
use Rattle.rx_event.proofs.Laws.Steps.{may_emit}
use Rattle.std.proofs.lemmas.Bool.{and_parts, and_from, both_ways}
use Rattle.std.proofs.Common.{is_some}

pub items_in-append : (xs ys : List Mail) → items_in (xs ++ ys) ≡ items_in xs + items_in ys
items_in-append [] ys = omega arith
items_in-append (x ∷ xs) ys = grind (arith, common_steps, items_in-append xs ys)

pub ends_of-append : (xs ys : List Mail) → ends_of (xs ++ ys) ≡ ends_of xs ++ ends_of ys
ends_of-append [] ys = refl
ends_of-append (x ∷ xs) ys = grind (arith, common_steps, ends_of-append xs ys)

pub items_few : (ms : List Mail) → items_in ms ≤ length ms
items_few [] = omega arith
items_few (m ∷ ms) = let r = items_few ms in grind (arith, common_steps)

-- an end tells no item
pub end_items : (h : List Event) (n : ℕ) (t : Terminal) → items_in (mail_of h (End n t)) ≡ 0
end_items h n t = by_root (at is_root h n) where
  by_root : (b : Bool) → items_in (cond b ((record { place = length h; to = n; note = Rattle.rx_note.specs.declared.note.Note.TheVariants.End t }) ∷ []) []) ≡ 0
  by_root true = refl
  by_root false = refl

-- what is due makes no node, and tells no item
due_plain : (base : Kept) {h : List Event} {e : Event} → IsDue base h e → makes_node e ≡ false
due_plain base {h} d = by_closing (closing_of base d) where
  by_closing : {x : Event} → IsClosing base h x → makes_node x ≡ false
  by_closing (by_end c d o) = refl
  by_closing (by_close c g at_c none o) = refl

due_items : (base : Kept) {h : List Event} {e : Event} → IsDue base h e → items_in (mail_of h e) ≡ 0
due_items base {h} d = by_closing (closing_of base d) where
  by_closing : {x : Event} → IsClosing base h x → items_in (mail_of h x) ≡ 0
  by_closing (by_end c {t = t} d o) = end_items h c t
  by_closing (by_close c g at_c none o) = refl

-- an item tells no end
item_ends : (place : ℕ) (value : ℤ) (ss : List Stop) → ends_of (filter_map (told place value) ss) ≡ []
item_ends place value [] = refl
item_ends place value (Delivery m ∷ ss) = item_ends place value ss
item_ends place value (Projection f ∷ ss) = item_ends place value ss
item_ends place value (Firing u ∷ ss) = item_ends place value ss

-- who is told an end by one event was open before it, and is closed behind it
pub record EndsNow (h : List Event) (e : Event) (n : ℕ) : Type 0 where
  pub was : is_open h n ≡ true
  pub closed : is_open (h ++ e ∷ []) n ≡ false

none_among : (n : ℕ) (ns : List ℕ) → ns ≡ [] → is_among n ns ≡ true → ⊥
none_among n ns none is = false≢true (ap (is_among n) (sym none) ∙ is)

end_now : (h : List Event) (m n : ℕ) (t : Terminal) → is_open h m ≡ true → (m == n) ≡ true → EndsNow h (End m t) n
end_now h m n t o same =
    let number : m ≡ n = eqb-true m n same in
    let here : is_open h n ≡ true = ap (is_open h) (sym number) ∙ o in
    record { was = here; closed = rw number (is_open_outside-end h n t n ∙ rw (here, is_within_self h n) refl) }

or_false : (b : Bool) → (b || false) ≡ b
or_false true = refl
or_false false = refl

pub ends_now : (base : Kept) (h : List Event) (e : Event) → MayFollow base h e → (n : ℕ) → is_among n (ends_of (mail_of h e)) ≡ true → EndsNow h e n
ends_now base h (Item l v) next n is = absurd (none_among n _ (item_ends (length h) v (Rattle.rx_event.specs.Climb.stops h l)) is)
ends_now base h (End m t) next n is = by_root (at is_root h m) is where
  by_root : (b : Bool) → is_among n (ends_of (cond b ((record { place = length h; to = m; note = Rattle.rx_note.specs.declared.note.Note.TheVariants.End t }) ∷ []) [])) ≡ true →
      EndsNow h (End m t) n
  by_root true same = end_now h m n t (may_end base next) (sym (or_false (m == n)) ∙ same)
  by_root false none = absurd (false≢true none)
ends_now base h _ next n is = absurd (false≢true is)

-- who is open and of this sort
abbrev pub of_sort : (Event → Bool) → List Event → ℕ → Bool
of_sort p h n = is_open h n && at p h n

-- all of a sort have a role
abbrev HaveRoles : (Event → Bool) → List Event → List Role → Type 0
HaveRoles p k roles = (n : ℕ) → of_sort p k n ≡ true → is_some (role_of roles n) ≡ true

-- each note of an event goes to who is open, and so to a role
item_listened : (k : List Event) (place : ℕ) (value : ℤ) (hears merges : List Role) → HaveRoles is_root k hears → HaveRoles is_merging k merges →
    (ss : List Stop) → AllByRecursion (StopsAtOpen k) ss → AllListened hears merges (filter_map (told place value) ss)
item_listened k place value hears merges ears mouths [] all = tt
item_listened k place value hears merges ears mouths (Delivery m ∷ ss) all =
    (ears m (and_from (is_open k m) (at is_root k m) all.0.0 all.0.1), item_listened k place value hears merges ears mouths ss all.1)
item_listened k place value hears merges ears mouths (Projection f ∷ ss) all =
    (mouths f (and_from (is_open k f) (at is_merging k f) all.0.0 all.0.1), item_listened k place value hears merges ears mouths ss all.1)
item_listened k place value hears merges ears mouths (Firing u ∷ ss) all = item_listened k place value hears merges ears mouths ss all.1

event_listened : (base : Kept) (k : List Event) (e : Event) → IsLawful base k → MayFollow base k e → (hears merges : List Role) →
    HaveRoles is_root k hears → HaveRoles is_merging k merges → AllListened hears merges (mail_of k e)
event_listened base k (Item l v) law next hears merges ears mouths =
    item_listened k (length k) v hears merges ears mouths (Rattle.rx_event.specs.Climb.stops k l) (stops_open base k l law (may_emit base next))
event_listened base k (End m t) law next hears merges ears mouths = by_root (at is_root k m) refl where
  by_root : (b : Bool) → at is_root k m ≡ b →
      AllListened hears merges (cond b ((record { place = length k; to = m; note = Rattle.rx_note.specs.declared.note.Note.TheVariants.End t }) ∷ []) [])
  by_root true root = (ears m (and_from (is_open k m) (at is_root k m) (may_end base next) root), tt)
  by_root false root = tt
event_listened base k _ law next hears merges ears mouths = tt

-- what a step that makes no node told from h to k
pub record StepTells (h k : List Event) (items : ℕ) : Type 0 where
  pub events : List Event
  pub grows : k ≡ h ++ events
  pub rest : List Mail
  pub is : notes k ≡ notes h ++ rest
  pub few : items_in rest ≤ items
  pub longer : length h ≤ length k
  pub makes : StepMakes h k []
  pub closes : (n : ℕ) → is_among n (ends_of rest) ≡ true → (is_open h n ≡ true) × (is_open k n ≡ false)
  -- and each note goes to who has a role
  pub listened : (hears merges : List Role) → AreRolesOf (of_sort is_root h) hears → AreRolesOf (of_sort is_merging h) merges → AllListened hears merges rest

tells_none : (h : List Event) → StepTells h h 0
tells_none h = record {
  events = [];
  grows = sym (append-nil h);
  rest = [];
  is = sym (append-nil (notes h));
  few = omega arith;
  longer = omega arith;
  makes = record { grown = record { events = []; grows = sym (append-nil h) }; makes = just_none (is_new_none h); opens = λ n is. absurd (false≢true is) };
  closes = λ n is. absurd (false≢true is);
  listened = λ hears merges ears mouths. tt;
}

-- an event more that makes no node
tells_more : (base : Kept) {h k : List Event} (e : Event) {items : ℕ} → IsLawful base k → MayFollow base k e → makes_node e ≡ false → StepTells h k items →
    StepTells h (k ++ e ∷ []) (items + items_in (mail_of k e))
tells_more base {h} {k} e {items} law next plain s = record {
  events = s.events ++ e ∷ [];
  grows = ap (λ (x : List Event). x ++ e ∷ []) s.grows ∙ append_assoc h s.events (e ∷ []);
  rest = s.rest ++ mail_of k e;
  is = notes-push k e ∙ ap (λ (ms : List Mail). ms ++ mail_of k e) s.is ∙ append_assoc (notes h) s.rest (mail_of k e);
  few = let f = s.few in omega (arith, items_in-append s.rest (mail_of k e));
  longer = let l = s.longer in omega (arith, length-append k (e ∷ []));
  makes = makes_none_more e s.longer plain s.makes;
  closes = λ n is. by_part n (or_cases (is_among n (ends_of s.rest)) (is_among n (ends_of (mail_of k e)))
      (sym (list_any-append (λ m. m == n) (ends_of s.rest) (ends_of (mail_of k e))) ∙ ap (is_among n) (sym (ends_of-append s.rest (mail_of k e))) ∙ is));
  listened = λ hears merges ears mouths.
      listened-append hears merges s.rest (mail_of k e) (s.listened hears merges ears mouths)
      (event_listened base k e law next (after_all hears s.rest) merges
      (λ n is. still_hears hears ears n is) (λ n is. still_merges merges mouths n is));
} where
  was_open : (n : ℕ) → is_open k n ≡ true → is_open h n ≡ true
  was_open n o = by_part (older s.makes n o) where
    by_part : (is_open h n ≡ true) ⊎ (false ≡ true) → is_open h n ≡ true
    by_part (inl was) = was
    by_part (inr none) = absurd (false≢true none)

  sort_older : (p : Event → Bool) (n : ℕ) → of_sort p k n ≡ true → of_sort p h n ≡ true
  sort_older p n is =
      let parts = and_parts (is_open k n) (at p k n) is in
      let was = was_open n parts.0 in
      and_from (is_open h n) (at p h n) was (sym (ap (λ (x : List Event). at p x n) s.grows ∙ at-append p h s.events n (is_open_within h n was)) ∙ parts.1)

  not_ended : (n : ℕ) → is_open k n ≡ true → (b : Bool) → is_among n (ends_of s.rest) ≡ b → not b ≡ true
  not_ended n o true is = absurd (both_ways (is_open k n) (s.closes n is).1 o)
  not_ended n o false is = refl

  still_merges : (merges : List Role) → AreRolesOf (of_sort is_merging h) merges → (n : ℕ) → of_sort is_merging k n ≡ true → is_some (role_of merges n) ≡ true
  still_merges merges mouths n is = mouths.there n ∙ sort_older is_merging n is

  still_hears : (hears : List Role) → AreRolesOf (of_sort is_root h) hears → (n : ℕ) → of_sort is_root k n ≡ true →
      is_some (role_of (after_all hears s.rest) n) ≡ true
  still_hears hears ears n is =
      let left = roles_taken_all (ends_of s.rest) ears in
      ap (λ (rs : List Role). is_some (role_of rs n)) (after_all_ends hears s.rest) ∙ left.there n
      ∙ and_from (of_sort is_root h n) (not (is_among n (ends_of s.rest))) (sort_older is_root n is)
      (not_ended n (and_parts (is_open k n) (at is_root k n) is).0 (is_among n (ends_of s.rest)) refl)

  by_part : (n : ℕ) → (is_among n (ends_of s.rest) ≡ true) ⊎ (is_among n (ends_of (mail_of k e)) ≡ true) →
      (is_open h n ≡ true) × (is_open (k ++ e ∷ []) n ≡ false)
  by_part n (inl old) =
      let c = s.closes n old in
      let w = is_open_within h n c.0 in
      (c.0, stays_closed k e n (let l = s.longer in omega arith) c.1)
  by_part n (inr now) = let c = ends_now base k e next n now in (was_open n c.was, c.closed)

-- what is due
tells_due : (base : Kept) {h b k : List Event} {items : ℕ} → IsLawful base b → IsConnected b → StepTells h b items → IsDueOn base b k → StepTells h k items
tells_due base law whole s none_more = s
tells_due base {h} {b} {items = items} law whole s (one_more {k} {e} on d) =
    let t = tells_due base law whole s on in
    let next : MayFollow base k e = forced (due (connected_on base on whole) d) in
    let u = tells_more base e (lawful_on base on law whole) next (due_plain base d) t in
    subst (λ (m : ℕ). StepTells h (k ++ e ∷ []) m) (let z = due_items base d in omega arith) u

-- a caller's event that makes no node, and all that it forces
pub step_tells : (base : Kept) (h : List Event) (e : Event) (k : List Event) → IsLawful base h → IsSettled base h → IsAllowed base h e → makes_node e ≡ false →
    IsForcedOn base (h ++ e ∷ []) k → StepTells h k (items_in (mail_of h e))
step_tells base h e k law settled may plain steps =
    let next : MayFollow base h e = allowed settled may in
    let whole = connected_after base h e law settled may plain in
    let all = tells_due base (IsLawful-push base h e law next) whole (tells_more base e law next plain (tells_none h))
    (forced_due_on base steps whole) in
    subst (λ (m : ℕ). StepTells h k m) (let z : 0 + items_in (mail_of h e) ≡ items_in (mail_of h e) = omega arith in z) all
