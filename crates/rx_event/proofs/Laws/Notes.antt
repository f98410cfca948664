-- What each node is told: items, then at most one end, then nothing.
use Rattle.rx_event.proofs.Laws.Common.{◌≡◌, ℕ, ℤ, ◌<◌, ◌≤◌, Bool, true, false, List, [], ◌∷◌, ◌++◌, length, Some, None, cond, refl, sym, ap, ◌∙◌, arith, inl}
use Rattle.rx_event.proofs.Laws.Common.{inr, ◌⊎◌, ◌==◌, append-nil, filter, map, length-append, not, AllByRecursion, filter_map, cases_Bool, cases_lt}
use Rattle.rx_event.proofs.Laws.Common.{both_ways, and_from, eqb-true, slice_get_past, Terminal, Kept, shown, Event, Item, End, is_root, at, is_open, Stop}
use Rattle.rx_event.proofs.Laws.Common.{Delivery, Projection, Firing, stops, notes, mail_of, MayFollow, IsLawful, StopsAtOpen, list_all, map-append}
use Rattle.rx_event.proofs.Laws.Common.{Mail, notes_to}
use Rattle.std.proofs.lemmas.List.Elements.{filter-append}
use Rattle.std.proofs.lemmas.List.Folds.{list_all-append}
use Rattle.rx_note.specs.declared.note.Note.{Note}
use Rattle.rx_note.specs.declared.note.Note.TheVariants.{Project, End as EndNote}
use Rattle.rx_note.specs.Notes.{is_end, IsGrammatical}
use Rattle.rx_event.specs.Notes.{told}
use Rattle.rx_event.proofs.Laws.Lists.{AllByRecursion-both}
use Rattle.rx_event.proofs.Laws.Places.{at-append}
use Rattle.rx_event.proofs.Laws.Openness.{is_open_within, is_open_outside-end, stays_closed}
use Rattle.rx_event.proofs.Laws.Counts.{notes-push}
use Rattle.rx_event.proofs.Laws.Lawful.{may_end}
use Rattle.rx_event.proofs.Laws.Steps.{by_events, may_emit}
use Rattle.rx_event.proofs.Laws.Totals.{is_within_self}
use Rattle.rx_event.proofs.Laws.Projections.{stops_open}
use Rattle.rx_event.proofs.Laws.MakingRemovesNothing.{made_untold}
use Rattle.std.proofs.Common.{rules}

-- the notes of this mail that go to n
abbrev pub notes_in : ℕ → List Mail → List Note
notes_in n mail = map (λ m. m.note) (filter (λ m. m.to == n) mail)

-- what n is told by one more event comes last
pub notes_to-push : (h : List Event) (e : Event) (n : ℕ) → notes_to (h ++ e ∷ []) n ≡ notes_to h n ++ notes_in n (mail_of h e)
notes_to-push h e n = search (rules, notes_in, notes-push, map, filter-append, map-append, filter)

-- one item ----------------------------------------------------------------------------------------

abbrev is_item_note : Note → Bool
is_item_note note = not (is_end note)

abbrev IsProjected : Note → Type 0
IsProjected note = (value : ℤ) × (note ≡ Project value)

-- what an item tells n, stop by stop
abbrev item_notes : ℕ → ℕ → ℤ → List Stop → List Note
item_notes n place value ss = notes_in n (filter_map (told place value) ss)

abbrev pub noted : Bool → Note → List Note → List Note
noted b note rest = cond b (note ∷ rest) rest

pub noted_to : (n to place : ℕ) (note : Note) (rest : List Mail) →
    notes_in n ((record { place = place; to = to; note = note }) ∷ rest) ≡ noted (to == n) note (notes_in n rest)
noted_to n to place note rest = search (rules, map, cond, filter, notes_in)

noted_items : (b : Bool) (note : Note) (rest : List Note) → is_item_note note ≡ true → list_all is_item_note rest ≡ true →
    list_all is_item_note (noted b note rest) ≡ true
noted_items x0 note rest item items = search (rules, and_from)

item_notes_items : (n place : ℕ) (value : ℤ) (ss : List Stop) → list_all is_item_note (item_notes n place value ss) ≡ true
item_notes_items n place value [] = refl
item_notes_items n place value (Firing u ∷ ss) = item_notes_items n place value ss
item_notes_items n place value (Delivery m ∷ ss) = search (rules, noted_to, filter_map, noted_items, item_notes_items n place value ss)
item_notes_items n place value (Projection f ∷ ss) = search (rules, noted_to, filter_map, noted_items, item_notes_items n place value ss)

-- numbers that a test tells apart differ
differ : (p : ℕ → Bool) (n m : ℕ) → p n ≡ false → p m ≡ true → (m == n) ≡ false
differ p n m fails holds = search (rules, cases_Bool, both_ways, eqb-true)

-- nothing that is not open is told the item
item_notes_closed : (h : List Event) (n place : ℕ) (value : ℤ) → is_open h n ≡ false → (ss : List Stop) → AllByRecursion (StopsAtOpen h) ss →
    item_notes n place value ss ≡ []
item_notes_closed h n place value closed [] open_all = refl
item_notes_closed h n place value closed (Firing u ∷ ss) open_all = item_notes_closed h n place value closed ss open_all.1
item_notes_closed h n place value closed (Delivery m ∷ ss) open_all =
    search (rules, noted_to, filter_map, differ, item_notes_closed h n place value closed ss open_all.1)
item_notes_closed h n place value closed (Projection f ∷ ss) open_all =
    search (rules, noted_to, filter_map, differ, item_notes_closed h n place value closed ss open_all.1)

-- and what is no root has it projected to it alone
item_notes_projected : (h : List Event) (n place : ℕ) (value : ℤ) → at is_root h n ≡ false → (ss : List Stop) → AllByRecursion (StopsAtOpen h) ss →
    AllByRecursion IsProjected (item_notes n place value ss)
item_notes_projected h n place value plain [] open_all = tt
item_notes_projected h n place value plain (Firing u ∷ ss) open_all = item_notes_projected h n place value plain ss open_all.1
item_notes_projected h n place value plain (Delivery m ∷ ss) open_all =
    search (rules, noted_to, filter_map, differ, item_notes_projected h n place value plain ss open_all.1)
item_notes_projected h n place value plain (Projection f ∷ ss) open_all =
    search (rules, noted_to, filter_map, AllByRecursion, item_notes_projected h n place value plain ss open_all.1)

-- one event ---------------------------------------------------------------------------------------

-- what is not open is told nothing
pub mail_silent : (base : Kept) → (h : List Event) (e : Event) → IsLawful base h → MayFollow base h e → (n : ℕ) → is_open h n ≡ false →
    notes_in n (mail_of h e) ≡ []
mail_silent base h (Item l value) law next n closed = item_notes_closed h n (length h) value closed (stops h l) (stops_open base h l law (may_emit base next))
mail_silent base h (End m t) law next n closed = by_root (at is_root h m) where
  by_root : (b : Bool) → notes_in n (cond b ((record { place = length h; to = m; note = EndNote t }) ∷ []) []) ≡ []
  by_root true = rw (noted_to n m (length h) (EndNote t) [], differ (is_open h) n m closed (may_end base next)) refl
  by_root false = refl
mail_silent base h _ law next n closed = refl

-- what is no root is told projected items alone
mail_projected : (base : Kept) → (h : List Event) (e : Event) → IsLawful base h → MayFollow base h e → (n : ℕ) → at is_root h n ≡ false →
    AllByRecursion IsProjected (notes_in n (mail_of h e))
mail_projected base h (Item l value) law next n plain =
    item_notes_projected h n (length h) value plain (stops h l) (stops_open base h l law (may_emit base next))
mail_projected base h (End m t) law next n plain = by_root (at is_root h m) refl where
  by_root : (b : Bool) → at is_root h m ≡ b → AllByRecursion IsProjected (notes_in n (cond b ((record { place = length h; to = m; note = EndNote t }) ∷ []) []))
  by_root true root = rw (noted_to n m (length h) (EndNote t) [], differ (at is_root h) n m plain root) tt
  by_root false root = tt
mail_projected base h _ law next n plain = tt

-- what is not open is told nothing more
pub notes_silent : (base : Kept) → (h : List Event) (e : Event) → IsLawful base h → MayFollow base h e → (n : ℕ) → is_open h n ≡ false →
    notes_to (h ++ e ∷ []) n ≡ notes_to h n
notes_silent base h e law next n closed =
    notes_to-push h e n ∙ ap (λ (ns : List Note). notes_to h n ++ ns) (mail_silent base h e law next n closed) ∙ append-nil (notes_to h n)

-- whole histories ---------------------------------------------------------------------------------

-- n was told items alone, or is not open any more
data Told (h : List Event) (n : ℕ) : Type 0 where
  going : list_all is_item_note (notes_to h n) ≡ true → Told h n
  over : IsGrammatical (notes_to h n) → n < length h → is_open h n ≡ false → Told h n

told_more : (h : List Event) (e : Event) (n : ℕ) → list_all is_item_note (notes_to h n) ≡ true → list_all is_item_note (notes_in n (mail_of h e)) ≡ true →
    Told (h ++ e ∷ []) n
told_more h e n items more = search (rules, going, notes_to-push, list_all-append, and_from)

-- the end of an open root
told_end : (h : List Event) (m n : ℕ) (t : Terminal) → is_open h m ≡ true → list_all is_item_note (notes_to h n) ≡ true → Told (h ++ End m t ∷ []) n
told_end h m n t o items = by_root (at is_root h m) refl where
  by_number : at is_root h m ≡ true → (m == n) ≡ true → Told (h ++ End m t ∷ []) n
  by_number root same =
      let number : m ≡ n = eqb-true m n same in
      let here : is_open h n ≡ true = ap (is_open h) (sym number) ∙ o in
      let l : n < length h = is_open_within h n here in
      over (record {
        items = notes_to h n;
        last = Some t;
        no_end = items;
        whole = notes_to-push h (End m t) n ∙ ap (λ (ns : List Note). notes_to h n ++ ns) (rw (root, noted_to n m (length h) (EndNote t) [], same) refl);
      }) (omega (arith, length-append {A = Event})) (rw (number) (is_open_outside-end h n t n ∙ rw (here, is_within_self h n) refl))

  apart_or_not : at is_root h m ≡ true → ((m == n) ≡ true) ⊎ ((m == n) ≡ false) → Told (h ++ End m t ∷ []) n
  apart_or_not root (inl same) = by_number root same
  apart_or_not root (inr other) = told_more h (End m t) n items (rw (root, noted_to n m (length h) (EndNote t) [], other) refl)

  by_root : (b : Bool) → at is_root h m ≡ b → Told (h ++ End m t ∷ []) n
  by_root true root = apart_or_not root (cases_Bool (m == n))
  by_root false root = told_more h (End m t) n items (rw root refl)

told_open : (base : Kept) → (h : List Event) (e : Event) → MayFollow base h e → (n : ℕ) → list_all is_item_note (notes_to h n) ≡ true → Told (h ++ e ∷ []) n
told_open base h (Item l value) next n items = told_more h (Item l value) n items (item_notes_items n (length h) value (stops h l))
told_open base h (End m t) next n items = told_end h m n t (may_end base next) items
told_open base h e next n items = told_more h e n items refl

told_closed : (base : Kept) → (h : List Event) (e : Event) → IsLawful base h → MayFollow base h e → (n : ℕ) → is_open h n ≡ false → Told h n →
    Told (h ++ e ∷ []) n
told_closed base h e law next n closed (going items) = going (rw (notes_silent base h e law next n closed) items)
told_closed base h e law next n closed (over g l c) =
    over (rw (notes_silent base h e law next n closed) g) (omega (arith, length-append {A = Event})) (stays_closed h e n l c)

told_none : (h : List Event) → notes h ≡ [] → (n : ℕ) → notes_to h n ≡ []
told_none h none n = search rules

told_always : (base : Kept) → (h : List Event) → IsLawful base h → (n : ℕ) → Told h n
told_always base = by_events base (λ h. (n : ℕ) → Told h n) (λ s n. going (rw (told_none _ (made_untold (shown base) s.making) n) refl))
    (λ h e law next before n. by_test h e law next n (before n) (is_open h n) refl)
  where
    by_test : (h : List Event) (e : Event) → IsLawful base h → MayFollow base h e → (n : ℕ) → Told h n → (b : Bool) → is_open h n ≡ b → Told (h ++ e ∷ []) n
    by_test h e law next n before false closed = told_closed base h e law next n closed before
    by_test h e law next n (going items) true o = told_open base h e next n items
    by_test h e law next n (over g l c) true o = absurd (both_ways _ c o)

-- what each node is told obeys the grammar
pub notes_grammatical : (base : Kept) → (h : List Event) → IsLawful base h → (n : ℕ) → IsGrammatical (notes_to h n)
notes_grammatical base h law n = by_told (told_always base h law n) where
  by_told : Told h n → IsGrammatical (notes_to h n)
  by_told (going items) = record { items = notes_to h n; last = None; no_end = items; whole = sym (append-nil (notes_to h n)) }
  by_told (over g l c) = g

-- and of what is no root it is projected items
pub notes_projected : (base : Kept) → (h : List Event) → IsLawful base h → (n : ℕ) → at is_root h n ≡ false → AllByRecursion IsProjected (notes_to h n)
notes_projected base = by_events base (λ h. (n : ℕ) → at is_root h n ≡ false → AllByRecursion IsProjected (notes_to h n))
    (λ s n plain. rw (told_none _ (made_untold (shown base) s.making) n) tt) (λ h e law next before n plain.
    let old : at is_root h n ≡ false = plain_before h e n plain (cases_lt n (length h)) in
    rw (notes_to-push h e n) (AllByRecursion-both IsProjected (notes_to h n) (notes_in n (mail_of h e)) (before n old)
    (mail_projected base h e law next n old)))
  where
    plain_before : (h : List Event) (e : Event) (n : ℕ) → at is_root (h ++ e ∷ []) n ≡ false → (n < length h) ⊎ (length h ≤ n) → at is_root h n ≡ false
    plain_before h e n plain (inl l) = sym (at-append is_root h (e ∷ []) n l) ∙ plain
    plain_before h e n plain (inr g) = rw (slice_get_past h n g) refl
