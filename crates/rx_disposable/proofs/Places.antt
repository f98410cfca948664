-- A ticket's place among the members as they are kept.
use Rattle.std.proofs.Common.{◌≡◌, ◌≢◌, ℕ, zero, suc, ◌+◌, ◌<◌, ◌≤◌, nat_eq, Bool, true, List, [], ◌∷◌}
use Rattle.std.proofs.Common.{◌++◌, length, map, get_or, slice_set, Some, None, IsSome, All, false, refl, sym, ap, subst, ◌∙◌, arith}
use Rattle.std.specs.List.{remove, HoldsAt}
use Rattle.std.specs.Map.{lookup, remove_entry, set_value}
use Rattle.std.proofs.lemmas.Bool.Decides.{nat_tests}
use Rattle.std.proofs.lemmas.List.{length-map, map-append, set-get_or}
use Rattle.std.proofs.lemmas.List.Elements.{All-head, All-tail}
use Rattle.rx_disposable.specs.declared.members.Member.{Member}
use Rattle.rx_disposable.specs.declared.members.TheConstants.{INLINE_LEN}
use Rattle.rx_disposable.specs.declared.group.TheConstants.{MAX_TICKETS}
use Rattle.rx_disposable.specs.Group.{TicketsRise, IsSound}
use Rattle.rx_disposable.proofs.Tickets.{rise-append, rise-remove_entry, rise-set_value}
use Rattle.rx_disposable.specs.Members.{member_entries, member_of_entry, AreFilled, AreTicketsRising, IsKept}

module _ {T : Type 0} where
  -- members made of these tickets and values hold these
  pub entries-map : (es : List (ℕ × T)) → member_entries (map member_of_entry es) ≡ es
  entries-map [] = refl
  entries-map (e ∷ es) = ap (λ xs. e ∷ xs) (entries-map es)

  pub entries_made : (ms : List (Member T)) (es : List (ℕ × T)) → ms ≡ map member_of_entry es → member_entries ms ≡ es
  entries_made ms es made = rw made (entries-map es)

  pub filled_made : (ms : List (Member T)) (es : List (ℕ × T)) → ms ≡ map member_of_entry es → AreFilled ms
  filled_made ms es made = rw (entries_made ms es made) made

  pub kept_made : (ms : List (Member T)) (es : List (ℕ × T)) (capacity given : ℕ) (disposed : Bool) → ms ≡ map member_of_entry es
      → IsSound (record { members = es; given = given; disposed = disposed }) → INLINE_LEN ≤ capacity → IsKept ms capacity given disposed
  kept_made ms es capacity given disposed made sound inline =
      record { filled = filled_made ms es made; sound = rw (entries_made ms es made) sound; inline = inline }

  -- as many tickets and values as members
  pub length-member_entries : (ms : List (Member T)) → AreFilled ms → length (member_entries ms) ≡ length ms
  length-member_entries ms filled = sym (ap length filled ∙ length-map _ _)

  -- one member more
  pub made-append : (ms : List (Member T)) (es : List (ℕ × T)) (e : ℕ × T) → ms ≡ map member_of_entry es
      → ms ++ member_of_entry e ∷ [] ≡ map member_of_entry (es ++ e ∷ [])
  made-append ms es e made = rw (made, map-append) refl

  -- no kept ticket is below the first
  above : (first next : ℕ) (es : List (ℕ × T)) (i : ℕ) (d : Member T)
      → TicketsRise first next es → i < length es → first ≤ (get_or (map member_of_entry es) i d).ticket
  above first next [] i d rise within = absurd (omega arith)
  above first next (e ∷ es) zero d rise within = rise.0
  above first next (e ∷ es) (suc i) d rise within =
      omega (arith, rise.0, above (e.0 + 1) next es i d rise.1 (omega arith))

  rising : (first next : ℕ) (es : List (ℕ × T)) → TicketsRise first next es → AreTicketsRising (map member_of_entry es)
  rising first next [] rise i j d before within = absurd (omega arith)
  rising first next (e ∷ es) rise i zero d before within = absurd (omega arith)
  rising first next (e ∷ es) rise zero (suc j) d before within =
      let few = length-map es member_of_entry in
      omega (arith, above (e.0 + 1) next es j d rise.1 (omega (arith, within, few)))
  rising first next (e ∷ es) rise (suc i) (suc j) d before within =
      rising (e.0 + 1) next es rise.1 i j d (omega arith) (omega arith)

  -- the members stand in order of their tickets
  pub in_order : (first next : ℕ) (ms : List (Member T)) → AreFilled ms → TicketsRise first next (member_entries ms) → AreTicketsRising ms
  in_order first next ms filled rise =
      subst AreTicketsRising (sym filled) (rising first next (member_entries ms) rise)

module _ {T : Type 0} (ticket : ℕ) (m : Member T) (has : m.ticket ≡ ticket) where
  -- the member at a place has the value that its ticket stands for
  pub value_at_place : (first next : ℕ) (es : List (ℕ × T)) (i : ℕ) → TicketsRise first next es
      → i < length es → m ≡ get_or (map member_of_entry es) i m → m.value ≡ lookup (nat_eq ticket) es
  value_at_place first next [] i rise within at = absurd (omega arith)
  value_at_place first next (e ∷ es) zero rise within at = grind (arith, nat_tests, has, at)
  value_at_place first next (e ∷ es) (suc i) rise within at =
      grind (arith, nat_tests, has, at, above (e.0 + 1) next es i m rise.1 (omega arith), value_at_place (e.0 + 1) next es i rise.1 (omega arith) at)

  -- to take the member out there is to take its ticket's value out
  pub remove_at_place : (first next : ℕ) (es : List (ℕ × T)) (i : ℕ) → TicketsRise first next es → i < length es
      → m ≡ get_or (map member_of_entry es) i m → remove (map member_of_entry es) i ≡ map member_of_entry (remove_entry (nat_eq ticket) es)
  remove_at_place first next [] i rise within at = absurd (omega arith)
  remove_at_place first next (e ∷ es) zero rise within at = grind (arith, nat_tests, has, at)
  remove_at_place first next (e ∷ es) (suc i) rise within at =
      grind (arith, nat_tests, has, at, above (e.0 + 1) next es i m rise.1 (omega arith), remove_at_place (e.0 + 1) next es i rise.1 (omega arith) at)

  -- to write the member's value there is to write its ticket's value
  pub set_at_place : (first next : ℕ) (es : List (ℕ × T)) (i : ℕ) (w : T) → TicketsRise first next es → i < length es
      → m ≡ get_or (map member_of_entry es) i m
      → slice_set (map member_of_entry es) i (record m { value = Some w }) ≡ map member_of_entry (set_value (nat_eq ticket) es w)
  set_at_place first next [] i w rise within at = absurd (omega arith)
  set_at_place first next (e ∷ es) zero w rise within at = grind (arith, nat_tests, has, at)
  set_at_place first next (e ∷ es) (suc i) w rise within at =
      grind (arith, nat_tests, has, at, above (e.0 + 1) next es i m rise.1 (omega arith), set_at_place (e.0 + 1) next es i w rise.1 (omega arith) at)

module _ {T : Type 0} (ticket : ℕ) where
  -- a ticket that no member has stands for nothing
  pub value_absent : (es : List (ℕ × T)) → All (λ m. m.ticket ≢ ticket) (map member_of_entry es) → lookup (nat_eq ticket) es ≡ None
  value_absent [] apart = refl
  value_absent (e ∷ es) apart =
      let other : e.0 ≢ ticket = All-head (λ m. m.ticket ≢ ticket) (member_of_entry e) (map member_of_entry es) apart in
      grind (arith, nat_tests, other, value_absent es (All-tail (λ m. m.ticket ≢ ticket) (member_of_entry e) (map member_of_entry es) apart))

  -- and to take it out changes nothing
  pub remove_absent : (es : List (ℕ × T)) → lookup (nat_eq ticket) es ≡ None → remove_entry (nat_eq ticket) es ≡ es
  remove_absent [] none = refl
  remove_absent (e ∷ es) none = grind (arith, nat_tests, remove_absent es)

-- a member that is filled has its value
pub filled_head : {T : Type 0} (m : Member T) (ms : List (Member T)) (es : List (ℕ × T)) → m ∷ ms ≡ map member_of_entry es → IsSome m.value
filled_head m ms [] made = cc
filled_head m ms (e ∷ es) made = let first : m ≡ member_of_entry e = cc in rw first refl

pub filled_at : {T : Type 0} (m : Member T) (es : List (ℕ × T)) (i : ℕ) → i < length es → m ≡ get_or (map member_of_entry es) i m → IsSome m.value
filled_at m [] i within at = absurd (omega arith)
filled_at m (e ∷ es) zero within at = rw at refl
filled_at m (e ∷ es) (suc i) within at = filled_at m es i (omega arith) at

-- a list with no member
pub kept_none : {T : Type 0} (given : ℕ) (disposed : Bool) → given ≤ MAX_TICKETS → IsKept {T = T} [] INLINE_LEN given disposed
kept_none given disposed limit = record { filled = refl; sound = record { tickets = omega arith; limit = limit; emptied = λ over. refl }; inline = omega arith }

module _ {T : Type 0} (ms : List (Member T)) (capacity given : ℕ) (disposed : Bool) (kept : IsKept ms capacity given disposed) where
  pub kept_in_order : AreTicketsRising ms
  kept_in_order = in_order 0 given ms kept.filled kept.sound.tickets

  -- the next ticket's value goes in
  pub kept_added : (value : T) (room : ℕ) → disposed ≡ false → given < MAX_TICKETS
      → capacity ≤ room → IsKept (ms ++ member_of_entry (given, value) ∷ []) room (given + 1) disposed
  kept_added value room usable left more =
      kept_made _ _ room (given + 1) disposed (made-append ms (member_entries ms) (given, value) kept.filled)
      (record { tickets = rise-append 0 given (member_entries ms) value kept.sound.tickets; limit = omega arith; emptied = λ over. cc })
      (omega (arith, kept.inline))

  pub entries_added : (value : T) → member_entries (ms ++ member_of_entry (given, value) ∷ []) ≡ member_entries ms ++ (given, value) ∷ []
  entries_added value = entries_made _ _ (made-append ms (member_entries ms) (given, value) kept.filled)

  -- where none is left, the group may be marked
  pub kept_disposed : member_entries ms ≡ [] → IsKept ms capacity given true
  kept_disposed none =
      record { filled = kept.filled; sound = record { tickets = kept.sound.tickets; limit = kept.sound.limit; emptied = λ over. none }; inline = kept.inline }

  -- a ticket that no member has
  pub kept_absent : (ticket : ℕ) → All (λ m. m.ticket ≢ ticket) ms → lookup (nat_eq ticket) (member_entries ms) ≡ None
  kept_absent ticket apart =
      value_absent ticket (member_entries ms) (subst (λ xs. All (λ m. m.ticket ≢ ticket) xs) kept.filled apart)

  module _ (ticket i : ℕ) (m : Member T) (within : i < length ms) (at : m ≡ get_or ms i m) (has : HoldsAt (λ member. member.ticket ≡ ticket) ms i) where
    ticket_here : m.ticket ≡ ticket
    ticket_here = ap (λ x. x.ticket) at ∙ has m

    entry_here : m ≡ get_or (map member_of_entry (member_entries ms)) i m
    entry_here = subst (λ xs. m ≡ get_or xs i m) kept.filled at

    within_entries : i < length (member_entries ms)
    within_entries = rw (length-member_entries ms kept.filled) within

    -- the member has the value that its ticket stands for
    pub kept_value : m.value ≡ lookup (nat_eq ticket) (member_entries ms)
    kept_value = value_at_place ticket m ticket_here 0 given (member_entries ms) i kept.sound.tickets within_entries entry_here

    pub kept_some : IsSome m.value
    kept_some = filled_at m (member_entries ms) i within_entries entry_here

    -- the member goes
    made_removed : remove ms i ≡ map member_of_entry (remove_entry (nat_eq ticket) (member_entries ms))
    made_removed = subst (λ xs. remove xs i ≡ map member_of_entry (remove_entry (nat_eq ticket) (member_entries ms))) (sym kept.filled)
        (remove_at_place ticket m ticket_here 0 given (member_entries ms) i kept.sound.tickets within_entries entry_here)

    pub kept_removed : IsKept (remove ms i) capacity given disposed
    kept_removed =
        kept_made _ _ capacity given disposed made_removed
        (record {
          tickets = rise-remove_entry 0 given ticket (member_entries ms) kept.sound.tickets;
          limit = kept.sound.limit;
          emptied = λ over. rw (kept.sound.emptied over) refl;
        })
        kept.inline

    pub entries_removed : member_entries (remove ms i) ≡ remove_entry (nat_eq ticket) (member_entries ms)
    entries_removed = entries_made _ _ made_removed

    -- the member's value is written
    made_set : (w : T) → slice_set ms i (record m { value = Some w }) ≡ map member_of_entry (set_value (nat_eq ticket) (member_entries ms) w)
    made_set w = subst (λ xs. slice_set xs i (record m { value = Some w }) ≡ map member_of_entry (set_value (nat_eq ticket) (member_entries ms) w))
        (sym kept.filled) (set_at_place ticket m ticket_here 0 given (member_entries ms) i w kept.sound.tickets within_entries entry_here)

    pub kept_set : (w : T) → IsKept (slice_set ms i (record m { value = Some w })) capacity given disposed
    kept_set w =
        kept_made _ _ capacity given disposed (made_set w)
        (record {
          tickets = rise-set_value 0 given ticket (member_entries ms) w kept.sound.tickets;
          limit = kept.sound.limit;
          emptied = λ over. rw (kept.sound.emptied over) refl;
        })
        kept.inline

    pub entries_set : (w : T) → member_entries (slice_set ms i (record m { value = Some w })) ≡ set_value (nat_eq ticket) (member_entries ms) w
    entries_set w = entries_made _ _ (made_set w)

    -- to write what is there changes nothing
    pub set_same : slice_set ms i m ≡ ms
    set_same = ap (λ x. slice_set ms i x) at ∙ set-get_or ms i m
