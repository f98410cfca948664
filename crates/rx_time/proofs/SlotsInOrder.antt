-- Slots in the order of their tickets and due times, and the entries that they hold.
use Rattle.std.proofs.Common.{◌≡◌, ◌≢◌, ℕ, zero, suc, ◌<◌, ◌≤◌, ◌-◌, ◌↔◌, ◌==◌, Bool, true, false, nat_eq, is_none, List, [], ◌∷◌, ◌++◌}
use Rattle.std.proofs.Common.{length, set, get_or, Option, Some, None, option_map, Result, Ok, Err, All, IfSome, IfNone, refl, sym, ap, ◌∙◌, inl, inr, arith}
use Rattle.std.specs.List.{AllPairs, HoldsAt, cons_option}
use Rattle.std.specs.List.Sorted.{IsBinarySearchResult, IsNonDecreasingBy}
use Rattle.std.specs.Map.{lookup}
use Rattle.std.specs.Map.{remove_entry}
use Rattle.std.specs.Ordering.{nat_cmp, ordering_index}
use Rattle.std.specs.Result.{result_ok}
use Rattle.std.proofs.lemmas.Bool.{cases_eq, cases_lt, cond-true, cond-false, eq-eqb, ne_eqb, true≢false}
use Rattle.std.proofs.lemmas.Bool.Decides.{nat_tests}
use Rattle.std.proofs.lemmas.Cmp.{ranked}
use Rattle.std.proofs.lemmas.List.{length-set}
use Rattle.std.proofs.lemmas.List.Quantifiers.{all_pairs_push}
use Rattle.std.proofs.lemmas.List.Elements.{All-nil, All-cons, All-head, All-tail, All-weaker, All-from_all_within, at_read, filter_map-append}
use Rattle.rx_time.specs.declared.run.Slot.{Slot}
use Rattle.rx_time.specs.declared.work.Work.{Work}
use Rattle.rx_time.specs.Agenda.{PointsAt}
use Rattle.rx_time.specs.Schedule.{next_of}
use Rattle.rx_time.specs.Runs.{slot_of_work, work_of, slot_entry, slot_entries, IsBefore, is_front_empty, AreRunSlots}
use Rattle.rx_time.proofs.Entries.{remove_entry-absent}
use Rattle.rx_time.proofs.Next.{IfSome-next_of, earlier-keeps}
use Rattle.std.proofs.Common.{rules}

module _ {T : Type 0} where
  -- the entries of a slot with this in it, and of the slots behind it
  abbrev entries_with : Slot T → Option T → List (ℕ × Work T) → List (ℕ × Work T)
  entries_with s o es = cons_option (option_map (λ item. (s.ticket, record { due = s.due; item = item })) o) es

  pairs-tail : (s : Slot T) (ss : List (Slot T)) → AllPairs IsBefore (s ∷ ss) → AllPairs IsBefore ss
  pairs-tail s ss pairs i j d before within = pairs (suc i) (suc j) d (omega arith) (omega arith)

  all_after : (s : Slot T) (ss : List (Slot T)) → AllPairs IsBefore (s ∷ ss) → All (IsBefore s) ss
  all_after s ss pairs i d within = pairs zero (suc i) d (omega arith) (omega arith)

  -- the first slot --------------------------------------------------------------------------------

  pub first_work : (ss rs : List (Slot T)) (s : Slot T) → ss ≡ s ∷ rs → HoldsAt (λ r. work_of s ≡ work_of r) ss 0
  first_work ss rs s is = rw is (λ d. refl)

  pub first_left : (ss rs : List (Slot T)) (s : Slot T) → ss ≡ s ∷ rs
      → HoldsAt (λ r. slot_entries rs ≡ slot_entries (set ss 0 (record r { item = None }))) ss 0
  first_left ss rs s is = rw is (λ d. refl)

  pub pairs_behind : (ss rs : List (Slot T)) (s : Slot T) → ss ≡ s ∷ rs → AllPairs IsBefore ss → AllPairs IsBefore rs
  pairs_behind ss rs s is pairs = pairs-tail s rs (rw is at pairs)

  -- one slot more ---------------------------------------------------------------------------------

  pub after_last : (ss : List (Slot T)) (last : Slot T) (t due : ℕ) → AllPairs IsBefore ss → 0 < length ss → last ≡ get_or ss (length ss - 1) last
      → last.ticket < t → last.due ≤ due → All (λ s. (s.ticket < t) × (s.due ≤ due)) ss
  after_last ss last t due pairs some is above later i d within =
      let end : HoldsAt (λ s. (s.ticket < t) × (s.due ≤ due)) ss (length ss - 1) =
      at_read ss (λ s. (s.ticket < t) × (s.due ≤ due)) (length ss - 1) last (omega arith) is (above, later) in
      elim (cases_eq i (length ss - 1)) [
        | inl same ↦ rw same (end d)
        | inr apart ↦
            let before = pairs i (length ss - 1) d (omega arith) (omega arith) in
            (omega (arith, before.0, (end d).0), omega (arith, before.1, (end d).1))
      ]

  pub AreRunSlots-push : (ss : List (Slot T)) (t : ℕ) (w : Work T) → AreRunSlots ss → All (λ s. (s.ticket < t) × (s.due ≤ w.due)) ss
      → AreRunSlots (ss ++ slot_of_work t w ∷ [])
  AreRunSlots-push ss t w run above = record {
    in_order = all_pairs_push IsBefore ss (slot_of_work t w) run.in_order above;
    filled = front ss run.filled;
  } where
    front : (rs : List (Slot T)) → is_front_empty rs ≡ false → is_front_empty (rs ++ slot_of_work t w ∷ []) ≡ false
    front [] filled = refl
    front (r ∷ rs) filled = filled

  pub AreRunSlots-nil : (ss : List (Slot T)) → ss ≡ [] → AreRunSlots ss
  AreRunSlots-nil ss none = rw none (record { in_order = (λ i j d before within. absurd (omega arith)); filled = refl })

  pub entries-push : (ss : List (Slot T)) (t : ℕ) (w : Work T) → slot_entries (ss ++ slot_of_work t w ∷ []) ≡ slot_entries ss ++ (t, w) ∷ []
  entries-push ss t w = filter_map-append slot_entry ss (slot_of_work t w ∷ [])

  -- what comes next -------------------------------------------------------------------------------

  All-entries : (n : ℕ) (ss : List (Slot T)) → All (λ s. n ≤ s.due) ss → All (λ e. n ≤ e.1.due) (slot_entries ss)
  All-entries n [] all = All-nil (λ e. n ≤ e.1.due)
  All-entries n (s ∷ ss) all = by_item (All-entries n ss (All-tail (λ r. n ≤ r.due) s ss all)) s.item where
    by_item : All (λ e. n ≤ e.1.due) (slot_entries ss) → (o : Option T) → All (λ e. n ≤ e.1.due) (entries_with s o (slot_entries ss))
    by_item rest None = rest
    by_item rest (Some item) =
        All-cons (λ e. n ≤ e.1.due) (s.ticket, record { due = s.due; item = item }) (slot_entries ss) (All-head (λ r. n ≤ r.due) s ss all) rest

  front-points : (s : Slot T) (ss : List (Slot T)) (o : Option T) → is_none o ≡ false → AllPairs IsBefore (s ∷ ss)
      → PointsAt (entries_with s o (slot_entries ss)) (next_of (entries_with s o (slot_entries ss))) (Some (s.due, s.ticket))
  front-points s ss None filled pairs = absurd (true≢false filled)
  front-points s ss (Some item) filled pairs =
      let w : Work T = record { due = s.due; item = item } in
      let later : All (λ r. s.due ≤ r.due) ss = All-weaker (IsBefore s) (λ r. s.due ≤ r.due) (λ r before. before.1) ss (all_after s ss pairs) in
      let next : next_of ((s.ticket, w) ∷ slot_entries ss) ≡ Some (s.ticket, w) =
      earlier-keeps (s.ticket, w) (next_of (slot_entries ss))
      (IfSome-next_of (λ e. s.due ≤ e.1.due) (slot_entries ss) (All-entries s.due ss later)) in
      rw (cond-true (nat_eq s.ticket s.ticket) (Some w) (lookup (nat_eq s.ticket) (slot_entries ss)) (eq-eqb s.ticket s.ticket refl)) (refl, next)

  -- the first slot points at what comes next
  pub PointsAt-front : (ss : List (Slot T)) (s : Slot T) → AreRunSlots ss → 0 < length ss → s ≡ get_or ss 0 s
      → PointsAt (slot_entries ss) (next_of (slot_entries ss)) (Some (s.due, s.ticket))
  PointsAt-front [] s run some is = absurd (omega arith)
  PointsAt-front (r ∷ rs) s run some is = rw is (front-points r rs r.item run.filled run.in_order)

  pub nothing_next : (ss : List (Slot T)) → length ss ≡ 0 → next_of (slot_entries ss) ≡ None
  nothing_next [] none = refl
  nothing_next (s ∷ ss) none = absurd (omega arith)

  front-some : (s : Slot T) (ss : List (Slot T)) (o : Option T) → is_none o ≡ false → entries_with s o (slot_entries ss) ≡ [] → ⊥
  front-some s ss x2 filled none = search (rules, true≢false)

  pub no_slots : (ss : List (Slot T)) → AreRunSlots ss → slot_entries ss ≡ [] → ss ≡ []
  no_slots x0 run none = search (rules, front-some)

  pub empty_iff : (ss : List (Slot T)) (n : ℕ) (b : Bool) → AreRunSlots ss → n ≡ length ss → b ≡ (n == 0) → (b ≡ true) ↔ (slot_entries ss ≡ [])
  empty_iff x0 n b run few is = search (rules, ne_eqb, true≢false, front-some)

  -- a ticket's place ------------------------------------------------------------------------------

  comparisons_rise : (ss : List (Slot T)) (t : ℕ) → AllPairs IsBefore ss → IsNonDecreasingBy (λ s. ordering_index (nat_cmp s.ticket t)) ss
  comparisons_rise ss t pairs i j d le within =
      search (rules, get_or, cases_lt, nat_tests)

  -- a binary search ends at the ticket's place, or no slot has the ticket
  pub searched : (ss : List (Slot T)) (t : ℕ) (r : Result ℕ ℕ) → AllPairs IsBefore ss → IsBinarySearchResult (λ s. nat_cmp s.ticket t) ss r
      → IfSome (result_ok r) (HoldsAt (λ s. s.ticket ≡ t) ss) × IfNone (result_ok r) (All (λ s. s.ticket ≢ t) ss)
  searched ss t (Ok place) pairs equal = ((λ d. ranked _ t _ (sym (equal d))), tt)
  searched ss t (Err gap) pairs parted = (
    tt,
    All-from_all_within (λ s. s.ticket ≢ t) ss (λ k d low within same. elim (cases_lt k gap) [
      | inl before ↦
          let less : (get_or ss k d).ticket < t = ranked _ t _ (sym ((parted (comparisons_rise ss t pairs)).0 k d (omega arith) before)) in
          omega arith
      | inr after ↦
          let more : t < (get_or ss k d).ticket = ranked _ t _ (sym ((parted (comparisons_rise ss t pairs)).1 k d after within)) in
          omega arith
    ]),
  )

  -- a ticket that no slot has stands for nothing
  pub lookup-absent : (ss : List (Slot T)) (t : ℕ) → All (λ s. s.ticket ≢ t) ss → lookup (nat_eq t) (slot_entries ss) ≡ None
  lookup-absent [] t apart = refl
  lookup-absent (s ∷ ss) t apart = by_item (lookup-absent ss t (All-tail (λ r. r.ticket ≢ t) s ss apart)) s.item where
    by_item : lookup (nat_eq t) (slot_entries ss) ≡ None → (o : Option T) → lookup (nat_eq t) (entries_with s o (slot_entries ss)) ≡ None
    by_item rest None = rest
    by_item rest (Some item) =
        cond-false (nat_eq t s.ticket) (Some (record { due = s.due; item = item })) (lookup (nat_eq t) (slot_entries ss))
        (ne_eqb t s.ticket (λ same. All-head (λ r. r.ticket ≢ t) s ss apart (sym same))) ∙ rest

  apart_after : (s : Slot T) (ss : List (Slot T)) (t : ℕ) → s.ticket ≡ t → AllPairs IsBefore (s ∷ ss) → All (λ r. r.ticket ≢ t) ss
  apart_after s ss t has pairs =
      All-weaker (IsBefore s) (λ r. r.ticket ≢ t) (λ r before same. absurd (omega (arith, before.0))) ss (all_after s ss pairs)

  -- the slot of a ticket has the work that the ticket stands for
  pub lookup-at : (ss : List (Slot T)) (t i : ℕ) (d : Slot T) → AllPairs IsBefore ss → i < length ss → (get_or ss i d).ticket ≡ t
      → lookup (nat_eq t) (slot_entries ss) ≡ work_of (get_or ss i d)
  lookup-at [] t i d pairs within has = absurd (omega arith)
  lookup-at (s ∷ ss) t zero d pairs within has = by_item s.item where
    rest : lookup (nat_eq t) (slot_entries ss) ≡ None
    rest = lookup-absent ss t (apart_after s ss t has pairs)

    by_item : (o : Option T) → lookup (nat_eq t) (entries_with s o (slot_entries ss)) ≡ option_map (λ item. record { due = s.due; item = item }) o
    by_item None = rest
    by_item (Some item) =
        cond-true (nat_eq t s.ticket) (Some (record { due = s.due; item = item })) (lookup (nat_eq t) (slot_entries ss)) (eq-eqb t s.ticket (sym has))
  lookup-at (s ∷ ss) t (suc i) d pairs within has = by_item (lookup-at ss t i d (pairs-tail s ss pairs) (omega arith) has) s.item where
    below : s.ticket < (get_or ss i d).ticket
    below = (all_after s ss pairs i d (omega arith)).0

    by_item : lookup (nat_eq t) (slot_entries ss) ≡ work_of (get_or ss i d) → (o : Option T)
        → lookup (nat_eq t) (entries_with s o (slot_entries ss)) ≡ work_of (get_or ss i d)
    by_item rest None = rest
    by_item rest (Some item) =
        cond-false (nat_eq t s.ticket) (Some (record { due = s.due; item = item })) (lookup (nat_eq t) (slot_entries ss))
        (ne_eqb t s.ticket (λ same. absurd (omega (arith, below, has)))) ∙ rest

  -- and to empty it is to take the ticket's work out
  pub remove_entry-at : (ss : List (Slot T)) (t i : ℕ) (d : Slot T) → AllPairs IsBefore ss → i < length ss → (get_or ss i d).ticket ≡ t
      → remove_entry (nat_eq t) (slot_entries ss) ≡ slot_entries (set ss i (record (get_or ss i d) { item = None }))
  remove_entry-at [] t i d pairs within has = absurd (omega arith)
  remove_entry-at (s ∷ ss) t zero d pairs within has = by_item s.item where
    by_item : (o : Option T) → remove_entry (nat_eq t) (entries_with s o (slot_entries ss)) ≡ slot_entries ss
    by_item None = remove_entry-absent (nat_eq t) (slot_entries ss) (lookup-absent ss t (apart_after s ss t has pairs))
    by_item (Some item) =
        cond-true (nat_eq t s.ticket) (slot_entries ss)
        ((s.ticket, record { due = s.due; item = item }) ∷ remove_entry (nat_eq t) (slot_entries ss)) (eq-eqb t s.ticket (sym has))
  remove_entry-at (s ∷ ss) t (suc i) d pairs within has = by_item (remove_entry-at ss t i d (pairs-tail s ss pairs) (omega arith) has) s.item where
    emptied : List (Slot T)
    emptied = set ss i (record (get_or ss i d) { item = None })

    below : s.ticket < (get_or ss i d).ticket
    below = (all_after s ss pairs i d (omega arith)).0

    by_item : remove_entry (nat_eq t) (slot_entries ss) ≡ slot_entries emptied → (o : Option T)
        → remove_entry (nat_eq t) (entries_with s o (slot_entries ss)) ≡ entries_with s o (slot_entries emptied)
    by_item rest None = rest
    by_item rest (Some item) =
        cond-false (nat_eq t s.ticket) (slot_entries ss)
        ((s.ticket, record { due = s.due; item = item }) ∷ remove_entry (nat_eq t) (slot_entries ss))
        (ne_eqb t s.ticket (λ same. absurd (omega (arith, below, has))))
        ∙ ap (λ (es : List (ℕ × Work T)). (s.ticket, record { due = s.due; item = item }) ∷ es) rest

  same_place : (ss : List (Slot T)) (i j : ℕ) (d e : Slot T) → i < length ss
      → ((get_or (set ss i (record (get_or ss i d) { item = None })) j e).ticket ≡ (get_or ss j e).ticket)
      × ((get_or (set ss i (record (get_or ss i d) { item = None })) j e).due ≡ (get_or ss j e).due)
  same_place [] i j d e within = absurd (omega arith)
  same_place (s ∷ ss) zero zero d e within = (refl, refl)
  same_place (s ∷ ss) zero (suc j) d e within = (refl, refl)
  same_place (s ∷ ss) (suc i) zero d e within = (refl, refl)
  same_place (s ∷ ss) (suc i) (suc j) d e within = same_place ss i j d e (omega arith)

  pub pairs-emptied : (ss : List (Slot T)) (i : ℕ) (d : Slot T) → i < length ss → AllPairs IsBefore ss
      → AllPairs IsBefore (set ss i (record (get_or ss i d) { item = None }))
  pairs-emptied ss i d within pairs j k e before behind =
      let there : k < length ss = rw (length-set ss i (record (get_or ss i d) { item = None })) at behind in
      let first = same_place ss i j d e within in
      let second = same_place ss i k d e within in
      let are = pairs j k e before there in
      (omega (arith, are.0, first.0, second.0), omega (arith, are.1, first.1, second.1))

  -- the same of any element that is at that place
  pub lookup_held : (ss : List (Slot T)) (t i : ℕ) (r : Option (Work T)) → AllPairs IsBefore ss → i < length ss → HoldsAt (λ s. s.ticket ≡ t) ss i
      → HoldsAt (λ s. r ≡ work_of s) ss i → r ≡ lookup (nat_eq t) (slot_entries ss)
  lookup_held [] t i r pairs within has is = absurd (omega arith)
  lookup_held (s ∷ ss) t i r pairs within has is = is s ∙ sym (lookup-at (s ∷ ss) t i s pairs within (has s))

  pub removed_held : (ss rs : List (Slot T)) (t i : ℕ) → AllPairs IsBefore ss → i < length ss → HoldsAt (λ s. s.ticket ≡ t) ss i
      → HoldsAt (λ s. slot_entries rs ≡ slot_entries (set ss i (record s { item = None }))) ss i → slot_entries rs ≡ remove_entry (nat_eq t) (slot_entries ss)
  removed_held [] rs t i pairs within has is = absurd (omega arith)
  removed_held (s ∷ ss) rs t i pairs within has is = is s ∙ sym (remove_entry-at (s ∷ ss) t i s pairs within (has s))

  pub pairs_held : (ss rs : List (Slot T)) (i : ℕ) → i < length ss → AllPairs IsBefore ss → HoldsAt (λ s. rs ≡ set ss i (record s { item = None })) ss i
      → AllPairs IsBefore rs
  pairs_held [] rs i within pairs is = absurd (omega arith)
  pairs_held (s ∷ ss) rs i within pairs is = rw (is s) (pairs-emptied (s ∷ ss) i s within pairs)
