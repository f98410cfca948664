-- What has gone stays gone. So lists of what went go on from one history to the next, and an event that closes none adds none.
use Rattle.rx_ground.proofs.Common.{◌≡◌, ◌≢◌, ℕ, ◌<◌, true, false, List, [], ◌∷◌, ◌++◌, length, IsTrue, refl, sym, ap, subst, ◌∙◌, inl, inr, ◌⊎◌, arith, not}
use Rattle.rx_ground.proofs.Common.{length-append, append-nil, append_assoc, map-append, All, AllPairs, Contains, and_parts, and_from, both_ways, cases_Bool}
use Rattle.rx_ground.proofs.Common.{cases_order, false_from_ne_true, not-true, not_from_false, All-contains, Kept, Event, makes_node, at, is_open, MayFollow}
use Rattle.rx_ground.proofs.Common.{IsForcedOn, stays, more, at-append, at_within, slice_get_last, open_old, shuts_none, is_open_kept, is_open_new, Key, goes}
use Rattle.rx_ground.proofs.Common.{Writes, has_gone, numbers_of, Gathers, AllPairs-cons, zero, suc, IsSome, ◌≤◌, take, drop, take-append-drop}
use Rattle.rx_ground.proofs.Common.{Closes, GoesFirst, Ground, Moves, find}
use Rattle.std.proofs.Math.Seq.{take-nil}
use Rattle.std.proofs.lemmas.List.Elements.{Contains-append_left, Contains-append_right, Contains-append_cases}
use Rattle.rx_register.specs.State.{State as Register}
use Rattle.rx_ground.proofs.Laws.Members.{Contains-head, Contains-later, All-members, AllPairs-head, AllPairs-tail, AllPairs-nil, AllPairs-by}
use Rattle.std.proofs.Common.{rules}

-- histories ---------------------------------------------------------------------------------------

-- what has gone in the one has gone in the other
abbrev pub IsFurther : List Event → List Event → Type 0
IsFurther h k = (n : ℕ) → has_gone h n ≡ true → has_gone k n ≡ true

pub gone_push : (h : List Event) (e : Event) → IsFurther h (h ++ e ∷ [])
gone_push h e n gone = search (rules, and_parts, not, at_within, false_from_ne_true, both_ways, not-true, open_old, and_from, at-append, not_from_false)

pub gone_on : (h es : List Event) → IsFurther h (h ++ es)
gone_on h [] n gone = ap (λ (k : List Event). has_gone k n) (append-nil h) ∙ gone
gone_on h (e ∷ es) n gone = ap (λ (k : List Event). has_gone k n) (sym (append_assoc h (e ∷ []) es)) ∙ gone_on (h ++ e ∷ []) es n (gone_push h e n gone)

pub gone_forced : (base : Kept) → {h k : List Event} → IsForcedOn base h k → IsFurther h k
gone_forced base stays n gone = gone
gone_forced base (more {k = k} {e = e} on f) n gone = gone_push k e n (gone_forced base on n gone)

-- where an event makes a node open, what goes with it was open, and is open no more
pub went : (h : List Event) (e : Event) → is_open (h ++ e ∷ []) (length h) ≡ makes_node e → (n : ℕ) → goes h (h ++ e ∷ []) n ≡ true →
    (n < length h) × (is_open h n ≡ true) × (is_open (h ++ e ∷ []) n ≡ false)
went h e opens n went_now = by_place (cases_order n (length h)) where
  now : (has_gone (h ++ e ∷ []) n ≡ true) × (not (has_gone h n) ≡ true)
  now = and_parts (has_gone (h ++ e ∷ []) n) (not (has_gone h n)) went_now

  parts : (at makes_node (h ++ e ∷ []) n ≡ true) × (not (is_open (h ++ e ∷ []) n) ≡ true)
  parts = and_parts (at makes_node (h ++ e ∷ []) n) (not (is_open (h ++ e ∷ []) n)) now.0

  shut : is_open (h ++ e ∷ []) n ≡ false
  shut = not-true (is_open (h ++ e ∷ []) n) parts.1

  was_open : n < length h → (is_open h n ≡ true) ⊎ (is_open h n ≡ false) → is_open h n ≡ true
  was_open l (inl alive) = alive
  was_open l (inr closed) =
      let made = sym (at-append makes_node h (e ∷ []) n l) ∙ parts.0 in
      absurd (both_ways (has_gone h n) (not-true (has_gone h n) now.1) (and_from (at makes_node h n) (not (is_open h n)) made (not_from_false _ closed)))

  at_end : n ≡ length h → ⊥
  at_end same =
      let made : makes_node e ≡ true = sym (ap (at makes_node (h ++ e ∷ [])) same ∙ made_last) ∙ parts.0 in
      both_ways (is_open (h ++ e ∷ []) n) shut (ap (is_open (h ++ e ∷ [])) same ∙ opens ∙ made)
    where
      made_last : at makes_node (h ++ e ∷ []) (length h) ≡ makes_node e
      made_last = rw (slice_get_last h e) refl

  by_place : (n ≡ length h) ⊎ ((n < length h) ⊎ (length h < n)) → (n < length h) × (is_open h n ≡ true) × (is_open (h ++ e ∷ []) n ≡ false)
  by_place (inl same) = absurd (at_end same)
  by_place (inr (inl l)) = (l, was_open l (cases_Bool (is_open h n)), shut)
  by_place (inr (inr g)) = absurd (let l = at_within makes_node (h ++ e ∷ []) n parts.0 in omega (arith, length-append h (e ∷ [])))

-- what has gone in a beginning has gone in the whole
gone_later : (h : List Event) (place n : ℕ) → has_gone (take place h) n ≡ true → has_gone h n ≡ true
gone_later h place n gone = ap (λ (k : List Event). has_gone k n) (sym (take-append-drop place h)) ∙ gone_on (take place h) (drop place h) n gone

-- the order in which nodes went ---------------------------------------------------------------------

-- a beginning of a longer history is one of the shorter, or goes beyond it
beginnings : (k es : List Event) (place : ℕ) → (take place (k ++ es) ≡ take place k) ⊎ ((rest : List Event) × (take place (k ++ es) ≡ k ++ rest))
beginnings [] es place = inr (take place es, refl)
beginnings (x ∷ k) es zero = inl refl
beginnings (x ∷ k) es (suc place) = by (beginnings k es place) where
  by : (take place (k ++ es) ≡ take place k) ⊎ ((rest : List Event) × (take place (k ++ es) ≡ k ++ rest)) →
      (take (suc place) (x ∷ k ++ es) ≡ take (suc place) (x ∷ k)) ⊎ ((rest : List Event) × (take (suc place) (x ∷ k ++ es) ≡ x ∷ k ++ rest))
  by (inl same) = inl (ap (λ (ys : List Event). x ∷ ys) same)
  by (inr beyond) = inr (beyond.0, ap (λ (ys : List Event). x ∷ ys) beyond.1)

beginnings_push : (h : List Event) (e : Event) (place : ℕ) → (take place (h ++ e ∷ []) ≡ take place h) ⊎ (take place (h ++ e ∷ []) ≡ h ++ e ∷ [])
beginnings_push [] e zero = inl refl
beginnings_push [] e (suc place) = inr (ap (λ (ys : List Event). e ∷ ys) (take-nil place))
beginnings_push (x ∷ h) e zero = inl refl
beginnings_push (x ∷ h) e (suc place) = by (beginnings_push h e place) where
  by : (take place (h ++ e ∷ []) ≡ take place h) ⊎ (take place (h ++ e ∷ []) ≡ h ++ e ∷ []) →
      (take (suc place) (x ∷ h ++ e ∷ []) ≡ take (suc place) (x ∷ h)) ⊎ (take (suc place) (x ∷ h ++ e ∷ []) ≡ x ∷ h ++ e ∷ [])
  by (inl same) = inl (ap (λ (ys : List Event). x ∷ ys) same)
  by (inr whole) = inr (ap (λ (ys : List Event). x ∷ ys) whole)

-- two that one event closed
pub together : (h : List Event) (e : Event) (m n : ℕ) → goes h (h ++ e ∷ []) m ≡ true → goes h (h ++ e ∷ []) n ≡ true → GoesFirst (h ++ e ∷ []) m n
together h e m n m_goes n_goes = record { no_later = λ place gone. no_later place gone (beginnings_push h e place) }
  where
    no_later : (place : ℕ) → has_gone (take place (h ++ e ∷ [])) n ≡ true →
        (take place (h ++ e ∷ []) ≡ take place h) ⊎ (take place (h ++ e ∷ []) ≡ h ++ e ∷ []) → has_gone (take place (h ++ e ∷ [])) m ≡ true
    no_later place gone (inl same) =
        let stayed = (and_parts (has_gone (h ++ e ∷ []) n) (not (has_gone h n)) n_goes).1 in
        absurd (both_ways (has_gone h n) (not-true (has_gone h n) stayed) (gone_later h place n (ap (λ (k : List Event). has_gone k n) (sym same) ∙ gone)))
    no_later place gone (inr whole) =
        ap (λ (k : List Event). has_gone k m) whole ∙ (and_parts (has_gone (h ++ e ∷ []) m) (not (has_gone h m)) m_goes).0

module _ (k es : List Event) (m n : ℕ) (m_gone : has_gone k m ≡ true) where
  -- two that went before go in this order still
  pub first_on : GoesFirst k m n → GoesFirst (k ++ es) m n
  first_on first = record { no_later = λ place gone. no_later place gone (beginnings k es place) }
    where
      no_later : (place : ℕ) → has_gone (take place (k ++ es)) n ≡ true →
          (take place (k ++ es) ≡ take place k) ⊎ ((rest : List Event) × (take place (k ++ es) ≡ k ++ rest)) → has_gone (take place (k ++ es)) m ≡ true
      no_later place gone (inl same) = ap (λ (h : List Event). has_gone h m) same ∙ first.no_later place (ap (λ (h : List Event). has_gone h n) (sym same) ∙ gone)
      no_later place gone (inr beyond) = ap (λ (h : List Event). has_gone h m) beyond.1 ∙ gone_on k beyond.0 m m_gone

  -- and before what goes after them
  pub first_before : has_gone k n ≡ false → GoesFirst (k ++ es) m n
  first_before n_stayed = record { no_later = λ place gone. no_later place gone (beginnings k es place) }
    where
      no_later : (place : ℕ) → has_gone (take place (k ++ es)) n ≡ true →
          (take place (k ++ es) ≡ take place k) ⊎ ((rest : List Event) × (take place (k ++ es) ≡ k ++ rest)) → has_gone (take place (k ++ es)) m ≡ true
      no_later place gone (inl same) =
          absurd (both_ways (has_gone k n) n_stayed (gone_later k place n (ap (λ (h : List Event). has_gone h n) (sym same) ∙ gone)))
      no_later place gone (inr beyond) = ap (λ (h : List Event). has_gone h m) beyond.1 ∙ gone_on k beyond.0 m m_gone

-- what is forced adds to a history
pub adds_forced : (base : Kept) → {h k : List Event} → IsForcedOn base h k → (es : List Event) × (k ≡ h ++ es)
adds_forced base {h} stays = ([], sym (append-nil h))
adds_forced base {h} (more {e = e} on f) =
    let a = adds_forced base on in (a.0 ++ e ∷ [], ap (λ (k : List Event). k ++ e ∷ []) a.1 ∙ append_assoc h a.0 (e ∷ []))

-- lists -------------------------------------------------------------------------------------------

module _ {X : Type 0} where
  -- no two of either list, and none of the one with one of the other
  pub AllPairs-append : (R : X → X → Type 0) (xs ys : List X) → AllPairs R xs → AllPairs R ys →
      ((x y : X) → Contains xs x → Contains ys y → R x y) → AllPairs R (xs ++ ys)
  AllPairs-append R [] ys first then across = then
  AllPairs-append R (x ∷ xs) ys first then across = AllPairs-cons R x (xs ++ ys) (All-members (R x) (xs ++ ys) apart)
      (AllPairs-append R xs ys (AllPairs-tail R x xs first) then (λ a b c d. across a b (Contains-later x xs a c) d))
    where
      apart : (y : X) → Contains (xs ++ ys) y → R x y
      apart y c = by_list (Contains-append_cases xs ys y c) where
        by_list : Contains xs y ⊎ Contains ys y → R x y
        by_list (inl here) = AllPairs-head R x xs first y here
        by_list (inr there) = across x y (Contains-head x xs) there

-- lists of what goes ------------------------------------------------------------------------------

-- where nothing goes the list stays
pub gathers_same : (h k : List Event) (list : List Key) → ((n : ℕ) → goes h k n ≡ true → ⊥) → Gathers h list k list
gathers_same h k list none = search (rules, append-nil, AllPairs-nil)

-- nothing goes with an event that closes none
pub gathers_none : (h : List Event) (e : Event) (list : List Key) → ((n : ℕ) → n < length h → is_open (h ++ e ∷ []) n ≡ is_open h n) →
    is_open (h ++ e ∷ []) (length h) ≡ makes_node e → Gathers h list (h ++ e ∷ []) list
gathers_none h e list kept opens = search (rules, gathers_same, went, both_ways)

-- nor where the history stays
pub gathers_nothing : (h : List Event) (list : List Key) → Gathers h list h list
gathers_nothing h list = search (rules, gathers_same, and_parts, not, both_ways, not-true)

-- one list after the other
module _ {h k j : List Event} {a b c : List Key} (further : IsFurther h k) (es : List Event) (adds : j ≡ k ++ es) (first : Gathers h a k b)
    (then : Gathers k b j c) where
  onward : IsFurther k j
  onward = subst (IsFurther k) (sym adds) (gone_on k es)

  abbrev numbers : List ℕ
  numbers = numbers_of (first.gone ++ then.gone)

  both : numbers ≡ numbers_of first.gone ++ numbers_of then.gone
  both = map-append (λ (key : Key). key.number) first.gone then.gone

  first_goes : (n : ℕ) → Contains (numbers_of first.gone) n → goes h k n ≡ true
  first_goes n here = All-contains (λ m. goes h k m ≡ true) (numbers_of first.gone) n first.each here

  then_goes : (n : ℕ) → Contains (numbers_of then.gone) n → goes k j n ≡ true
  then_goes n here = All-contains (λ m. goes k j m ≡ true) (numbers_of then.gone) n then.each here

  goes_first : (n : ℕ) → goes h k n ≡ true → goes h j n ≡ true
  goes_first n now = search (rules, onward, and_parts, not, and_from)

  goes_then : (n : ℕ) → goes k j n ≡ true → goes h j n ≡ true
  goes_then n now = search (rules, and_parts, not, false_from_ne_true, both_ways, not-true, and_from, not_from_false)

  goes_either : (n : ℕ) → goes h j n ≡ true → (goes h k n ≡ true) ⊎ (goes k j n ≡ true)
  goes_either n now = search (rules, cases_Bool, not, and_parts, and_from, not_from_false)

  went_first : (n : ℕ) → Contains (numbers_of first.gone) n → has_gone k n ≡ true
  went_first n here = (and_parts (has_gone k n) (not (has_gone h n)) (first_goes n here)).0

  stayed_first : (n : ℕ) → Contains (numbers_of then.gone) n → has_gone k n ≡ false
  stayed_first n there = not-true (has_gone k n) (and_parts (has_gone j n) (not (has_gone k n)) (then_goes n there)).1

  order : AllPairs (GoesFirst j) (numbers_of first.gone ++ numbers_of then.gone)
  order = AllPairs-append (GoesFirst j) (numbers_of first.gone) (numbers_of then.gone)
      (AllPairs-by (GoesFirst k) (GoesFirst j) (numbers_of first.gone)
      (λ m n here there is. subst (λ (h : List Event). GoesFirst h m n) (sym adds) (first_on k es m n (went_first m here) is)) first.order)
      then.order
      (λ m n here there. subst (λ (h : List Event). GoesFirst h m n) (sym adds) (first_before k es m n (went_first m here) (stayed_first n there)))

  pub gathers_on : Gathers h a j c
  gathers_on = record {
    gone = first.gone ++ then.gone;
    listed = then.listed ∙ ap (λ (keys : List Key). keys ++ then.gone) first.listed ∙ append_assoc a first.gone then.gone;
    each = subst (λ (ns : List ℕ). All (λ n. IsTrue (goes h j n)) ns) (sym both)
        (All-members (λ n. IsTrue (goes h j n)) (numbers_of first.gone ++ numbers_of then.gone)
        (λ n here. each n (Contains-append_cases (numbers_of first.gone) (numbers_of then.gone) n here)));
    every = λ n now. subst (λ (ns : List ℕ). Contains ns n) (sym both) (every n (goes_either n now));
    once = subst (λ (ns : List ℕ). AllPairs (λ m n. m ≢ n) ns) (sym both)
        (AllPairs-append (λ m n. m ≢ n) (numbers_of first.gone) (numbers_of then.gone) first.once then.once apart);
    order = subst (λ (ns : List ℕ). AllPairs (GoesFirst j) ns) (sym both) order;
  }
    where
      each : (n : ℕ) → Contains (numbers_of first.gone) n ⊎ Contains (numbers_of then.gone) n → goes h j n ≡ true
      each n (inl here) = goes_first n (first_goes n here)
      each n (inr there) = goes_then n (then_goes n there)

      every : (n : ℕ) → (goes h k n ≡ true) ⊎ (goes k j n ≡ true) → Contains (numbers_of first.gone ++ numbers_of then.gone) n
      every n (inl now) = Contains-append_left (numbers_of first.gone) (numbers_of then.gone) n (first.every n now)
      every n (inr now) = Contains-append_right (numbers_of first.gone) (numbers_of then.gone) n (then.every n now)

      apart : (m n : ℕ) → Contains (numbers_of first.gone) m → Contains (numbers_of then.gone) n → m ≢ n
      apart m n here there = λ same. both_ways (has_gone k n) (stayed_first n there) (ap (has_gone k) (sym same) ∙ went_first m here)

-- what is written -------------------------------------------------------------------------------

-- with an event that closes none the list stays
pub gathers_quiet : {old new : Register} {list later : List Key} (e : Event) → MayFollow old.base old.history e → shuts_none e ≡ true →
    Writes old (e ∷ []) new → later ≡ list → Gathers old.history list new.history later
gathers_quiet {old} {new} {list} {later} e next quiet w same = search (rules, gathers_none, is_open_kept, is_open_new)

pub further_written : {old new : Register} (es : List Event) → Writes old es new → IsFurther old.history new.history
further_written {old} es w = subst (IsFurther old.history) (sym w.history) (gone_on old.history es)

-- one write after the other
pub gathers_then : {a b c : Register} {first then last : List Key} (es fs : List Event) → Writes a es b → Writes b fs c →
    Gathers a.history first b.history then → Gathers b.history then c.history last → Gathers a.history first c.history last
gathers_then es fs w v one two = gathers_on (further_written es w) fs v.history one two

-- what is closed --------------------------------------------------------------------------------

module _ {T : Type 0} where
  -- nothing
  pub closes_none : {old new : Ground T} → new.closed ≡ old.closed → Gathers old.register.history old.closed new.register.history new.closed → Closes old new
  closes_none same gathers = record { gathers = gathers; found = λ key here older. inl (subst (λ (keys : List Key). Contains keys key) same here) }

  -- nor with an event that closes none
  pub closes_quiet : {old new : Ground T} (e : Event) → MayFollow old.register.base old.register.history e → shuts_none e ≡ true →
      Writes old.register (e ∷ []) new.register → new.closed ≡ old.closed → Closes old new
  closes_quiet e next quiet w same = closes_none same (gathers_quiet e next quiet w same)

  -- what was moved out
  pub closes_moved : {old new : Ground T} {top : ℕ} → Moves old.tree.nodes top old.closed new.closed →
      Gathers old.register.history old.closed new.register.history new.closed → Closes old new
  closes_moved {old} {new} moves gathers = record {
    gathers = gathers;
    found = λ key here older.
        by key (Contains-append_cases old.closed moves.moved key (subst (λ (keys : List Key). Contains keys key) moves.listed here));
  }
    where
      by : (key : Key) → Contains old.closed key ⊎ Contains moves.moved key → Contains old.closed key ⊎ IsSome (find old.tree.nodes key)
      by key (inl listed) = inl listed
      by key (inr moved) = inr (moves.each key moved).0

  -- one after the other, where no older node came
  pub closes_on : {a b c : Ground T} → length a.register.history ≤ length b.register.history →
      ((key : Key) → IsSome (find b.tree.nodes key) → key.number < length a.register.history → IsSome (find a.tree.nodes key)) →
      Closes a b → Closes b c → Gathers a.register.history a.closed c.register.history c.closed → Closes a c
  closes_on {a} {b} {c} longer still one two gathers = record { gathers = gathers; found = λ key here older. by key older (two.found key here (omega arith)) }
    where
      by : (key : Key) → key.number < length a.register.history → Contains b.closed key ⊎ IsSome (find b.tree.nodes key) →
          Contains a.closed key ⊎ IsSome (find a.tree.nodes key)
      by key older (inl listed) = one.found key listed older
      by key older (inr there) = inr (still key there older)
