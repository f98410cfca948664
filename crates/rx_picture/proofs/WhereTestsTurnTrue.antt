-- The place at which a test of the prefixes turns true, in a table by number.
use Rattle.rx_picture.proofs.Common.{◌≡◌, ℕ, suc, ◌+◌, ◌<◌, ◌≤◌, Bool, true, false, cond, List, [], ◌∷◌, length, take, replicate, get_or, set, Option, Some}
use Rattle.rx_picture.proofs.Common.{None, refl, sym, ap, ◌∙◌, arith, inl, inr, ◌⊎◌, ◌==◌, nat_lt, slice_get}
use Rattle.rx_picture.proofs.Common.{◌||◌, list_any, option_and_then, cases_Bool}
use Rattle.rx_picture.proofs.Common.{cases_lt, cases_eq, lt-ltb, le-ltb, ltb-true, eq-eqb, ne_eqb, eqb-true, or_left, or_right, or_cases, both_ways}
use Rattle.rx_picture.proofs.Common.{get_or-set_same, get_or-set_other, length-set, get_or-replicate, length-replicate, Event, is_remove_of, is_return_of}
use Rattle.rx_picture.proofs.Common.{is_take_of, has_number, TurnsAt, AreTurns, noted, has_removed, has_returned, has_taken, or_false, event_at}
use Rattle.std.proofs.lemmas.List.Folds.{list_any-append}
use Rattle.rx_event.specs.declared.event.Event.TheVariants.{Remove, Return, Take}
use Rattle.rx_event.specs.Events.{removed_of, returned_of, taken_of}
use Rattle.rx_picture.proofs.Prefixes.{take_next}
use Rattle.std.proofs.Common.{rules, ⊎_elim}

-- one test ----------------------------------------------------------------------------------------

pub turn_none : (h : List Event) (test : List Event → Bool) → test [] ≡ false → TurnsAt h test 0 (length h) (length h)
turn_none h test never = search (rules, le-ltb, length, or_right, eq-eqb)

pub turn_within : (h : List Event) (test : List Event → Bool) (at : ℕ) → TurnsAt h test (length h) (length h) at → at ≤ length h
turn_within h test at tied = search (rules, or_cases, nat_lt, length, ltb-true, eqb-true)

kept_value : (now full : Bool) (b at : ℕ) → full ≡ false → cond now (cond full b at) at ≡ at
kept_value x0 full b at gone = search (rules, cond)

module _ (h : List Event) (test : List Event → Bool) (b at : ℕ) (s : Bool) (inside : b < length h) (next : test (take (suc b) h) ≡ (test (take b h) || s))
    (tied : TurnsAt h test b (length h) at) where
  -- it was true before
  turned : test (take b h) ≡ true → TurnsAt h test (suc b) (length h) at
  turned was = let below : at < b = ltb-true at b (sym (tied.turns b (omega arith)) ∙ was) in record {
    turns = λ k m. ⊎_elim (λ l. let same : k ≡ suc b = omega arith in ap (λ (j : ℕ). test (take j h)) same ∙ next ∙ or_left _ _ was
        ∙ sym (lt-ltb at k (omega arith))) (λ l. tied.turns k l) (cases_lt b k);
    told = or_left _ _ (lt-ltb at (suc b) (omega arith));
  }

  unturned : test (take b h) ≡ false → at ≡ length h
  unturned was = search (rules, or_cases, nat_lt, length, both_ways, eqb-true)

  -- the event makes it true
  turns_now : test (take b h) ≡ false → s ≡ true → TurnsAt h test (suc b) (length h) b
  turns_now was now =
      record { turns = λ k m. by_place k m (cases_lt b k); told = or_left _ _ (lt-ltb b (suc b) (omega arith)) }
    where
      last : at ≡ length h
      last = unturned was

      by_place : (k : ℕ) → k ≤ suc b → (b < k) ⊎ (k ≤ b) → test (take k h) ≡ nat_lt b k
      by_place k m (inl l) =
          let same : k ≡ suc b = omega arith in
          ap (λ (j : ℕ). test (take j h)) same ∙ next ∙ or_right _ _ now ∙ sym (lt-ltb b k l)
      by_place k m (inr l) = let e = last in tied.turns k l ∙ le-ltb at k (omega arith) ∙ sym (le-ltb b k l)

  -- it stays false
  turns_later : test (take b h) ≡ false → s ≡ false → TurnsAt h test (suc b) (length h) at
  turns_later was never = let last = unturned was in record {
    turns = λ k m. ⊎_elim (λ l. let same : k ≡ suc b = omega arith in ap (λ (j : ℕ). test (take j h)) same ∙ next ∙ ap (λ x. x || s) was ∙ never
        ∙ sym (le-ltb at k (omega arith))) (λ l. tied.turns k l) (cases_lt b k);
    told = or_right _ _ (eq-eqb at (length h) last);
  }

  pub turn_step : (now : Bool) → (test (take b h) ≡ false → now ≡ s) → TurnsAt h test (suc b) (length h) (cond now (cond (at == length h) b at) at)
  turn_step now same = by_before (cases_Bool (test (take b h))) where
    by_before : (test (take b h) ≡ true) ⊎ (test (take b h) ≡ false)
        → TurnsAt h test (suc b) (length h) (cond now (cond (at == length h) b at) at)
    by_before (inl was) =
        let below : at < b = ltb-true at b (sym (tied.turns b (omega arith)) ∙ was) in
        rw (kept_value now (at == length h) b at (ne_eqb at (length h) (omega arith))) (turned was)
    by_before (inr was) = by_now (cases_Bool s) where
      by_now : (s ≡ true) ⊎ (s ≡ false) → TurnsAt h test (suc b) (length h) (cond now (cond (at == length h) b at) at)
      by_now (inl holds) = rw (same was ∙ holds, eq-eqb at (length h) (unturned was)) (turns_now was holds)
      by_now (inr fails) = rw (same was ∙ fails) (turns_later was fails)

-- a table -----------------------------------------------------------------------------------------

pub turns_none : (h : List Event) (test : ℕ → List Event → Bool) → ((n : ℕ) → test n [] ≡ false) → AreTurns h test 0 (replicate (length h) (length h))
turns_none h test never = search (rules, length-replicate, length, replicate, get_or-replicate, turn_none)

noted_size : (table : List ℕ) (key : Option ℕ) (place : ℕ) → length (noted table key place) ≡ length table
noted_size table x1 place = search (rules, get_or, length, Bool, cond, set, length-set)

noted_at : (table : List ℕ) (key : Option ℕ) (place n : ℕ) → n < length table →
    get_or (noted table key place) n 0 ≡ cond (has_number key n) (cond (get_or table n 0 == length table) place (get_or table n 0)) (get_or table n 0)
noted_at table None place n l = refl
noted_at table (Some m) place n l = by_order (cases_eq m n) where
  here : (full : Bool) → get_or (cond full (set table n place) table) n 0 ≡ cond full place (get_or table n 0)
  here true = get_or-set_same table n place 0 l
  here false = refl

  there : (full : Bool) → (n ≡ m → ⊥) → get_or (cond full (set table m place) table) n 0 ≡ get_or table n 0
  there true differs = get_or-set_other table m n place 0 differs
  there false differs = refl

  by_order : (m ≡ n) ⊎ (m ≡ n → ⊥) →
      get_or (cond (get_or table m 0 == length table) (set table m place) table) n 0
      ≡ cond (m == n) (cond (get_or table n 0 == length table) place (get_or table n 0)) (get_or table n 0)
  by_order (inl same) = rw (same, eq-eqb n n refl) (here (get_or table n 0 == length table))
  by_order (inr differs) = rw (ne_eqb m n differs) (there (get_or table m 0 == length table) (λ e. differs (sym e)))

pub turns_step : {h : List Event} {test : ℕ → List Event → Bool} (b : ℕ) (table : List ℕ) (key : Option ℕ) (s : ℕ → Bool) → b < length h →
    ((n : ℕ) → test n (take (suc b) h) ≡ (test n (take b h) || s n)) → ((n : ℕ) → test n (take b h) ≡ false → has_number key n ≡ s n) →
    AreTurns h test b table → AreTurns h test (b + 1) (noted table key b)
turns_step {h} {test} b table key s inside next same tied = record {
  size = noted_size table key b ∙ tied.size;
  each = λ n l.
      let size : length (noted table key b) ≡ length table = noted_size table key b in
      let more : b + 1 ≡ suc b = omega arith in
      let m : n < length table = omega arith in
      rw (more, noted_at table key b n m, tied.size)
      (turn_step h (test n) b (get_or table n 0) (s n) inside (next n) (tied.each n m) (has_number key n) (same n));
}

-- removals and takings ----------------------------------------------------------------------------

-- a test of any event is true after one more where it was, or where it holds of that
any_next : (p : Event → Bool) (h : List Event) (b : ℕ) (e : Event) → slice_get h b ≡ Some e → list_any p (take (suc b) h) ≡ (list_any p (take b h) || p e)
any_next p h b e at_b = ap (λ (k : List Event). list_any p k) (take_next h b e at_b)
    ∙ list_any-append p (take b h) (e ∷ []) ∙ ap (λ x. list_any p (take b h) || x) (or_false (p e))

removes : (e : Event) (n : ℕ) → has_number (removed_of e) n ≡ is_remove_of n e
removes (Remove r) n = refl
removes _ n = refl

returned : (e : Event) (n : ℕ) → has_number (returned_of e) n ≡ is_return_of n e
returned (Return l) n = refl
returned _ n = refl

takes : (e : Event) (n : ℕ) → has_number (taken_of e) n ≡ is_take_of n e
takes (Take r) n = refl
takes _ n = refl

-- where an event has a key just where the test holds of it
event_step : (h : List Event) (b : ℕ) (table : List ℕ) (key : Event → Option ℕ) (test : ℕ → Event → Bool)
    → ((e : Event) (n : ℕ) → has_number (key e) n ≡ test n e)
    → b < length h → AreTurns h (λ n k. list_any (test n) k) b table
    → AreTurns h (λ n k. list_any (test n) k) (b + 1) (noted table (option_and_then key (slice_get h b)) b)
event_step h b table key test is inside tied =
    let e = (event_at h b inside).0 in
    let at_b : slice_get h b ≡ Some e = (event_at h b inside).1 in
    turns_step b table (option_and_then key (slice_get h b)) (λ n. test n e) inside (λ n. any_next (test n) h b e at_b)
    (λ n was. ap (λ (o : Option Event). has_number (option_and_then key o) n) at_b ∙ is e n) tied

pub removed_step : (h : List Event) (b : ℕ) (table : List ℕ) → b < length h → AreTurns h has_removed b table →
    AreTurns h has_removed (b + 1) (noted table (option_and_then removed_of (slice_get h b)) b)
removed_step h b table inside tied = event_step h b table removed_of is_remove_of removes inside tied

pub taken_step : (h : List Event) (b : ℕ) (table : List ℕ) → b < length h → AreTurns h has_taken b table →
    AreTurns h has_taken (b + 1) (noted table (option_and_then taken_of (slice_get h b)) b)
taken_step h b table inside tied = event_step h b table taken_of is_take_of takes inside tied

pub returned_step : (h : List Event) (b : ℕ) (table : List ℕ) → b < length h → AreTurns h has_returned b table →
    AreTurns h has_returned (b + 1) (noted table (option_and_then returned_of (slice_get h b)) b)
returned_step h b table inside tied = event_step h b table returned_of is_return_of returned inside tied
