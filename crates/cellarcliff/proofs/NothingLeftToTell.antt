-- An engine that may be finished has nothing left: no effect in a lane, and no tag to be released.
use Rattle.std.proofs.Common.{◌≡◌, ℕ, zero, suc, ◌==◌, ◌||◌, Bool, true, false, cond, List, [], ◌∷◌, length, map, Option, Some, None, is_some, slice_index_or, refl, sym, ap, ◌∙◌, arith, subst, if◌then◌else◌}
use Rattle.std.proofs.lemmas.Bool.{false≢true, false_from_ne_true, and_parts, eqb-true, eq-eqb}
use Rattle.std.proofs.lemmas.List.Sums.{sum_by-cons}
use Rattle.std.specs.List.{sum_by, Contains}
use Rattle.rx_event.specs.declared.event.Event.{Event}
use Rattle.rx_event.specs.Resources.{is_held, is_waiting}
use Rattle.rx_event.specs.Totals.{open_count, held_count, lease_count}
use Rattle.rx_event.proofs.Laws.Resources.{is_held_within}
use Rattle.rx_event.proofs.Laws.Sums.{term_in_sum}
use Rattle.rx_ground.specs.Shown.{Label}
use Rattle.rx_book.specs.State.{is_kept}
use Rattle.rx_lanes.specs.declared.names.LaneName.{LaneName}
use Rattle.rx_lanes.specs.Lane.{line}
use Rattle.rx_lanes.specs.Reports.{length_of, waiting}
use Rattle.rx_lanes.specs.State.{Opened, with_turn}
use Rattle.rx_roles.specs.declared.effect.Effect.{Effect}
use Rattle.rx_roles.specs.declared.roles.Role.{Role}
use Rattle.rx_roles.specs.Effects.{words_of}
use Rattle.rx_roles.specs.Roles.{role_of, AreRolesOf}
use Rattle.rx_engine.specs.LettingGo.{is_over}
use Rattle.rx_engine.specs.States.{State, IsPromised}
use Rattle.rx_engine.proofs.Laws.AcrossCheckpoint.{kept_untaken}
use Rattle.rx_courses.specs.Tellings.{counted, line_in, line_at}

-- lanes ------------------------------------------------------------------------------------------------------

none_listed : (test : Effect → Bool) (xs : List Effect) → length xs ≡ 0 → counted test xs ≡ 0
none_listed test [] none = refl
none_listed test (x ∷ xs) none = absurd (omega (arith, none))

none_turned : (test : Effect → Bool) (turn : ℕ) (o : Option (Opened Effect)) → length_of o ≡ 0 → counted test (line_in (with_turn turn o)) ≡ 0
none_turned test turn None none = refl
none_turned test turn (Some o) none = by_turn (o.turn == turn) where
  by_turn : (b : Bool) → counted test (line_in (cond b (Some o.lane) None)) ≡ 0
  by_turn true = none_listed test (line o.lane) none
  by_turn false = refl

none_at : (test : Effect → Bool) (turn : ℕ) (places : List (Option (Opened Effect))) (k : ℕ) → sum_by length_of places ≡ 0 →
    counted test (line_in (with_turn turn (slice_index_or places k None))) ≡ 0
none_at test turn [] k none = refl
none_at test turn (o ∷ os) zero none =
    none_turned test turn o (let both = sum_by-cons length_of o os in omega (arith, both, none))
none_at test turn (o ∷ os) (suc k) none = none_at test turn os k (let both = sum_by-cons length_of o os in omega (arith, both, none))

-- tags -------------------------------------------------------------------------------------------------------

none_held : (h : List Event) (n : ℕ) → held_count h ≡ 0 → is_held h n ≡ false
none_held h n none = false_from_ne_true (is_held h n) (λ held.
    let one : cond {A = ℕ} (is_held h n) 1 0 ≡ 1 = ap (λ (b : Bool). cond {A = ℕ} b 1 0) held in
    let within = term_in_sum (λ k. cond (is_held h k) 1 0) n (length h) (is_held_within h n held) in
    absurd (omega (arith, one, within, none)))

none_contained : (n : ℕ) → Contains [] n → ⊥
none_contained n c = absurd (let within = c.1 in omega (arith, within))

none_waits : (s : State) → IsPromised s → (n : ℕ) → is_waiting s.book.history n ≡ false
none_waits s kept n = false_from_ne_true (is_waiting s.book.history n) (λ waits. none_contained n
    (subst (λ (ls : List Label). Contains (map (λ (l : Label). l.number) ls) n) kept.tied.none_waits (kept.book.waiting.every n waits)))

none_kept : (s : State) → IsPromised s → held_count s.book.history ≡ 0 → (n : ℕ) → is_kept s.book.history n ≡ false
none_kept s kept none n = kept_untaken s.book.base s.book.history kept.book.lawful n
    ∙ (λ i. none_held s.book.history n none i || none_waits s kept n i)

no_roles : (tag : ℕ) (test : ℕ → Bool) (roles : List Role) → AreRolesOf test roles → ((n : ℕ) → test n ≡ false) → words_of tag roles ≡ 0
no_roles tag test [] are none = refl
no_roles tag test (r ∷ rs) are none = absurd (false≢true (sym (none r.number) ∙ sym (are.there r.number) ∙
    ap (λ (b : Bool). is_some (if b then Some r else role_of rs r.number)) (eq-eqb r.number r.number refl)))

-- an engine that is over -------------------------------------------------------------------------------------

pub record HasNothingLeft (s : State) : Type 0 where
  pub no_effect : (test : Effect → Bool) (name : LaneName) → counted test (line_at name s.parts.lanes) ≡ 0
  pub no_tag : (tag : ℕ) → words_of tag s.parts.holds.list ≡ 0

pub nothing_left : (s : State) → IsPromised s → is_over s ≡ true → HasNothingLeft s
nothing_left s kept over =
    let all_but_lanes = and_parts _ (waiting s.parts.lanes == 0) over in
    let all_but_leases = and_parts _ (lease_count s.book.history == 0) all_but_lanes.0 in
    let both = and_parts (open_count s.book.history == 0) (held_count s.book.history == 0) all_but_leases.0 in
    let held = eqb-true (held_count s.book.history) 0 both.1 in
    let waits = eqb-true (waiting s.parts.lanes) 0 all_but_lanes.1 in
    record {
      no_effect = λ test name. none_at test name.turn s.parts.lanes.places name.place waits;
      no_tag = λ tag. no_roles tag (is_kept s.book.history) s.parts.holds.list kept.tied.holds (none_kept s kept held);
    }
