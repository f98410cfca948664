-- Which node an event itself takes away: what it stops, or the last inner of its Switch.
use Rattle.rx_picture.proofs.Common.{◌≡◌, ℕ, zero, suc, ◌+◌, ◌<◌, ◌≤◌, Bool, true, false, cond, List, [], length, take, replicate, get_or, set, Option, Some}
use Rattle.rx_picture.proofs.Common.{None, refl, sym, ap, inl, inr, ◌⊎◌, ◌∙◌, arith, ◌==◌, nat_lt}
use Rattle.rx_picture.proofs.Common.{slice_get, ◌&&◌, ◌||◌, list_any, option_and_then}
use Rattle.rx_picture.proofs.Common.{option_map_or, cases_Bool, cases_lt, cases_eq, lt-ltb, le-ltb, ltb-true, eq-eqb, ne_eqb, eqb-true, and_left, and_from}
use Rattle.rx_picture.proofs.Common.{and_parts, both_ways, false≢true, none-some, same_Some, get_or-set_same, get_or-set_other, length-set, length-replicate}
use Rattle.rx_picture.proofs.Common.{Event, End, at, is_shut, has_number, AreTurns, AreInners, noted, was_shut, event_at, false_from_ne_true}
use Rattle.std.proofs.lemmas.Bool.{and_right, or_from, or_parts}
use Rattle.std.proofs.lemmas.Option.{cond_some, option_and_then_some, slice_get_within}
use Rattle.std.proofs.lemmas.List.{drop_all}
use Rattle.rx_event.specs.declared.event.Place.TheVariants.{Inner}
use Rattle.rx_event.specs.declared.event.Event.TheVariants.{Open, Close}
use Rattle.rx_event.specs.Events.{inner_named, is_switch, is_inner_of}
use Rattle.rx_event.specs.Tree.{if_less, shuts, is_switched_inner}
use Rattle.rx_event.proofs.Laws.Openness.{is_shut-push}
use Rattle.rx_picture.specs.Tables.{IsShutBy, if_switch, switch_of, number_before, latest_of}
use Rattle.rx_picture.specs.Tables.{inner_with, stopped_of, shut_key}
use Rattle.rx_picture.proofs.Prefixes.{same_tests, take_next, in_prefix, past_prefix, at_prefix}
use Rattle.rx_picture.proofs.WhereTestsTurnTrue.{turns_step}
use Rattle.std.proofs.Common.{rules, ⊎_elim}

is_key_of : (o : Option ℕ) (n : ℕ) → has_number o n ≡ true → o ≡ Some n
is_key_of x0 n e = search (rules, false≢true, Some, eqb-true)

-- inners of a Switch ------------------------------------------------------------------------------

switch_shape : (h : List Event) (f n : ℕ) (o : Option Event) →
    ((nat_lt f n && at is_switch h f) && option_map_or (is_inner_of f) o false) ≡ has_number (option_and_then (if_switch h n) (option_and_then inner_named o)) f
switch_shape h f n None = and_right _ _ refl
switch_shape h f n (Some (Open (Inner g) kind)) = by_order (cases_eq g f) where
  alike : (x : Bool) → (x && true) ≡ has_number (cond x (Some f) None) f
  alike true = sym (eq-eqb f f refl)
  alike false = refl

  other : (x : Bool) → (g == f) ≡ false → false ≡ has_number (cond x (Some g) None) f
  other true differs = sym differs
  other false differs = refl

  by_order : (g ≡ f) ⊎ (g ≡ f → ⊥) → ((nat_lt f n && at is_switch h f) && (g == f))
      ≡ has_number (cond (nat_lt g n && at is_switch h g) (Some g) None) f
  by_order (inl same) =
      ap (λ (x : Bool). (nat_lt f n && at is_switch h f) && x) (eq-eqb g f same)
      ∙ alike (nat_lt f n && at is_switch h f)
      ∙ ap (λ (q : ℕ). has_number (cond (nat_lt q n && at is_switch h q) (Some q) None) f) (sym same)
  by_order (inr differs) =
      and_right _ _ (ne_eqb g f differs) ∙ other (nat_lt g n && at is_switch h g) (ne_eqb g f differs)
switch_shape h f n (Some _) = and_right _ _ refl

-- an inner of a Switch among the first events
switched_is : (h : List Event) (b f n : ℕ) → n < b → b ≤ length h → is_switched_inner (take b h) f n ≡ has_number (switch_of h n) f
switched_is h b f n l m = by_order (cases_lt f n) where
  by_order : (f < n) ⊎ (n ≤ f) → is_switched_inner (take b h) f n ≡ has_number (switch_of h n) f
  by_order (inl s) =
      ap (λ (x : Bool). (nat_lt f n && x) && at (is_inner_of f) (take b h) n)
      (at_prefix is_switch h b f (omega arith) m)
      ∙ ap (λ (x : Bool). (nat_lt f n && at is_switch h f) && x) (at_prefix (is_inner_of f) h b n l m)
      ∙ switch_shape h f n (slice_get h n)
  by_order (inr s) =
      ap (λ (x : Bool). (x && at is_switch (take b h) f) && at (is_inner_of f) (take b h) n) (le-ltb f n s)
      ∙ sym (ap (λ (x : Bool). (x && at is_switch h f) && at (is_inner_of f) h n) (le-ltb f n s))
      ∙ switch_shape h f n (slice_get h n)

switch_parts : (h : List Event) (n f : ℕ) → switch_of h n ≡ Some f → (nat_lt f n ≡ true) × (at is_switch h f ≡ true)
switch_parts h n f named = search (rules, option_and_then_some, option_and_then, slice_get, cond_some, nat_lt, and_parts)

switch_inner : (h : List Event) (b g : ℕ) (e : Event) → slice_get h b ≡ Some e → switch_of h b ≡ Some g → inner_named e ≡ Some g
switch_inner h b g e at_b named = search (rules, option_and_then_some, option_and_then, slice_get, cond_some, nat_lt, Option, Event, Some)

shuts_inner : (k : List Event) (n : ℕ) (e : Event) (g : ℕ) → inner_named e ≡ Some g → shuts k n e ≡ is_switched_inner k g n
shuts_inner k n (Open (Inner f) kind) g named = ap (λ (x : ℕ). is_switched_inner k x n) (same_Some f g named)
shuts_inner k n _ g named = absurd (none-some g named)

-- what an event shuts -----------------------------------------------------------------------------

is_shut_next : (h : List Event) (b : ℕ) (e : Event) (n : ℕ) → slice_get h b ≡ Some e
    → n < b → is_shut (take (suc b) h) n ≡ (is_shut (take b h) n || shuts (take b h) n e)
is_shut_next h b e n at_b l =
    let inside = slice_get_within h b e at_b in
    ap (λ (k : List Event). is_shut k n) (take_next h b e at_b) ∙ is_shut-push (take b h) e n (in_prefix h b n l (omega arith))

is_shut_short : (k : List Event) (n : ℕ) → length k ≤ suc n → is_shut k n ≡ false
unfolding is_shut
is_shut_short k n l = ap (λ (x : List Event). list_any (shuts k n) x) (drop_all (suc n) k l)

below_key : (b m n : ℕ) → has_number (if_less b m) n ≡ (nat_lt n b && (m == n))
below_key b m n = by_order (cases_eq m n) where
  alike : (x : Bool) → has_number (cond x (Some n) None) n ≡ (x && (n == n))
  alike true = refl
  alike false = refl

  other : (x y : Bool) → (m == n) ≡ false → has_number (cond x (Some m) None) n ≡ (y && (m == n))
  other true y differs = differs ∙ sym (and_right y _ differs)
  other false y differs = sym (and_right y _ differs)

  by_order : (m ≡ n) ⊎ (m ≡ n → ⊥) → has_number (if_less b m) n ≡ (nat_lt n b && (m == n))
  by_order (inl same) = rw same (alike (nat_lt n b))
  by_order (inr differs) = other (nat_lt m b) (nat_lt n b) (ne_eqb m n differs)

-- the last inner of the Switch is the one that is not shut
module _ (h : List Event) (b : ℕ) (inner : List ℕ) (n f : ℕ) (within : b ≤ length h) (tied : AreInners h b inner) (still : is_shut (take b h) n ≡ false) where
  named_last : (v : ℕ) → get_or inner f 0 ≡ v → has_number (number_before v) n ≡ true → (nat_lt n b && is_switched_inner (take b h) f n) ≡ true
  named_last zero is keyed = absurd (false≢true keyed)
  named_last (suc c) is keyed =
      let same : c ≡ n = eqb-true c n keyed in
      let one = tied.is_one f c is in
      let l : c < b = one.0 in
      let m : n < b = omega arith in
      let named : switch_of h n ≡ Some f = ap (switch_of h) (sym same) ∙ one.1 in
      and_from _ _ (lt-ltb n b m) (switched_is h b f n m within ∙ ap (λ (o : Option ℕ). has_number o f) named ∙ eq-eqb f f refl)

  switched_parts : (nat_lt n b && is_switched_inner (take b h) f n) ≡ true → (n < b) × (switch_of h n ≡ Some f)
  switched_parts passes =
      search (rules, and_parts, ltb-true, is_key_of, switched_is)

  last_named : (nat_lt n b && is_switched_inner (take b h) f n) ≡ true → has_number (number_before (get_or inner f 0)) n ≡ true
  last_named passes =
      search (rules, switched_parts, ℕ, eq-eqb)

  shut_inner : has_number (latest_of inner (if_switch h b f)) n ≡ (nat_lt n b && is_switched_inner (take b h) f n)
  shut_inner = ⊎_elim (λ (here : (nat_lt f b && at is_switch h f) ≡ true). ap (λ (x : Bool). has_number (latest_of inner (cond x (Some f) None)) n) here
      ∙ same_tests _ _ (named_last (get_or inner f 0) refl) last_named)
      (λ (none : (nat_lt f b && at is_switch h f) ≡ false). ap (λ (x : Bool). has_number (latest_of inner (cond x (Some f) None)) n) none
      ∙ sym (false_from_ne_true _ (λ passes.
      let parts = switched_parts passes in
      let of_switch = switch_parts h n f parts.1 in
      let l : f < n = ltb-true f n of_switch.0 in
      let m : n < b = parts.0 in
      both_ways _ none (and_from _ _ (lt-ltb f b (omega arith)) of_switch.1)))) (cases_Bool (nat_lt f b && at is_switch h f))

pub shut_by_key : (h : List Event) (b : ℕ) (inner : List ℕ) → b < length h → AreInners h b inner → IsShutBy h b (shut_key h inner b)
shut_by_key h b inner inside tied n still =
    let e = (event_at h b inside).0 in
    let at_b : slice_get h b ≡ Some e = (event_at h b inside).1 in
    ap (λ (o : Option Event). has_number (option_map_or (if_less b) (option_and_then stopped_of o)
    (latest_of inner (option_and_then (if_switch h b) (option_and_then inner_named o)))) n) at_b
    ∙ by_event e ∙ sym (ap (λ (o : Option Event). nat_lt n b && option_map_or (shuts (take b h) n) o false) at_b)
  where
    by_event : (e : Event) →
        has_number (option_map_or (if_less b) (stopped_of e)
        (latest_of inner (option_and_then (if_switch h b) (inner_named e)))) n
        ≡ (nat_lt n b && shuts (take b h) n e)
    by_event (End m t) = below_key b m n
    by_event (Close m) = below_key b m n
    by_event (Open (Inner f) kind) = shut_inner h b inner n f (omega arith) tied still
    by_event _ = sym (and_right _ _ refl)

pub shut_step : (h : List Event) (b : ℕ) (table inner : List ℕ) → b < length h → AreInners h b inner → AreTurns h was_shut b table →
    AreTurns h was_shut (b + 1) (noted table (shut_key h inner b) b)
shut_step h b table inner inside inners tied =
    turns_step b table (shut_key h inner b) (λ n. nat_lt n b && option_map_or (shuts (take b h) n) (slice_get h b) false) inside
    (λ n. ⊎_elim (λ (l : n < b). let found = event_at h b inside in is_shut_next h b found.0 n found.1 l ∙ sym
    (ap (λ (x : Bool). is_shut (take b h) n || (x && option_map_or (shuts (take b h) n) (slice_get h b) false)) (lt-ltb n b l)
    ∙ ap (λ (o : Option Event). is_shut (take b h) n || option_map_or (shuts (take b h) n) o false) found.1))
    (λ (l : b ≤ n). is_shut_short (take (suc b) h) n (past_prefix h (suc b) (suc n) (omega arith) (omega arith))
    ∙ sym (or_from _ _ (is_shut_short (take b h) n (past_prefix h b (suc n) (omega arith) (omega arith))) (and_left _ _ (le-ltb n b l)))) (cases_lt n b))
    (shut_by_key h b inner inside inners) tied

pub never_shut : (n : ℕ) → was_shut n [] ≡ false
never_shut n = is_shut_short [] n (omega arith)

-- the last inner of each Switch -------------------------------------------------------------------

zeros_at : (size n : ℕ) → ◌≡◌ {A = ℕ} (get_or (replicate size 0) n 0) 0
zeros_at zero n = refl
zeros_at (suc size) zero = refl
zeros_at (suc size) (suc n) = zeros_at size n

pub inners_none : (h : List Event) → AreInners h 0 (replicate (length h) 0)
inners_none h = search (rules, length-replicate, length, zeros_at)

pub inners_step : (h : List Event) (b : ℕ) (inner : List ℕ) → b < length h
    → AreInners h b inner → AreInners h (b + 1) (inner_with inner (switch_of h b) (b + 1))
inners_step h b inner inside tied = by_key (switch_of h b) refl where
  e : Event
  e = (event_at h b inside).0

  at_b : slice_get h b ≡ Some e
  at_b = (event_at h b inside).1

  more : b + 1 ≡ suc b
  more = omega arith

  before : (c : ℕ) → c < b → is_shut (take (b + 1) h) c ≡ false → (is_shut (take b h) c ≡ false) × (shuts (take b h) c e ≡ false)
  before c l still = or_parts _ _ (sym (ap (λ (j : ℕ). is_shut (take j h) c) more ∙ is_shut_next h b e c at_b l) ∙ still)

  by_key : (o : Option ℕ) → switch_of h b ≡ o → AreInners h (b + 1) (inner_with inner o (b + 1))
  by_key None none = record {
    size = tied.size;
    is_one = λ f c is. let one = tied.is_one f c is in let l : c < b = one.0 in (omega arith, one.1);
    others = λ f c l named still. ⊎_elim (λ m. tied.others f c m named (before c m still).0)
        (λ m. let same : b ≡ c = omega arith in absurd (none-some f (sym none ∙ ap (switch_of h) same ∙ named))) (cases_lt c b);
  }
  by_key (Some g) some = record {
    size = length-set inner g (b + 1) ∙ tied.size;
    is_one = λ f c is. ⊎_elim
        (λ same. let value : b + 1 ≡ suc c = sym (get_or-set_same inner g (b + 1) 0 room) ∙ ap (λ (j : ℕ). get_or (set inner g (b + 1)) j 0) (sym same) ∙ is in
        let here : c ≡ b = omega arith in
        (omega arith, ap (switch_of h) here ∙ some ∙ ap Some (sym same)))
        (λ differs. let one = tied.is_one f c (sym (get_or-set_other inner g f (b + 1) 0 differs) ∙ is) in
        let l : c < b = one.0 in (omega arith, one.1)) (cases_eq f g);
    others = λ f c l named still. ⊎_elim
        (λ m. ⊎_elim (λ same. absurd (both_ways _ (before c m still).1 (shuts_inner (take b h) c e g (switch_inner h b g e at_b some)
        ∙ switched_is h b g c m (omega arith) ∙ ap (λ (o : Option ℕ). has_number o g) named ∙ eq-eqb f g same)))
        (λ differs. get_or-set_other inner g f (b + 1) 0 differs ∙ tied.others f c m named (before c m still).0) (cases_eq f g))
        (λ m. let here : b ≡ c = omega arith in
        ap (λ (j : ℕ). get_or (set inner g (b + 1)) j 0) (sym (same_Some g f (sym some ∙ ap (switch_of h) here ∙ named)))
        ∙ get_or-set_same inner g (b + 1) 0 room ∙ (omega arith)) (cases_lt c b);
  } where
    room : g < length inner
    room = let l : g < b = ltb-true g b (switch_parts h b g some).0 in let size = tied.size in omega arith
