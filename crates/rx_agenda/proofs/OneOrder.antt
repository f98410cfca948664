-- What the answers were determines which steps came, and in which order.
use Rattle.rx_agenda.proofs.Common.{◌≡◌, ◌<◌, ◌≤◌, ◌+◌, ℕ, zero, suc, List, [], ◌∷◌, refl, sym, ap, subst, ◌∙◌, inl, inr, arith, ◌⊎◌, Option, Some, None}
use Rattle.rx_agenda.proofs.Common.{slice_get, cases_lt, Name, Step, Answer, Origin, Turn, PlacedStep, Executed, IsScheduledBefore, ComesBefore}
use Rattle.rx_agenda.proofs.Common.{placed_at, held_by, IsHeld, by_scenario, by_step, IsCancelled, IsStepDue, IsInOrder, WaitsAt}
use Rattle.rx_agenda.proofs.Common.{IsCancelAnswered, one_waits, no_step_waits}
use Rattle.rx_agenda.specs.Claims.{OrderIsDetermined, HeadsComeFirst}
use Rattle.rx_agenda.proofs.ComesBeforeIsAnOrder.{comes-trans, comes-asym, comes-self, comes-cases}
use Rattle.std.proofs.Common.{rules}

-- up to this number they are the same
abbrev pub Agrees : List Executed → List Executed → ℕ → Type 0
Agrees one other k = (j : ℕ) → j < k → slice_get one j ≡ slice_get other j

-- the same step behind the same ones is answered the same
abbrev pub AreAnsweredAlike : List Executed → List Executed → Type 0
AreAnsweredAlike one other =
    (k : ℕ) → Agrees one other k → (x y : Executed) → slice_get one k ≡ Some x → slice_get other k ≡ Some y → x.placed ≡ y.placed → x.answer ≡ y.answer

agrees-sym : (one other : List Executed) (k : ℕ) → Agrees one other k → Agrees other one k
agrees-sym one other k agree j lt = sym (agree j lt)

-- so far what is held in one is held in the other
held_over : (steps : List Step) (one other : List Executed) (k : ℕ) (x : PlacedStep) → Agrees one other k → IsHeld steps one x → x.origin.holder ≤ k
    → IsHeld steps other x
held_over steps one other k x agree x6 below = search (rules, by_scenario, by_step)

-- a step is told by where it is held
step_told : {steps : List Step} {one other : List Executed} (k : ℕ) (x y : PlacedStep) → Agrees one other k → IsHeld steps one x → IsHeld steps other y
    → x.origin.holder ≤ k
    → x.origin ≡ y.origin → x.step ≡ y.step
step_told k x y agree x5 x6 below same = search (rules, slice_get)

module _ (steps : List Step) (until : ℕ) (one other : List Executed) (first : IsInOrder steps until one) (second : IsInOrder steps until other) (k : ℕ)
    (agree : Agrees one other k)
    (x y : Executed) (x_there : slice_get one k ≡ Some x) (y_there : slice_get other k ≡ Some y) where
  x_due : IsStepDue steps until one x.placed
  x_due = first.only_due x.placed (record { number = k; by = x; there = x_there; same = refl })

  x_holder : x.placed.origin.holder ≤ k
  x_holder = first.behind_holder k x x_there

  x_over : IsHeld steps other x.placed
  x_over = held_over steps one other k x.placed agree x_due.held x_holder

  -- one of the first list that is lower was held in the other too
  lower_over : (z : PlacedStep) → IsHeld steps one z → IsScheduledBefore z.origin x.placed.origin → IsHeld steps other z
  lower_over z held lower =
      search (rules, x_holder, held_over)

  module _ (before : ComesBefore x.placed y.placed) where
    -- from there on the other list has none that comes before x
    none_before : (m : ℕ) (z : Executed) → slice_get other m ≡ Some z → k ≤ m → ComesBefore z.placed x.placed → ⊥
    none_before m z there later sooner = elim (cases_lt k m) [
      | inl above ↦ comes-asym x.placed y.placed before (comes-trans y.placed z.placed x.placed (second.in_order k m y z above y_there there) sooner)
      | inr equal ↦
          let at : m ≡ k = omega arith in
          let both : Some z ≡ Some y = sym there ∙ ap (slice_get other) at ∙ y_there in
          let same : z ≡ y = cc in
          comes-asym x.placed y.placed before (subst (λ (v : Executed). ComesBefore v.placed x.placed) same sooner)
    ]

    alive : ¬ IsCancelled steps other x.placed
    alive c = elim (cases_lt c.number k) [
      | inr later ↦ none_before c.number c.by c.there later c.meant.to_come
      | inl sooner ↦ x_due.not_cancelled (record {
        number = c.number;
        by = c.by;
        label = c.label;
        there = agree c.number sooner ∙ c.there;
        cancels = c.cancels;
        accepted = c.accepted;
        meant = record {
          waits = c.meant.waits;
          scheduled = c.meant.scheduled;
          to_come = c.meant.to_come;
          first = λ z held waits lower. c.meant.first z (lower_over z held lower) waits lower;
        };
      })
    ]

    pub none_sooner : ⊥
    none_sooner =
        let done = second.all_due x.placed (record { held = x_over; in_time = x_due.in_time; not_cancelled = alive }) in
        elim (cases_lt done.number k) [
          | inl sooner ↦
              comes-self done.by.placed x.placed done.same
              (first.in_order done.number k done.by x sooner (agree done.number sooner ∙ done.there) x_there)
          | inr later ↦ elim (cases_lt k done.number) [
            | inl above ↦
                comes-asym x.placed y.placed before (subst (λ (v : PlacedStep). ComesBefore y.placed v) done.same
                (second.in_order k done.number y done.by above y_there done.there))
            | inr equal ↦
                let at : done.number ≡ k = omega arith in
                let both : Some done.by ≡ Some y = sym done.there ∙ ap (slice_get other) at ∙ y_there in
                let same : done.by ≡ y = cc in
                comes-self x.placed y.placed (sym done.same ∙ ap (λ (v : Executed). v.placed) same) before
          ]
        ]

none_beyond : (xs : List Executed) (k j : ℕ) → slice_get xs k ≡ None → k ≤ j → slice_get xs j ≡ None
none_beyond [] k j none on = refl
none_beyond (x ∷ xs) zero j none on = absurd (cc)
none_beyond (x ∷ xs) (suc k) zero none on = absurd (omega arith)
none_beyond (x ∷ xs) (suc k) (suc j) none on = none_beyond xs k j none (omega arith)

-- where one list ends, the other does
module _ (steps : List Step) (until : ℕ) (one other : List Executed) (first : IsInOrder steps until one) (second : IsInOrder steps until other) (k : ℕ)
    (agree : Agrees one other k)
    (over : slice_get one k ≡ None) (y : Executed) (y_there : slice_get other k ≡ Some y) where
  y_due : IsStepDue steps until other y.placed
  y_due = second.only_due y.placed (record { number = k; by = y; there = y_there; same = refl })

  y_holder : y.placed.origin.holder ≤ k
  y_holder = second.behind_holder k y y_there

  -- what the ended list has it has before
  before_end : (m : ℕ) (z : Executed) → slice_get one m ≡ Some z → m < k
  before_end m z there = search (rules, cases_lt, slice_get, none_beyond)

  back_over : (z : PlacedStep) → IsHeld steps other z → z.origin.holder ≤ k → IsHeld steps one z
  back_over z held below = held_over steps other one k z (agrees-sym one other k agree) held below

  y_alive : ¬ IsCancelled steps one y.placed
  y_alive c =
      search (rules, before_end, y_holder, back_over)

  none_longer : ⊥
  none_longer =
      search (rules, back_over, y_holder, y_alive, before_end, comes-self)

module _ (steps : List Step) (until : ℕ) (one other : List Executed) (first : IsInOrder steps until one) (second : IsInOrder steps until other)
    (alike : AreAnsweredAlike one other) where
  same_next : (k : ℕ) → Agrees one other k → (a b : Option Executed) → slice_get one k ≡ a → slice_get other k ≡ b → a ≡ b
  same_next k agree None None at_a at_b = refl
  same_next k agree None (Some y) at_a at_b = absurd (none_longer steps until one other first second k agree at_a y at_b)
  same_next k agree (Some x) None at_a at_b = absurd (none_longer steps until other one second first k (agrees-sym one other k agree) at_b x at_a)
  same_next k agree (Some x) (Some y) at_a at_b = elim (comes-cases x.placed y.placed) [
    | inl apart ↦ elim apart [
      | inl sooner ↦ absurd (none_sooner steps until one other first second k agree x y at_a at_b sooner)
      | inr later ↦ absurd (none_sooner steps until other one second first k (agrees-sym one other k agree) y x at_b at_a later)
    ]
    | inr same ↦
        let x_due : IsStepDue steps until one x.placed = first.only_due x.placed (record { number = k; by = x; there = at_a; same = refl }) in
        let y_due : IsStepDue steps until other y.placed = second.only_due y.placed (record { number = k; by = y; there = at_b; same = refl }) in
        let step : x.placed.step ≡ y.placed.step = step_told k x.placed y.placed agree x_due.held y_due.held
        (first.behind_holder k x at_a) same.1 in
        let placed : x.placed ≡ y.placed = λ i. record { step = step i; origin = same.1 i; turn = same.0 i } in
        let answer : x.answer ≡ y.answer = alike k agree x y at_a at_b placed in
        λ i. Some (record { placed = placed i; answer = answer i })
  ]

  agrees : (k : ℕ) → Agrees one other k
  agrees zero j lt = absurd (omega arith)
  agrees (suc k) j lt = elim (cases_lt j k) [
    | inl below ↦ agrees k j below
    | inr at ↦
        let same : j ≡ k = omega arith in
        let here : slice_get one k ≡ slice_get other k = same_next k (agrees k) (slice_get one k) (slice_get other k) refl refl in
        ap (slice_get one) same ∙ here ∙ sym (ap (slice_get other) same)
  ]

lists_same : (xs ys : List Executed) → ((k : ℕ) → slice_get xs k ≡ slice_get ys k) → xs ≡ ys
lists_same [] [] each = refl
lists_same [] (y ∷ ys) each = let here : None ≡ Some y = each 0 in absurd (cc)
lists_same (x ∷ xs) [] each = let here : Some x ≡ None = each 0 in absurd (cc)
lists_same (x ∷ xs) (y ∷ ys) each =
    let here : Some x ≡ Some y = each 0 in
    let same : x ≡ y = cc in
    let rest : xs ≡ ys = lists_same xs ys (λ k. each (suc k)) in
    λ i. same i ∷ rest i

-- it is enough that the answers agree where all before them is the same, and so is the step
pub determined_so_far : (steps : List Step) (until : ℕ) (one other : List Executed) → IsInOrder steps until one → IsInOrder steps until other
    → AreAnsweredAlike one other → one ≡ other
determined_so_far steps until one other first second alike =
    lists_same one other (λ k. agrees steps until one other first second alike (suc k) k (omega arith))

pub determined : OrderIsDetermined
determined steps until one other first second alike =
    search (rules, determined_so_far)

-- what a cancel is answered ------------------------------------------------------------------------

-- where all before it is the same, a cancel finds the same steps waiting
module _ (steps : List Step) (one other : List Executed) (k : ℕ) (agree : Agrees one other k) (x y : Executed) (same : x.placed ≡ y.placed) where
  scheduled_too : (z p : PlacedStep) → IsScheduledBefore z.origin p.origin → p.origin.holder ≤ k → z.origin.holder ≤ k
  scheduled_too z p lower below = search rules

  back : (z : PlacedStep) → IsHeld steps other z → z.origin.holder ≤ k → IsHeld steps one z
  back z held below = held_over steps other one k z (agrees-sym one other k agree) held below

  cancelled_back : (p : PlacedStep) → p.origin.holder ≤ k → (c : IsCancelled steps other p) → c.number < k → IsCancelled steps one p
  cancelled_back p below c sooner = record {
    number = c.number;
    by = c.by;
    label = c.label;
    there = agree c.number sooner ∙ c.there;
    cancels = c.cancels;
    accepted = c.accepted;
    meant = record {
      waits = c.meant.waits;
      scheduled = c.meant.scheduled;
      to_come = c.meant.to_come;
      first = λ z held waits lower. c.meant.first z (held_over steps one other k z agree held (scheduled_too z p lower below)) waits lower;
    };
  }

  waits_over : (label : Name) → WaitsAt steps one label k x → WaitsAt steps other label k y
  unfolding cancelled_back
  waits_over label w = record {
    placed = w.placed;
    held = held_over steps one other k w.placed agree w.held w.meant.scheduled;
    meant = record {
      waits = w.meant.waits;
      scheduled = w.meant.scheduled;
      to_come = subst (λ (v : PlacedStep). ComesBefore v w.placed) same w.meant.to_come;
      first = λ z held waits lower. w.meant.first z (back z held (scheduled_too z w.placed lower w.meant.scheduled)) waits lower;
    };
    not_cancelled = λ c sooner. w.not_cancelled (cancelled_back w.placed w.meant.scheduled c sooner) sooner;
  }

-- and so it is answered the same
pub cancel_alike : {steps : List Step} {one other : List Executed} {k : ℕ} → Agrees one other k → {x : Executed} (y : Executed) → x.placed ≡ y.placed →
    (label : Name)
    → (a b : Answer) → IsCancelAnswered steps one label k x a → IsCancelAnswered steps other label k y b → a ≡ b
cancel_alike agree y same label a b (one_waits w) (one_waits v) = refl
cancel_alike {steps} {one} {other} {k} agree {x} y same label a b (one_waits w) (no_step_waits none) = absurd
    (none (waits_over steps one other k agree x y same label w))
cancel_alike {steps} {one} {other} {k} agree {x} y same label a b (no_step_waits none) (one_waits v) =
    absurd (none (waits_over steps other one k (agrees-sym one other k agree) y x (sym same) label v))
cancel_alike agree y same label a b (no_step_waits none) (no_step_waits also) = refl

-- a step stands behind the head of its turn --------------------------------------------------------

module _ (steps : List Step) (until : ℕ) (executed : List Executed) (order : IsInOrder steps until executed) where
  -- it is the head, or was scheduled after it
  abbrev IsHeadOrBehind : PlacedStep → Type 0
  IsHeadOrBehind x = (x.turn.head ≡ x.origin) ⊎ IsScheduledBefore x.turn.head x.origin

  in_turn_of : (now : Turn) (h i : ℕ) (s : Step) → now.head.holder < h ⊎ ((now.head.holder ≡ h) × (now.head.place < i + 1)) → (delay : Option ℕ)
      → s.delay ≡ delay
      → IsHeadOrBehind (placed_at now (held_by h i) s)
  in_turn_of now h i s before x5 is = search rules

  holder_behind : (e : Executed) (j : ℕ) → e.placed.origin.holder ≤ j → IsHeadOrBehind e.placed → e.placed.turn.head.holder < j + 1
  holder_behind e j below x3 = search rules

  behind_by : (n : ℕ) (x : PlacedStep) → IsHeld steps executed x → x.origin.holder ≤ n
      → ((j : ℕ) (e : Executed) → j < n → slice_get executed j ≡ Some e → IsHeadOrBehind e.placed) → IsHeadOrBehind x
  behind_by n x x2 below each = search (rules, in_turn_of, holder_behind)

  behind_head : (n k : ℕ) (x : Executed) → k < n → slice_get executed k ≡ Some x → IsHeadOrBehind x.placed
  behind_head zero k x below there = absurd (omega arith)
  behind_head (suc n) k x below there =
      let due : IsStepDue steps until executed x.placed = order.only_due x.placed (record { number = k; by = x; there = there; same = refl }) in
      behind_by k x.placed due.held (order.behind_holder k x there) (λ j e lt at. behind_head n j e (omega arith) at)

pub heads_first : HeadsComeFirst
heads_first steps until executed order x y x_done y_done same heads other =
    let behind : (y.turn.head ≡ y.origin) ⊎ IsScheduledBefore y.turn.head y.origin =
    subst (λ (z : PlacedStep). (z.turn.head ≡ z.origin) ⊎ IsScheduledBefore z.turn.head z.origin) y_done.same
    (behind_head steps until executed order (suc y_done.number) y_done.number y_done.by (omega arith) y_done.there) in
    let one_head : x.origin ≡ y.turn.head = heads ∙ ap (λ (t : Turn). t.head) same in
    elim behind [
      | inl is ↦ absurd (other (sym is))
      | inr before ↦ inr (same, subst (λ (o : Origin). IsScheduledBefore o y.origin) (sym one_head) before)
    ]
