-- From one step to the next: the executed steps stay in order.
use Rattle.rx_agenda.proofs.Common.{◌≡◌, ◌<◌, ◌≤◌, ◌+◌, ℕ, List, [], ◌∷◌, ◌++◌, length, refl, sym, ap, subst, ◌∙◌, inl, inr, arith, ◌⊎◌, Option, Some, None}
use Rattle.rx_agenda.proofs.Common.{slice_get, slice_get_within, schedule, next_due, Name, Step, list_of, bound, Answer, Accepted, Turn, PlacedStep, Executed}
use Rattle.rx_agenda.proofs.Common.{ComesBefore, opening_turn, placed_at, held_by, IsHeld, by_scenario, by_step, WaitsUnder}
use Rattle.rx_agenda.proofs.Common.{IsCancelled, IsStepDue, IsExecuted, IsInOrder, WaitsAt, IsCancelAnswered, one_waits, no_step_waits, AreCancelsAnswered}
use Rattle.std.proofs.Common.{length-append, rules}
use Rattle.rx_agenda.proofs.Members.{IsIn, get_push, get_old, get_last}
use Rattle.rx_agenda.proofs.ComesBeforeIsAnOrder.{comes-trans, comes-asym, comes-self}
use Rattle.rx_agenda.proofs.PlacedSteps.{PlacedAgenda, IsPending}
use Rattle.rx_agenda.proofs.EntriesRise.{FirstOf, IsReady, ready_later}
use Rattle.rx_agenda.proofs.StepsJoin.{IsOneOf, with_all, IsReadyAt, ready_all, pending_all, all_pending, one_of_get, get_one_of, later_turn}
use Rattle.rx_agenda.proofs.LeastStepLeaves.{PopsWell, Says, one_there, none_there, none_due}
use Rattle.rx_agenda.proofs.HeldAndCancelled.{ActsWell, IsSoFar, held_holder, held_more, held_cases, one_held, one_holder, meant_less, meant_now}
use Rattle.rx_agenda.proofs.HeldAndCancelled.{cancelled_more, cancelled_before, cancelled_cases, taken_cancelled, answered_more}

-- a step that joins comes after the one that holds it
module _ (x : PlacedStep) (h : ℕ) (before : x.origin.holder < h) (head : x.turn.head.holder < h) where
  one_placed : (i : ℕ) (s : Step) (delay : Option ℕ) → s.delay ≡ delay → ComesBefore x (placed_at x.turn (held_by h i) s)
  one_placed i s x2 is = search (rules, later_turn)

  comes_first : (i : ℕ) (ss : List Step) (y : PlacedStep) → IsOneOf x.turn h i ss y → ComesBefore x y
  comes_first i ss y one =
      search (rules, get_one_of, one_placed)

module _ (steps : List Step) (until : ℕ) (es : List Executed) (g : PlacedAgenda) (now : Turn) (so : IsSoFar steps until es g now) (e : Executed)
    (mid left : PlacedAgenda)
    (p : PopsWell (IsHeld steps es) until now (held_by (length es) so.at.place) g e.placed mid)
    (a : ActsWell (IsHeld steps es) e.placed.turn (held_by (length es) so.at.place) mid e.placed.step e.answer left) where
  abbrev pub more : List Executed
  more = es ++ e ∷ []

  abbrev pub followers : List Step
  followers = list_of e.placed.step.followers

  x_held : IsHeld steps es e.placed
  x_held = so.held e.placed p.was

  x_holder : e.placed.origin.holder ≤ length es
  x_holder = held_holder steps es e.placed x_held

  -- what may be to come then
  abbrev pub Joins : PlacedStep → Type 0
  Joins y = (e.answer ≡ Accepted) × IsOneOf e.placed.turn (length es + 1) 0 followers y

  x_head : e.placed.turn.head.holder < length es + 1
  x_head = search (rules, length)

  after_x : (y : PlacedStep) → IsPending left y ⊎ Joins y → ComesBefore e.placed y
  after_x y (inl at) = (p.comes y (a.from y at)).1
  after_x y (inr joins) =
      let holder : e.placed.origin.holder ≤ length es = x_holder in
      comes_first e.placed (length es + 1) (omega arith) x_head 0 followers y joins.1

  after_more : (k : ℕ) (f : Executed) (y : PlacedStep) → slice_get more k ≡ Some f → IsPending left y ⊎ Joins y → ComesBefore f.placed y
  after_more k f y got at = elim (get_push es e f k got) [
    | inl old ↦ comes-trans f.placed e.placed y (so.after k f e.placed old p.was) (after_x y at)
    | inr new ↦ subst (λ (x : Executed). ComesBefore x.placed y) new.1 (after_x y at)
  ]

  held_then : (y : PlacedStep) → IsPending left y ⊎ Joins y → IsHeld steps more y
  held_then y (inl at) = held_more steps es e y (so.held y (p.comes y (a.from y at)).0)
  held_then y (inr joins) = one_held steps es e joins.0 y joins.1

  alive_then : (y : PlacedStep) → IsPending left y ⊎ Joins y → ¬ IsCancelled steps more y
  alive_then y (inl at) c = elim (cancelled_cases steps es e y c) [ inl old ↦ so.alive y (p.comes y (a.from y at)).0 old | inr new ↦ a.kept y at new.0 ]
  alive_then y (inr joins) c =
      let holder : y.origin.holder ≡ length es + 1 = one_holder steps es e y joins.1 in
      elim (cancelled_cases steps es e y c) [
        | inl old ↦
            let below : old.number < length es = slice_get_within es old.number old.by old.there in
            let scheduled : y.origin.holder ≤ old.number = old.meant.scheduled in
            absurd (omega arith)
        | inr new ↦ let scheduled : y.origin.holder ≤ length es = new.2 in absurd (omega arith)
      ]

  complete_then : (y : PlacedStep) → IsHeld steps more y → IsExecuted more y ⊎ ((IsPending left y ⊎ Joins y) ⊎ IsCancelled steps more y)
  complete_then y held = elim (held_cases steps es e y held) [
    | inr joins ↦ inr (inl (inr joins))
    | inl old ↦ elim (so.complete y old) [
      | inl done ↦ inl (record { number = done.number; by = done.by; there = get_old es e done.by done.number done.there; same = done.same })
      | inr open_still ↦ elim open_still [
        | inr gone ↦ inr (inr (cancelled_more steps es e y gone))
        | inl at ↦ elim (p.others y at) [
          | inl same ↦ inl (record { number = length es; by = e; there = get_last es e; same = sym same })
          | inr stays ↦ elim (a.gone y stays) [
            | inl left_there ↦ inr (inl (inl left_there))
            | inr taken ↦ inr (inr (taken_cancelled steps es e y taken old (p.comes y stays).1))
          ]
        ]
      ]
    ]
  ]

  in_order_then : (i j : ℕ) (x y : Executed) → i < j → slice_get more i ≡ Some x → slice_get more j ≡ Some y → ComesBefore x.placed y.placed
  in_order_then i j x y lt at_i at_j = elim (get_push es e y j at_j) [
    | inl old_j ↦ (let below : j < length es = slice_get_within es j y old_j in
        elim (get_push es e x i at_i) [
          | inl old_i ↦ so.in_order i j x y lt old_i old_j
          | inr new_i ↦ let last : i ≡ length es = new_i.0 in absurd (omega arith)
        ])
    | inr new_j ↦ (let last : j ≡ length es = new_j.0 in
        elim (get_push es e x i at_i) [
          | inl old_i ↦ subst (λ (z : Executed). ComesBefore x.placed z.placed) new_j.1 (so.after i x e.placed old_i p.was)
          | inr new_i ↦ let last_i : i ≡ length es = new_i.0 in absurd (omega arith)
        ])
  ]

  behind_then : (i : ℕ) (x : Executed) → slice_get more i ≡ Some x → x.placed.origin.holder ≤ i
  behind_then i x got = search (rules, get_push, length, x_holder)

  within_then : e.placed.turn.moment ≤ until
  within_then = p.in_time so.within

  x_due : IsStepDue steps until more e.placed
  x_due = record {
    held = held_more steps es e e.placed x_held;
    in_time = within_then;
    not_cancelled = λ c. elim (cancelled_cases steps es e e.placed c) [
      | inl old ↦ so.alive e.placed p.was old
      | inr new ↦ comes-self e.placed e.placed refl new.1
    ];
  }

  old_due : (k : ℕ) (f : Executed) → slice_get es k ≡ Some f → (y : PlacedStep) → f.placed ≡ y → IsStepDue steps until es y → IsStepDue steps until more y
  old_due k f there y same due = record {
    held = held_more steps es e y due.held;
    in_time = due.in_time;
    not_cancelled = λ c. elim (cancelled_cases steps es e y c) [
      | inl old ↦ due.not_cancelled old
      | inr new ↦ comes-asym e.placed y new.1 (subst (λ (z : PlacedStep). ComesBefore z e.placed) same (so.after k f e.placed there p.was))
    ];
  }

  only_due_then : (y : PlacedStep) → IsExecuted more y → IsStepDue steps until more y
  only_due_then y done = elim (get_push es e done.by done.number done.there) [
    | inl old ↦ old_due done.number done.by old y done.same (so.only_due y (record { number = done.number; by = done.by; there = old; same = done.same }))
    | inr new ↦ subst (IsStepDue steps until more) (ap (λ (z : Executed). z.placed) new.1 ∙ done.same) x_due
  ]

  -- what the new step is answered, if it cancels
  waits_now : (label : Name) (w : PlacedStep) → IsPending mid w → WaitsUnder label w → FirstOf (IsHeld steps es) label w.origin → WaitsAt steps more label
      (length es) e
  waits_now label w at waits first =
      let held : IsHeld steps es w = so.held w (p.comes w at).0 in
      record {
        placed = w;
        held = held_more steps es e w held;
        meant = meant_now steps es e label w waits first held (p.comes w at).1;
        not_cancelled = λ c sooner. elim (get_push es e c.by c.number c.there) [
          | inl old ↦ so.alive w (p.comes w at).0 (cancelled_before steps es e w c old)
          | inr new ↦ let last : c.number ≡ length es = new.0 in absurd (omega arith)
        ];
      }

  none_waits_now : (label : Name) → ((y : PlacedStep) → IsPending mid y → WaitsUnder label y → FirstOf (IsHeld steps es) label y.origin → ⊥)
      → ¬ WaitsAt steps more label (length es) e
  none_waits_now label none w = elim (held_cases steps es e w.placed w.held) [
    | inr joins ↦
        let holder : w.placed.origin.holder ≡ length es + 1 = one_holder steps es e w.placed joins.1 in
        let scheduled : w.placed.origin.holder ≤ length es = w.meant.scheduled in
        absurd (omega arith)
    | inl held ↦ elim (so.complete w.placed held) [
      | inl done ↦ comes-asym e.placed w.placed w.meant.to_come
          (subst (λ (z : PlacedStep). ComesBefore z e.placed) done.same (so.after done.number done.by e.placed done.there p.was))
      | inr rest ↦ elim rest [
        | inr gone ↦ w.not_cancelled (cancelled_more steps es e w.placed gone) (slice_get_within es gone.number gone.by gone.there)
        | inl at ↦ elim (p.others w.placed at) [
          | inl same ↦ comes-self e.placed w.placed (sym same) w.meant.to_come
          | inr stays ↦ none w.placed stays w.meant.waits (meant_less steps es e label (length es) e w.placed w.meant).first
        ]
      ]
    ]
  ]

  answered_now : (label : Name) (answer : Answer) → Says (IsHeld steps es) mid label answer → IsCancelAnswered steps more label (length es) e answer
  answered_now label answer (one_there w at waits first) = one_waits (waits_now label w at waits first)
  answered_now label answer (none_there none) = no_step_waits (none_waits_now label none)

  cancels_then : AreCancelsAnswered steps more
  cancels_then i x label got cancels = search (rules, get_push, answered_more, slice_get_within, length, answered_now)

  one_longer : length es + 1 ≡ length more
  one_longer = sym (length-append es (e ∷ []))

  -- it was accepted: what follows it joins
  pub so_far_accepted : e.answer ≡ Accepted → IsSoFar steps until more (with_all e.placed.turn (length es + 1) 0 followers left) e.placed.turn
  so_far_accepted accepted =
      let to : (y : PlacedStep) → IsPending (with_all e.placed.turn (length es + 1) 0 followers left) y → IsPending left y ⊎ Joins y =
      λ y at. elim (pending_all e.placed.turn (length es + 1) 0 followers left y at) [ inl before ↦ inl before | inr one ↦ inr (accepted, one) ] in
      let ready : IsReady (IsHeld steps es) e.placed.turn (held_by (length es + 1) 0) left =
      ready_later (IsHeld steps es) (held_by (length es) so.at.place) (held_by (length es + 1) 0) left (inl (omega arith))
      (λ y held. held) (λ y held. held) a.ready in
      record {
        at = subst (λ (n : ℕ). IsReadyAt (IsHeld steps more) e.placed.turn n (with_all e.placed.turn (length es + 1) 0 followers left)) one_longer
            (ready_all (IsHeld steps es) (IsHeld steps more) (length es + 1) 0 followers ready
            (λ y held. elim (held_cases steps es e y held) [ inl old ↦ inl old | inr joins ↦ inr joins.1 ])
            (λ y each. elim each [ inl old ↦ held_more steps es e y old | inr one ↦ one_held steps es e accepted y one ]));
        held = λ y at. held_then y (to y at);
        after = λ k f y got at. after_more k f y got (to y at);
        alive = λ y at. alive_then y (to y at);
        complete = λ y held. elim (complete_then y held) [
          | inl done ↦ inl done
          | inr rest ↦ elim rest [
            | inl at ↦ inr (inl (all_pending e.placed.turn (length es + 1) 0 followers left y (elim at [ inl before ↦ inl before | inr joins ↦ inr joins.1 ])))
            | inr gone ↦ inr (inr gone)
          ]
        ];
        in_order = in_order_then;
        behind_holder = behind_then;
        only_due = only_due_then;
        cancels = cancels_then;
        within = within_then;
      }

  -- it was refused: what would follow is dropped
  pub so_far_refused : ¬ (e.answer ≡ Accepted) → IsSoFar steps until more left e.placed.turn
  so_far_refused refused = record {
    at = subst (λ (n : ℕ). IsReadyAt (IsHeld steps more) e.placed.turn n left) one_longer (record {
      place = 0;
      ready = ready_later (IsHeld steps more) (held_by (length es) so.at.place) (held_by (length es + 1) 0) left
          (inl (omega arith))
          (λ y held. elim (held_cases steps es e y held) [ inl old ↦ old | inr joins ↦ absurd (refused joins.0) ]) (held_more steps es e) a.ready;
    });
    held = λ y at. held_then y (inl at);
    after = λ k f y got at. after_more k f y got (inl at);
    alive = λ y at. alive_then y (inl at);
    complete = λ y held. elim (complete_then y held) [
      | inl done ↦ inl done
      | inr rest ↦ elim rest [
        | inl at ↦ elim at [ inl before ↦ inr (inl before) | inr joins ↦ absurd (refused joins.0) ]
        | inr gone ↦ inr (inr gone)
      ]
    ];
    in_order = in_order_then;
    behind_holder = behind_then;
    only_due = only_due_then;
    cancels = cancels_then;
    within = within_then;
  }

-- before the first step ----------------------------------------------------------------------------

abbrev pub no_agenda : PlacedAgenda
no_agenda = record { timeline = schedule 0 0 []; turn = []; labels = [] }

abbrev NoneEver : PlacedStep → Type 0
NoneEver y = ⊥

none_ready : IsReady NoneEver opening_turn (held_by 0 0) no_agenda
unfolding bound
none_ready = search rules

module _ (steps : List Step) (until : ℕ) where
  held_first : (y : PlacedStep) → IsHeld steps [] y → IsOneOf opening_turn 0 0 steps y
  held_first y (by_scenario i s got) =
      let plain : 0 + i ≡ i = omega arith in
      subst (λ (n : ℕ). IsOneOf opening_turn 0 0 steps (placed_at opening_turn (held_by 0 n) s)) plain (one_of_get opening_turn 0 0 i steps s got)
  held_first y (by_step k i e s there accepted got) = absurd (cc)

  first_held : (y : PlacedStep) → IsOneOf opening_turn 0 0 steps y → IsHeld steps [] y
  first_held y one =
      search (rules, get_one_of, by_scenario)

  first_pending : (y : PlacedStep) → IsPending (with_all opening_turn 0 0 steps no_agenda) y → IsOneOf opening_turn 0 0 steps y
  first_pending y at = search (rules, pending_all)

  pub so_far_none : IsSoFar steps until [] (with_all opening_turn 0 0 steps no_agenda) opening_turn
  so_far_none = search (rules, ready_all, none_ready, held_first, first_held, first_pending, all_pending)

  -- where nothing comes next, they are in order
  pub in_order_at_end : (es : List Executed) (g : PlacedAgenda) (now : Turn) → IsSoFar steps until es g now → g.turn ≡ []
      → next_due until g.timeline.work ≡ None
      → IsInOrder steps until es
  in_order_at_end es g now so over none = record {
    in_order = so.in_order;
    behind_holder = so.behind_holder;
    only_due = so.only_due;
    all_due = λ x due. elim (so.complete x due.held) [
      | inl done ↦ done
      | inr rest ↦ elim rest [
        | inr gone ↦ absurd (due.not_cancelled gone)
        | inl at ↦ elim at [
          | inl in_turn ↦ absurd (subst (λ (l : List PlacedStep). IsIn x l) over in_turn)
          | inr waits ↦
              let later : until < waits.0.1.due = none_due until g.timeline.work so.at.ready.rises none waits.0 waits.1 in
              let same : waits.0.1.due ≡ waits.0.1.item.turn.moment = (so.at.ready.entries waits.0 waits.1).due in
              let its : waits.0.1.item.turn.moment ≡ x.turn.moment = ap (λ (z : PlacedStep). z.turn.moment) waits.2 in
              let in_time : x.turn.moment ≤ until = due.in_time in
              absurd (omega arith)
        ]
      ]
    ];
  }
