-- A step joins what is to come, and steps one after another.
use Rattle.rx_agenda.proofs.Common.{◌≡◌, ◌<◌, ◌≤◌, ◌+◌, ℕ, zero, suc, List, [], ◌∷◌, ◌++◌, true, false, cond, refl, sym, ap, subst, ◌∙◌, inl, inr, arith, ◌⊎◌}
use Rattle.rx_agenda.proofs.Common.{Option, Some, None, is_some, slice_get, cases_lt, Work, with_work, Name, Step, Binding, bound, is_bound, with_binding}
use Rattle.rx_agenda.proofs.Common.{with_label, with_steps, Origin, Turn, PlacedStep, IsScheduledBefore, IsEarlierTurn, WaitsUnder, held_by, placed_at}
use Rattle.rx_agenda.proofs.Common.{turn_after}
use Rattle.std.proofs.Common.{max, rules}
use Rattle.rx_agenda.proofs.Members.{IsIn, in-push, in_front, in_back, pairwise_push}
use Rattle.rx_agenda.proofs.ComesBeforeIsAnOrder.{scheduled-trans, scheduled-asym, scheduled-self}
use Rattle.rx_agenda.proofs.PlacedSteps.{Entry, PlacedAgenda, IsPending, with_placed_after, with_placed, with_placed-seen, seen}
use Rattle.rx_agenda.proofs.EntriesRise.{bound_old_or_new, bound_none, bound_kept, bound_new, labelled_as, IsBorne, IsEntry, IsOfTurn, Rises, FirstOf}
use Rattle.rx_agenda.proofs.EntriesRise.{IsLabelled, IsReady}

-- those before, and one more
abbrev pub OrOne : (PlacedStep → Type 0) → PlacedStep → PlacedStep → Type 0
OrOne Ever x y = Ever y ⊎ (y ≡ x)

max_above : (a b : ℕ) → max (a + b) a ≡ a + b
max_above a b = omega arith

pub later_turn : (now : Turn) (delay : ℕ) (o : Origin) → IsScheduledBefore now.head o → IsEarlierTurn now (record { moment = now.moment + delay; head = o })
later_turn now delay o before = elim (cases_lt 0 delay) [ inl more ↦ inl (omega arith) | inr none ↦ inr (omega arith, before) ]

module _ (Ever : PlacedStep → Type 0) (x : PlacedStep) (next beyond : Origin) (at : x.origin ≡ next) (on : IsScheduledBefore next beyond) where
  known_now : IsScheduledBefore x.origin beyond
  known_now = subst (λ (o : Origin). IsScheduledBefore o beyond) (sym at) on

  borne_more : (l : Name) → IsBorne Ever next l → IsBorne (OrOne Ever x) beyond l
  borne_more l b = search (rules, scheduled-trans)

  module _ (now : Turn) (g : PlacedAgenda) (r : IsReady Ever now next g) where
    entry_later : (tickets : ℕ) → g.timeline.tickets ≤ tickets → (e : Entry) → IsIn e g.timeline.work → IsEntry now beyond tickets e
    entry_later tickets more e there = let was = r.entries e there in let given = was.given in record {
      given = omega arith;
      due = was.due;
      heads = was.heads;
      waits = was.waits;
      later = was.later;
      known = scheduled-trans e.1.item.origin next beyond was.known on;
    }

    member_later : (y : PlacedStep) → IsIn y g.turn → IsOfTurn now beyond y
    member_later y there = let was = r.members y there in
        record { in_turn = was.in_turn; at_once = was.at_once; known = scheduled-trans y.origin next beyond was.known on }

    -- a step that waits under no label changes nothing
    labelled_same : (tickets : ℕ) (work : List Entry) (labels : List Binding) → ((l : Name) → ¬ WaitsUnder l x) → IsLabelled Ever next tickets work labels
        → IsLabelled (OrOne Ever x) beyond tickets work labels
    labelled_same tickets work labels no_bearer was = record {
      unbound = λ l free y ever. elim ever [ inl old ↦ was.unbound l free y old | inr same ↦ λ waits. no_bearer l (subst (WaitsUnder l) same waits) ];
      first = λ l t w known there. (
        (was.first l t w known there).0,
        λ y ever. elim ever [
          | inl old ↦ (was.first l t w known there).1 y old
          | inr same ↦ λ waits. absurd (no_bearer l (subst (WaitsUnder l) same waits))
        ],
      );
      given = was.given;
      borne = λ l t known. borne_more l (was.borne l t known);
      bears = λ l f there waits first. was.bears l f there waits (λ y ever. first y (inl ever));
    }

    -- without a delay: last in this turn
    pub ready_turn : x.turn ≡ now → is_some x.step.delay ≡ false → IsReady (OrOne Ever x) now beyond
        (record { timeline = g.timeline; turn = g.turn ++ x ∷ []; labels = g.labels })
    ready_turn in_turn at_once = record {
      clock = r.clock;
      rises = r.rises;
      entries = entry_later g.timeline.tickets (omega arith);
      turn_rises = pairwise_push (λ y z. IsScheduledBefore y.origin z.origin) g.turn x r.turn_rises
          (λ y there. subst (λ (o : Origin). IsScheduledBefore y.origin o) (sym at) (r.members y there).known);
      members = λ y there. elim (in-push y g.turn x there) [
        | inl old ↦ member_later y old
        | inr same ↦ subst (IsOfTurn now beyond) (sym same) (record { in_turn = in_turn; at_once = at_once; known = known_now })
      ];
      head = scheduled-trans now.head next beyond r.head on;
      labelled = labelled_same g.timeline.tickets g.timeline.work g.labels
          (λ l waits. let told : is_some x.step.delay ≡ true = waits.1 in absurd (cc)) r.labelled;
    }

    -- with one: it waits
    module _ (due : ℕ) where
      abbrev entry : Entry
      entry = (g.timeline.tickets, record { due = due; item = x })

      abbrev longer : List Entry
      longer = g.timeline.work ++ entry ∷ []

      first_old : (l : Name) (t : ℕ) (w : Work PlacedStep) → bound g.labels l ≡ Some t → IsIn (t, w) longer → (w.item.step.label ≡ Some l) × FirstOf
          (OrOne Ever x) l w.item.origin
      first_old l t w known there = elim (in-push (t, w) g.timeline.work entry there) [
        | inl old ↦ (
          (r.labelled.first l t w known old).0,
          λ y ever. elim ever [
            | inl before ↦ (r.labelled.first l t w known old).1 y before
            | inr same ↦ λ waits lower.
                let above : IsScheduledBefore w.item.origin next = (r.entries (t, w) old).known in
                let below : IsScheduledBefore y.origin w.item.origin = lower in
                let here : y.origin ≡ next = ap (λ (z : PlacedStep). z.origin) same ∙ at in
                scheduled-asym w.item.origin next above (subst (λ (o : Origin). IsScheduledBefore o w.item.origin) here below)
          ],
        )
        | inr new ↦ let number : t ≡ g.timeline.tickets = ap (λ (e : Entry). e.0) new in let below = r.labelled.given l t known in absurd (omega arith)
      ]

      given_more : (l : Name) (t : ℕ) → bound g.labels l ≡ Some t → t < g.timeline.tickets + 1
      given_more l t known = let below = r.labelled.given l t known in omega arith

      -- its label was bound before
      labelled_bound : (name : Name) → x.step.label ≡ Some name → is_bound g.labels name ≡ true → IsLabelled (OrOne Ever x) beyond
          (g.timeline.tickets + 1) longer g.labels
      labelled_bound name is there = record {
        unbound = λ l free y ever. elim ever [
          | inl old ↦ r.labelled.unbound l free y old
          | inr same ↦ λ waits.
              let under : Some l ≡ Some name = sym waits.0 ∙ ap (λ (z : PlacedStep). z.step.label) same ∙ is in
              let label : l ≡ name = cc in
              let none : is_some (bound g.labels l) ≡ false = ap is_some free in
              let some : is_some (bound g.labels l) ≡ true = subst (λ (n : Name). is_some (bound g.labels n) ≡ true) (sym label) there in
              absurd (cc)
        ];
        first = first_old;
        given = given_more;
        borne = λ l t known. borne_more l (r.labelled.borne l t known);
        bears = λ l f there waits first. elim (in-push f g.timeline.work entry there) [
          | inl old ↦ r.labelled.bears l f old waits (λ y ever. first y (inl ever))
          | inr new ↦
              let item : f.1.item ≡ x = ap (λ (k : Entry). k.1.item) new in
              let under : Some l ≡ Some name = sym waits.0 ∙ ap (λ (z : PlacedStep). z.step.label) item ∙ is in
              let label : l ≡ name = cc in
              absurd (none_first l f label item first (bound g.labels name) refl there_then)
        ];
      } where
        there_then : is_some (bound g.labels name) ≡ true
        there_then = there

        none_first : (l : Name) (f : Entry) → l ≡ name → f.1.item ≡ x → FirstOf (OrOne Ever x) l f.1.item.origin → (o : Option ℕ) → bound g.labels name ≡ o
            → is_some o ≡ true → ⊥
        none_first l f label item first None known some = absurd (cc)
        none_first l f label item first (Some t) known some =
            let b = r.labelled.borne name t known in
            let place : f.1.item.origin ≡ next = ap (λ (z : PlacedStep). z.origin) item ∙ at in
            first b.placed (inl b.ever) (subst (λ (n : Name). WaitsUnder n b.placed) (sym label) b.waits)
            (subst (λ (o : Origin). IsScheduledBefore b.placed.origin o) (sym place) b.known)

      labelled_new : (name : Name) → is_some x.step.delay ≡ true → x.step.label ≡ Some name → is_bound g.labels name ≡ false
          → IsLabelled (OrOne Ever x) beyond (g.timeline.tickets + 1) longer (with_binding g.labels name g.timeline.tickets)
      labelled_new name waits_so is free = record {
        unbound = λ l none y ever.
            let parts = bound_none g.labels name g.timeline.tickets l none in
            elim ever [
              | inl old ↦ r.labelled.unbound l parts.0 y old
              | inr same ↦ λ waits.
                  let under : Some l ≡ Some name = sym waits.0 ∙ ap (λ (z : PlacedStep). z.step.label) same ∙ is in
                  let label : name ≡ l = cc in
                  absurd (parts.1 label)
            ];
        first = λ l t w known there. elim (bound_old_or_new g.labels name g.timeline.tickets l t known) [
          | inl old ↦ first_old l t w old there
          | inr new ↦ elim (in-push (t, w) g.timeline.work entry there) [
            | inl before ↦ let below = (r.entries (t, w) before).given in let number : t ≡ g.timeline.tickets = new.2 in absurd (omega arith)
            | inr same ↦ (
              (let item : w.item ≡ x = ap (λ (e : Entry). e.1.item) same in ap (λ (z : PlacedStep). z.step.label) item ∙ is ∙ ap (λ (n : Name). Some n) new.1),
              (λ y ever. elim ever [
                | inl old ↦ λ waits. absurd (r.labelled.unbound l new.0 y old waits)
                | inr one ↦ λ waits lower. let item : w.item ≡ x = ap (λ (e : Entry). e.1.item) same in
                    scheduled-self y.origin w.item.origin (ap (λ (z : PlacedStep). z.origin) (one ∙ sym item)) lower
              ]),
            )
          ]
        ];
        given = λ l t known. elim (bound_old_or_new g.labels name g.timeline.tickets l t known) [
          | inl old ↦ given_more l t old
          | inr new ↦ let number : t ≡ g.timeline.tickets = new.2 in omega arith
        ];
        borne = λ l t known. elim (bound_old_or_new g.labels name g.timeline.tickets l t known) [
          | inl old ↦ borne_more l (r.labelled.borne l t old)
          | inr new ↦ record { placed = x; ever = inr refl; waits = (is ∙ ap (λ (n : Name). Some n) new.1, waits_so); known = known_now }
        ];
        bears = λ l f there waits first. elim (in-push f g.timeline.work entry there) [
          | inl old ↦ bound_kept g.labels name g.timeline.tickets l f.0 (r.labelled.bears l f old waits (λ y ever. first y (inl ever)))
          | inr new ↦
              let item : f.1.item ≡ x = ap (λ (k : Entry). k.1.item) new in
              let under : Some name ≡ Some l = sym is ∙ sym (ap (λ (z : PlacedStep). z.step.label) item) ∙ waits.0 in
              let label : name ≡ l = cc in
              bound_new g.labels name g.timeline.tickets l free label ∙ ap (λ (n : ℕ). Some n) (sym (ap (λ (k : Entry). k.0) new))
        ];
      }

      labelled_pushed : is_some x.step.delay ≡ true → (label : Option Name) → x.step.label ≡ label → IsLabelled (OrOne Ever x) beyond
          (g.timeline.tickets + 1) longer (with_label label g.timeline.tickets g.labels)
      labelled_pushed waits_so None is = labelled_same (g.timeline.tickets + 1) longer g.labels
          (λ l waits. let told : x.step.label ≡ Some l = waits.0 in absurd (cc)) (record {
            unbound = r.labelled.unbound;
            first = λ l t w known there. let both = first_old l t w known there in (both.0, λ y ever. both.1 y (inl ever));
            given = given_more;
            borne = r.labelled.borne;
            bears = λ l f there waits first. elim (in-push f g.timeline.work entry there) [
              | inl old ↦ r.labelled.bears l f old waits first
              | inr new ↦ let told : x.step.label ≡ Some l = sym (ap (λ (k : Entry). k.1.item.step.label) new) ∙ waits.0 in absurd (cc)
            ];
          })
      labelled_pushed waits_so (Some name) is =
          elim (is_bound g.labels name) as (λ b. is_bound g.labels name ≡ b → IsLabelled (OrOne Ever x) beyond (g.timeline.tickets + 1) longer
          (cond b g.labels (with_binding g.labels name g.timeline.tickets))) [
            | true ↦ λ there. labelled_bound name is there
            | false ↦ λ free. labelled_new name waits_so is free
          ] refl

    pub ready_wait : (delay : ℕ) → x.turn ≡ (let t : Turn = record { moment = now.moment + delay; head = x.origin } in t) → is_some x.step.delay ≡ true
        → IsReady (OrOne Ever x) now beyond
        (record { timeline = with_work (g.timeline.clock + delay) x g.timeline; turn = g.turn; labels = with_label x.step.label g.timeline.tickets g.labels })
    ready_wait delay own waits =
        let due : ℕ = max (g.timeline.clock + delay) g.timeline.clock in
        record {
          clock = r.clock;
          rises = pairwise_push Rises g.timeline.work (entry due) r.rises
              (λ e there. ((r.entries e there).given, subst (λ (o : Origin). IsScheduledBefore e.1.item.origin o) (sym at) (r.entries e there).known));
          entries = λ e there. elim (in-push e g.timeline.work (entry due) there) [
            | inl old ↦ entry_later (g.timeline.tickets + 1) (omega arith) e old
            | inr same ↦ subst (IsEntry now beyond (g.timeline.tickets + 1)) (sym same) (record {
              given = omega arith;
              due = max_above g.timeline.clock delay ∙ ap (λ n. n + delay) r.clock ∙ sym (ap (λ (t : Turn). t.moment) own);
              heads = ap (λ (t : Turn). t.head) own;
              waits = waits;
              later = subst (IsEarlierTurn now) (sym own) (later_turn now delay x.origin
                  (subst (λ (o : Origin). IsScheduledBefore now.head o) (sym at) r.head));
              known = known_now;
            })
          ];
          turn_rises = r.turn_rises;
          members = member_later;
          head = scheduled-trans now.head next beyond r.head on;
          labelled = labelled_pushed due waits x.step.label refl;
        }

-- one step, wherever it is held --------------------------------------------------------------------

next_place : (h i : ℕ) → IsScheduledBefore (held_by h i) (held_by h (i + 1))
next_place h i = inr (refl, omega arith)

pub ready_one : {Ever : PlacedStep → Type 0} (now : Turn) (h i : ℕ) (s : Step) (g : PlacedAgenda) → IsReady Ever now (held_by h i) g
    → (delay : Option ℕ) → s.delay ≡ delay
    → IsReady (OrOne Ever (placed_at now (held_by h i) s)) now (held_by h (i + 1)) (with_placed_after delay (placed_at now (held_by h i) s) g)
ready_one {Ever} now h i s g r None is = ready_turn Ever (placed_at now (held_by h i) s) (held_by h i) (held_by h (i + 1)) refl (next_place h i) now g r
    (ap (turn_after now (held_by h i)) is) (ap is_some is)
ready_one {Ever} now h i s g r (Some delay) is = ready_wait Ever (placed_at now (held_by h i) s) (held_by h i) (held_by h (i + 1)) refl
    (next_place h i) now g r delay (ap (turn_after now (held_by h i)) is) (ap is_some is)

pending_one : (delay : Option ℕ) (x y : PlacedStep) (g : PlacedAgenda) → IsPending (with_placed_after delay x g) y → IsPending g y ⊎ (y ≡ x)
pending_one x0 x y g x4 = search (rules, in-push)

one_pending : (delay : Option ℕ) (x y : PlacedStep) (g : PlacedAgenda) → IsPending g y ⊎ (y ≡ x) → IsPending (with_placed_after delay x g) y
one_pending None x y g (inl (inl there)) = inl (in_front y g.turn (x ∷ []) there)
one_pending None x y g (inl (inr there)) = inr there
one_pending None x y g (inr same) = inl (in_back y g.turn (x ∷ []) (inl same))
one_pending (Some delay) x y g (inl (inl there)) = inl there
one_pending (Some delay) x y g (inl (inr there)) = inr (there.0, in_front there.0 g.timeline.work _ there.1, there.2)
one_pending (Some delay) x y g (inr same) = inr (
  (
    g.timeline.tickets,
    record {
      due = max (g.timeline.clock + delay) g.timeline.clock;
      item =
          x;
    },
  ),
  in_back _ g.timeline.work _ (inl refl),
  sym same,
)

-- steps one after another --------------------------------------------------------------------------

abbrev pub IsOneOf : Turn → ℕ → ℕ → List Step → PlacedStep → Type 0
IsOneOf now h i [] y = ⊥
IsOneOf now h i (s ∷ ss) y = (y ≡ placed_at now (held_by h i) s) ⊎ IsOneOf now h (i + 1) ss y

abbrev pub with_all : Turn → ℕ → ℕ → List Step → PlacedAgenda → PlacedAgenda
with_all now h i [] g = g
with_all now h i (s ∷ ss) g = with_all now h (i + 1) ss (with_placed (placed_at now (held_by h i) s) g)

pub with_all-seen : (now : Turn) (h i : ℕ) (ss : List Step) (g : PlacedAgenda) → with_steps ss (seen g) ≡ seen (with_all now h i ss g)
with_all-seen now h i [] g = refl
with_all-seen now h i (s ∷ ss) g =
    let x = placed_at now (held_by h i) s in
    ap (with_steps ss) (with_placed-seen x g) ∙ with_all-seen now h (i + 1) ss (with_placed x g)

-- where the next step would be held
pub record IsReadyAt (Ever : PlacedStep → Type 0) (now : Turn) (h : ℕ) (g : PlacedAgenda) : Type 0 where
  pub place : ℕ
  pub ready : IsReady Ever now (held_by h place) g

ready_as : (Ever Same : PlacedStep → Type 0) (now : Turn) (next : Origin) (g : PlacedAgenda) → ((y : PlacedStep) → Same y → Ever y)
    → ((y : PlacedStep) → Ever y → Same y) → IsReady Ever now next g
    → IsReady Same now next g
ready_as Ever Same now next g to from r = search (rules, labelled_as)

pub ready_all : (Ever Same : PlacedStep → Type 0) {now : Turn} (h i : ℕ) (ss : List Step) {g : PlacedAgenda} → IsReady Ever now (held_by h i) g
    → ((y : PlacedStep) → Same y → Ever y ⊎ IsOneOf now h i ss y) → ((y : PlacedStep) → Ever y ⊎ IsOneOf now h i ss y → Same y) → IsReadyAt Same now h
    (with_all now h i ss g)
ready_all Ever Same {now} h i [] {g} r to from =
    record {
      place = i;
      ready = ready_as Ever Same now (held_by h i) g (λ y same. elim (to y same) [ inl ever ↦ ever | inr none ↦ absurd none ])
          (λ y ever. from y (inl ever)) r;
    }
ready_all Ever Same {now} h i (s ∷ ss) {g} r to from =
    let x : PlacedStep = placed_at now (held_by h i) s in
    ready_all (OrOne Ever x) Same h (i + 1) ss (ready_one now h i s g r s.delay refl)
    (λ y same. elim (to y same) [
      | inl ever ↦ inl (inl ever)
      | inr one ↦ elim one [ inl is ↦ inl (inr is) | inr more ↦ inr more ]
    ])
    (λ y each. elim each [
      | inl front ↦ elim front [ inl ever ↦ from y (inl ever) | inr is ↦ from y (inr (inl is)) ]
      | inr more ↦ from y (inr (inr more))
    ])

pub pending_all : (now : Turn) (h i : ℕ) (ss : List Step) (g : PlacedAgenda) (y : PlacedStep) → IsPending (with_all now h i ss g) y → IsPending g y
    ⊎ IsOneOf now h i ss y
pending_all now h i [] g y there = inl there
pending_all now h i (s ∷ ss) g y there =
    let x : PlacedStep = placed_at now (held_by h i) s in
    elim (pending_all now h (i + 1) ss (with_placed x g) y there) [
      | inl before ↦ elim (pending_one s.delay x y g before) [ inl old ↦ inl old | inr same ↦ inr (inl same) ]
      | inr more ↦ inr (inr more)
    ]

pub all_pending : (now : Turn) (h i : ℕ) (ss : List Step) (g : PlacedAgenda) (y : PlacedStep) → IsPending g y ⊎ IsOneOf now h i ss y → IsPending
    (with_all now h i ss g) y
all_pending now h i [] g y (inl there) = there
all_pending now h i [] g y (inr none) = absurd none
all_pending now h i (s ∷ ss) g y (inl there) =
    let x : PlacedStep = placed_at now (held_by h i) s in all_pending now h (i + 1) ss (with_placed x g) y (inl (one_pending s.delay x y g (inl there)))
all_pending now h i (s ∷ ss) g y (inr (inl same)) =
    let x : PlacedStep = placed_at now (held_by h i) s in all_pending now h (i + 1) ss (with_placed x g) y (inl (one_pending s.delay x y g (inr same)))
all_pending now h i (s ∷ ss) g y (inr (inr more)) =
    let x : PlacedStep = placed_at now (held_by h i) s in all_pending now h (i + 1) ss (with_placed x g) y (inr more)

-- the steps by their places
pub one_of_get : (now : Turn) (h i j : ℕ) (ss : List Step) (s : Step) → slice_get ss j ≡ Some s → IsOneOf now h i ss (placed_at now (held_by h (i + j)) s)
one_of_get now h i j [] s got = absurd (cc)
one_of_get now h i zero (x ∷ ss) s got =
    search rules
one_of_get now h i (suc j) (x ∷ ss) s got =
    search (rules, got, one_of_get now h (i + 1) j ss s got)

pub record IsAt (now : Turn) (h i : ℕ) (ss : List Step) (y : PlacedStep) : Type 0 where
  pub place : ℕ
  pub step : Step
  pub got : slice_get ss place ≡ Some step
  pub is : placed_at now (held_by h (i + place)) step ≡ y

pub get_one_of : (now : Turn) (h i : ℕ) (ss : List Step) (y : PlacedStep) → IsOneOf now h i ss y → IsAt now h i ss y
get_one_of now h i [] y none = absurd none
get_one_of now h i (s ∷ ss) y (inl same) = let at : i + 0 ≡ i = omega arith in
    record { place = 0; step = s; got = refl; is = ap (λ n. placed_at now (held_by h n) s) at ∙ sym same }
get_one_of now h i (s ∷ ss) y (inr more) =
    let rest = get_one_of now h (i + 1) ss y more in
    let at : i + suc rest.place ≡ i + 1 + rest.place = omega arith in
    record { place = suc rest.place; step = rest.step; got = rest.got; is = ap (λ n. placed_at now (held_by h n) rest.step) at ∙ rest.is }
