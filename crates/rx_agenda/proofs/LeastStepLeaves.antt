-- A step leaves what is to come: the one that comes next, or one that is cancelled.
use Rattle.rx_agenda.proofs.Common.{◌≡◌, ◌<◌, ◌≤◌, ℕ, List, [], ◌∷◌, true, false, cond, nat_eq, refl, sym, ap, subst, ◌∙◌, inl, inr, arith, ◌⊎◌, Option, Some}
use Rattle.rx_agenda.proofs.Common.{None, is_some, lookup, cases_lt, Work, next_due, without, Name, bound, Answer, Accepted, Refused, NoStep, Origin, Turn}
use Rattle.rx_agenda.proofs.Common.{PlacedStep, IsScheduledBefore, IsEarlierTurn, ComesBefore, WaitsUnder}
use Rattle.std.proofs.Common.{nat_le, rules}
use Rattle.std.proofs.lemmas.Bool.{le-leb, lt-leb}
use Rattle.rx_time.specs.Schedule.{earlier, next_of, if_due}
use Rattle.rx_agenda.proofs.Members.{IsIn, Pairwise, pairwise_removed, pairwise_cases, removed_in, removed_or_stays, removed_apart, lookup_at, lookup_in}
use Rattle.rx_agenda.proofs.PlacedSteps.{Entry, PlacedAgenda, IsPending, IsWithin, Pops, of_turn, of_timeline, without_first, without_entry, Takes, takes}
use Rattle.rx_agenda.proofs.PlacedSteps.{leaves, without_placed}
use Rattle.rx_agenda.proofs.EntriesRise.{IsEntry, Rises, FirstOf, IsReady}

-- what comes next of a timeline --------------------------------------------------------------------

within : (a b : ℕ) → nat_le a b ≡ true → a ≤ b
within a b is = search (rules, cases_lt, nat_le, lt-leb)

beyond : (a b : ℕ) → nat_le a b ≡ false → b < a
beyond a b is = search (rules, cases_lt, nat_le, le-leb)

pub record IsLeast (work : List Entry) (e : Entry) : Type 0 where
  pub there : IsIn e work
  pub least : (f : Entry) → IsIn f work → (f ≡ e) ⊎ ((e.1.due < f.1.due) ⊎ ((e.1.due ≡ f.1.due) × Rises e f))

earlier_some : (g : Entry) (o : Option Entry) → earlier g o ≡ None → ⊥
earlier_some g x1 none = search (rules, nat_le, cond)

no_entry : (work : List Entry) → next_of work ≡ None → work ≡ []
no_entry [] none = refl
no_entry (g ∷ gs) none = absurd (earlier_some g (next_of gs) none)

no_later : (e f : Entry) (work : List Entry) → IsLeast work e → IsIn f work → e.1.due ≤ f.1.due
no_later e f work l there = search (rules, there)

least_step : (g : Entry) (gs : List Entry) (o : Option Entry) → next_of gs ≡ o → ((h : Entry) → o ≡ Some h → IsLeast gs h) → Pairwise Rises (g ∷ gs)
    → (e : Entry) → earlier g o ≡ Some e → IsLeast (g ∷ gs) e
least_step g gs None is rest pairs e comes =
    let same : g ≡ e = cc in let empty : gs ≡ [] = no_entry gs is in
    subst (IsLeast (g ∷ gs)) same (record {
      there = inl refl;
      least = λ f at. elim at [ inl here ↦ inl here | inr more ↦ absurd (subst (λ (l : List Entry). IsIn f l) empty more) ];
    })
least_step g gs (Some h) is rest pairs e comes =
    elim (nat_le g.1.due h.1.due) as (λ b. nat_le g.1.due h.1.due ≡ b → cond b (Some g) (Some h) ≡ Some e → IsLeast (g ∷ gs) e) [
      | true ↦ λ test keeps.
          let same : g ≡ e = cc in
          let first : g.1.due ≤ h.1.due = within g.1.due h.1.due test in
          subst (IsLeast (g ∷ gs)) same (record {
            there = inl refl;
            least = λ f at. elim at [
              | inl here ↦ inl here
              | inr more ↦
                  let later : h.1.due ≤ f.1.due = no_later h f gs (rest h refl) more in
                  elim (cases_lt g.1.due f.1.due) [ inl above ↦ inr (inl above) | inr not_above ↦ inr (inr (omega arith, pairs.0 f more)) ]
            ];
          })
      | false ↦ λ test yields.
          let same : h ≡ e = cc in
          let first : h.1.due < g.1.due = beyond g.1.due h.1.due test in
          subst (IsLeast (g ∷ gs)) same (record {
            there = inr (rest h refl).there;
            least = λ f at. elim at [
              | inl here ↦ let due : f.1.due ≡ g.1.due = ap (λ (k : Entry). k.1.due) here in inr (inl (omega arith))
              | inr more ↦ (rest h refl).least f more
            ];
          })
    ] refl comes

least_of : (work : List Entry) → Pairwise Rises work → (e : Entry) → next_of work ≡ Some e → IsLeast work e
least_of [] pairs e comes = absurd (cc)
least_of (g ∷ gs) pairs e comes = least_step g gs (next_of gs) refl (λ h is. least_of gs pairs.1 h is) pairs e comes

if_due_some : (until : ℕ) (o : Option Entry) (e : Entry) → if_due until o ≡ Some e → (o ≡ Some e) × (e.1.due ≤ until)
if_due_some until x1 e comes = search (rules, nat_le, cond)

if_due_none : (until : ℕ) (o : Option Entry) → if_due until o ≡ None → (e : Entry) → o ≡ Some e → until < e.1.due
if_due_none until x1 none e is = search (rules, nat_le, cond)

-- where nothing is due, all that waits is of a later time
pub none_due : (until : ℕ) (work : List Entry) → Pairwise Rises work → next_due until work ≡ None → (f : Entry) → IsIn f work → until < f.1.due
none_due until work pairs none f there = go (next_of work) refl (if_due_none until (next_of work) none) where
  go : (o : Option Entry) → next_of work ≡ o → ((e : Entry) → o ≡ Some e → until < e.1.due) → until < f.1.due
  go None is beyond = absurd (subst (λ (l : List Entry). IsIn f l) (no_entry work is) there)
  go (Some e) is beyond =
      let above : until < e.1.due = beyond e refl in
      let later : e.1.due ≤ f.1.due = no_later e f work (least_of work pairs e is) there in
      omega arith

-- the step that comes next -------------------------------------------------------------------------

ticket_rises : (e f : Entry) → Rises e f → e.0 < f.0
ticket_rises e f r = r.0

-- a cancel is accepted where one is meant that is to come, and else refused
pub data Says (Ever : PlacedStep → Type 0) (g : PlacedAgenda) (label : Name) : Answer → Type 0 where
  one_there : (w : PlacedStep) → IsPending g w → WaitsUnder label w → FirstOf Ever label w.origin → Says Ever g label Accepted
  none_there : ((y : PlacedStep) → IsPending g y → WaitsUnder label y → FirstOf Ever label y.origin → ⊥) → Says Ever g label (Refused NoStep)

pub record PopsWell (Ever : PlacedStep → Type 0) (until : ℕ) (now : Turn) (next : Origin) (g : PlacedAgenda) (x : PlacedStep)
    (left : PlacedAgenda) : Type 0 where
  pub ready : IsReady Ever x.turn next left
  pub was : IsPending g x
  pub comes : (y : PlacedStep) → IsPending left y → IsPending g y × ComesBefore x y
  pub others : (y : PlacedStep) → IsPending g y → (y ≡ x) ⊎ IsPending left y
  pub in_time : now.moment ≤ until → x.turn.moment ≤ until

module _ (Ever : PlacedStep → Type 0) (until : ℕ) (now : Turn) (next : Origin) (g : PlacedAgenda) (r : IsReady Ever now next g) where
  pops_turn_well : (x : PlacedStep) (rest : List PlacedStep) → g.turn ≡ x ∷ rest → PopsWell Ever until now next g x (without_first rest g)
  pops_turn_well x rest is =
      let back : (y : PlacedStep) → IsIn y (x ∷ rest) → IsIn y g.turn = λ y there. subst (λ (l : List PlacedStep). IsIn y l) (sym is) there in
      let forth : (y : PlacedStep) → IsIn y g.turn → IsIn y (x ∷ rest) = λ y there. subst (λ (l : List PlacedStep). IsIn y l) is there in
      let pairs : Pairwise (λ (y z : PlacedStep). IsScheduledBefore y.origin z.origin) (x ∷ rest) =
      subst (λ (l : List PlacedStep). Pairwise (λ y z. IsScheduledBefore y.origin z.origin) l) is r.turn_rises in
      let here : x.turn ≡ now = (r.members x (back x (inl refl))).in_turn in
      record {
        ready = subst (λ (t : Turn). IsReady Ever t next (without_first rest g)) (sym here) (record {
          clock = r.clock;
          rises = r.rises;
          entries = r.entries;
          turn_rises = pairs.1;
          members = λ y there. r.members y (back y (inr there));
          head = r.head;
          labelled = r.labelled;
        });
        was = inl (back x (inl refl));
        comes = λ y there. elim there [
          | inl more ↦ (inl (back y (inr more)), inr (here ∙ sym (r.members y (back y (inr more))).in_turn, pairs.0 y more))
          | inr waits ↦ (
            inr waits,
            inl (subst (λ (t : Turn). IsEarlierTurn t y.turn) (sym here)
                (subst (λ (z : PlacedStep). IsEarlierTurn now z.turn) waits.2 (r.entries waits.0 waits.1).later)),
          )
        ];
        others = λ y there. elim there [
          | inl in_turn ↦ elim (forth y in_turn) [ inl same ↦ inl same | inr more ↦ inr (inl more) ]
          | inr waits ↦ inr (inr waits)
        ];
        in_time = λ in_time. subst (λ (t : Turn). t.moment ≤ until) (sym here) in_time;
      }

  module _ (e : Entry) (over : g.turn ≡ []) (comes_next : next_due until g.timeline.work ≡ Some e) where
    least : IsLeast g.timeline.work e
    least = least_of g.timeline.work r.rises e (if_due_some until (next_of g.timeline.work) e comes_next).0

    found : lookup (nat_eq e.0) g.timeline.work ≡ Some e.1
    found = lookup_at Rises ticket_rises e g.timeline.work r.rises least.there

    of_entry : IsEntry now next g.timeline.tickets e
    of_entry = r.entries e least.there

    later_than : (f : Entry) → IsIn f (without e.0 g.timeline.work) → IsEarlierTurn e.1.item.turn f.1.item.turn
    later_than f there =
        let at : IsIn f g.timeline.work = removed_in (nat_eq e.0) f g.timeline.work there in
        let was = r.entries f at in
        let due : e.1.due ≡ e.1.item.turn.moment = of_entry.due in
        let due_then : f.1.due ≡ f.1.item.turn.moment = was.due in
        elim (least.least f at) [
          | inl same ↦ absurd (removed_apart Rises ticket_rises e.0 f g.timeline.work e.1 r.rises found there (ap (λ (k : Entry). k.0) same))
          | inr after ↦ elim after [
            | inl above ↦ inl (omega arith)
            | inr tie ↦
                let both : e.1.due ≡ f.1.due = tie.0 in
                inr (
                  omega arith,
                  subst (λ (o : Origin). IsScheduledBefore o f.1.item.turn.head) (sym of_entry.heads)
                      (subst (λ (o : Origin). IsScheduledBefore e.1.item.origin o) (sym was.heads) tie.1.1),
                )
          ]
        ]

    pops_timeline_well : PopsWell Ever until now next g e.1.item (without_entry e g)
    pops_timeline_well =
        record {
          ready = record {
            clock = of_entry.due;
            rises = pairwise_removed Rises (nat_eq e.0) g.timeline.work r.rises;
            entries = λ f there. let was = r.entries f (removed_in (nat_eq e.0) f g.timeline.work there) in record {
              given = was.given;
              due = was.due;
              heads = was.heads;
              waits = was.waits;
              later = later_than f there;
              known = was.known;
            };
            turn_rises = tt;
            members = λ x there. absurd there;
            head = subst (λ (o : Origin). IsScheduledBefore o next) (sym of_entry.heads) of_entry.known;
            labelled = record {
              unbound = r.labelled.unbound;
              first = λ l t w known there. r.labelled.first l t w known (removed_in (nat_eq e.0) (t, w) g.timeline.work there);
              given = r.labelled.given;
              borne = r.labelled.borne;
              bears = λ l f there waits first. r.labelled.bears l f (removed_in (nat_eq e.0) f g.timeline.work there) waits first;
            };
          };
          was = inr (e, least.there, refl);
          comes = λ y there. elim there [
            | inl none ↦ absurd none
            | inr waits ↦ (
              inr (waits.0, removed_in (nat_eq e.0) waits.0 g.timeline.work waits.1, waits.2),
              inl
                  (subst (λ (z : PlacedStep). IsEarlierTurn e.1.item.turn z.turn) waits.2 (later_than waits.0 waits.1)),
            )
          ];
          others = λ y there. elim there [
            | inl in_turn ↦ absurd (subst (λ (l : List PlacedStep). IsIn y l) over in_turn)
            | inr waits ↦ elim (removed_or_stays e.0 e.1 waits.0 g.timeline.work found waits.1) [
              | inl same ↦ inl (sym waits.2 ∙ ap (λ (k : Entry). k.1.item) same)
              | inr stays ↦ inr (inr (waits.0, stays, waits.2))
            ]
          ];
          in_time = λ _. let due : e.1.due ≡ e.1.item.turn.moment = of_entry.due in let until_then =
              (if_due_some until (next_of g.timeline.work) e comes_next).1 in omega arith;
        }

  pub pops_well : (x : PlacedStep) (left : PlacedAgenda) → Pops until g x left → PopsWell Ever until now next g x left
  pops_well x left (of_turn _ rest is) = pops_turn_well x rest is
  pops_well x left (of_timeline e over comes) = pops_timeline_well e over comes

  -- a cancel ---------------------------------------------------------------------------------------

  abbrev pub IsTakenOff : Name → Answer → PlacedStep → Type 0
  IsTakenOff label answer y = (answer ≡ Accepted) × (WaitsUnder label y) × FirstOf Ever label y.origin

  pub record TakesWell (label : Name) (answer : Answer) (left : PlacedAgenda) : Type 0 where
    pub ready : IsReady Ever now next left
    pub from : IsWithin left g
    pub gone : (y : PlacedStep) → IsPending g y → IsPending left y ⊎ IsTakenOff label answer y
    pub kept : (y : PlacedStep) → IsPending left y → ¬ IsTakenOff label answer y
    pub says : Says Ever g label answer

  module _ (label : Name) (ever : (y : PlacedStep) → IsPending g y → Ever y) where
    module _ (ticket : ℕ) (w : Work PlacedStep) (known : bound g.labels label ≡ Some ticket) (there : lookup (nat_eq ticket) g.timeline.work ≡ Some w) where
      inside : IsIn (ticket, w) g.timeline.work
      inside = lookup_in ticket w g.timeline.work there

      bears : (w.item.step.label ≡ Some label) × FirstOf Ever label w.item.origin
      bears = r.labelled.first label ticket w known inside

      waits_under : WaitsUnder label w.item
      waits_under = (bears.0, (r.entries (ticket, w) inside).waits)

      kept_by : (y : PlacedStep) → IsPending (without_placed ticket g) y → ¬ IsTakenOff label Accepted y
      kept_by y (inl in_turn) taken = let no : is_some y.step.delay ≡ false = (r.members y in_turn).at_once in let yes : is_some y.step.delay ≡ true =
          taken.1.1 in absurd (cc)
      kept_by y (inr waits) taken =
          let f : Entry = waits.0 in
          let at : IsIn f g.timeline.work = removed_in (nat_eq ticket) f g.timeline.work waits.1 in
          let mine : ¬ IsScheduledBefore w.item.origin y.origin = taken.2 w.item (ever w.item (inr ((ticket, w), inside, refl))) waits_under in
          let its : ¬ IsScheduledBefore y.origin w.item.origin = bears.1 y (ever y (inr (f, at, waits.2))) taken.1 in
          elim (pairwise_cases Rises f (ticket, w) g.timeline.work r.rises at inside) [
            | inl same ↦ absurd (removed_apart Rises ticket_rises ticket f g.timeline.work w r.rises there waits.1 (ap (λ (k : Entry). k.0) same))
            | inr apart ↦ elim apart [
              | inl before ↦ its (subst (λ (z : PlacedStep). IsScheduledBefore z.origin w.item.origin) waits.2 before.1)
              | inr after ↦ mine (subst (λ (z : PlacedStep). IsScheduledBefore w.item.origin z.origin) waits.2 after.1)
            ]
          ]

      takes_one_well : TakesWell label Accepted (without_placed ticket g)
      takes_one_well = record {
        ready = record {
          clock = r.clock;
          rises = pairwise_removed Rises (nat_eq ticket) g.timeline.work r.rises;
          entries = λ f there. r.entries f (removed_in (nat_eq ticket) f g.timeline.work there);
          turn_rises = r.turn_rises;
          members = r.members;
          head = r.head;
          labelled = record {
            unbound = r.labelled.unbound;
            first = λ l t v known there. r.labelled.first l t v known (removed_in (nat_eq ticket) (t, v) g.timeline.work there);
            given = r.labelled.given;
            borne = r.labelled.borne;
            bears = λ l f there waits first. r.labelled.bears l f (removed_in (nat_eq ticket) f g.timeline.work there) waits first;
          };
        };
        from = λ y at. elim at [ inl in_turn ↦ inl in_turn | inr waits ↦ inr (waits.0, removed_in (nat_eq ticket) waits.0 g.timeline.work waits.1, waits.2) ];
        gone = λ y at. elim at [
          | inl in_turn ↦ inl (inl in_turn)
          | inr waits ↦ elim (removed_or_stays ticket w waits.0 g.timeline.work there waits.1) [
            | inl same ↦
                let is : w.item ≡ y = sym (ap (λ (k : Entry). k.1.item) same) ∙ waits.2 in
                inr (refl, subst (WaitsUnder label) is waits_under, subst (λ (z : PlacedStep). FirstOf Ever label z.origin) is bears.1)
            | inr stays ↦ inl (inr (waits.0, stays, waits.2))
          ]
        ];
        kept = kept_by;
        says = one_there w.item (inr ((ticket, w), inside, refl)) waits_under bears.1;
      }

    none_meant : ((t : ℕ) → bound g.labels label ≡ Some t → lookup (nat_eq t) g.timeline.work ≡ None) → (y : PlacedStep) → IsPending g y → WaitsUnder label y
        → FirstOf Ever label y.origin → ⊥
    none_meant none y (inl in_turn) waits first = let no : is_some y.step.delay ≡ false = (r.members y in_turn).at_once in
        let yes : is_some y.step.delay ≡ true = waits.1 in absurd (cc)
    none_meant none y (inr at) waits first =
        let known : bound g.labels label ≡ Some at.0.0 =
        r.labelled.bears label at.0 at.1 (subst (WaitsUnder label) (sym at.2) waits)
        (subst (λ (z : PlacedStep). FirstOf Ever label z.origin) (sym at.2) first) in
        let found : lookup (nat_eq at.0.0) g.timeline.work ≡ Some at.0.1 = lookup_at Rises ticket_rises at.0 g.timeline.work r.rises at.1 in
        let gone : lookup (nat_eq at.0.0) g.timeline.work ≡ None = none at.0.0 known in
        absurd (cc)

    pub takes_well : (answer : Answer) (left : PlacedAgenda) → Takes g label answer left → TakesWell label answer left
    takes_well answer left (takes ticket w known there) = takes_one_well ticket w known there
    takes_well answer left (leaves none) = record {
      ready = r;
      from = λ y at. at;
      gone = λ y at. inl at;
      kept = λ y at taken. let accepted : Refused NoStep ≡ Accepted = taken.0 in absurd (cc);
      says = none_there (none_meant none);
    }
