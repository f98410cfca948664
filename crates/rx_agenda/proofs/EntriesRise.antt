-- What holds of a placed agenda at each moment: its entries stand in the order of scheduling, and its turn too.
use Rattle.rx_agenda.proofs.Common.{◌≡◌, ◌<◌, ℕ, List, Bool, true, false, cond, refl, sym, ap, subst, ◌∙◌, inl, inr, ◌⊎◌, Option, Some, None, option_map}
use Rattle.rx_agenda.proofs.Common.{is_some, find, bytes_eq, bytes_eq-Decides, Work, Name, Binding, bound, is_bound, with_binding, Origin, Turn, PlacedStep}
use Rattle.rx_agenda.proofs.Common.{IsScheduledBefore, IsEarlierTurn, WaitsUnder}
use Rattle.rx_agenda.proofs.Members.{IsIn, Pairwise}
use Rattle.rx_agenda.proofs.ComesBeforeIsAnOrder.{scheduled-trans}
use Rattle.rx_agenda.proofs.FoundAtTheEnd.{find-push, or_last}
use Rattle.rx_agenda.proofs.PlacedSteps.{Entry, PlacedAgenda}

-- one more label -----------------------------------------------------------------------------------

bound_from : (b : Binding) (same : Bool) (o : Option Binding) → option_map (λ (c : Binding). c.number) (or_last (λ _. same) b o) ≡ cond (is_some o)
    (option_map (λ c. c.number) o) (cond same (Some b.number) None)
bound_from b same None = elim same as (λ t. option_map (λ (c : Binding). c.number) (cond t (Some b) None) ≡ cond t
    (Some b.number) None) [ true ↦ refl | false ↦ refl ]
bound_from b same (Some c) = refl

same_last : (p : Binding → Bool) (b : Binding) (o : Option Binding) → or_last p b o ≡ or_last (λ _. p b) b o
same_last p b None = refl
same_last p b (Some c) = refl

is_some-map : (o : Option Binding) → is_some o ≡ is_some (option_map (λ (c : Binding). c.number) o)
is_some-map None = refl
is_some-map (Some c) = refl

bound-push : (labels : List Binding) (name : Name) (number : ℕ) (l : Name)
    → bound (with_binding labels name number) l ≡ cond (is_some (bound labels l)) (bound labels l) (cond (bytes_eq name l) (Some number) None)
unfolding bound
bound-push labels name number l = let b : Binding = record { name = name; number = number } in let p : Binding → Bool = λ c. bytes_eq _ l in ap
    (option_map (λ c. _)) (find-push p labels b ∙ same_last p b (find p labels)) ∙ bound_from b (bytes_eq name l) (find p labels) ∙ ap (λ t. cond t
    (bound labels l) (cond (bytes_eq name l) (Some number) None)) (is_some-map (find p labels))

-- the two ways in which a name can stand for a ticket once one more is bound
pub bound_old_or_new : (labels : List Binding) (name : Name) (number : ℕ) (l : Name) (t : ℕ) → bound (with_binding labels name number) l ≡ Some t
    → (bound labels l ≡ Some t) ⊎ ((bound labels l ≡ None) × (name ≡ l) × (t ≡ number))
bound_old_or_new labels name number l t known = go (bound labels l) refl (sym (bound-push labels name number l) ∙ known) where
  new : (b : Bool) → bytes_eq name l ≡ b → cond b (Some number) None ≡ Some t → (name ≡ l) × (t ≡ number)
  new true same is = ((bytes_eq-Decides name l).0 same, cc)
  new false same is = absurd (cc)

  go : (o : Option ℕ) → bound labels l ≡ o → cond (is_some o) o (cond (bytes_eq name l) (Some number) None) ≡ Some t
      → (bound labels l ≡ Some t) ⊎ ((bound labels l ≡ None) × (name ≡ l) × (t ≡ number))
  go None was is = let both = new (bytes_eq name l) refl is in inr (was, both.0, both.1)
  go (Some u) was is = inl (was ∙ is)

pub bound_none : (labels : List Binding) (name : Name) (number : ℕ) (l : Name) → bound (with_binding labels name number) l ≡ None → (bound labels l ≡ None)
    × ¬ (name ≡ l)
bound_none labels name number l free = go (bound labels l) refl (sym (bound-push labels name number l) ∙ free) where
  other : (b : Bool) → bytes_eq name l ≡ b → cond b (Some number) None ≡ None → ¬ (name ≡ l)
  other true same is = absurd (cc)
  other false apart is = λ same. let told : bytes_eq name l ≡ true = (bytes_eq-Decides name l).1 same in absurd (cc)

  go : (o : Option ℕ) → bound labels l ≡ o → cond (is_some o) o (cond (bytes_eq name l) (Some number) None) ≡ None → (bound labels l ≡ None) × ¬ (name ≡ l)
  go None was is = (was, other (bytes_eq name l) refl is)
  go (Some u) was is = absurd (cc)

pub bound_kept : (labels : List Binding) (name : Name) (number : ℕ) (l : Name) (t : ℕ) → bound labels l ≡ Some t → bound
    (with_binding labels name number) l ≡ Some t
bound_kept labels name number l t known =
    bound-push labels name number l ∙ ap (λ o. cond (is_some o) o (cond (bytes_eq name l) (Some number) None)) known

pub bound_new : (labels : List Binding) (name : Name) (number : ℕ) (l : Name) → is_bound labels name ≡ false → name ≡ l → bound
    (with_binding labels name number) l ≡ Some number
bound_new labels name number l free same =
    let itself : bytes_eq name l ≡ true = (bytes_eq-Decides name l).1 same in
    let none : is_some (bound labels l) ≡ false = subst (λ (n : Name). is_some (bound labels n) ≡ false) same free in
    bound-push labels name number l ∙ ap (λ b. cond b (bound labels l) (cond (bytes_eq name l) (Some number) None)) none ∙ ap
    (λ b. cond b (Some number) None) itself

-- the invariant ------------------------------------------------------------------------------------

-- an entry is after this turn, and was scheduled before the step that would be held here
pub record IsEntry (now : Turn) (next : Origin) (tickets : ℕ) (e : Entry) : Type 0 where
  pub given : e.0 < tickets
  pub due : e.1.due ≡ e.1.item.turn.moment
  pub heads : e.1.item.turn.head ≡ e.1.item.origin
  pub waits : is_some e.1.item.step.delay ≡ true
  pub later : IsEarlierTurn now e.1.item.turn
  pub known : IsScheduledBefore e.1.item.origin next

pub record IsOfTurn (now : Turn) (next : Origin) (x : PlacedStep) : Type 0 where
  pub in_turn : x.turn ≡ now
  pub at_once : is_some x.step.delay ≡ false
  pub known : IsScheduledBefore x.origin next

-- by ticket and by scheduling
abbrev pub Rises : Entry → Entry → Type 0
Rises e f = (e.0 < f.0) × IsScheduledBefore e.1.item.origin f.1.item.origin

abbrev pub FirstOf : (PlacedStep → Type 0) → Name → Origin → Type 0
FirstOf Ever label o = (y : PlacedStep) → Ever y → WaitsUnder label y → ¬ IsScheduledBefore y.origin o

-- one that was scheduled waits under this label
pub record IsBorne (Ever : PlacedStep → Type 0) (next : Origin) (l : Name) : Type 0 where
  pub placed : PlacedStep
  pub ever : Ever placed
  pub waits : WaitsUnder l placed
  pub known : IsScheduledBefore placed.origin next

-- of the steps that were scheduled ever, a label stands for the first
pub record IsLabelled (Ever : PlacedStep → Type 0) (next : Origin) (tickets : ℕ) (work : List Entry) (labels : List Binding) : Type 0 where
  pub unbound : (l : Name) → bound labels l ≡ None → (y : PlacedStep) → Ever y → ¬ WaitsUnder l y
  pub first : (l : Name) (t : ℕ) (w : Work PlacedStep) → bound labels l ≡ Some t → IsIn (t, w) work
      → (w.item.step.label ≡ Some l) × FirstOf Ever l w.item.origin
  pub given : (l : Name) (t : ℕ) → bound labels l ≡ Some t → t < tickets
  pub borne : (l : Name) (t : ℕ) → bound labels l ≡ Some t → IsBorne Ever next l
  pub bears : (l : Name) (f : Entry) → IsIn f work → WaitsUnder l f.1.item → FirstOf Ever l f.1.item.origin → bound labels l ≡ Some f.0

pub record IsReady (Ever : PlacedStep → Type 0) (now : Turn) (next : Origin) (g : PlacedAgenda) : Type 0 where
  pub clock : g.timeline.clock ≡ now.moment
  pub rises : Pairwise Rises g.timeline.work
  pub entries : (e : Entry) → IsIn e g.timeline.work → IsEntry now next g.timeline.tickets e
  pub turn_rises : Pairwise (λ x y. IsScheduledBefore x.origin y.origin) g.turn
  pub members : (x : PlacedStep) → IsIn x g.turn → IsOfTurn now next x
  pub head : IsScheduledBefore now.head next
  pub labelled : IsLabelled Ever next g.timeline.tickets g.timeline.work g.labels

-- later on, and said of the same steps in other words ----------------------------------------------

abbrev pub labelled_as : {Ever : PlacedStep → Type 0} (Same : PlacedStep → Type 0) {next : Origin} (beyond : Origin) {tickets : ℕ} (work : List Entry)
    (labels : List Binding)
    → ((o : Origin) → IsScheduledBefore o next → IsScheduledBefore o beyond) → ((y : PlacedStep) → Same y → Ever y) → ((y : PlacedStep) → Ever y → Same y)
    → IsLabelled Ever next tickets work labels → IsLabelled Same beyond tickets work labels
labelled_as Same beyond work labels on to from was = record {
  unbound = λ l free y ever. was.unbound l free y (to y ever);
  first = λ l t w known there. let both = was.first l t w known there in (both.0, λ y ever. both.1 y (to y ever));
  given = was.given;
  borne = λ l t known. let b = was.borne l t known in
      record { placed = b.placed; ever = from b.placed b.ever; waits = b.waits; known = on b.placed.origin b.known };
  bears = λ l f there waits first. was.bears l f there waits (λ y ever. first y (from y ever));
}

abbrev pub ready_later : {Ever : PlacedStep → Type 0} (Same : PlacedStep → Type 0) {now : Turn} (next beyond : Origin) (g : PlacedAgenda) →
    IsScheduledBefore next beyond
    → ((y : PlacedStep) → Same y → Ever y)
    → ((y : PlacedStep) → Ever y → Same y) → IsReady Ever now next g → IsReady Same now beyond g
ready_later Same {now} next beyond g on to from r = record {
  clock = r.clock;
  rises = r.rises;
  entries = λ e there. let was = r.entries e there in record {
    given = was.given;
    due = was.due;
    heads = was.heads;
    waits = was.waits;
    later = was.later;
    known = scheduled-trans e.1.item.origin next beyond was.known on;
  };
  turn_rises = r.turn_rises;
  members = λ x there. let was = r.members x there in
      record { in_turn = was.in_turn; at_once = was.at_once; known = scheduled-trans x.origin next beyond was.known on };
  head = scheduled-trans now.head next beyond r.head on;
  labelled = labelled_as Same beyond g.timeline.work g.labels
      (λ o before. scheduled-trans o next beyond before on) to from r.labelled;
}
