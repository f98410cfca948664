-- A turn that has ended has nothing, and all others are left alone.
use Rattle.std.proofs.Common.{◌≡◌, ℕ, true, false, cond, [], Option, Some, None, refl, ap, sym, ◌∙◌}
use Rattle.std.proofs.lemmas.Option.{same_Some}
use Rattle.rx_cellar.specs.Words.{is_inside}
use Rattle.rx_turns.specs.declared.agenda.Turn.{Turn}
use Rattle.rx_turns.specs.declared.agenda.Task.{Task}
use Rattle.rx_turns.specs.Rows.{is_same, is_deeper, is_before}
use Rattle.rx_turns.specs.Agendas.{DueLists, due_to, in_hand, HasNothing}
use Rattle.rx_turns.specs.States.{TurnState}
use Rattle.rx_turns.specs.Serving.{Drops}
use Rattle.rx_turns.specs.Ending.{LetsLaneGo, holds_none, stays_in_hand, lets_inner_go, gives_lane_up, EndsTurn, TurnIsOver}
use Rattle.rx_turns.specs.Promises.{IsLeftAlone}
use Rattle.rx_turns.proofs.Lines.{is_same-self}
use Rattle.rx_turns.proofs.Others.{alone_on, dropped_alone}
use Rattle.rx_turns.proofs.Passed.{IsPassed, passed_next, passed_all}

-- the agenda is the same
same_alone : (other : Turn) (s t : TurnState) → t.agenda ≡ s.agenda → IsLeftAlone other s.agenda t.agenda
same_alone other s t same = record { hand = ap (λ a. in_hand a other) same; due = ap (λ a. due_to a other) same }

let_go_alone : (turn other : Turn) (s t : TurnState) (left : Option ℕ) → is_same turn other ≡ false → LetsLaneGo turn s t left →
    IsLeftAlone other s.agenda t.agenda
let_go_alone turn other s t _ apart (holds_none none same) = same_alone other s t (ap (λ (x : TurnState). x.agenda) same)
let_go_alone turn other s t _ apart (stays_in_hand h hand inside fresh same) = same_alone other s t (ap (λ (x : TurnState). x.agenda) same)
let_go_alone turn other s t _ apart (lets_inner_go h hand inside begun drops) = dropped_alone turn other s t apart drops
let_go_alone turn other s t _ apart (gives_lane_up h u v is_left hand outside drops kept gives same) =
    alone_on other s.agenda u.agenda t.agenda (dropped_alone turn other s u apart drops) (same_alone other u t (ap (λ (x : TurnState). x.agenda) same))

-- what a turn may have in hand when it has ended
abbrev Stays : Task → Type 0
Stays h = (is_inside h.word ≡ true) × (h.is_begun ≡ false)

dropped_none : (turn : Turn) (s u t : TurnState) (h : Task) → Drops turn s u → t.agenda ≡ u.agenda → in_hand t.agenda turn ≡ Some h → Stays h
dropped_none turn s u t h drops same hand =
    let none : in_hand u.agenda turn ≡ None = drops.holds.hands turn ∙ ap (λ b. cond b None (in_hand s.agenda turn)) (is_same-self turn) in
    let now_is : None ≡ Some h = sym none ∙ (sym (ap (λ a. in_hand a turn) same) ∙ hand) in
    absurd (cc)

same_task : (g h : Task) (x : Option Task) → x ≡ Some g → x ≡ Some h → h ≡ g
same_task g h x at_g at_h = same_Some h g (sym at_h ∙ at_g)

let_go_hand : (turn : Turn) (s t : TurnState) (left : Option ℕ) (h : Task) → LetsLaneGo turn s t left → in_hand t.agenda turn ≡ Some h → Stays h
let_go_hand turn s t _ h (holds_none none same) hand =
    let now_is : None ≡ Some h = sym none ∙ (sym (ap (λ (x : TurnState). in_hand x.agenda turn) same) ∙ hand) in
    absurd (cc)
let_go_hand turn s t _ h (stays_in_hand g had inside fresh same) hand =
    let is = same_task g h (in_hand s.agenda turn) had (sym (ap (λ (x : TurnState). in_hand x.agenda turn) same) ∙ hand) in
    (ap (λ (x : Task). is_inside x.word) is ∙ inside, ap (λ (x : Task). x.is_begun) is ∙ fresh)
let_go_hand turn s t _ h (lets_inner_go g had inside begun drops) hand = dropped_none turn s t t h drops refl hand
let_go_hand turn s t _ h (gives_lane_up g u v is_left had outside drops kept gives same) hand =
    dropped_none turn s u t h drops (ap (λ (x : TurnState). x.agenda) same) hand

pub has_ended : (turn : Turn) (s t : TurnState) → EndsTurn turn s t → TurnIsOver t.agenda turn
has_ended turn s t ends = record {
  due = ends.emptied.due turn ∙ ap (λ b. cond b [] (due_to ends.between.agenda turn)) (is_same-self turn);
  hand = λ h hand. let_go_hand turn s ends.between ends.left h ends.lets_go (sym (ends.emptied.hands turn) ∙ hand);
}

pub ended_alone : (turn other : Turn) (s t : TurnState) → is_same turn other ≡ false → EndsTurn turn s t → IsLeftAlone other s.agenda t.agenda
ended_alone turn other s t apart ends =
    alone_on other s.agenda ends.between.agenda t.agenda (let_go_alone turn other s ends.between ends.left apart ends.lets_go)
    (record { hand = ends.emptied.hands other; due = ends.emptied.due other ∙ ap (λ b. cond b [] (due_to ends.between.agenda other)) apart })

ended_still : (u : Turn) (a b : DueLists) → IsLeftAlone u a b → TurnIsOver a u → TurnIsOver b u
ended_still u a b alone ended = record { due = alone.due ∙ ended.due; hand = λ h hand. ended.hand h (sym alone.hand ∙ hand) }

nothing_ended : (u : Turn) (a : DueLists) → HasNothing a u → TurnIsOver a u
nothing_ended u a none = record { due = none.0; hand = λ h hand. let now_is : None ≡ Some h = sym none.1 ∙ hand in absurd (cc) }

pub ended_next : (turn last inner : Turn) (s t : TurnState) → IsPassed TurnIsOver turn last s.agenda → is_deeper last inner ≡ true →
    ((u : Turn) → is_deeper last u ≡ true → is_before u (Some inner) ≡ true → HasNothing s.agenda u) → EndsTurn inner s t →
    IsPassed TurnIsOver turn inner t.agenda
ended_next turn last inner s t passed deep between ends =
    passed_next TurnIsOver ended_still nothing_ended turn last s.agenda passed inner t.agenda deep between (has_ended inner s t ends)
    (λ u other. ended_alone inner u s t other ends)

pub ended_all : (turn last : Turn) (a : DueLists) → IsPassed TurnIsOver turn last a → ((u : Turn) → is_deeper last u ≡ true → HasNothing a u) →
    (u : Turn) → is_deeper turn u ≡ true → TurnIsOver a u
ended_all turn last a passed none = passed_all TurnIsOver ended_still nothing_ended turn last a passed none
