-- No lane is lost by what is made due, by what is let go, and so by no call.
use Rattle.std.proofs.Common.{◌≡◌, ◌≢◌, ℕ, ◌+◌, ◌%◌, ◌<◌, ◌≤◌, ◌==◌, ◌&&◌, ◌||◌, ◌⊎◌, inl, inr, min, not, Bool, true, false, cond, List, [], ◌∷◌, ◌++◌, map, Option, Some, None, is_some, option_map, refl, sym, ap, subst, ◌∙◌, arith, append-nil, if◌then◌else◌}
use Rattle.std.proofs.lemmas.Bool.{false≢true, eqb-true, eq-eqb, lt-ltb}
use Rattle.std.proofs.lemmas.Option.{same_Some}
use Rattle.rx_slots.specs.Lists.{is_in, take_out, head_of}
use Rattle.rx_lanes.specs.declared.names.LaneName.{LaneName}
use Rattle.rx_lanes.specs.declared.names.Due.{Due}
use Rattle.rx_lanes.specs.Courses.{is_name, is_named}
use Rattle.rx_lanes.specs.Lane.{Lane, has_any, is_served, is_left}
use Rattle.rx_lanes.specs.State.{lane, IsLeft}
use Rattle.rx_roles.specs.declared.effect.Effect.{Effect as Sent}
use Rattle.rx_roles.specs.declared.effect.What.{What}
use Rattle.rx_engine.specs.States.{IsPromised}
use Rattle.rx_engine.proofs.Laws.EffectsInLanes.{same_name}
use Rattle.rx_courses.specs.LeftNamed.{IsServedBy, AreThere}
use Rattle.rx_cellar.specs.declared.shapes.Effect.{Effect}
use Rattle.rx_cellar.specs.declared.cellar.Cellar.{Cellar}
use Rattle.rx_cellar.specs.Cellars.{most}
use Rattle.rx_cellar.specs.Serving.{IsLeftTold, one_left, none_left, sent_of, left_number, IsGivenUpIf, GivesBackIf, IsGivenUp}
use Rattle.rx_cellar.specs.Words.{inside_bit, is_inside, named, place_in, word_of, word_of_due, WordsFindTheirLanes}
use Rattle.rx_turns.specs.declared.agenda.Turn.{Turn}
use Rattle.rx_turns.specs.declared.agenda.Task.{Task}
use Rattle.rx_turns.specs.Rows.{is_same, own_line}
use Rattle.rx_turns.specs.Agendas.{due_to, in_hand, lane_word, HasNothing, Claims, IsServing}
use Rattle.rx_turns.specs.States.{TurnState}
use Rattle.rx_turns.specs.Serving.{Drops, TakesDue, nothing_due, has_one, has_none}
use Rattle.rx_turns.specs.Making.{IsMadeDue, has_claimed, went_astray, AreMadeDue, all_claimed, one_claimed}
use Rattle.rx_turns.specs.Making.{ComesHome, opens_no_inner, is_not_due, is_of_another, is_due_here}
use Rattle.rx_turns.specs.Calls.{PicksUp, none_astray, ends_walk, finds_no_room, finds_one, GoesDeeper, serves_inner, has_no_more, looks_around}
use Rattle.rx_turns.specs.Calls.{TurnGoesOn, serves_own, serves_no_more}
use Rattle.rx_turns.specs.Ending.{left_under, astray_if, LetsLaneGo, holds_none, stays_in_hand, lets_inner_go, gives_lane_up, EndsTurn, StopsDeeper, all_ended, one_ended}
use Rattle.rx_turns.specs.Ending.{LeavesTo, is_claimed, stays_due}
use Rattle.rx_turns.specs.Tended.{StandsDue, IsAstray, NoLaneIsLost}
use Rattle.rx_turns.proofs.LanesAsked.{lanes, place_named, own_word, one_there, same_named}
use Rattle.rx_turns.proofs.LanesTaken.{give_fresh, give_left, give_served}
use Rattle.rx_turns.proofs.NoLaneLost.{still_there, last_there, was_there, serving_same, serving_other, turn_is, HasKind, kinds_held}
use Rattle.rx_turns.proofs.NoLaneLost.{has_asked, room_alike, covered_same, alike_kept, found_by, due_kept, served_kept, deeper_kept}
use Rattle.rx_turns.proofs.NothingLeft.{deeper_ended}
use Rattle.rx_turns.proofs.Promised.{nothing_left}
use Rattle.rx_turns.proofs.Lines.{is_same-self}
use Rattle.rx_turns.proofs.TakenOut.{in_take_out}

-- no lane is lost but for some, which may be left and neither due nor astray
pub record LosesNoneBut (s : TurnState) (but : LaneName → Type 0) : Type 0 where
  pub left : (n : LaneName) → IsLeft (lanes s.cellar) n → (StandsDue s.agenda n ⊎ IsAstray s.astray n) ⊎ but n
  pub served : (n : LaneName) (by : ℕ) → IsServedBy (lanes s.cellar) n by → IsServing s.agenda by (word_of n)
  pub settled : (lanes s.cellar).fresh ≡ []
  pub placed : (u : Turn) (p : ℕ) → is_in p (due_to s.agenda u) ≡ true → place_in (lane_word s.agenda p) ≡ p
  pub kinds : (u : Turn) (h : Task) → in_hand s.agenda u ≡ Some h → HasKind h

pub none_but : (s : TurnState) (but : LaneName → Type 0) → NoLaneIsLost s → LosesNoneBut s but
none_but s but k = record { left = λ n is. inl (k.left n is); served = k.served; settled = k.settled; placed = k.placed; kinds = k.kinds }

pub none_at_all : (s : TurnState) (but : LaneName → Type 0) → ((n : LaneName) → IsLeft (lanes s.cellar) n → but n → ⊥) → LosesNoneBut s but → NoLaneIsLost s
none_at_all s but never k = record {
  left = λ n is. elim (k.left n is) [ inl covered ↦ covered | inr excused ↦ absurd (never n is excused) ];
  served = k.served;
  settled = k.settled;
  placed = k.placed;
  kinds = k.kinds;
}

-- a lane is made due -----------------------------------------------------------------------------------------

-- where one is claimed, another that stands due at that place would be lost
abbrev pub Fits : TurnState → ℕ → Type 0
Fits s word = (n : LaneName) → IsLeft (lanes s.cellar) n → n.place ≡ place_in word → StandsDue s.agenda n → word ≡ word_of n

-- of those that were excused this one is due then, and the rest are
abbrev Excuses : TurnState → ℕ → (but but' : LaneName → Type 0) → Type 0
Excuses s word but but' = (n : LaneName) → IsLeft (lanes s.cellar) n → but n → ((n.place ≡ place_in word) × (word ≡ word_of n)) ⊎ but' n

made_due : (turn : Turn) (word : ℕ) (s t : TurnState) (but but' : LaneName → Type 0) → LosesNoneBut s but → Fits s word → Excuses s word but but' →
    IsMadeDue turn word s t → LosesNoneBut t but'
made_due turn word s t but but' k fits excuses (has_claimed claims only) = record {
  left = λ n is. by_left n (was n is) (k.left n (was n is));
  served = λ n by is. serving_same s.agenda t.agenda by (word_of n) claims.hands (k.served n by (subst (λ (x : Cellar). IsServedBy (lanes x) n by) cellar is));
  settled = ap (λ (x : Cellar). (lanes x).fresh) cellar ∙ k.settled;
  placed = λ u p is. by_place u p (p == place_in word) refl (sym (ap (is_in p) (claims.due u)) ∙ is);
  kinds = λ u h held. k.kinds u h (sym (claims.hands u) ∙ held);
} where
  cellar : t.cellar ≡ s.cellar
  cellar = ap (λ (x : TurnState). x.cellar) only

  was : (n : LaneName) → IsLeft (lanes t.cellar) n → IsLeft (lanes s.cellar) n
  was n is = subst (λ (x : Cellar). IsLeft (lanes x) n) cellar is

  place : ℕ
  place = place_in word

  -- the lane itself is due
  own : (n : LaneName) → n.place ≡ place → word ≡ word_of n → StandsDue t.agenda n
  own n at is = record {
    turn = turn;
    due = ap (λ (p : ℕ). is_in p (due_to t.agenda turn)) at
        ∙ ap (is_in place) (claims.due turn ∙ ap (λ b. cond b (take_out place (due_to s.agenda turn) ++ place ∷ []) (take_out place (due_to s.agenda turn))) (is_same-self turn))
        ∙ last_there place (take_out place (due_to s.agenda turn));
    word = claims.words n.place ∙ ap (λ b. cond b word (lane_word s.agenda n.place)) (eq-eqb place n.place (sym at)) ∙ is;
  }

  -- and each other that was
  other : (n : LaneName) (x : StandsDue s.agenda n) → n.place ≢ place → StandsDue t.agenda n
  other n x differs = record {
    turn = x.turn;
    due = ap (is_in n.place) (claims.due x.turn) ∙ by_turn (is_same turn x.turn);
    word = claims.words n.place ∙ by_word (place == n.place) refl ∙ x.word;
  } where
    by_turn : (b : Bool) → is_in n.place (cond b (take_out place (due_to s.agenda x.turn) ++ place ∷ []) (take_out place (due_to s.agenda x.turn))) ≡ true
    by_turn true = still_there n.place place (due_to s.agenda x.turn) (place ∷ []) differs x.due
    by_turn false = ap (is_in n.place) (sym (append-nil (take_out place (due_to s.agenda x.turn)))) ∙ still_there n.place place (due_to s.agenda x.turn) [] differs x.due

    by_word : (b : Bool) → (place == n.place) ≡ b → cond b word (lane_word s.agenda n.place) ≡ lane_word s.agenda n.place
    by_word true same = absurd (differs (sym (eqb-true place n.place same)))
    by_word false apart = refl

  by_due : (n : LaneName) → IsLeft (lanes s.cellar) n → (x : StandsDue s.agenda n) (b : Bool) → (n.place == place) ≡ b → StandsDue t.agenda n
  by_due n is x true same = let at = eqb-true n.place place same in own n at (fits n is at x)
  by_due n is x false apart = other n x (λ same. false≢true (sym apart ∙ eq-eqb n.place place same))

  by_left : (n : LaneName) → IsLeft (lanes s.cellar) n → (StandsDue s.agenda n ⊎ IsAstray s.astray n) ⊎ but n → (StandsDue t.agenda n ⊎ IsAstray t.astray n) ⊎ but' n
  by_left n is (inl (inl x)) = inl (inl (by_due n is x (n.place == place) refl))
  by_left n is (inl (inr x)) = inl (inr (subst (λ (o : Option ℕ). IsAstray o n) (sym (ap (λ (s : TurnState). s.astray) only)) x))
  by_left n is (inr x) = elim (excuses n is x) [ inl now ↦ inl (inl (own n now.0 now.1)) | inr more ↦ inr more ]

  by_place : (u : Turn) (p : ℕ) (b : Bool) → (p == place) ≡ b →
      is_in p (cond (is_same turn u) (take_out place (due_to s.agenda u) ++ place ∷ []) (take_out place (due_to s.agenda u))) ≡ true →
      place_in (lane_word t.agenda p) ≡ p
  by_place u p true same is =
      let at = eqb-true p place same in
      ap place_in (claims.words p ∙ ap (λ b. cond b word (lane_word s.agenda p)) (eq-eqb place p (sym at))) ∙ sym at
  by_place u p false apart is =
      ap place_in (claims.words p ∙ by_word (place == p) refl) ∙ k.placed u p (by_turn (is_same turn u) is) where
        differs : p ≢ place
        differs same = false≢true (sym apart ∙ eq-eqb p place same)

        by_word : (b : Bool) → (place == p) ≡ b → cond b word (lane_word s.agenda p) ≡ lane_word s.agenda p
        by_word true same = absurd (differs (sym (eqb-true place p same)))
        by_word false other_place = refl

        by_turn : (b : Bool) → is_in p (cond b (take_out place (due_to s.agenda u) ++ place ∷ []) (take_out place (due_to s.agenda u))) ≡ true →
            is_in p (due_to s.agenda u) ≡ true
        by_turn true so = was_there p place (due_to s.agenda u) differs so
        by_turn false so = in_take_out p place (due_to s.agenda u) so
made_due turn word s t but but' k fits excuses (went_astray full loses only) = record {
  left = λ n is. inl (inr (record { from = 0; walks = ap (λ (x : TurnState). x.astray) only; ahead = omega arith }));
  served = λ n by is. serving_same s.agenda t.agenda by (word_of n) loses.hands
      (k.served n by (subst (λ (x : Cellar). IsServedBy (lanes x) n by) (ap (λ (x : TurnState). x.cellar) only) is));
  settled = ap (λ (x : TurnState). (lanes x.cellar).fresh) only ∙ k.settled;
  placed = λ u p is. ap place_in (loses.words p) ∙ k.placed u p (ap (is_in p) (sym (loses.due u)) ∙ is);
  kinds = λ u h held. k.kinds u h (sym (loses.hands u) ∙ held);
}

-- words of lanes that are due, as places
place_due : (d : Due) → place_in (word_of_due d) ≡ place_in (word_of d.lane)
place_due d = by_inside d.inside where
  by_inside : (b : Bool) → place_in (if b then word_of d.lane + inside_bit else word_of d.lane) ≡ place_in (word_of d.lane)
  by_inside true = over (word_of d.lane)
    where
      over : (w : ℕ) → (w + 9223372036854775808) % 536870912 ≡ w % 536870912
      over w = omega arith
  by_inside false = refl

none_claimed : (turn : Turn) (t : TurnState) (words : List ℕ) (s : TurnState) → words ≡ [] → AreMadeDue turn t words s → s ≡ t
none_claimed turn t _ _ none all_claimed = refl
none_claimed turn t _ _ none (one_claimed s u word words first rest) = absurd (cc)

module _ (find : WordsFindTheirLanes Sent) where
  -- a lane that is there stands at the place of its word
  own_place : (c : Cellar) → IsPromised c.engine → (n : LaneName) (l : Lane Sent) → lane (lanes c) n ≡ Some l → n.place ≡ place_in (word_of n)
  own_place c kept n l found = place_named (lanes c) (word_of n) n (find (lanes c) kept.lanes n l false found).0

  free_left : (l : Lane Sent) → is_left l ≡ true → is_served l ≡ false
  free_left l is = by_server (is_served l) is where
    by_server : (b : Bool) → (not b && has_any l) ≡ true → b ≡ false
    by_server true nay = absurd (false≢true nay)
    by_server false so = refl

  -- of those that an answer names, one after another ---------------------------------------------------------

  is_due_lane : (c : Cellar) → IsPromised c.engine → (d : Due) (k : Lane Sent) → lane (lanes c) d.lane ≡ Some k → d.inside ≡ is_served k → (n : LaneName) →
      IsLeft (lanes c) n → n.place ≡ place_in (word_of_due d) → word_of_due d ≡ word_of n
  is_due_lane c kept d k found inside n is place =
      let there = own_place c kept d.lane k found in
      let same : n ≡ d.lane = one_there find (lanes c) kept.lanes n d.lane is.0 k is.1 found (place ∙ place_due d ∙ sym there) in
      let one : is.0 ≡ k = same_Some is.0 k (sym is.1 ∙ ap (lane (lanes c)) same ∙ found) in
      let out : d.inside ≡ false = inside ∙ ap (λ (l : Lane Sent). is_served l) (sym one) ∙ free_left is.0 is.2 in
      ap (λ (b : Bool). if b then word_of d.lane + inside_bit else word_of d.lane) out ∙ ap word_of (sym same)

  pub all_due : (turn : Turn) (t : TurnState) (ds : List Due) (s : TurnState) → IsPromised s.cellar.engine → AreThere (lanes s.cellar) ds →
      LosesNoneBut s (λ n. is_named n ds ≡ true) → AreMadeDue turn t (map word_of_due ds) s → NoLaneIsLost t
  all_due turn t [] s kept there k made =
      subst NoLaneIsLost (none_claimed turn t [] s refl made) (none_at_all s (λ n. false ≡ true) (λ n is nay. false≢true nay) k)
  all_due turn t (d ∷ ds) s kept there k (one_claimed _ u _ _ first rest) =
      let cellar = same_cellar turn (word_of_due d) s u first in
      all_due turn t ds u (subst (λ (x : Cellar). IsPromised x.engine) (sym cellar) kept) (subst (λ (x : Cellar). AreThere (lanes x) ds) (sym cellar) there.1)
      (made_due turn (word_of_due d) s u (λ n. is_named n (d ∷ ds) ≡ true) (λ n. is_named n ds ≡ true) k
      (λ n is place x. is_due_lane s.cellar kept d there.0.0 there.0.1 there.0.2 n is place)
      (λ n is told. excused n is told) first) rest where
        same_cellar : (turn : Turn) (word : ℕ) (s u : TurnState) → IsMadeDue turn word s u → u.cellar ≡ s.cellar
        same_cellar turn word s u (has_claimed claims only) = ap (λ (x : TurnState). x.cellar) only
        same_cellar turn word s u (went_astray full loses only) = ap (λ (x : TurnState). x.cellar) only

        excused : (n : LaneName) → IsLeft (lanes s.cellar) n → is_named n (d ∷ ds) ≡ true →
            ((n.place ≡ place_in (word_of_due d)) × (word_of_due d ≡ word_of n)) ⊎ (is_named n ds ≡ true)
        excused n is told = by_first (is_name n d.lane) refl (not d.inside) refl told where
          by_first : (a : Bool) → is_name n d.lane ≡ a → (b : Bool) → not d.inside ≡ b → ((a && b) || is_named n ds) ≡ true →
              ((n.place ≡ place_in (word_of_due d)) × (word_of_due d ≡ word_of n)) ⊎ (is_named n ds ≡ true)
          by_first true same true out so =
              let at = same_name n d.lane same in
              let place = own_place s.cellar kept n is.0 is.1 ∙ ap (λ (m : LaneName). place_in (word_of m)) at ∙ sym (place_due d) in
              inl (place, is_due_lane s.cellar kept d there.0.0 there.0.1 there.0.2 n is place)
          by_first true same false inside so = inr so
          by_first false apart b is_so so = inr so

  -- an inner's lane comes home under the word under which it is due
  pub came_home : (turn : Turn) (s t : TurnState) (home : Option ℕ) (but : LaneName → Type 0) → LosesNoneBut s but → ComesHome turn s t home → LosesNoneBut t but
  came_home turn s t _ but k (opens_no_inner same) = subst (λ (x : TurnState). LosesNoneBut x but) (sym same) k
  came_home turn s t _ but k (is_not_due word none same) = subst (λ (x : TurnState). LosesNoneBut x but) (sym same) k
  came_home turn s t _ but k (is_of_another word others same) = subst (λ (x : TurnState). LosesNoneBut x but) (sym same) k
  came_home turn s t _ but k (is_due_here word e stands may claims) =
      made_due turn (lane_word s.agenda (place_in word)) s t but but k
      (λ n is place x. sym (ap (λ (p : ℕ). lane_word s.agenda p) (place ∙ same_place (lane_word s.agenda (place_in word)) word may.0)) ∙ x.word)
      (λ n is excused. inr excused) claims where
        same_place : (due word : ℕ) → due % 9223372036854775808 ≡ word → due % 536870912 ≡ word % 536870912
        same_place due word is = omega (arith, is)

  -- what is astray -------------------------------------------------------------------------------------------

  small_word : (n : LaneName) → word_of n < 9223372036854775808
  small_word n =
      let turn : n.turn % 17179869184 < 17179869184 = omega arith in
      let place : n.place % 536870912 < 536870912 = omega arith in
      omega (arith, turn, place)

  none_from : (from word next : ℕ) (c : Cellar) → IsLeftTold from c word next → word ≡ 18446744073709551615 → (n : LaneName) → IsLeft (lanes c) n → n.place < from
  none_from from _ _ c (one_left name left within first) is n at = let small = small_word name in absurd (omega (arith, small, is))
  none_from from _ _ c (none_left none) is n at = none n at

  ended_walk : (s t : TurnState) (from next : ℕ) → NoLaneIsLost s → s.astray ≡ Some from → IsLeftTold from s.cellar 18446744073709551615 next →
      t ≡ record s { astray = None } → NoLaneIsLost t
  ended_walk s t from next k astray none same = subst NoLaneIsLost (sym same) (record {
    left = λ n is. elim (k.left n is) [ inl due ↦ inl due | inr walks ↦ absurd (behind n is walks) ];
    served = k.served;
    settled = k.settled;
    placed = k.placed;
    kinds = k.kinds;
  }) where
    behind : (n : LaneName) → IsLeft (lanes s.cellar) n → IsAstray s.astray n → ⊥
    behind n is x =
        let from_is : from ≡ x.from = same_Some from x.from (sym astray ∙ x.walks) in
        let ahead = x.ahead in
        let past = none_from from 18446744073709551615 next s.cellar none refl n is in
        omega (arith, from_is, ahead, past)

  -- who asks what is due to him meets an engine that keeps its promise
  promised_there : (turn : Turn) (b a : TurnState) (answer : Option Task) (place : ℕ) → is_in place (due_to a.agenda turn) ≡ true → TakesDue turn b a answer →
      IsPromised a.cellar.engine
  promised_there turn b _ _ place is (nothing_due none) = absurd (false≢true (sym (ap (is_in place) none) ∙ is))
  promised_there turn b _ _ place is (has_one a c first places h due gone asks) =
      subst (λ (x : Cellar). IsPromised x.engine) (ap (λ (x : TurnState). x.cellar) gone.only) (has_asked turn _ c b (Some h) asks).kept
  promised_there turn b _ _ place is (has_none a c d first places answer due gone asks rest) =
      subst (λ (x : Cellar). IsPromised x.engine) (ap (λ (x : TurnState). x.cellar) gone.only) (has_asked turn _ c d None asks).kept

  -- the first that is left from there on is due, and the walk goes on behind it
  walked_on : (turn : Turn) (word from next : ℕ) (a u : TurnState) → IsPromised a.cellar.engine → NoLaneIsLost a → a.astray ≡ Some from →
      IsLeftTold from a.cellar word next → word ≢ 18446744073709551615 → Claims turn (place_in word) word a.agenda u.agenda →
      u ≡ record a { agenda = u.agenda; astray = Some next } → NoLaneIsLost u
  walked_on turn _ from _ a u kept k astray (none_left none) some claims only = absurd (some refl)
  walked_on turn _ from _ a u kept k astray (one_left name left within first) some claims only = subst NoLaneIsLost (sym only) (record {
    left = λ n is. elim (moved.left n is) [ inl covered ↦ due n covered | inr walks ↦ inr walks ];
    served = moved.served;
    settled = moved.settled;
    placed = moved.placed;
    kinds = moved.kinds;
  }) where
    next : ℕ
    next = min (name.place + 1) most

    still : TurnState
    still = record a { astray = None }

    place : name.place ≡ place_in (word_of name)
    place = own_place a.cellar kept name left.0 left.1

    one : (n : LaneName) → IsLeft (lanes a.cellar) n → n.place ≡ name.place → word_of name ≡ word_of n
    one n is at = ap word_of (sym (one_there find (lanes a.cellar) kept.lanes n name is.0 left.0 is.1 left.1 at))

    behind : (n : LaneName) → IsLeft (lanes a.cellar) n → IsAstray a.astray n → (b : Bool) → (n.place == name.place) ≡ b →
        ((n.place ≡ place_in (word_of name)) × (word_of name ≡ word_of n)) ⊎ IsAstray (Some next) n
    behind n is x true same = let at = eqb-true n.place name.place same in inl (at ∙ place, one n is at)
    behind n is x false other =
        let from_is : from ≡ x.from = same_Some from x.from (sym astray ∙ x.walks) in
        let ahead = x.ahead in
        let least = first n is (let from_n : from ≤ n.place = omega (arith, from_is, ahead) in from_n) in
        let apart : n.place ≢ name.place = λ same. false≢true (sym other ∙ eq-eqb n.place name.place same) in
        let upto : next ≤ n.place = omega (arith, least, apart) in
        inr (record { from = next; walks = refl; ahead = upto })

    moved : LosesNoneBut (record still { agenda = u.agenda }) (λ n. IsAstray (Some next) n)
    moved =
        made_due turn (word_of name) still (record still { agenda = u.agenda }) (λ n. IsAstray a.astray n) (λ n. IsAstray (Some next) n)
        (record {
          left = λ n is. elim (k.left n is) [ inl due ↦ inl (inl due) | inr walks ↦ inr walks ];
          served = k.served;
          settled = k.settled;
          placed = k.placed;
          kinds = k.kinds;
        })
        (λ n is at x. one n is (at ∙ sym place)) (λ n is x. behind n is x (n.place == name.place) refl) (has_claimed claims refl)

    due : (n : LaneName) → StandsDue u.agenda n ⊎ IsAstray None n → StandsDue u.agenda n ⊎ IsAstray (Some next) n
    due n (inl x) = inl x
    due n (inr x) = let both : None ≡ Some x.from = x.walks in absurd (cc)

  picked_up : (turn : Turn) (b a : TurnState) (answer : Option Task) → NoLaneIsLost a → in_hand a.agenda turn ≡ None → PicksUp turn b a answer → NoLaneIsLost b
  picked_up turn b _ _ k idle (none_astray none) = k
  picked_up turn b _ _ k idle (ends_walk a from next astray none same) = ended_walk a b from next k astray none same
  picked_up turn b _ _ k idle (finds_no_room a from word next astray found some full loses same) = alike_kept a b (room_alike a b loses same) k
  picked_up turn b _ _ k idle (finds_one a u from word next answer astray found some claims only rest) =
      let cellar = ap (λ (x : TurnState). x.cellar) only in
      let due : is_in (place_in word) (due_to u.agenda turn) ≡ true =
      ap (is_in (place_in word)) (claims.due turn
      ∙ ap (λ b. cond b (take_out (place_in word) (due_to a.agenda turn) ++ place_in word ∷ []) (take_out (place_in word) (due_to a.agenda turn))) (is_same-self turn))
      ∙ last_there (place_in word) (take_out (place_in word) (due_to a.agenda turn)) in
      let kept = subst (λ (x : Cellar). IsPromised x.engine) cellar (promised_there turn b u answer (place_in word) due rest) in
      due_kept find turn b u answer (walked_on turn word from next a u kept k astray found some claims only) (claims.hands turn ∙ idle) rest

  gone_deeper : (turn : Turn) (b a : TurnState) (answer : Option Task) → NoLaneIsLost a → HasNothing a.agenda turn → GoesDeeper turn b a answer → NoLaneIsLost b
  gone_deeper turn b _ _ k none (serves_inner a h serves) = deeper_kept find turn b a (Some h) k serves
  gone_deeper turn b _ _ k none (has_no_more a serves inner) = deeper_kept find turn b a None k serves
  gone_deeper turn b _ _ k none (looks_around a c answer serves outermost picks) =
      picked_up turn b c answer (deeper_kept find turn c a None k serves) (deeper_ended turn c a None refl none serves).own.1 picks

  pub gone_on : (turn : Turn) (b a : TurnState) (answer : Option Task) → NoLaneIsLost a → TurnGoesOn turn b a answer → NoLaneIsLost b
  gone_on turn b _ _ k (serves_own a h serves) = served_kept find turn b a (Some h) k serves
  gone_on turn b _ _ k (serves_no_more a c answer serves rest) =
      gone_deeper turn b c answer (served_kept find turn c a None k serves) (nothing_left turn a c serves) rest

  -- what is let go -------------------------------------------------------------------------------------------

  outside_word : (n : LaneName) → is_inside (word_of n) ≡ false
  outside_word n = ap not (lt-ltb (word_of n) 9223372036854775808 (small_word n))

  -- of a lane that is given up by this word
  record IsGiven (word by : ℕ) (s t : Cellar) (is_left : ℕ) : Type 0 where
    left : (n : LaneName) → IsLeft (lanes t) n → IsLeft (lanes s) n ⊎ ((named (lanes s) word ≡ Some n) × (is_left ≡ 1))
    served : (n : LaneName) (server : ℕ) → IsServedBy (lanes t) n server → IsServedBy (lanes s) n server × (named (lanes s) word ≡ Some n → server ≢ by)
    settled : (lanes s).fresh ≡ [] → (lanes t).fresh ≡ []
    found : is_left ≡ 1 → (n : LaneName) × (named (lanes s) word ≡ Some n)

  given_up : (word by : ℕ) (back : Option Effect) (s t : Cellar) (is_left status : ℕ) → (o : Option LaneName) → named (lanes s) word ≡ o →
      GivesBackIf o by back s t is_left status → IsGiven word by s t is_left
  given_up word by back s t is_left status None none (same, zero, code) = record {
    left = λ n is. inl (subst (λ (x : Cellar). IsLeft (lanes x) n) same is);
    served = λ n server is. (
      subst (λ (x : Cellar). IsServedBy (lanes x) n server) same is,
      λ found. absurd (let both : None ≡ Some n = sym none ∙ found in cc),
    );
    settled = λ is. ap (λ (x : Cellar). (lanes x).fresh) same ∙ is;
    found = λ one. absurd (let both : 0 ≡ 1 = sym zero ∙ one in omega (arith, both));
  }
  given_up word by back s t is_left status (Some name) found k = record {
    left = λ n is. elim (give_left name by (sent_of name back) s.engine t.engine k.answer k.give n is) [
      | inl was ↦ inl was
      | inr now ↦ inr (found ∙ ap (λ (x : LaneName). Some x) (sym now.0), k.left_is ∙ ap left_number now.1)
    ];
    served = λ n server is.
        let so = give_served name by (sent_of name back) s.engine t.engine k.answer k.give n server is in
        (so.0, λ at. so.1 (sym (same_Some name n (sym found ∙ at))));
    settled = give_fresh name by (sent_of name back) s.engine t.engine k.answer k.give;
    found = λ one. (name, found);
  }

  -- what a turn let go of may be left, under the word that is told
  abbrev pub IsLetGo : Option ℕ → LaneName → Type 0
  IsLetGo left n = (left ≡ Some (word_of n)) × (n.place ≡ place_in (word_of n))

  pub record LetsGo (t : TurnState) (left : Option ℕ) : Type 0 where
    pub tended : LosesNoneBut t (IsLetGo left)
    pub fits : (word : ℕ) → left ≡ Some word → is_inside word ≡ false → Fits t word

  unchanged : (s t : TurnState) → NoLaneIsLost s → t ≡ s → LetsGo t None
  unchanged s t k same = record { tended = none_but t (IsLetGo None) (subst NoLaneIsLost (sym same) k); fits = λ word nay. absurd (cc) }

  -- nobody serves a lane by what is in hand under a word that says inside
  inner_dropped : (turn : Turn) (s t : TurnState) (h : Task) → NoLaneIsLost s → in_hand s.agenda turn ≡ Some h → is_inside h.word ≡ true → Drops turn s t →
      NoLaneIsLost t
  inner_dropped turn s t h k hand inside drops = record {
    left = λ n is. covered_same s t n drops.holds.due drops.holds.words (ap (λ (x : TurnState). x.astray) drops.only)
        (k.left n (subst (λ (x : Cellar). IsLeft (lanes x) n) cellar is));
    served = λ n by is. (let x = k.served n by (subst (λ (x : Cellar). IsServedBy (lanes x) n by) cellar is) in by_turn n by x (is_same turn x.0) refl);
    settled = ap (λ (x : Cellar). (lanes x).fresh) cellar ∙ k.settled;
    placed = λ u p is. ap place_in (drops.holds.words p) ∙ k.placed u p (ap (is_in p) (sym (drops.holds.due u)) ∙ is);
    kinds = kinds_held turn None s.agenda t.agenda drops.holds (λ g nay. absurd (cc)) k.kinds;
  } where
    cellar : t.cellar ≡ s.cellar
    cellar = ap (λ (x : TurnState). x.cellar) drops.only

    by_turn : (n : LaneName) (by : ℕ) (x : IsServing s.agenda by (word_of n)) (b : Bool) → is_same turn x.0 ≡ b → IsServing t.agenda by (word_of n)
    by_turn n by (u, f, stack, held, at) true same =
        let one : h ≡ f = same_Some h f (sym hand ∙ ap (λ (v : Turn). in_hand s.agenda v) (turn_is turn u same) ∙ held) in
        absurd (false≢true (sym (outside_word n) ∙ ap is_inside (sym (ap (λ (x : Task). x.word) one ∙ at)) ∙ inside))
    by_turn n by x false apart = serving_other turn None s.agenda t.agenda by (word_of n) drops.holds x apart

  -- a lane that stands at the place of a word is the one that this finds
  at_place : (c : Cellar) → IsPromised c.engine → (word : ℕ) (x n : LaneName) (l : Lane Sent) → named (lanes c) word ≡ Some x → lane (lanes c) n ≡ Some l →
      n.place ≡ place_in word → x ≡ n
  at_place c kept word x n l found at place =
      same_named (lanes c) word (word_of n) x n found (find (lanes c) kept.lanes n l false at).0 (sym place ∙ own_place c kept n l at)

  lane_given : (turn : Turn) (s u t : TurnState) (v : Cellar) (h : Task) (is_left : ℕ) → NoLaneIsLost s → in_hand s.agenda turn ≡ Some h →
      is_inside h.word ≡ false → Drops turn s u → IsPromised s.cellar.engine → IsGiven h.word turn.by s.cellar v is_left → t ≡ record u { cellar = v } →
      LetsGo t (left_under h.word is_left)
  lane_given turn s u t v h is_left k hand out drops kept given same = subst (λ (x : TurnState). LetsGo x (left_under h.word is_left)) (sym same) (record {
    tended = record {
      left = λ n is. elim (given.left n is) [
        | inl was ↦ inl (covered_same s (record u { cellar = v }) n drops.holds.due drops.holds.words (ap (λ (x : TurnState). x.astray) drops.only) (k.left n was))
        | inr now ↦ inr (told n now.0 now.1)
      ];
      served = λ n by is. (let so = given.served n by is in let x = k.served n by so.0 in by_turn n by so.0 so.1 x (is_same turn x.0) refl);
      settled = given.settled k.settled;
      placed = λ w p is. ap place_in (drops.holds.words p) ∙ k.placed w p (ap (is_in p) (sym (drops.holds.due w)) ∙ is);
      kinds = kinds_held turn None s.agenda u.agenda drops.holds (λ g nay. absurd (cc)) k.kinds;
    };
    fits = λ word some outside n is place due. by_left word (is_left == 1) refl some n is place;
  }) where
    told : (n : LaneName) → named (lanes s.cellar) h.word ≡ Some n → is_left ≡ 1 → IsLetGo (left_under h.word is_left) n
    told n found one =
        let own = own_word (lanes s.cellar) h.word n found out in
        (ap (left_under h.word) one ∙ ap (λ (w : ℕ). Some w) own, place_named (lanes s.cellar) h.word n found ∙ ap place_in own)

    by_turn : (n : LaneName) (by : ℕ) → IsServedBy (lanes s.cellar) n by → (named (lanes s.cellar) h.word ≡ Some n → by ≢ turn.by) →
        (x : IsServing s.agenda by (word_of n)) (b : Bool) → is_same turn x.0 ≡ b → IsServing u.agenda by (word_of n)
    by_turn n by was apart (w, f, stack, held, at) true own =
        let mine = turn_is turn w own in
        let one : h ≡ f = same_Some h f (sym hand ∙ ap (λ (v : Turn). in_hand s.agenda v) mine ∙ held) in
        absurd (apart (found_by find s.cellar kept n was.0 h.word was.1 (ap (λ (x : Task). x.word) one ∙ at)).0 (sym stack ∙ sym (ap (λ (v : Turn). v.by) mine)))
    by_turn n by was apart x false other = serving_other turn None s.agenda u.agenda by (word_of n) drops.holds x other

    by_left : (word : ℕ) (b : Bool) → (is_left == 1) ≡ b → (if b then Some h.word else None) ≡ Some word → (n : LaneName) → IsLeft (lanes v) n →
        n.place ≡ place_in word → word ≡ word_of n
    by_left word false none some n is place = absurd (cc)
    by_left word true one some n is place =
        let own : h.word ≡ word = same_Some h.word word some in
        let x = given.found (eqb-true is_left 1 one) in
        elim (given.left n is) [
          | inl was ↦ (
              let at = at_place s.cellar kept h.word x.0 n was.0 x.1 was.1 (place ∙ ap place_in (sym own)) in
              sym own ∙ own_word (lanes s.cellar) h.word n (x.1 ∙ ap (λ (m : LaneName). Some m) at) out)
          | inr now ↦ sym own ∙ own_word (lanes s.cellar) h.word n now.0 out
        ]

  pub let_go : (turn : Turn) (s t : TurnState) (left : Option ℕ) → NoLaneIsLost s → LetsLaneGo turn s t left → LetsGo t left
  let_go turn s t _ k (holds_none none same) = unchanged s t k same
  let_go turn s t _ k (stays_in_hand h hand inside unbegun same) = unchanged s t k same
  let_go turn s t _ k (lets_inner_go h hand inside begun drops) = record {
    tended = none_but t (IsLetGo (Some h.word)) (inner_dropped turn s t h k hand inside drops);
    fits = λ word some out. absurd (false≢true (sym out ∙ ap is_inside (sym (same_Some h.word word some)) ∙ inside));
  }
  let_go turn s t _ k (gives_lane_up h u v is_left hand out drops kept gives same) =
      lane_given turn s u t v h is_left k hand out drops kept (by_begun h.is_begun refl (gives.given)) same where
        by_begun : (b : Bool) → h.is_begun ≡ b → IsGivenUp h.word turn.by (if b then [] else h.effect ∷ []) s.cellar v is_left gives.status →
            IsGiven h.word turn.by s.cellar v is_left
        by_begun true begun is = given_up h.word turn.by None s.cellar v is_left gives.status (named (lanes s.cellar) h.word) refl is
        by_begun false fresh is =
            given_up h.word turn.by (Some h.effect) s.cellar v is_left gives.status (named (lanes s.cellar) h.word) refl
            (subst (λ (o : Option What). IsGivenUpIf (option_map (λ (x : What). Some h.effect) o) h.word turn.by s.cellar v is_left gives.status)
            (k.kinds turn h hand).1 is)

  pub left_to : (left : Option ℕ) (turn : Turn) (s t : TurnState) → LetsGo s left → LeavesTo left turn s t → NoLaneIsLost t
  left_to None turn s t k same = subst NoLaneIsLost (sym same) (none_at_all s (IsLetGo None) (λ n is nay. absurd (let both = nay.0 in cc)) k.tended)
  left_to (Some word) turn s t k (is_claimed where_is claims) =
      none_at_all t (λ n. ⊥) (λ n is nay. nay)
      (made_due turn word s t (IsLetGo (Some word)) (λ n. ⊥) k.tended fits
      (λ n is x. (let own = same_Some word (word_of n) x.0 in inl (x.1 ∙ ap place_in (sym own), own))) claims) where
        fits : Fits s word
        fits n is place due = elim where_is [
          | inl out ↦ k.fits word refl out n is place due
          | inr nobody ↦ absurd (false≢true (sym (ap (λ (p : ℕ). is_in p (due_to s.agenda due.turn)) place ∙ nobody (own_line due.turn s.agenda.rows)) ∙ due.due))
        ]
  left_to (Some word) turn s t k (stays_due e inside stands same) =
      subst NoLaneIsLost (sym same)
      (none_at_all s (IsLetGo (Some word)) (λ n is x. false≢true (sym (outside_word n) ∙ ap is_inside (sym (same_Some word (word_of n) x.0)) ∙ inside)) k.tended)

  -- a turn that ends -----------------------------------------------------------------------------------------

  pub ended : (turn : Turn) (s t : TurnState) → NoLaneIsLost s → EndsTurn turn s t → NoLaneIsLost t
  ended turn s t k ends = by_astray (is_some ends.left || is_some (head_of (due_to ends.between.agenda turn))) refl (ap (λ (x : TurnState). x.astray) ends.only) where
    m : TurnState
    m = ends.between

    go : LetsGo m ends.left
    go = let_go turn s m ends.left k ends.lets_go

    cellar : t.cellar ≡ m.cellar
    cellar = ap (λ (x : TurnState). x.cellar) ends.only

    was_due : (u : Turn) (p : ℕ) → is_in p (due_to t.agenda u) ≡ true → is_in p (due_to m.agenda u) ≡ true
    was_due u p is = by_turn (is_same turn u) (sym (ap (is_in p) (ends.emptied.due u)) ∙ is) where
      by_turn : (b : Bool) → is_in p (cond b [] (due_to m.agenda u)) ≡ true → is_in p (due_to m.agenda u) ≡ true
      by_turn true nay = absurd (false≢true nay)
      by_turn false so = so

    with_left : ((n : LaneName) → IsLeft (lanes m.cellar) n → StandsDue t.agenda n ⊎ IsAstray t.astray n) → NoLaneIsLost t
    with_left left = record {
      left = λ n is. left n (subst (λ (x : Cellar). IsLeft (lanes x) n) cellar is);
      served = λ n by is. serving_same m.agenda t.agenda by (word_of n) ends.emptied.hands
          (go.tended.served n by (subst (λ (x : Cellar). IsServedBy (lanes x) n by) cellar is));
      settled = ap (λ (x : Cellar). (lanes x).fresh) cellar ∙ go.tended.settled;
      placed = λ u p is. ap place_in (ends.emptied.words p) ∙ go.tended.placed u p (was_due u p is);
      kinds = λ u h held. go.tended.kinds u h (sym (ends.emptied.hands u) ∙ held);
    }

    still_due : due_to m.agenda turn ≡ [] → (n : LaneName) → StandsDue m.agenda n → StandsDue t.agenda n
    still_due none n x = record {
      turn = x.turn;
      due = ap (is_in n.place) (ends.emptied.due x.turn) ∙ by_turn (is_same turn x.turn) refl;
      word = ends.emptied.words n.place ∙ x.word;
    } where
      by_turn : (b : Bool) → is_same turn x.turn ≡ b → is_in n.place (cond b [] (due_to m.agenda x.turn)) ≡ true
      by_turn true same =
          absurd (false≢true (sym (ap (is_in n.place) (ap (λ (v : Turn). due_to m.agenda v) (sym (turn_is turn x.turn same)) ∙ none)) ∙ x.due))
      by_turn false apart = x.due

    nothing_first : (xs : List ℕ) → is_some (head_of xs) ≡ false → xs ≡ []
    nothing_first [] is = refl
    nothing_first (x ∷ xs) is = absurd (false≢true (sym is))

    none_is : (o : Option ℕ) → is_some o ≡ false → o ≡ None
    none_is None is = refl
    none_is (Some x) is = absurd (false≢true (sym is))

    both_none : (a b : Bool) → (a || b) ≡ false → (a ≡ false) × (b ≡ false)
    both_none true b is = absurd (false≢true (sym is))
    both_none false b is = (refl, is)

    by_astray : (b : Bool) → (is_some ends.left || is_some (head_of (due_to m.agenda turn))) ≡ b → t.astray ≡ astray_if b m.astray → NoLaneIsLost t
    by_astray true some walks = with_left (λ n is. inr (record { from = 0; walks = walks; ahead = omega arith }))
    by_astray false none walks =
        let both = both_none (is_some ends.left) (is_some (head_of (due_to m.agenda turn))) none in
        with_left (λ n is. elim (go.tended.left n is) [
          | inl covered ↦ elim covered [
            | inl due ↦ inl (still_due (nothing_first (due_to m.agenda turn) both.1) n due)
            | inr astray ↦ inr (subst (λ (o : Option ℕ). IsAstray o n) (sym walks) astray)
          ]
          | inr gone ↦ absurd (let nay = sym (none_is ends.left both.0) ∙ gone.0 in cc)
        ])

  pub all_stopped : (turn : Turn) (t s : TurnState) → NoLaneIsLost s → StopsDeeper turn t s → NoLaneIsLost t
  all_stopped turn t _ k (all_ended none) = k
  all_stopped turn t _ k (one_ended s v u deep ends rest) = all_stopped turn t v (ended u s v k ends) rest
