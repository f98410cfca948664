-- Where a step hands out nothing, nothing is left; and what it hands out is in hand.
use Rattle.std.proofs.Common.{◌≡◌, ℕ, ◌==◌, ◌⊎◌, inl, inr, true, false, cond, [], ◌∷◌, ◌++◌, Option, Some, None, IfSome, refl, ap}
use Rattle.std.proofs.Common.{◌∙◌}
use Rattle.std.proofs.Common.{arith}
use Rattle.std.proofs.lemmas.Bool.{false_from_ne_true, and_parts, eqb-true}
use Rattle.rx_slots.specs.Lists.{take_out}
use Rattle.rx_cellar.specs.Words.{place_in}
use Rattle.rx_turns.specs.declared.agenda.Turn.{Turn}
use Rattle.rx_turns.specs.declared.agenda.Task.{Task}
use Rattle.rx_turns.specs.Rows.{is_same, is_deeper}
use Rattle.rx_turns.specs.Agendas.{due_to, in_hand, HasNothing}
use Rattle.rx_turns.specs.States.{TurnState}
use Rattle.rx_turns.specs.Serving.{AsksLane, gives_one, gives_none, TakesOff, TakesDue, nothing_due, has_one, has_none}
use Rattle.rx_turns.specs.Serving.{Serves, hands_again, goes_on, ends_lane, serves_none, ServesDeeper, none_deeper, deeper_has_one, deeper_has_none}
use Rattle.rx_turns.specs.Calls.{PicksUp, none_astray, ends_walk, finds_no_room, finds_one, GoesDeeper, serves_inner, has_no_more, looks_around}
use Rattle.rx_turns.specs.Calls.{TurnGoesOn, serves_own, serves_no_more}
use Rattle.rx_turns.specs.Promises.{NothingIsLeft, HoldsWhatItHands}
use Rattle.rx_turns.proofs.Passed.{depth_of}
use Rattle.rx_turns.proofs.Promised.{nothing_left, due_ended, due_held, served_held}

-- who has nothing is given nothing by another's serving -----------------------------------------------------

asked_nothing : (turn other : Turn) (word : ℕ) (s t : TurnState) (answer : Option Task) → is_same turn other ≡ false → HasNothing s.agenda other →
    AsksLane turn word s t answer → HasNothing t.agenda other
asked_nothing turn other word s t _ apart none (gives_one v e h kept is out) =
    (out.holds.due other ∙ none.0, out.holds.hands other ∙ (ap (λ b. cond b (Some h) (in_hand s.agenda other)) apart ∙ none.1))
asked_nothing turn other word s t _ apart none (gives_none v kept is same) =
    (ap (λ (x : TurnState). due_to x.agenda other) same ∙ none.0, ap (λ (x : TurnState). in_hand x.agenda other) same ∙ none.1)

taken_off_nothing : (other : Turn) (place : ℕ) (s t : TurnState) → HasNothing s.agenda other → TakesOff place s t → HasNothing t.agenda other
taken_off_nothing other place s t none gone = (gone.gone.due other ∙ ap (take_out place) none.0, gone.gone.hands other ∙ none.1)

due_nothing : (turn other : Turn) (b a : TurnState) (answer : Option Task) → is_same turn other ≡ false → HasNothing a.agenda other →
    TakesDue turn b a answer → HasNothing b.agenda other
due_nothing turn other b _ _ apart none (nothing_due empty) = none
due_nothing turn other b _ _ apart none (has_one a c place places h due gone asks) =
    asked_nothing turn other _ c b (Some h) apart (taken_off_nothing other place a c none gone) asks
due_nothing turn other b _ _ apart none (has_none a c d place places answer due gone asks rest) =
    due_nothing turn other b d answer apart (asked_nothing turn other _ c d None apart (taken_off_nothing other place a c none gone) asks) rest

served_nothing : (turn other : Turn) (b a : TurnState) (answer : Option Task) → is_same turn other ≡ false → HasNothing a.agenda other →
    Serves turn b a answer → HasNothing b.agenda other
served_nothing turn other b _ _ apart none (hands_again h hand fresh) = none
served_nothing turn other b _ _ apart none (goes_on a h next hand begun asks) = asked_nothing turn other _ a b (Some next) apart none asks
served_nothing turn other b _ _ apart none (ends_lane a c d h answer hand begun asks drops rest) =
    let after = asked_nothing turn other _ a c None apart none asks in
    due_nothing turn other b d answer apart
    (drops.holds.due other ∙ after.0, drops.holds.hands other ∙ (ap (λ x. cond x None (in_hand c.agenda other)) apart ∙ after.1)) rest
served_nothing turn other b _ _ apart none (serves_none a answer hand rest) = due_nothing turn other b a answer apart none rest

-- a deeper turn is another
deeper_apart : (turn u : Turn) → is_deeper turn u ≡ true → is_same u turn ≡ false
deeper_apart turn u deep =
    let less = depth_of turn u deep in
    false_from_ne_true (is_same u turn) (λ same.
    let at = eqb-true u.depth turn.depth (and_parts (u.by == turn.by) (u.depth == turn.depth) same).1 in absurd (omega (arith, less, at)))

apart_deeper : (turn u : Turn) → is_deeper turn u ≡ true → is_same turn u ≡ false
apart_deeper turn u deep =
    let less = depth_of turn u deep in
    false_from_ne_true (is_same turn u) (λ same.
    let at = eqb-true turn.depth u.depth (and_parts (turn.by == u.by) (turn.depth == u.depth) same).1 in absurd (omega (arith, less, at)))

-- nothing is left ------------------------------------------------------------------------------------------

pub record HasAllNothing (turn : Turn) (t : TurnState) : Type 0 where
  pub own : HasNothing t.agenda turn
  pub deeper : (u : Turn) → is_deeper turn u ≡ true → HasNothing t.agenda u

pub deeper_ended : (turn : Turn) (b a : TurnState) (answer : Option Task) → answer ≡ None → HasNothing a.agenda turn → ServesDeeper turn b a answer →
    HasAllNothing turn b
deeper_ended turn b _ _ is none (none_deeper all) = record { own = none; deeper = all }
deeper_ended turn b _ _ is none (deeper_has_one a u h deep serves) = absurd (cc)
deeper_ended turn b _ _ is none (deeper_has_none a c u answer deep serves rest) =
    deeper_ended turn b c answer is (served_nothing u turn c a None (deeper_apart turn u deep) none serves) rest

picked_nothing : (turn : Turn) (b a : TurnState) (answer : Option Task) → answer ≡ None → HasAllNothing turn a → PicksUp turn b a answer → HasAllNothing turn b
picked_nothing turn b _ _ is all (none_astray none) = all
picked_nothing turn b _ _ is all (ends_walk a from next astray none same) = record {
  own = (ap (λ (x : TurnState). due_to x.agenda turn) same ∙ all.own.0, ap (λ (x : TurnState). in_hand x.agenda turn) same ∙ all.own.1);
  deeper = λ u deep.
      let before = all.deeper u deep in
      (ap (λ (x : TurnState). due_to x.agenda u) same ∙ before.0, ap (λ (x : TurnState). in_hand x.agenda u) same ∙ before.1);
}
picked_nothing turn b _ _ is all (finds_no_room a from word next astray found some full loses same) = record {
  own = (loses.due turn ∙ all.own.0, loses.hands turn ∙ all.own.1);
  deeper = λ u deep. let before = all.deeper u deep in (loses.due u ∙ before.0, loses.hands u ∙ before.1);
}
picked_nothing turn b _ _ is all (finds_one a c from word next answer astray found some claims only rest) = record {
  own = due_ended turn b c answer is (claims.hands turn ∙ all.own.1) rest;
  deeper = λ u deep.
      let before = all.deeper u deep in
      let apart = apart_deeper turn u deep in
      due_nothing turn u b c answer apart (
        claims.due u ∙ (ap (λ x. cond x (take_out (place_in word) (due_to a.agenda u) ++ place_in word ∷ []) (take_out (place_in word)
            (due_to a.agenda u))) apart
            ∙ ap (take_out (place_in word)) before.0),
        claims.hands u ∙ before.1,
      ) rest;
}

gone_deeper_nothing : (turn : Turn) (b a : TurnState) (answer : Option Task) → answer ≡ None → HasNothing a.agenda turn → GoesDeeper turn b a answer →
    HasAllNothing turn b
gone_deeper_nothing turn b _ _ is none (serves_inner a h serves) = absurd (cc)
gone_deeper_nothing turn b _ _ is none (has_no_more a serves inner) = deeper_ended turn b a None refl none serves
gone_deeper_nothing turn b _ _ is none (looks_around a c answer serves outermost picks) =
    picked_nothing turn b c answer is (deeper_ended turn c a None refl none serves) picks

gone_on_nothing : (turn : Turn) (b a : TurnState) (answer : Option Task) → answer ≡ None → TurnGoesOn turn b a answer → HasAllNothing turn b
gone_on_nothing turn b _ _ is (serves_own a h serves) = absurd (cc)
gone_on_nothing turn b _ _ is (serves_no_more a c answer serves rest) = gone_deeper_nothing turn b c answer is (nothing_left turn a c serves) rest

pub nothing_is_left : NothingIsLeft
nothing_is_left turn s t goes = let all = gone_on_nothing turn t s None refl goes in (all.own, all.deeper)

-- what is handed out is in hand ------------------------------------------------------------------------------

-- of this turn, or of a deeper one
pub record IsHeldWithin (turn : Turn) (t : TurnState) (h : Task) : Type 0 where
  pub holder : Turn
  pub within : (holder ≡ turn) ⊎ (is_deeper turn holder ≡ true)
  pub held : in_hand t.agenda holder ≡ Some h

own_held : (turn : Turn) (t : TurnState) (answer : Option Task) → IfSome answer (λ h. in_hand t.agenda turn ≡ Some h) → IfSome answer (IsHeldWithin turn t)
own_held turn t None held = tt
own_held turn t (Some h) held = record { holder = turn; within = inl refl; held = held }

deeper_held : (turn : Turn) (b a : TurnState) (answer : Option Task) → ServesDeeper turn b a answer → IfSome answer (IsHeldWithin turn b)
deeper_held turn b _ _ (none_deeper none) = tt
deeper_held turn b _ _ (deeper_has_one a u h deep serves) = record { holder = u; within = inr deep; held = served_held u b a (Some h) serves }
deeper_held turn b _ _ (deeper_has_none a c u answer deep serves rest) = deeper_held turn b c answer rest

picked_held : (turn : Turn) (b a : TurnState) (answer : Option Task) → PicksUp turn b a answer → IfSome answer (IsHeldWithin turn b)
picked_held turn b _ _ (none_astray none) = tt
picked_held turn b _ _ (ends_walk a from next astray none same) = tt
picked_held turn b _ _ (finds_no_room a from word next astray found some full loses same) = tt
picked_held turn b _ _ (finds_one a c from word next answer astray found some claims only rest) = own_held turn b answer (due_held turn b c answer rest)

gone_deeper_held : (turn : Turn) (b a : TurnState) (answer : Option Task) → GoesDeeper turn b a answer → IfSome answer (IsHeldWithin turn b)
gone_deeper_held turn b _ _ (serves_inner a h serves) = deeper_held turn b a (Some h) serves
gone_deeper_held turn b _ _ (has_no_more a serves inner) = tt
gone_deeper_held turn b _ _ (looks_around a c answer serves outermost picks) = picked_held turn b c answer picks

gone_on_held : (turn : Turn) (b a : TurnState) (answer : Option Task) → TurnGoesOn turn b a answer → IfSome answer (IsHeldWithin turn b)
gone_on_held turn b _ _ (serves_own a h serves) = own_held turn b (Some h) (served_held turn b a (Some h) serves)
gone_on_held turn b _ _ (serves_no_more a c answer serves rest) = gone_deeper_held turn b c answer rest

pub holds_what_it_hands : HoldsWhatItHands
holds_what_it_hands turn s t h goes = let is = gone_on_held turn t s (Some h) goes in (is.holder, is.within, is.held)
