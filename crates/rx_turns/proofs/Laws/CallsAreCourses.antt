-- A step, a pass and a stop are courses of the engine.
use Rattle.std.proofs.Common.{◌≡◌, ℕ, ◌+◌, ◌==◌, min, Bool, true, false, cond, List, [], ◌∷◌, ◌++◌, map, Option, Some, None, option_map, refl, sym, ap}
use Rattle.std.proofs.Common.{subst, ◌∙◌, append-nil, slice_get, if◌then◌else◌}
use Rattle.std.proofs.Math.Bool.{not}
use Rattle.std.proofs.lemmas.Bool.{false≢true}
use Rattle.std.proofs.lemmas.Option.{same_Some}
use Rattle.rx_resource.specs.declared.Resource.{Ghosts}
use Rattle.rx_resource.specs.declared.token.Token.{Token}
use Rattle.rx_lanes.specs.declared.names.LaneName.{LaneName}
use Rattle.rx_lanes.specs.declared.names.Due.{Due}
use Rattle.rx_roles.specs.declared.effect.Effect.{Effect as Sent}
use Rattle.rx_roles.specs.declared.effect.What.{What}
use Rattle.rx_engine.specs.States.{IsPromised}
use Rattle.rx_cellar.specs.declared.shapes.Command.{Command}
use Rattle.rx_cellar.specs.declared.shapes.Answer.{Answer}
use Rattle.rx_cellar.specs.declared.shapes.Effect.{Effect}
use Rattle.rx_cellar.specs.declared.cellar.Cellar.{Cellar}
use Rattle.rx_cellar.specs.Cellars.{most}
use Rattle.rx_cellar.specs.Crossings.{effect_of, what_of}
use Rattle.rx_cellar.specs.Serving.{IsTakenIf, IsGivenUpIf, IsGivenUp, GivesBackIf, Gives}
use Rattle.rx_cellar.specs.Words.{named, is_inside, word_of_due}
use Rattle.rx_turns.specs.declared.agenda.Turn.{Turn}
use Rattle.rx_turns.specs.declared.agenda.Task.{Task}
use Rattle.rx_turns.specs.Agendas.{in_hand, has_nothing, LosesNothing}
use Rattle.rx_turns.specs.States.{TurnState}
use Rattle.rx_turns.specs.Serving.{HandsOut, AsksLane, gives_one, gives_none, TakesOff, Drops, TakesDue, nothing_due, has_one, has_none}
use Rattle.rx_turns.specs.Serving.{Serves, hands_again, goes_on, ends_lane, serves_none, ServesDeeper, none_deeper, deeper_has_one, deeper_has_none}
use Rattle.rx_cellar.specs.Asking.{asked_of, asked_as}
use Rattle.rx_cellar.specs.Serving.{words_due}
use Rattle.rx_turns.specs.Making.{inner_lane, lane_at_once, Comes, comes_at_once, all_wait, ComesIf, IsMadeBy, MakesOnLine, makes_there, finds_no_room, MakesIn, is_made}
use Rattle.rx_turns.specs.Making.{is_made_bare, finds_no_line}
use Rattle.rx_turns.specs.Ending.{LetsLaneGo, holds_none, stays_in_hand, lets_inner_go, gives_lane_up, EndsTurn, StopsDeeper, all_ended, one_ended}
use Rattle.rx_turns.specs.Ending.{LeavesTo, is_claimed, stays_due}
use Rattle.rx_turns.specs.Calls.{HasNoted, PicksUp, none_astray, ends_walk, finds_no_room, finds_one, GoesDeeper, serves_inner, has_no_more, looks_around}
use Rattle.rx_turns.specs.Calls.{TurnGoesOn, serves_own, serves_no_more, MakesAny}
use Rattle.rx_turns.specs.Courses.{Seen, was_told, came_back, seen_told, seen_back, IsEngineCourse, tag_done, HandsFrom, IsHandedOf, hands_none, hands_new, hands_old}
use Rattle.rx_turns.specs.Courses.{IsStepCourse, as_back, AreBack, none_back, one_back, IsEndCourse, CallsAreCourses}
use Rattle.rx_turns.proofs.Lines.{is_same-self}
use Rattle.rx_turns.proofs.Laws.HandsKept.{all_stay, then_hands, was_unbegun, one_held, noted_hands, ChangesDues, claimed_dues, same_dues, home_dues, all_dues}
use Rattle.rx_turns.proofs.Laws.CoursesTold.{unchanged, by_take, by_giving_up, and_then}
use Rattle.rx_turns.proofs.CommandsAreCourses.{told_first}
use Rattle.rx_turns.proofs.CommandsTold.{handed_with, made_course, none_handed_with, same_tag}

abbrev Tells : Ghosts Token → TurnState → TurnState → List Seen → Type 0
Tells g s t acts = IsEngineCourse g s.cellar.engine t.cellar.engine acts

-- a turn that is where a course led
at_end : (g : Ghosts Token) (s t : TurnState) (v : Cellar) (acts : List Seen) → t.cellar ≡ v → IsEngineCourse g s.cellar.engine v.engine acts →
    Tells g s t acts
at_end g s t v acts same p = subst (λ (c : Cellar). IsEngineCourse g s.cellar.engine c.engine acts) (sym same) p

-- nothing is told ----------------------------------------------------------------------------------------

record Stays (g : Ghosts Token) (s t : TurnState) : Type 0 where
  course : Tells g s t []
  tickets : t.tickets ≡ s.tickets
  hands : HandsFrom s t None

by_agenda : (g : Ghosts Token) (s t : TurnState) → t.cellar ≡ s.cellar → t.tickets ≡ s.tickets → HandsFrom s t None → Stays g s t
by_agenda g s t same tickets hands =
    record { course = unchanged g s.cellar.engine t.cellar.engine (ap (λ (c : Cellar). c.engine) same); tickets = tickets; hands = hands }

same_state : (g : Ghosts Token) (s t : TurnState) → t ≡ s → Stays g s t
same_state g s t same =
    by_agenda g s t (ap (λ (x : TurnState). x.cellar) same) (ap (λ (x : TurnState). x.tickets) same)
    (all_stay s t None (λ u. ap (λ (x : TurnState). in_hand x.agenda u) same))

by_two : (g : Ghosts Token) (s t u : TurnState) → Stays g s t → Stays g t u → Stays g s u
by_two g s t u p q =
    record { course = and_then p.course q.course; tickets = q.tickets ∙ p.tickets; hands = then_hands s t u None p.hands q.hands }

by_dues : (g : Ghosts Token) (s t : TurnState) → ChangesDues s t → Stays g s t
by_dues g s t changes = by_agenda g s t changes.cellar changes.tickets (all_stay s t None changes.hands)

by_room : (g : Ghosts Token) (s t : TurnState) → LosesNothing s.agenda t.agenda → t ≡ record s { agenda = t.agenda } → Stays g s t
by_room g s t loses only =
    by_agenda g s t (ap (λ (x : TurnState). x.cellar) only) (ap (λ (x : TurnState). x.tickets) only) (all_stay s t None loses.hands)

noted : (g : Ghosts Token) (by ticket : ℕ) (s t : TurnState) → HasNoted by ticket s t → Stays g s t
noted g by ticket s t marks =
    by_agenda g s t (ap (λ (x : TurnState). x.cellar) marks.only) (ap (λ (x : TurnState). x.tickets) marks.only) (noted_hands by ticket s t marks)

forgot : (g : Ghosts Token) (place : ℕ) (s t : TurnState) → TakesOff place s t → Stays g s t
forgot g place s t gone =
    by_agenda g s t (ap (λ (x : TurnState). x.cellar) gone.only) (ap (λ (x : TurnState). x.tickets) gone.only) (all_stay s t None gone.gone.hands)

dropped : (g : Ghosts Token) (turn : Turn) (s t : TurnState) → Drops turn s t → Stays g s t
dropped g turn s t drops =
    by_agenda g s t (ap (λ (x : TurnState). x.cellar) drops.only) (ap (λ (x : TurnState). x.tickets) drops.only) (one_held turn None s t drops.holds)

-- taking -------------------------------------------------------------------------------------------------

record IsOneTold (g : Ghosts Token) (s t : Cellar) (e : Effect) : Type 0 where
  lane : LaneName
  course : IsEngineCourse g s.engine t.engine (was_told lane e ∷ [])

one_taken : (g : Ghosts Token) (o : Option LaneName) (inside : Bool) (by : ℕ) (s t : Cellar) (e : Effect) → IsPromised s.engine →
    IsTakenIf o inside by s t (Some e) → IsOneTold g s t e
one_taken g None inside by s t e kept (same, none) = absurd (cc)
one_taken g (Some name) inside by s t e kept k =
    by_given k.given (by_take g s.engine t.engine name inside by k.given kept k.take) k.is_shown where
      by_given : (o : Option Sent) → IsEngineCourse g s.engine t.engine (seen_told name o) → Some e ≡ option_map effect_of o → IsOneTold g s t e
      by_given None p same = absurd (cc)
      by_given (Some sent) p same = record {
        lane = name;
        course = subst (λ (x : Effect). IsEngineCourse g s.engine t.engine (was_told name x ∷ [])) (sym (same_Some e (effect_of sent) same)) p;
      }

none_taken : (g : Ghosts Token) (o : Option LaneName) (inside : Bool) (by : ℕ) (s t : Cellar) → IsPromised s.engine → IsTakenIf o inside by s t None →
    IsEngineCourse g s.engine t.engine []
none_taken g None inside by s t kept (same, none) = unchanged g s.engine t.engine (ap (λ (c : Cellar). c.engine) same)
none_taken g (Some name) inside by s t kept k =
    by_given k.given (by_take g s.engine t.engine name inside by k.given kept k.take) k.is_shown where
      by_given : (o : Option Sent) → IsEngineCourse g s.engine t.engine (seen_told name o) → None ≡ option_map effect_of o →
          IsEngineCourse g s.engine t.engine []
      by_given None p same = p
      by_given (Some sent) p same = absurd (cc)

abbrev Goes : Ghosts Token → TurnState → TurnState → Option Task → Type 0
Goes g s t handed = IsStepCourse g [] s t handed

asked : (g : Ghosts Token) (turn : Turn) (word : ℕ) (s t : TurnState) (answer : Option Task) → AsksLane turn word s t answer → Goes g s t answer
asked g turn word s t _ (gives_one v e h kept is out) =
    let one = one_taken g (named s.cellar.engine.parts.lanes word) (is_inside word) turn.by s.cellar v e kept is in
    record {
      told = was_told one.lane h.effect ∷ [];
      course = subst (λ (x : Effect). Tells g s t (was_told one.lane x ∷ [])) (sym (ap (λ (x : Task). x.effect) out.is_new))
          (at_end g s t v (was_told one.lane e ∷ []) (ap (λ (x : TurnState). x.cellar) out.only) one.course);
      handed_so = hands_new one.lane h (ap (λ (x : Task). x.ticket) out.is_new) (ap (λ (x : TurnState). x.tickets) out.only);
      hands = one_held turn (Some h) s t out.holds;
    }
asked g turn word s t _ (gives_none v kept is same) = record {
  told = [];
  course = at_end g s t v [] (ap (λ (x : TurnState). x.cellar) same)
      (none_taken g (named s.cellar.engine.parts.lanes word) (is_inside word) turn.by s.cellar v kept is);
  handed_so = hands_none (ap (λ (x : TurnState). x.tickets) same);
  hands = all_stay s t None (λ u. ap (λ (x : TurnState). in_hand x.agenda u) same);
}

-- one after another --------------------------------------------------------------------------------------

since : (s t u : TurnState) (answer : Option Task) (told : List Seen) → t.tickets ≡ s.tickets → HandsFrom s t None → IsHandedOf t u answer told →
    IsHandedOf s u answer told
since s t u _ _ tickets hands (hands_none same) = hands_none (same ∙ tickets)
since s t u _ _ tickets hands (hands_new lane h next now_is) = hands_new lane h (next ∙ ap (λ (n : ℕ). min (n + 1) most) tickets) now_is
since s t u _ _ tickets hands (hands_old turn h held unbegun same) =
    hands_old turn h (was_unbegun s t turn h hands held unbegun) unbegun (same ∙ tickets)

behind : (g : Ghosts Token) (s t u : TurnState) (answer : Option Task) → Stays g s t → Goes g t u answer → Goes g s u answer
behind g s t u answer p q = record {
  told = q.told;
  course = and_then p.course q.course;
  handed_so = since s t u answer q.told p.tickets p.hands q.handed_so;
  hands = then_hands s t u answer p.hands q.hands;
}

none_told : (s t : TurnState) (answer : Option Task) (told : List Seen) → answer ≡ None → IsHandedOf s t answer told → (told ≡ []) × (t.tickets ≡ s.tickets)
none_told s t _ _ is (hands_none same) = (refl, same)
none_told s t _ _ is (hands_new lane h next now_is) = absurd (cc)
none_told s t _ _ is (hands_old turn h held unbegun same) = absurd (cc)

-- what hands out nothing tells nothing
empty_step : (g : Ghosts Token) (s t : TurnState) → Goes g s t None → Stays g s t
empty_step g s t p =
    let none = none_told s t None p.told refl p.handed_so in
    record { course = subst (λ (xs : List Seen). Tells g s t xs) none.0 p.course; tickets = none.1; hands = p.hands }

none_step : (g : Ghosts Token) (s t : TurnState) → Stays g s t → Goes g s t None
none_step g s t p = record { told = []; course = p.course; handed_so = hands_none p.tickets; hands = p.hands }

-- serving ------------------------------------------------------------------------------------------------

due_taken : (g : Ghosts Token) (turn : Turn) (b a : TurnState) (answer : Option Task) → TakesDue turn b a answer → Goes g a b answer
due_taken g turn b _ _ (nothing_due none) = none_step g b b (same_state g b b refl)
due_taken g turn b _ _ (has_one a c place places h due gone asks) = behind g a c b (Some h) (forgot g place a c gone) (asked g turn _ c b (Some h) asks)
due_taken g turn b _ _ (has_none a c d place places answer due gone asks rest) =
    behind g a c b answer (forgot g place a c gone)
    (behind g c d b answer (empty_step g c d (asked g turn _ c d None asks)) (due_taken g turn b d answer rest))

served : (g : Ghosts Token) (turn : Turn) (b a : TurnState) (answer : Option Task) → Serves turn b a answer → Goes g a b answer
served g turn b _ _ (hands_again h hand unbegun) = record {
  told = [];
  course = unchanged g b.cellar.engine b.cellar.engine refl;
  handed_so = hands_old turn h hand unbegun refl;
  hands = all_stay b b (Some h) (λ u. refl);
}
served g turn b _ _ (goes_on a h next hand begun asks) = asked g turn _ a b (Some next) asks
served g turn b _ _ (ends_lane a c d h answer hand begun asks drops rest) =
    behind g a c b answer (empty_step g a c (asked g turn _ a c None asks))
    (behind g c d b answer (dropped g turn c d drops) (due_taken g turn b d answer rest))
served g turn b _ _ (serves_none a answer hand rest) = due_taken g turn b a answer rest

deeper_served : (g : Ghosts Token) (turn : Turn) (b a : TurnState) (answer : Option Task) → ServesDeeper turn b a answer → Goes g a b answer
deeper_served g turn b _ _ (none_deeper none) = none_step g b b (same_state g b b refl)
deeper_served g turn b _ _ (deeper_has_one a u h deep serves) = served g u b a (Some h) serves
deeper_served g turn b _ _ (deeper_has_none a c u answer deep serves rest) =
    behind g a c b answer (empty_step g a c (served g u c a None serves)) (deeper_served g turn b c answer rest)

picked_up : (g : Ghosts Token) (turn : Turn) (b a : TurnState) (answer : Option Task) → PicksUp turn b a answer → Goes g a b answer
picked_up g turn b _ _ (none_astray none) = none_step g b b (same_state g b b refl)
picked_up g turn b _ _ (ends_walk a from next astray none same) =
    none_step g a b (by_agenda g a b (ap (λ (x : TurnState). x.cellar) same) (ap (λ (x : TurnState). x.tickets) same)
    (all_stay a b None (λ u. ap (λ (x : TurnState). in_hand x.agenda u) same)))
picked_up g turn b _ _ (finds_no_room a from word next astray found some full loses same) = none_step g a b (by_room g a b loses same)
picked_up g turn b _ _ (finds_one a u from word next answer astray found some claims only rest) =
    behind g a u b answer (by_agenda g a u (ap (λ (x : TurnState). x.cellar) only) (ap (λ (x : TurnState). x.tickets) only) (all_stay a u None claims.hands))
    (due_taken g turn b u answer rest)

gone_deeper : (g : Ghosts Token) (turn : Turn) (b a : TurnState) (answer : Option Task) → GoesDeeper turn b a answer → Goes g a b answer
gone_deeper g turn b _ _ (serves_inner a h serves) = deeper_served g turn b a (Some h) serves
gone_deeper g turn b _ _ (has_no_more a serves inner) = deeper_served g turn b a None serves
gone_deeper g turn b _ _ (looks_around a c answer serves outermost picks) =
    behind g a c b answer (empty_step g a c (deeper_served g turn c a None serves)) (picked_up g turn b c answer picks)

gone_on : (g : Ghosts Token) (turn : Turn) (b a : TurnState) (answer : Option Task) → TurnGoesOn turn b a answer → Goes g a b answer
gone_on g turn b _ _ (serves_own a h serves) = served g turn b a (Some h) serves
gone_on g turn b _ _ (serves_no_more a c answer serves deeper) =
    behind g a c b answer (empty_step g a c (served g turn c a None serves)) (gone_deeper g turn b c answer deeper)

-- commands -----------------------------------------------------------------------------------------------

-- what a command takes is in hand, and not begun; or it takes nothing
data MakesCourse (g : Ghosts Token) (turn : Turn) (tags : List Seen) (s t : TurnState) : Type 0 where
  takes_own : (lane : LaneName) (h : Task) → in_hand t.agenda turn ≡ Some h → h.is_begun ≡ false → h.ticket ≡ min (s.tickets + 1) most →
      t.tickets ≡ h.ticket → HandsFrom s t (Some h) → Tells g s t (tags ++ was_told lane h.effect ∷ []) → MakesCourse g turn tags s t
  takes_none : Tells g s t tags → t.tickets ≡ s.tickets → HandsFrom s t None → MakesCourse g turn tags s t

-- the lane whose item was handed out with the answer is the first that is due
first_told : (due : List Due) (e : Effect) (word : ℕ) → slice_get (map word_of_due due) 0 ≡ Some word →
    (lane : LaneName) × (told_first due e ≡ was_told lane e ∷ [])
first_told [] e word is = absurd (cc)
first_told (d ∷ ds) e word is = (d.lane, refl)

no_first : (given : Option Effect) (due : List Due) → lane_at_once given (map word_of_due due) ≡ None → handed_with due given ≡ []
no_first None due is = refl
no_first (Some e) [] is = refl
no_first (Some e) (d ∷ ds) is = absurd (cc)

module _ (g : Ghosts Token) (turn : Turn) (tags : List Seen) (s w t : TurnState) (v : Cellar) (given : Option Effect) (cellar_is : w.cellar ≡ v)
    (tickets_are : w.tickets ≡ s.tickets) (hands : HandsFrom s w None)
    (p : IsEngineCourse g s.cellar.engine v.engine (tags ++ handed_with v.engine.parts.lanes.due given)) where
  at_once : (word : ℕ) (e : Effect) (h : Task) → given ≡ Some e → slice_get (words_due v) 0 ≡ Some word → HandsOut turn word e w t h →
      MakesCourse g turn tags s t
  at_once word e h gives now_is out =
      let first = first_told v.engine.parts.lanes.due e word now_is in
      let told : handed_with v.engine.parts.lanes.due given ≡ was_told first.0 h.effect ∷ [] =
      ap (handed_with v.engine.parts.lanes.due) gives
      ∙ (first.1 ∙ ap (λ (x : Effect). was_told first.0 x ∷ []) (sym (ap (λ (x : Task). x.effect) out.is_new))) in
      takes_own first.0 h (out.holds.hands turn ∙ ap (λ x. cond x (Some h) (in_hand w.agenda turn)) (is_same-self turn)) (ap (λ (x : Task). x.is_begun) out.is_new)
      (ap (λ (x : Task). x.ticket) out.is_new ∙ ap (λ (n : ℕ). min (n + 1) most) tickets_are) (ap (λ (x : TurnState). x.tickets) out.only)
      (then_hands s w t (Some h) hands (one_held turn (Some h) w t out.holds))
      (at_end g s t v (tags ++ was_told first.0 h.effect ∷ []) (ap (λ (x : TurnState). x.cellar) out.only ∙ cellar_is)
      (subst (λ (xs : List Seen). IsEngineCourse g s.cellar.engine v.engine (tags ++ xs)) told p))

  later : handed_with v.engine.parts.lanes.due given ≡ [] → ChangesDues w t → MakesCourse g turn tags s t
  later none changes =
      takes_none (at_end g s t v tags (changes.cellar ∙ cellar_is)
      (subst (λ (xs : List Seen). IsEngineCourse g s.cellar.engine v.engine xs) (ap (λ (xs : List Seen). tags ++ xs) none ∙ append-nil tags) p))
      (changes.tickets ∙ tickets_are)
      (then_hands s w t None hands (all_stay w t None changes.hands))

  come : (is_own : Bool) → Comes turn (words_due v) given w t is_own → MakesCourse g turn tags s t
  come _ (comes_at_once word e h gives now_is out) = at_once word e h gives now_is out
  come _ (all_wait none claimed) = later (no_first given v.engine.parts.lanes.due none) (all_dues turn t (words_due v) w claimed)

  come_if : (is_own done : Bool) → ComesIf done turn (words_due v) given w t is_own → (done ≡ false → given ≡ None) → MakesCourse g turn tags s t
  come_if is_own true comes undone = come is_own comes
  come_if is_own false (same, none) undone = later (ap (handed_with v.engine.parts.lanes.due) (undone refl)) (same_dues w t same)

-- a command that a turn makes, from a state with the same engine
made_by : (g : Ghosts Token) (turn : Turn) (is_free : Bool) (c : Command) (s u t : TurnState) (a b : Answer) (status : ℕ) (is_own : Bool) →
    Stays g s u → u.cellar ≡ s.cellar → IsMadeBy g turn is_free c u t a b status is_own → MakesCourse g turn (tag_done (Some c) status) s t
made_by g turn is_free c s u t a b status is_own line same by =
    let asked = asked_as (not is_free) (asked_of c) in
    let made = made_course g asked turn.by u.cellar by.cellar a b by.given status by.stood by.made in
    let due = handed_with by.cellar.engine.parts.lanes.due by.given in
    let p = subst (λ (xs : List Seen). IsEngineCourse g u.cellar.engine by.cellar.engine ((if status == 0 then xs else []) ++ due))
    (same_tag (not is_free) (asked_of c)) made in
    let v : TurnState = record u { cellar = by.cellar } in
    let home = home_dues turn v by.between (inner_lane (status == 0) c by.cellar) by.home in
    come_if g turn (tag_done (Some c) status) s by.between t by.cellar by.given home.cellar (home.tickets ∙ line.tickets)
    (then_hands s v by.between None line.hands (all_stay v by.between None home.hands))
    (subst (λ (x : Cellar). IsEngineCourse g x.engine by.cellar.engine (tag_done (Some c) status ++ due)) same p)
    is_own (status == 0) by.comes (none_handed_with g asked turn.by u.cellar by.cellar a b by.given status by.made)

made_in : (g : Ghosts Token) (turn : Turn) (c : Command) (s t : TurnState) (a b : Answer) (status : ℕ) (is_own : Bool) →
    MakesIn g turn c s t a b status is_own → MakesCourse g turn (tag_done (Some c) status) s t
made_in g turn c s t a b status is_own (is_made u _ _ admits there) = on_line (has_nothing s.agenda turn) status is_own there where
  on_line : (is_free : Bool) (status : ℕ) (is_own : Bool) → MakesOnLine g turn is_free c u t a b status is_own →
      MakesCourse g turn (tag_done (Some c) status) s t
  on_line is_free _ _ (makes_there v status is_own loses only by) =
      made_by g turn is_free c s v t a b status is_own (by_two g s u v (by_room g s u admits.loses admits.only) (by_room g u v loses only))
      (ap (λ (x : TurnState). x.cellar) only ∙ ap (λ (x : TurnState). x.cellar) admits.only) by
  on_line is_free _ _ (finds_no_room many opening full loses only none) =
      let stays = by_two g s u t (by_room g s u admits.loses admits.only) (by_room g u t loses only) in takes_none stays.course stays.tickets stays.hands
made_in g turn c s t a b _ _ (is_made_bare u status full asks loses only by) =
    made_by g turn true c s u t a b status false (by_room g s u loses only) (ap (λ (x : TurnState). x.cellar) only) by
made_in g turn c s t a b _ _ (finds_no_line full asks loses only none) =
    let stays = by_room g s t loses only in takes_none stays.course stays.tickets stays.hands

made_any : (g : Ghosts Token) (turn : Turn) (c : Option Command) (s t : TurnState) (a b : Answer) (status : ℕ) (is_own : Bool) →
    MakesAny g turn c s t a b status is_own → MakesCourse g turn (tag_done c status) s t
made_any g turn None s t a b status is_own (same, none, zero, own) =
    let stays = same_state g s t same in takes_none stays.course stays.tickets stays.hands
made_any g turn (Some c) s t a b status is_own makes = made_in g turn c s t a b status is_own makes

-- what was not begun is handed out, and nothing changes
fresh_served : (turn : Turn) (b a : TurnState) (h : Task) (answer : Option Task) → in_hand a.agenda turn ≡ Some h → h.is_begun ≡ false →
    Serves turn b a answer → (answer ≡ Some h) × (b ≡ a)
fresh_served turn b _ h _ hand fresh (hands_again k held new) = (sym held ∙ hand, refl)
fresh_served turn b _ h _ hand fresh (goes_on a k next held begun asks) =
    absurd (false≢true (sym fresh ∙ (ap (λ (x : Task). x.is_begun) (same_Some h k (sym hand ∙ held)) ∙ begun)))
fresh_served turn b _ h _ hand fresh (ends_lane a c d k answer held begun asks drops rest) =
    absurd (false≢true (sym fresh ∙ (ap (λ (x : Task). x.is_begun) (same_Some h k (sym hand ∙ held)) ∙ begun)))
fresh_served turn b _ h _ hand fresh (serves_none a answer none rest) = let both : None ≡ Some h = sym none ∙ hand in absurd (cc)

fresh_goes : (turn : Turn) (b a : TurnState) (h : Task) (answer : Option Task) → in_hand a.agenda turn ≡ Some h → h.is_begun ≡ false →
    TurnGoesOn turn b a answer → (answer ≡ Some h) × (b ≡ a)
fresh_goes turn b _ h _ hand fresh (serves_own a k serves) = fresh_served turn b a h (Some k) hand fresh serves
fresh_goes turn b _ h _ hand fresh (serves_no_more a c answer serves deeper) =
    let both : None ≡ Some h = (fresh_served turn c a h None hand fresh serves).0 in absurd (cc)

stepped : (g : Ghosts Token) (turn : Turn) (tags : List Seen) (s m t : TurnState) (handed : Option Task) → MakesCourse g turn tags s m →
    TurnGoesOn turn t m handed → IsStepCourse g tags s t handed
stepped g turn tags s m t handed (takes_own lane h hand fresh next now_is hands p) goes =
    let again = fresh_goes turn t m h handed hand fresh goes in
    subst (λ (x : TurnState). IsStepCourse g tags s x handed) (sym again.1)
    (subst (λ (o : Option Task). IsStepCourse g tags s m o) (sym again.0)
    (record { told = was_told lane h.effect ∷ []; course = p; handed_so = hands_new lane h next now_is; hands = hands }))
stepped g turn tags s m t handed (takes_none p tickets hands) goes =
    let rest = gone_on g turn t m handed goes in
    record {
      told = rest.told;
      course = and_then p rest.course;
      handed_so = since s m t handed rest.told tickets hands rest.handed_so;
      hands = then_hands s m t handed hands rest.hands;
    }

-- giving up ----------------------------------------------------------------------------------------------

-- nothing comes back, or this effect
data GivesOne (g : Ghosts Token) (s t : Cellar) (e : Effect) : Type 0 where
  comes_none : IsEngineCourse g s.engine t.engine [] → GivesOne g s t e
  comes_one : (lane : LaneName) (what : What) → what_of e.kind ≡ Some what → IsEngineCourse g s.engine t.engine (came_back lane (as_back e what) ∷ []) →
      GivesOne g s t e

nothing_back : (g : Ghosts Token) (name : LaneName) (by : ℕ) (s t : Cellar) (is_left status : ℕ) → IsPromised s.engine → Gives name by None s t is_left status →
    IsEngineCourse g s.engine t.engine []
nothing_back g name by s t is_left status kept k = by_answer k.answer (by_giving_up g s.engine t.engine name by None k.answer kept k.give) where
  by_answer : (o : Option Bool) → IsEngineCourse g s.engine t.engine (seen_back name o None) → IsEngineCourse g s.engine t.engine []
  by_answer None p = p
  by_answer (Some left) p = p

abbrev inner : LaneName → Effect → What → Sent
inner name e what = record { lane = name; user = e.user; value = e.value; by = e.by; what = what }

something_back : (g : Ghosts Token) (name : LaneName) (by : ℕ) (e : Effect) (what : What) (s t : Cellar) (is_left status : ℕ) → IsPromised s.engine →
    what_of e.kind ≡ Some what → Gives name by (Some (inner name e what)) s t is_left status → GivesOne g s t e
something_back g name by e what s t is_left status kept kind k =
    by_answer k.answer (by_giving_up g s.engine t.engine name by (Some (inner name e what)) k.answer kept k.give) where
      by_answer : (o : Option Bool) → IsEngineCourse g s.engine t.engine (seen_back name o (Some (inner name e what))) → GivesOne g s t e
      by_answer None p = comes_none p
      by_answer (Some left) p = comes_one name what kind p

none_given_up : (g : Ghosts Token) (o : Option LaneName) (by : ℕ) (s t : Cellar) (is_left status : ℕ) → IsPromised s.engine →
    GivesBackIf o by None s t is_left status → IsEngineCourse g s.engine t.engine []
none_given_up g None by s t is_left status kept (same, none, gone) = unchanged g s.engine t.engine (ap (λ (c : Cellar). c.engine) same)
none_given_up g (Some name) by s t is_left status kept k = nothing_back g name by s t is_left status kept k

one_given_up : (g : Ghosts Token) (o : Option LaneName) (by : ℕ) (e : Effect) (what : What) (s t : Cellar) (is_left status : ℕ) → IsPromised s.engine →
    what_of e.kind ≡ Some what → GivesBackIf o by (Some e) s t is_left status → GivesOne g s t e
one_given_up g None by e what s t is_left status kept kind (same, none, gone) =
    comes_none (unchanged g s.engine t.engine (ap (λ (c : Cellar). c.engine) same))
one_given_up g (Some name) by e what s t is_left status kept kind k =
    something_back g name by e what s t is_left status kept kind
    (subst (λ (x : Option Sent). Gives name by x s t is_left status) (ap (option_map (inner name e)) kind) k)

given_by_kind : (g : Ghosts Token) (word by : ℕ) (e : Effect) (s t : Cellar) (is_left status : ℕ) → IsPromised s.engine → (w : Option What) →
    what_of e.kind ≡ w → IsGivenUpIf (option_map (λ (x : What). Some e) w) word by s t is_left status → GivesOne g s t e
given_by_kind g word by e s t is_left status kept None kind (same, none, code) =
    comes_none (unchanged g s.engine t.engine (ap (λ (c : Cellar). c.engine) same))
given_by_kind g word by e s t is_left status kept (Some what) kind k =
    one_given_up g (named s.engine.parts.lanes word) by e what s t is_left status kept kind k

ends_so : (g : Ghosts Token) (s t : TurnState) → Stays g s t → IsEndCourse g s t
ends_so g s t p = record { back = []; course = p.course; back_so = none_back; tickets = p.tickets; hands = p.hands }

-- what is given up was in hand
given_up : (g : Ghosts Token) (turn : Turn) (h : Task) (s u t : TurnState) (v : Cellar) (is_left status : ℕ) → in_hand s.agenda turn ≡ Some h →
    Drops turn s u → IsPromised s.cellar.engine → t ≡ record u { cellar = v } → (b : Bool) → h.is_begun ≡ b →
    IsGivenUp h.word turn.by (if b then [] else h.effect ∷ []) s.cellar v is_left status → IsEndCourse g s t
given_up g turn h s u t v is_left status hand drops kept same true begun is = record {
  back = [];
  course = at_end g s t v [] (ap (λ (x : TurnState). x.cellar) same)
      (none_given_up g (named s.cellar.engine.parts.lanes h.word) turn.by s.cellar v is_left status kept is);
  back_so = none_back;
  tickets = ap (λ (x : TurnState). x.tickets) same ∙ ap (λ (x : TurnState). x.tickets) drops.only;
  hands = then_hands s u t None (one_held turn None s u drops.holds) (all_stay u t None (λ w. ap (λ (x : TurnState). in_hand x.agenda w) same));
}
given_up g turn h s u t v is_left status hand drops kept same false unbegun is =
    by_one (given_by_kind g h.word turn.by h.effect s.cellar v is_left status kept (what_of h.effect.kind) refl is) where
      tickets_stay : t.tickets ≡ s.tickets
      tickets_stay = ap (λ (x : TurnState). x.tickets) same ∙ ap (λ (x : TurnState). x.tickets) drops.only

      hands_from : HandsFrom s t None
      hands_from = then_hands s u t None (one_held turn None s u drops.holds) (all_stay u t None (λ w. ap (λ (x : TurnState). in_hand x.agenda w) same))

      by_one : GivesOne g s.cellar v h.effect → IsEndCourse g s t
      by_one (comes_none p) =
          record {
            back = [];
            course = at_end g s t v [] (ap (λ (x : TurnState). x.cellar) same) p;
            back_so = none_back;
            tickets = tickets_stay;
            hands = hands_from;
          }
      by_one (comes_one lane what kind p) =
          record {
            back = came_back lane (as_back h.effect what) ∷ [];
            course = at_end g s t v (came_back lane (as_back h.effect what) ∷ []) (ap (λ (x : TurnState). x.cellar) same) p;
            back_so = one_back lane turn h what [] hand unbegun kind none_back;
            tickets = tickets_stay;
            hands = hands_from;
          }

let_go : (g : Ghosts Token) (turn : Turn) (s t : TurnState) (left : Option ℕ) → LetsLaneGo turn s t left → IsEndCourse g s t
let_go g turn s t _ (holds_none none same) = ends_so g s t (same_state g s t same)
let_go g turn s t _ (stays_in_hand h hand inside unbegun same) = ends_so g s t (same_state g s t same)
let_go g turn s t _ (lets_inner_go h hand inside begun drops) = ends_so g s t (dropped g turn s t drops)
let_go g turn s t _ (gives_lane_up h u v is_left hand outside drops kept gives same) =
    given_up g turn h s u t v is_left gives.status hand drops kept same h.is_begun refl gives.given

-- what came back later was in hand before
back_before : (s t : TurnState) (acts : List Seen) → HandsFrom s t None → AreBack t acts → AreBack s acts
back_before s t _ hands none_back = none_back
back_before s t _ hands (one_back lane turn h what acts held unbegun kind rest) =
    one_back lane turn h what acts (was_unbegun s t turn h hands held unbegun) unbegun kind (back_before s t acts hands rest)

back_append : (s : TurnState) (xs ys : List Seen) → AreBack s xs → AreBack s ys → AreBack s (xs ++ ys)
back_append s _ ys none_back more = more
back_append s _ ys (one_back lane turn h what acts held unbegun kind rest) more =
    one_back lane turn h what (acts ++ ys) held unbegun kind (back_append s acts ys rest more)

ends_then : (g : Ghosts Token) (s t u : TurnState) → IsEndCourse g s t → IsEndCourse g t u → IsEndCourse g s u
ends_then g s t u p q = record {
  back = p.back ++ q.back;
  course = and_then p.course q.course;
  back_so = back_append s p.back q.back p.back_so (back_before s t q.back p.hands q.back_so);
  tickets = q.tickets ∙ p.tickets;
  hands = then_hands s t u None p.hands q.hands;
}

ended : (g : Ghosts Token) (turn : Turn) (s t : TurnState) → EndsTurn turn s t → IsEndCourse g s t
ended g turn s t ends =
    ends_then g s ends.between t (let_go g turn s ends.between ends.left ends.lets_go)
    (ends_so g ends.between t (by_agenda g ends.between t (ap (λ (x : TurnState). x.cellar) ends.only) (ap (λ (x : TurnState). x.tickets) ends.only)
    (all_stay ends.between t None ends.emptied.hands)))

all_stopped : (g : Ghosts Token) (turn : Turn) (t s : TurnState) → StopsDeeper turn t s → IsEndCourse g s t
all_stopped g turn t _ (all_ended none) = ends_so g t t (same_state g t t refl)
all_stopped g turn t _ (one_ended s v u deep ends rest) = ends_then g s v t (ended g u s v ends) (all_stopped g turn t v rest)

left_to : (g : Ghosts Token) (left : Option ℕ) (turn : Turn) (s t : TurnState) → LeavesTo left turn s t → Stays g s t
left_to g None turn s t same = same_state g s t same
left_to g (Some word) turn s t (is_claimed where_is claims) = by_dues g s t (claimed_dues turn word s t claims)
left_to g (Some word) turn s t (stays_due e inside stands same) = same_state g s t same

pub calls_are_courses : (g : Ghosts Token) → CallsAreCourses g
calls_are_courses g = record {
  steps = λ turn begun c s t a b step steps.
      let start = noted g turn.by begun s steps.marked steps.marks in
      let rest = stepped g turn (tag_done c step.status) steps.marked steps.made t step.handed
      (made_any g turn c steps.marked steps.made a b step.status step.is_own steps.makes) steps.goes_on in
      record {
        told = rest.told;
        course = and_then start.course rest.course;
        handed_so = since s steps.marked t step.handed rest.told start.tickets start.hands rest.handed_so;
        hands = then_hands s steps.marked t step.handed start.hands rest.hands;
      };
  passes = λ turn begun from now_is s t passes.
      ends_then g s passes.marked t (ends_so g s passes.marked (noted g turn.by begun s passes.marked passes.marks))
      (ends_then g passes.marked passes.free t (let_go g _ passes.marked passes.free passes.left passes.lets_go)
      (ends_so g passes.free t (left_to g passes.left _ passes.free t passes.leaves)));
  stops = λ turn begun s t stops.
      ends_then g s stops.marked t (ends_so g s stops.marked (noted g turn.by begun s stops.marked stops.marks))
      (ends_then g stops.marked stops.ended t (ended g turn stops.marked stops.ended stops.ends) (all_stopped g turn t stops.ended stops.deeper));
}
