-- What holds of courses of the engine holds of the calls; and what a step leaves.
use Rattle.std.proofs.Common.{◌≡◌, ◌≢◌, ℕ, ◌==◌, Bool, true, false, List, Option, Some, None, refl, sym, ap, ◌∙◌, subst, arith}
use Rattle.std.proofs.Math.Bool.{not}
use Rattle.std.proofs.lemmas.Bool.{false≢true, false_from_ne_true, eqb-true}
use Rattle.rx_resource.specs.declared.Resource.{Ghosts}
use Rattle.rx_resource.specs.declared.token.Token.{Token}
use Rattle.rx_courses.specs.Refused.{RefusedIsUnchanged}
use Rattle.rx_courses.specs.RootsTold.{TellsEachRoot}
use Rattle.rx_courses.specs.Serving.{NothingIsStuck, ServesOneAtATime}
use Rattle.rx_courses.specs.Tellings.{TellsInOrder}
use Rattle.rx_cellar.specs.declared.shapes.Command.{Command}
use Rattle.rx_cellar.specs.declared.shapes.Answer.{Answer}
use Rattle.rx_cellar.specs.declared.cellar.Cellar.{Cellar}
use Rattle.rx_cellar.specs.Crossings.{no_answer}
use Rattle.rx_turns.specs.declared.agenda.Turn.{Turn}
use Rattle.rx_turns.specs.declared.agenda.Task.{Task}
use Rattle.rx_turns.specs.Agendas.{has_nothing, LosesNothing}
use Rattle.rx_turns.specs.States.{TurnState, turn_state}
use Rattle.rx_cellar.specs.Serving.{words_due}
use Rattle.rx_cellar.specs.Asking.{asked_of, asked_as}
use Rattle.rx_cellar.specs.declared.shapes.Effect.{Effect}
use Rattle.rx_turns.specs.Making.{inner_lane, ComesHome, opens_no_inner, is_not_due, is_of_another, is_due_here}
use Rattle.rx_turns.specs.Making.{ComesIf, IsMadeBy, MakesOnLine, makes_there, finds_no_room, MakesIn, is_made, is_made_bare, finds_no_line}
use Rattle.rx_turns.specs.Calls.{TurnGoesOn}
use Rattle.rx_turns.specs.Promises.{NothingIsLeft, NothingIsAstray}
use Rattle.rx_turns.proofs.Laws.NothingLost.{loses_on}
use Rattle.cellarcliff.specs.Refusals.{KeepsAllElse, is_as_before}
use Rattle.rx_turns.specs.Telling.{handed_told, no_step}
use Rattle.cellarcliff.specs.Steps.{turn_of}
use Rattle.cellarcliff.specs.LanesServed.{AreEffectsToldInOrder, AreRootsTold, AreLanesServedOneByOne, HasAllDone, StepsLeaveNothing}
use Rattle.cellarcliff.specs.LanesServed.{RefusedCallsChangeNothing}
use Rattle.cellarcliff.proofs.RefusalsChangeNothing.{call_refused}
use Rattle.cellarcliff.proofs.FollowBothWays.{both_ways}
use Rattle.cellarcliff.proofs.CallsMakeCourses.{said, by_calls, begins_so, shows_course}
use Rattle.cellarcliff.proofs.EffectsToldOnce.{no_roles}

pub effects_told_in_order : (g : Ghosts Token) → TellsInOrder g → NothingIsStuck g → AreEffectsToldInOrder g
effects_told_in_order g law stuck max_events made first last shown new course less =
    let shows = shows_course g max_events made first last shown new course less in
    let lanes = (begins_so max_events made first new).new.engine.lanes in
    let is = shows.is_shown in
    record {
      is_shown = is;
      in_order = λ honest name. law name first.cellar.engine last.cellar.engine lanes is.is_course.course honest;
      left_named = λ honest name l found left_there.
          stuck first.cellar.engine last.cellar.engine lanes is.is_course.course honest name l found left_there;
    }

pub roots_told : (g : Ghosts Token) → TellsEachRoot g → AreRootsTold g
roots_told g law max_events made first last shown new course less =
    let shows = shows_course g max_events made first last shown new course less in
    let fresh = (begins_so max_events made first new).new.engine in
    let none = no_roles first.cellar.engine.parts.hears.list (let no_name = fresh.names in omega (arith, no_name)) in
    let is = shows.is_shown in
    record {
      is_shown = is;
      roots = λ n word name honest only. law n word name first.cellar.engine last.cellar.engine fresh.lanes none is.is_course.course honest only;
    }

pub served_one_by_one : (g : Ghosts Token) → ServesOneAtATime g → AreLanesServedOneByOne g
served_one_by_one g law s t shown kept course =
    let goes = by_calls kept course in
    record {
      seen = goes.seen;
      is_course = goes.course;
      alone = λ by name l found serves_it on. law s.cellar.engine t.cellar.engine goes.course.course by name l found serves_it on;
    }

-- a step that hands out nothing tells so
none_handed : (turn : Turn) (s t : TurnState) (handed : Option Task) → TurnGoesOn turn t s handed → handed ≡ None → TurnGoesOn turn t s None
none_handed turn s t handed goes is = subst (λ (o : Option Task). TurnGoesOn turn t s o) is goes

all_done : NothingIsLeft → NothingIsAstray → (turn : Turn) (s t : TurnState) → TurnGoesOn turn t s None → HasAllDone turn t
all_done left astray turn s t goes = let none = left turn s t goes in record {
  own = none.0;
  deeper = none.1;
  astray = λ outermost. astray turn s t outermost goes;
}

unhanded : (handed : Option Task) (is_own : Bool) (made : Answer) → (handed_told handed is_own made).handed ≡ 0 → handed ≡ None
unhanded None is_own made none = refl
unhanded (Some h) is_own made none = absurd (omega (arith, none))

pub steps_leave_nothing : (g : Ghosts Token) → NothingIsLeft → NothingIsAstray → StepsLeaveNothing g
steps_leave_nothing g left astray stack c a b s t status on none =
    let k = (said s t status on).0 in
    all_done left astray (turn_of stack) k.steps.made (turn_state t)
    (none_handed (turn_of stack) k.steps.made (turn_state t) k.step.handed k.steps.goes_on
    (unhanded k.step.handed k.step.is_own k.made (sym (ap (λ (x : Answer). x.handed) k.told) ∙ none)))

-- refused steps ----------------------------------------------------------------------------------------------

-- what was made of the engine, before the turn goes on
record Refuses (g : Ghosts Token) (s t : TurnState) (a b : Answer) (is_own : Bool) : Type 0 where
  engine : KeepsAllElse g s.cellar.engine t.cellar.engine
  released : t.cellar.released ≡ s.cellar.released
  agenda : LosesNothing s.agenda t.agenda
  tickets : t.tickets ≡ s.tickets
  astray : t.astray ≡ s.astray
  nothing_told : b ≡ no_answer a
  no_own : is_own ≡ false

-- only the agenda is another, and nothing of it is lost
record KeepsTurns (s t : TurnState) : Type 0 where
  loses : LosesNothing s.agenda t.agenda
  only : t ≡ record s { agenda = t.agenda }

keeps_on : (s u t : TurnState) → KeepsTurns s u → KeepsTurns u t → KeepsTurns s t
keeps_on s u t first more = record {
  loses = loses_on s.agenda u.agenda t.agenda first.loses more.loses;
  only = more.only ∙ ap (λ (x : TurnState). record x { agenda = t.agenda }) first.only;
}

module _ (g : Ghosts Token) (turn : Turn) (c : Command) where
  not_come : (done : Bool) (words : List ℕ) (given : Option Effect) (s t : TurnState) (is_own : Bool) → done ≡ false → ComesIf done turn words given s t is_own →
      (t ≡ s) × (is_own ≡ false)
  not_come true words given s t is_own undone comes = absurd (false≢true (sym undone))
  not_come false words given s t is_own undone comes = comes

  none_home : (s t : TurnState) (home : Option ℕ) → ComesHome turn s t home → home ≡ None → t ≡ s
  none_home s t _ (opens_no_inner same) none = same
  none_home s t _ (is_not_due word nobody same) none = same
  none_home s t _ (is_of_another word others same) none = same
  none_home s t _ (is_due_here word e stands may claims) none = absurd (cc)

  not_home : (done : Bool) (v : Cellar) (s t : TurnState) → done ≡ false → ComesHome turn s t (inner_lane done c v) → t ≡ s
  not_home true v s t undone home = absurd (false≢true (sym undone))
  not_home false v s t undone home = none_home s t None home refl

  made_refuses : (is_free : Bool) (s u t : TurnState) (a b : Answer) (status : ℕ) (is_own : Bool) → KeepsTurns s u →
      IsMadeBy g turn is_free c u t a b status is_own → status ≢ 0 → Refuses g s t a b is_own
  made_refuses is_free s u t a b status is_own keeps by undone =
      let asked = asked_as (not is_free) (asked_of c) in
      let kept = call_refused g asked turn.by u.cellar by.cellar (no_answer a) b by.given status by.made undone in
      let made : TurnState = record u { cellar = by.cellar } in
      let not_done : (status == 0) ≡ false = false_from_ne_true (status == 0) (λ zero_is. undone (eqb-true status 0 zero_is)) in
      let none = not_come (status == 0) (words_due by.cellar) by.given by.between t is_own not_done by.comes in
      let same : t ≡ made = none.0 ∙ not_home (status == 0) by.cellar made by.between not_done by.home in
      let before = ap (λ (x : TurnState). x.cellar) keeps.only in
      let after = ap (λ (x : TurnState). x.cellar) same in
      record {
        engine = subst (λ (x : Cellar). KeepsAllElse g x.engine t.cellar.engine) before
            (subst (λ (x : Cellar). KeepsAllElse g u.cellar.engine x.engine) (sym after) kept.0.engine);
        released = ap (λ (x : Cellar). x.released) after ∙ kept.0.released ∙ ap (λ (x : Cellar). x.released) before;
        agenda = subst (λ (x : TurnState). LosesNothing s.agenda x.agenda) (sym same) keeps.loses;
        tickets = ap (λ (x : TurnState). x.tickets) same ∙ ap (λ (x : TurnState). x.tickets) keeps.only;
        astray = ap (λ (x : TurnState). x.astray) same ∙ ap (λ (x : TurnState). x.astray) keeps.only;
        nothing_told = kept.1;
        no_own = none.1;
      }

  nothing_made : (s t : TurnState) (a b : Answer) → KeepsTurns s t → b ≡ no_answer a → Refuses g s t a b false
  nothing_made s t a b keeps none = let same = ap (λ (x : TurnState). x.cellar) keeps.only in record {
    engine = subst (λ (x : Cellar). KeepsAllElse g s.cellar.engine x.engine) (sym same) is_as_before;
    released = ap (λ (x : Cellar). x.released) same;
    agenda = keeps.loses;
    tickets = ap (λ (x : TurnState). x.tickets) keeps.only;
    astray = ap (λ (x : TurnState). x.astray) keeps.only;
    nothing_told = none;
    no_own = refl;
  }

  on_line : (is_free : Bool) (s u t : TurnState) (a b : Answer) (status : ℕ) (is_own : Bool) → KeepsTurns s u →
      MakesOnLine g turn is_free c u t a b status is_own → status ≢ 0 → Refuses g s t a b is_own
  on_line is_free s u t a b _ _ before (makes_there v status is_own loses only by) undone =
      made_refuses is_free s v t a b status is_own (keeps_on s u v before (record { loses = loses; only = only })) by undone
  on_line is_free s u t a b _ _ before (finds_no_room many may_open full loses only none) undone =
      nothing_made s t a b (keeps_on s u t before (record { loses = loses; only = only })) none

  refuses : (s t : TurnState) (a b : Answer) (status : ℕ) (is_own : Bool) → MakesIn g turn c s t a b status is_own → status ≢ 0 → Refuses g s t a b is_own
  refuses s t a b _ _ (is_made u status is_own line on) undone =
      on_line (has_nothing s.agenda turn) s u t a b status is_own (record { loses = line.loses; only = line.only }) on undone
  refuses s t a b _ _ (is_made_bare u status none may loses only by) undone =
      made_refuses true s u t a b status false (record { loses = loses; only = only }) by undone
  refuses s t a b _ _ (finds_no_line full may loses only none) undone = nothing_made s t a b (record { loses = loses; only = only }) none

-- what is to be done now is written over what stood there
told_over : (handed : Option Task) (is_own : Bool) (a : Answer) → handed_told handed is_own (no_step a) ≡ handed_told handed is_own (no_answer a)
told_over None is_own a = refl
told_over (Some h) is_own a = refl

pub refused_calls_change_nothing : (g : Ghosts Token) → RefusedIsUnchanged g → RefusedCallsChangeNothing g
refused_calls_change_nothing g law stack c a b s t status on undone =
    let k = (said s t status on).0 in
    let steps = k.steps in
    let kept = refuses g (turn_of stack) c steps.marked steps.made a k.made k.step.status k.step.is_own steps.makes
    (λ zero_is. undone (k.status_is ∙ zero_is)) in
    let marked = ap (λ (x : TurnState). x.cellar) steps.marks.only in
    let engine = subst (λ (x : Cellar). KeepsAllElse g x.engine steps.made.cellar.engine) marked kept.engine in
    record {
      marked = steps.marked;
      marks = steps.marks;
      between = steps.made;
      engine = engine;
      follows = λ only. both_ways g law s.cellar.engine steps.made.cellar.engine engine only;
      released = kept.released ∙ ap (λ (x : Cellar). x.released) marked;
      agenda = kept.agenda;
      tickets = kept.tickets ∙ ap (λ (x : TurnState). x.tickets) steps.marks.only;
      astray = kept.astray ∙ ap (λ (x : TurnState). x.astray) steps.marks.only;
      handed = k.step.handed;
      goes_on = steps.goes_on;
      told = k.told ∙ (λ i. handed_told k.step.handed (kept.no_own i) (kept.nothing_told i)) ∙ sym (told_over k.step.handed false a);
    }
