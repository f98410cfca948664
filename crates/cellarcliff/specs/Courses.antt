-- What the calls on one handle come to while it keeps an engine: each constructor is the clause of one export, and what its caller sees.
use Rattle.std.specs.Prelude.{◌≡◌, ◌==◌, ◌⊎◌, ◌≤◌, ◌&&◌, ℕ, ◌<◌, ◌+◌, nat_lt, Bool, true, false, List, [], ◌∷◌, ◌++◌, Option, Some, None, if◌then◌else◌}
use Rattle.std.proofs.Math.Bool.{not}
use Rattle.rx_resource.specs.declared.Resource.{Ghosts}
use Rattle.rx_resource.specs.declared.token.Token.{Token}
use Rattle.rx_engine.specs.States.{State}
use Rattle.rx_courses.specs.Courses.{all_effects, times}
use Rattle.rx_courses.specs.Tellings.{counted}
use Rattle.rx_cellar.specs.declared.shapes.Command.{Command}
use Rattle.rx_cellar.specs.declared.shapes.Effect.{Effect}
use Rattle.rx_cellar.specs.declared.reading.Totals.{Totals}
use Rattle.rx_cellar.specs.declared.reading.Event.{Event}
use Rattle.rx_cellar.specs.declared.asked.Asked.{Asked}
use Rattle.rx_cellar.specs.declared.asked.Asked.TheVariants.{Using, Hold}
use Rattle.rx_cellar.specs.declared.cellar.Cellar.{Cellar}
use Rattle.rx_cellar.specs.Asking.{asked_of}
use Rattle.rx_cellar.specs.Cellars.{most}
use Rattle.rx_cellar.specs.Crossings.{effect_of}
use Rattle.rx_cellar.specs.Readings.{no_totals}
use Rattle.rx_cellar.specs.EventsShown.{no_event}
use Rattle.rx_turns.specs.declared.turns.Turns.{Turns}
use Rattle.rx_turns.specs.States.{TurnState, turn_state}
use Rattle.rx_turns.specs.Courses.{Seen, handed_in, was_told, came_back, IsEngineCourse}
use Rattle.cellarcliff.specs.declared.stepping.Stack.{Stack}
use Rattle.rx_cellar.specs.declared.shapes.Answer.{Answer}
use Rattle.cellarcliff.specs.Answers.{TellsNoText}
use Rattle.cellarcliff.specs.Calls.{IsLooked, IsMade, IsFinished, IsNoRest, IsTotalled, IsEventAnswered}
use Rattle.cellarcliff.specs.Dumps.{IsHandedOver}
use Rattle.rx_turns.specs.Telling.{no_step}
use Rattle.cellarcliff.specs.Steps.{IsTurned, IsStepTold, IsPassTold, IsStopTold, AreClosingsTold}

-- what a caller sees -----------------------------------------------------------------------------------

-- a tag that it handed in; an effect that it was handed, and its ticket; that it let lanes go, by a pass or a stop
pub data Shown : Type 0 where
  gave_tag : (tag : ℕ) → Shown
  was_handed : (ticket : ℕ) → Effect → Shown
  let_go : Shown

abbrev pub tag_given : Option Asked → List Shown
tag_given (Some (Using at user tag)) = gave_tag tag ∷ []
tag_given (Some (Hold node tag)) = gave_tag tag ∷ []
tag_given _ = []

-- the tag of a command, where the status says that it was done
abbrev pub shown_made : Option Asked → (status : ℕ) → List Shown
shown_made asked status = if status == 0 then tag_given asked else []

abbrev pub shown_handed : Answer → List Shown
shown_handed step = if step.handed == 1 then was_handed step.ticket step.effect ∷ [] else []

-- the calls --------------------------------------------------------------------------------------------

-- a call on a handle that keeps an engine before and after it, by the definition of its clause
abbrev pub OnTurns : (TurnState → TurnState → ℕ → Type 0) → (IsBlank : Type 0) → Turns → Turns → (status : ℕ) → Type 0
OnTurns Says IsBlank s t = IsTurned Says IsBlank (Some s) (Some t)

-- and one that changes nothing
abbrev pub LooksAtTurns : (Cellar → ℕ → Type 0) → (IsBlank : Type 0) → Turns → Turns → (status : ℕ) → Type 0
LooksAtTurns Says IsBlank s t = IsLooked Says IsBlank (Some s) (Some t)

-- a prime marks what the caller's memory has after the call
pub data IsCellarCall (g : Ghosts Token) (s : Turns) : List Shown → Turns → Type 0 where
  cellar_step : {t : Turns} {status : ℕ} (stack : Stack) (command : Command) (step step' : Answer) →
      OnTurns (λ s t n. IsStepTold g stack (Some command) s t step step' n) (step' ≡ no_step step) s t status →
      IsCellarCall g s (shown_made (asked_of command) status ++ shown_handed step') t
  cellar_next : {t : Turns} {status : ℕ} (stack : Stack) (step step' : Answer) →
      OnTurns (λ s t n. IsStepTold g stack None s t step step' n) (step' ≡ no_step step) s t status → IsCellarCall g s (shown_handed step') t
  cellar_pass : {t : Turns} {status : ℕ} (stack : Stack) (from now : ℕ) →
      OnTurns (λ s t n. IsPassTold stack from (not (now == 0)) s t n) Unit s t status → IsCellarCall g s (let_go ∷ []) t
  cellar_stop : {t : Turns} {status : ℕ} (stack : Stack) → OnTurns (λ s t n. IsStopTold stack s t n) Unit s t status → IsCellarCall g s (let_go ∷ []) t
  -- calls that look
  cellar_closings : {t : Turns} {words words' : List ℕ} {count status : ℕ} (from : ℕ) →
      LooksAtTurns (λ s n. AreClosingsTold from s words words' count n) (IsNoRest words words' count) s t status → IsCellarCall g s [] t
  cellar_totals : {t : Turns} {totals : Totals} {status : ℕ} → LooksAtTurns (λ s n. IsTotalled s totals n) (totals ≡ no_totals) s t status →
      IsCellarCall g s [] t
  cellar_event : {t : Turns} {event : Event} {status : ℕ} (place : ℕ) →
      LooksAtTurns (λ s n. IsEventAnswered place s event n) (event ≡ no_event) s t status → IsCellarCall g s [] t
  cellar_dump : {t : Turns} {buffer buffer' : List ℕ} {told status : ℕ} →
      LooksAtTurns (λ s n. IsHandedOver s.engine.book buffer buffer' told n) (TellsNoText buffer buffer' told) s t status → IsCellarCall g s [] t
  -- calls that are refused because the handle keeps an engine, or that is not done
  cellar_new : {t : Turns} {status : ℕ} (max_events : ℕ) → IsMade max_events (Some s) (Some t) status → IsCellarCall g s [] t
  cellar_finish : {t : Turns} {status : ℕ} → IsFinished (Some s) (Some t) status → IsCellarCall g s [] t

-- one call after another on the engine that a handle keeps
pub data CellarCourse (g : Ghosts Token) (s : Turns) : List Shown → Turns → Type 0 where
  no_call : CellarCourse g s [] s
  calls_on : {shown more : List Shown} {t u : Turns} → CellarCourse g s shown t → IsCellarCall g t more u → CellarCourse g s (shown ++ more) u

-- a course of the engine -------------------------------------------------------------------------------

abbrev pub tags_shown : List Shown → List ℕ
tags_shown [] = []
tags_shown (gave_tag tag ∷ shown) = tag ∷ tags_shown shown
tags_shown (was_handed ticket e ∷ shown) = tags_shown shown
tags_shown (let_go ∷ shown) = tags_shown shown

-- the effects that were handed out: what comes again under a ticket that was given before counts once
abbrev pub told_from : (last : ℕ) → List Shown → List Effect
told_from last [] = []
told_from last (gave_tag tag ∷ shown) = told_from last shown
told_from last (was_handed ticket e ∷ shown) = if nat_lt last ticket then e ∷ told_from ticket shown else told_from last shown
told_from last (let_go ∷ shown) = told_from last shown

abbrev pub effects_handed : List Shown → List Effect
effects_handed shown = told_from 0 shown

-- of what is seen of a course of the engine, its tags, the effects that were told, and those that came back
abbrev pub all_tags : List Seen → List ℕ
all_tags [] = []
all_tags (handed_in tag ∷ acts) = tag ∷ all_tags acts
all_tags (was_told lane e ∷ acts) = all_tags acts
all_tags (came_back lane e ∷ acts) = all_tags acts

abbrev pub those_told : List Seen → List Effect
those_told [] = []
those_told (handed_in tag ∷ acts) = those_told acts
those_told (was_told lane e ∷ acts) = e ∷ those_told acts
those_told (came_back lane e ∷ acts) = those_told acts

abbrev pub all_back : List Seen → List Effect
all_back [] = []
all_back (handed_in tag ∷ acts) = all_back acts
all_back (was_told lane e ∷ acts) = all_back acts
all_back (came_back lane e ∷ acts) = e ∷ all_back acts

-- no lane was let go
abbrev pub lets_none_go : List Shown → Bool
lets_none_go [] = true
lets_none_go (gave_tag tag ∷ shown) = lets_none_go shown
lets_none_go (was_handed ticket e ∷ shown) = lets_none_go shown
lets_none_go (let_go ∷ shown) = false

-- there is one with the same tags, in which the same effects are told, in the same order; and none came back where no lane was let go
pub record IsShownCourse (g : Ghosts Token) (s t : State) (shown : List Shown) : Type 0 where
  pub seen : List Seen
  pub is_course : IsEngineCourse g s t seen
  pub tags : all_tags seen ≡ tags_shown shown
  pub told : those_told seen ≡ effects_handed shown
  pub back : lets_none_go shown ≡ true → all_back seen ≡ []

-- of any calls on one handle, from `cellar_new` on, by which fewer than 2^64 - 1 effects were handed out
abbrev pub OfAllCalls : Ghosts Token → (State → State → List Shown → Type 0) → Type 0
OfAllCalls g Holds = (max_events made : ℕ) (first last : Turns) (shown : List Shown) → IsMade max_events None (Some first) made → CellarCourse g first shown last →
    (turn_state last).tickets < most → Holds first.cellar.engine last.cellar.engine shown

abbrev pub AreCallsCourses : Ghosts Token → Type 0
AreCallsCourses g = OfAllCalls g (λ s t shown. IsShownCourse g s t shown)

-- tickets ----------------------------------------------------------------------------------------------

-- this effect was handed out under this ticket
abbrev pub WasHanded : (ticket : ℕ) → Effect → List Shown → Type 0
WasHanded ticket e [] = ⊥
WasHanded ticket e (gave_tag tag ∷ shown) = WasHanded ticket e shown
WasHanded ticket e (was_handed other f ∷ shown) = ((other ≡ ticket) × (f ≡ e)) ⊎ WasHanded ticket e shown
WasHanded ticket e (let_go ∷ shown) = WasHanded ticket e shown

-- each is 1 or more, and no other effect has it
pub record HasOwnTickets (shown : List Shown) : Type 0 where
  pub positive : (ticket : ℕ) (e : Effect) → WasHanded ticket e shown → 1 ≤ ticket
  pub own : (ticket : ℕ) (e f : Effect) → WasHanded ticket e shown → WasHanded ticket f shown → e ≡ f

abbrev pub AreTicketsOwn : Ghosts Token → Type 0
AreTicketsOwn g = OfAllCalls g (λ s t shown. HasOwnTickets shown)

-- once -------------------------------------------------------------------------------------------------

-- how many effects pass a test
abbrev pub many_that : (Effect → Bool) → List Effect → ℕ
many_that test [] = 0
many_that test (e ∷ es) = (if test e then 1 else 0) + many_that test es

-- the release of this tag
abbrev pub releases_tag : ℕ → Effect → Bool
releases_tag tag e = e.kind == 5 && e.user == tag

-- by whatever test as many effects were told as the commands put into lanes, or came back; so each tag has one release that was told and did
-- not come back, for each time that it was handed in
pub record TellsOnce (g : Ghosts Token) (s t : State) (shown : List Shown) : Type 0 where
  pub is_shown : IsShownCourse g s t shown
  pub effects : (test : Effect → Bool) → many_that test (effects_handed shown) ≡
      counted (λ sent. test (effect_of sent)) (all_effects is_shown.is_course.course) + many_that test (all_back is_shown.seen)
  pub releases : (tag : ℕ) → many_that (releases_tag tag) (effects_handed shown) ≡
      times tag (tags_shown shown) + many_that (releases_tag tag) (all_back is_shown.seen)

-- and until `cellar_finish` is done
abbrev pub AreEffectsToldOnce : Ghosts Token → Type 0
AreEffectsToldOnce g = (max_events made done : ℕ) (first last : Turns) (shown : List Shown) → IsMade max_events None (Some first) made →
    CellarCourse g first shown last → IsFinished (Some last) None done → (turn_state last).tickets < most →
    TellsOnce g first.cellar.engine last.cellar.engine shown
