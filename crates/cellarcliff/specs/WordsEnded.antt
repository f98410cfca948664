-- When a face may let a word or a value go, over the calls on one handle.
use Rattle.std.specs.Prelude.{◌≡◌, ℕ, ◌+◌, List}
use Rattle.rx_resource.specs.declared.Resource.{Ghosts}
use Rattle.rx_resource.specs.declared.token.Token.{Token}
use Rattle.rx_roles.specs.Effects.{finals, words_of}
use Rattle.rx_engine.specs.States.{State}
use Rattle.rx_courses.specs.Courses.{all_effects, words_in, all_given_to, all_closed_for, all_wished_for}
use Rattle.rx_courses.specs.NothingBehind.{AllFindRoles}
use Rattle.rx_courses.specs.Tellings.{counted}
use Rattle.rx_courses.specs.Values.{is_carrying, all_copies_of}
use Rattle.cellarcliff.specs.Courses.{Shown, IsShownCourse, OfAllCalls}

-- for each word: as many last effects for it were put into lanes, or are still to come, as roles were given to it, and each effect that has it finds
-- a role that has not ended; as many closings stood in an answer, or are still to come, as were wished for with it. And each value is carried by as
-- many effects as the answers counted
pub record EndsEachOnce (g : Ghosts Token) (s t : State) (shown : List Shown) : Type 0 where
  pub is_shown : IsShownCourse g s t shown
  pub lasts : (word : ℕ) → finals word (all_effects is_shown.is_course.course) + words_in word t.parts ≡ all_given_to word is_shown.is_course.course
  pub behind : (word : ℕ) → AllFindRoles word is_shown.is_course.course
  pub closings : (word : ℕ) → all_closed_for word is_shown.is_course.course + words_of word t.wishes.roles.list ≡
      all_wished_for word is_shown.is_course.course
  pub values : (value : ℕ) → counted (is_carrying value) (all_effects is_shown.is_course.course) ≡ all_copies_of value is_shown.is_course.course

abbrev pub EndEachOnce : Ghosts Token → Type 0
EndEachOnce g = OfAllCalls g (λ s t shown. EndsEachOnce g s t shown)
