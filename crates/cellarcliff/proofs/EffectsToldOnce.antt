-- What a caller is handed in turns are the effects that the engine's course tells; so each is told once, and each tag released once.
use Rattle.std.proofs.Common.{◌≡◌, ℕ, ◌+◌, ◌==◌, ◌&&◌, Bool, true, List, [], ◌∷◌, ◌++◌, length, Option, Some, None, is_some, refl, sym, ap, arith, subst}
use Rattle.std.proofs.Common.{if◌then◌else◌}
use Rattle.std.proofs.lemmas.Option.{same_Some}
use Rattle.std.specs.Option.{option_to_list}
use Rattle.rx_resource.specs.declared.Resource.{Ghosts}
use Rattle.rx_resource.specs.declared.token.Token.{Token}
use Rattle.rx_lanes.specs.declared.names.LaneName.{LaneName}
use Rattle.rx_roles.specs.declared.effect.Effect.{Effect as Sent}
use Rattle.rx_roles.specs.declared.effect.What.{What}
use Rattle.rx_roles.specs.declared.effect.What.TheVariants.{Next, Project, Completed, Failed, Gone, Release, Put, Merged}
use Rattle.rx_roles.specs.declared.roles.Role.{Role}
use Rattle.rx_roles.specs.Effects.{is_release, tagged}
use Rattle.rx_engine.specs.LettingGo.{is_over}
use Rattle.rx_engine.specs.States.{State}
use Rattle.rx_courses.specs.Courses.{IsCommand, is_refused, has_done, has_held, has_used, has_opened, has_put, has_subscribed, has_connected, has_made_hubs, has_checkpointed}
use Rattle.rx_courses.specs.Courses.{Course, begins, commands, takes, gives_up, all_effects, handed_in as tag_handed_in, all_handed_in, times, TagsOnce}
use Rattle.rx_courses.specs.Tellings.{counted, EachIsToldOnce}
use Rattle.rx_cellar.specs.declared.shapes.Effect.{Effect}
use Rattle.rx_cellar.specs.Beginnings.{IsFresh, limit_of}
use Rattle.rx_cellar.specs.Crossings.{what_code, effect_of}
use Rattle.rx_turns.specs.declared.turns.Turns.{Turns}
use Rattle.rx_turns.specs.Courses.{Seen, handed_in, was_told, came_back, seen_tag, seen_told, seen_back, seen_of}
use Rattle.cellarcliff.specs.Calls.{IsMade, IsFinished, finishes, is_untaken, is_absent}
use Rattle.cellarcliff.specs.Courses.{Shown, effects_handed, all_tags, those_told, all_back, many_that, releases_tag, AreEffectsToldOnce}
use Rattle.cellarcliff.proofs.CallsMakeCourses.{begins_so, ShowsCourse, shows_course}
use Rattle.cellarcliff.proofs.CountsOverLanes.{all_taken, all_returned, told_once}
use Rattle.cellarcliff.proofs.NothingLeftToTell.{nothing_left}

-- lists of acts ----------------------------------------------------------------------------------------------

tags-append : (tag : ℕ) (xs ys : List Seen) → times tag (all_tags (xs ++ ys)) ≡ times tag (all_tags xs) + times tag (all_tags ys)
tags-append tag [] ys = omega arith
tags-append tag (handed_in held ∷ xs) ys = let rest = tags-append tag xs ys in omega (arith, rest)
tags-append tag (was_told name e ∷ xs) ys = tags-append tag xs ys
tags-append tag (came_back name e ∷ xs) ys = tags-append tag xs ys

module _ (test : Effect → Bool) where
  told-append : (xs ys : List Seen) → many_that test (those_told (xs ++ ys)) ≡ many_that test (those_told xs) + many_that test (those_told ys)
  told-append [] ys = omega arith
  told-append (handed_in tag ∷ xs) ys = told-append xs ys
  told-append (was_told name e ∷ xs) ys = let rest = told-append xs ys in omega (arith, rest)
  told-append (came_back name e ∷ xs) ys = told-append xs ys

  back-append : (xs ys : List Seen) → many_that test (all_back (xs ++ ys)) ≡ many_that test (all_back xs) + many_that test (all_back ys)
  back-append [] ys = omega arith
  back-append (handed_in tag ∷ xs) ys = back-append xs ys
  back-append (was_told name e ∷ xs) ys = back-append xs ys
  back-append (came_back name e ∷ xs) ys = let rest = back-append xs ys in omega (arith, rest)

-- courses ----------------------------------------------------------------------------------------------------

-- of one command
record TagCounted (tag times_in : ℕ) (acts : List Seen) : Type 0 where
  once : times tag (all_tags acts) ≡ times_in
  none_told : (test : Effect → Bool) → many_that test (those_told acts) ≡ 0
  none_back : (test : Effect → Bool) → many_that test (all_back acts) ≡ 0

no_tag : (tag : ℕ) → TagCounted tag 0 []
no_tag tag = record { once = refl; none_told = λ test. refl; none_back = λ test. refl }

one_tag : (tag held : ℕ) → TagCounted tag (if held == tag then 1 else 0) (handed_in held ∷ [])
one_tag tag held = record { once = omega arith; none_told = λ test. refl; none_back = λ test. refl }

by_tag : (tag : ℕ) {g : Ghosts Token} {s t : State} (c : IsCommand g s t) → TagCounted tag (tag_handed_in tag c) (seen_tag c)
by_tag tag (is_refused seen) = no_tag tag
by_tag tag (has_done by value plain done) = no_tag tag
by_tag tag (has_held node held by done) = one_tag tag held
by_tag tag (has_used at kind user held by alone done) = one_tag tag held
by_tag tag (has_opened at kind user by alone done) = no_tag tag
by_tag tag (has_put to user value by done) = no_tag tag
by_tag tag (has_subscribed at share user by place done) = no_tag tag
by_tag tag (has_connected share user by place done) = no_tag tag
by_tag tag (has_made_hubs by makes_them) = no_tag tag
by_tag tag (has_checkpointed made) = no_tag tag

-- of one taking, and one giving up
told_taken : (test : Effect → Bool) (name : LaneName) (o : Option Sent) →
    many_that test (those_told (seen_told name o)) ≡ counted (λ sent. test (effect_of sent)) (option_to_list o)
told_taken test name None = refl
told_taken test name (Some sent) = refl

back_taken : (test : Effect → Bool) (name : LaneName) (o : Option Sent) → many_that test (all_back (seen_told name o)) ≡ 0
back_taken test name None = refl
back_taken test name (Some sent) = refl

tags_taken : (tag : ℕ) (name : LaneName) (o : Option Sent) → times tag (all_tags (seen_told name o)) ≡ 0
tags_taken tag name None = refl
tags_taken tag name (Some sent) = refl

back_given : (test : Effect → Bool) (name : LaneName) (is_left : Option Bool) (o : Option Sent) →
    many_that test (all_back (seen_back name is_left o)) ≡ (if is_some is_left then counted (λ sent. test (effect_of sent)) (option_to_list o) else 0)
back_given test name None o = refl
back_given test name (Some left) None = refl
back_given test name (Some left) (Some sent) = refl

told_given : (test : Effect → Bool) (name : LaneName) (is_left : Option Bool) (o : Option Sent) → many_that test (those_told (seen_back name is_left o)) ≡ 0
told_given test name None o = refl
told_given test name (Some left) None = refl
told_given test name (Some left) (Some sent) = refl

tags_given : (tag : ℕ) (name : LaneName) (is_left : Option Bool) (o : Option Sent) → times tag (all_tags (seen_back name is_left o)) ≡ 0
tags_given tag name None o = refl
tags_given tag name (Some left) None = refl
tags_given tag name (Some left) (Some sent) = refl

told_all : (test : Effect → Bool) {g : Ghosts Token} {s t : State} (course : Course g s t) →
    many_that test (those_told (seen_of course)) ≡ all_taken (λ sent. test (effect_of sent)) course
told_all test begins = refl
told_all test (commands before kept c) =
    let both = told-append test (seen_of before) (seen_tag c) in let first = told_all test before in let none = (by_tag 0 c).none_told test in
    omega (arith, both, first, none)
told_all test (takes {answer = answer} name inside by before kept take) =
    let both = told-append test (seen_of before) (seen_told name answer) in let first = told_all test before in let one = told_taken test name answer in
    omega (arith, both, first, one)
told_all test (gives_up {answer = answer} name by undone before kept give) =
    let both = told-append test (seen_of before) (seen_back name answer undone) in let first = told_all test before in
    let none = told_given test name answer undone in
    omega (arith, both, first, none)

back_all : (test : Effect → Bool) {g : Ghosts Token} {s t : State} (course : Course g s t) →
    many_that test (all_back (seen_of course)) ≡ all_returned (λ sent. test (effect_of sent)) course
back_all test begins = refl
back_all test (commands before kept c) =
    let both = back-append test (seen_of before) (seen_tag c) in let first = back_all test before in let none = (by_tag 0 c).none_back test in
    omega (arith, both, first, none)
back_all test (takes {answer = answer} name inside by before kept take) =
    let both = back-append test (seen_of before) (seen_told name answer) in let first = back_all test before in let none = back_taken test name answer in
    omega (arith, both, first, none)
back_all test (gives_up {answer = answer} name by undone before kept give) =
    let both = back-append test (seen_of before) (seen_back name answer undone) in let first = back_all test before in
    let one = back_given test name answer undone in
    omega (arith, both, first, one)

tags_all : (tag : ℕ) {g : Ghosts Token} {s t : State} (course : Course g s t) → times tag (all_tags (seen_of course)) ≡ all_handed_in tag course
tags_all tag begins = refl
tags_all tag (commands before kept c) =
    let both = tags-append tag (seen_of before) (seen_tag c) in let first = tags_all tag before in let one = (by_tag tag c).once in
    omega (arith, both, first, one)
tags_all tag (takes {answer = answer} name inside by before kept take) =
    let both = tags-append tag (seen_of before) (seen_told name answer) in let first = tags_all tag before in let none = tags_taken tag name answer in
    omega (arith, both, first, none)
tags_all tag (gives_up {answer = answer} name by undone before kept give) =
    let both = tags-append tag (seen_of before) (seen_back name answer undone) in let first = tags_all tag before in
    let none = tags_given tag name answer undone in
    omega (arith, both, first, none)

-- releases ---------------------------------------------------------------------------------------------------

release_code : (what : What) → (what_code what == 5) ≡ is_release what
release_code Next = refl
release_code Project = refl
release_code Completed = refl
release_code Failed = refl
release_code Gone = refl
release_code Release = refl
release_code Put = refl
release_code Merged = refl

releases_counted : (tag : ℕ) (es : List Sent) → counted (λ sent. releases_tag tag (effect_of sent)) es ≡ tagged tag es
releases_counted tag [] = refl
releases_counted tag (e ∷ es) = λ i. (if (release_code e.what i && e.user == tag) then 1 else 0) + releases_counted tag es i

-- beginning and end ------------------------------------------------------------------------------------------

over_at_end : (last : Turns) (done : ℕ) → IsFinished (Some last) None done → is_over last.cellar.engine ≡ true
over_at_end last done (finishes {s = s} was is over zero) = subst (λ (x : Turns). is_over x.cellar.engine ≡ true) (sym (same_Some last s was)) over
over_at_end last done (is_untaken was is over six) = absurd (cc)
over_at_end last done (is_absent was is one) = absurd (cc)

pub no_roles : (roles : List Role) → length roles ≡ 0 → roles ≡ []
no_roles [] none = refl
no_roles (r ∷ rs) none = absurd (omega (arith, none))

no_holds : (limit : ℕ) (s : State) → IsFresh limit s → s.parts.holds.list ≡ []
no_holds limit s new = no_roles s.parts.holds.list (let none = new.names in omega (arith, none))

-- the law ----------------------------------------------------------------------------------------------------

effects_once : (g : Ghosts Token) → EachIsToldOnce g → (max_events made done : ℕ) (first last : Turns) (shown : List Shown) →
    (new : IsMade max_events None (Some first) made) → IsFinished (Some last) None done → (shows : ShowsCourse g first last shown) → (test : Effect → Bool) →
    many_that test (effects_handed shown) ≡
    counted (λ sent. test (effect_of sent)) (all_effects shows.is_shown.is_course.course) + many_that test (all_back shows.is_shown.seen)
effects_once g law max_events made done first last shown new ending shows test =
    let is = shows.is_shown in
    let none = nothing_left last.cellar.engine shows.promised (over_at_end last done ending) in
    let all = told_once g law (λ sent. test (effect_of sent)) first.cellar.engine last.cellar.engine (begins_so max_events made first new).new.engine.lanes
    (λ n. none.no_effect (λ sent. test (effect_of sent)) n) is.is_course.course in
    let told = told_all test is.is_course.course in
    let back = back_all test is.is_course.course in
    let told_same = ap (λ (acts : List Seen). many_that test (those_told acts)) is.is_course.acts_are in
    let back_same = ap (λ (acts : List Seen). many_that test (all_back acts)) is.is_course.acts_are in
    let shown_same = ap (many_that test) is.told in
    omega (arith, all, told, back, told_same, back_same, shown_same)

pub effects_told_once : (g : Ghosts Token) → EachIsToldOnce g → TagsOnce g → AreEffectsToldOnce g
effects_told_once g law tags max_events made done first last shown new course ending less =
    let shows = shows_course g max_events made first last shown new course less in
    let is = shows.is_shown in
    let effects = effects_once g law max_events made done first last shown new ending shows in
    record {
      is_shown = is;
      effects = effects;
      releases = λ tag.
          (let none = (nothing_left last.cellar.engine shows.promised (over_at_end last done ending)).no_tag tag in
          let all = effects (releases_tag tag) in
          let released = releases_counted tag (all_effects is.is_course.course) in
          let put = tags tag first.cellar.engine last.cellar.engine
          (no_holds (limit_of max_events) first.cellar.engine (begins_so max_events made first new).new.engine) is.is_course.course in
          let seen = tags_all tag is.is_course.course in
          let same = ap (λ (acts : List Seen). times tag (all_tags acts)) is.is_course.acts_are in
          let shown_same = ap (times tag) is.tags in
          omega (arith, all, released, put, none, seen, same, shown_same));
    }
