-- When a word or a value may be let go, over the calls.
use Rattle.std.proofs.Common.{◌≡◌, ℕ, List, [], refl, ap, arith}
use Rattle.rx_resource.specs.declared.Resource.{Ghosts}
use Rattle.rx_resource.specs.declared.token.Token.{Token}
use Rattle.rx_roles.specs.Effects.{words_of}
use Rattle.rx_engine.specs.States.{State}
use Rattle.rx_courses.specs.Courses.{words_in, WordsEndOnce, ClosingsOnce}
use Rattle.rx_courses.specs.NothingBehind.{NothingBehind}
use Rattle.rx_courses.specs.Values.{ValuesOnce}
use Rattle.rx_cellar.specs.Beginnings.{IsFresh, limit_of}
use Rattle.cellarcliff.specs.WordsEnded.{EndEachOnce}
use Rattle.cellarcliff.proofs.CallsMakeCourses.{begins_so, shows_course}
use Rattle.cellarcliff.proofs.EffectsToldOnce.{no_roles}

no_word : (word limit : ℕ) (s : State) → IsFresh limit s → words_in word s.parts ≡ 0
no_word word limit s new =
    let none = new.names in
    let hears : words_of word s.parts.hears.list ≡ 0 = ap (words_of word) (no_roles s.parts.hears.list (omega (arith, none))) in
    let merges : words_of word s.parts.merges.list ≡ 0 = ap (words_of word) (no_roles s.parts.merges.list (omega (arith, none))) in
    let holds : words_of word s.parts.holds.list ≡ 0 = ap (words_of word) (no_roles s.parts.holds.list (omega (arith, none))) in
    omega (arith, hears, merges, holds)

pub each_ended_once : (g : Ghosts Token) → WordsEndOnce g → NothingBehind g → ClosingsOnce g → ValuesOnce g → EndEachOnce g
each_ended_once g lasts behind closings values max_events made first last shown new course less =
    let is = (shows_course g max_events made first last shown new course less).is_shown in
    let fresh = (begins_so max_events made first new).new.engine in
    let none = λ (word : ℕ). no_word word (limit_of max_events) first.cellar.engine fresh in
    record {
      is_shown = is;
      lasts = λ word. lasts word first.cellar.engine last.cellar.engine (none word) is.is_course.course;
      behind = λ word. behind word first.cellar.engine last.cellar.engine (none word) is.is_course.course;
      closings = λ word. closings word first.cellar.engine last.cellar.engine fresh.wishes is.is_course.course;
      values = λ value. values value first.cellar.engine last.cellar.engine is.is_course.course;
    }
