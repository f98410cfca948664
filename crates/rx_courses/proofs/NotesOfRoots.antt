-- What a root is told over a course are its notes, in order.
use Rattle.std.proofs.Common.{◌≡◌, ℕ, ◌==◌, ◌&&◌, Bool, true, false, List, [], ◌∷◌, ◌++◌, length, Option, Some, None, is_some, refl, sym, ap, ◌∙◌, subst, if◌then◌else◌, append-nil, append_assoc}
use Rattle.std.proofs.lemmas.Bool.{false≢true, eqb-true}
use Rattle.rx_resource.specs.declared.Resource.{Ghosts}
use Rattle.rx_resource.specs.declared.token.Token.{Token}
use Rattle.rx_note.specs.declared.note.Note.{Note}
use Rattle.rx_note.specs.declared.note.Note.TheVariants.{Next as NextNote, Project as ProjectNote, End}
use Rattle.rx_note.specs.declared.note.Terminal.{Terminal}
use Rattle.rx_note.specs.declared.note.Terminal.TheVariants.{Completed as Completes, Error}
use Rattle.rx_note.specs.Notes.{is_end}
use Rattle.rx_event.specs.declared.mail.Mail.{Mail}
use Rattle.rx_event.proofs.Laws.Common.{notes, and_true, and_false}
use Rattle.rx_book.specs.State.{State as BookState}
use Rattle.rx_lanes.specs.declared.names.LaneName.{LaneName}
use Rattle.rx_lanes.specs.Courses.{is_name}
use Rattle.rx_lanes.specs.State.{State as LanesState}
use Rattle.rx_roles.specs.declared.roles.Role.{Role}
use Rattle.rx_roles.specs.declared.effect.Effect.{Effect}
use Rattle.rx_roles.specs.declared.effect.What.{What}
use Rattle.rx_roles.specs.declared.effect.What.TheVariants.{Next, Project, Completed, Failed, Gone, Merged, Release, Put}
use Rattle.rx_roles.specs.Roles.{role_of, without, without_all}
use Rattle.rx_roles.specs.Effects.{is_release, effect_for, effects_for, end_told, what_told, role_told, after, all_told, after_all, AllListened}
use Rattle.rx_engine.specs.declared.parts.Parts.{Parts}
use Rattle.rx_engine.specs.declared.homes.Home.{Home}
use Rattle.rx_engine.specs.Openings.{Gives, Enters}
use Rattle.rx_engine.specs.Sharings.{Connects, ConnectsIf, Subscribes}
use Rattle.rx_engine.specs.Settlements.{mail_left, closed_of, Settles}
use Rattle.rx_engine.specs.States.{State, IsPromised}
use Rattle.rx_courses.specs.Courses.{IsCommand, is_refused, has_done, has_held, has_used, has_opened, has_put, has_subscribed, has_connected, has_made_hubs, has_checkpointed, Course, begins, commands, takes, gives_up, effects_of, all_effects}
use Rattle.rx_courses.specs.Serving.{maker}
use Rattle.rx_courses.specs.Tellings.{those_there, but_releases, line_at, told_there}
use Rattle.rx_courses.specs.NotesTold.{tells, notes_only, notes_added, value_of}
use Rattle.rx_courses.specs.RootsTold.{is_heard, heard, is_for_who_hears, notes_of, all_added, IsOther, OpensOnly, AllOpenOnly, HasNoCheckpoint, TellsEachRoot}
use Rattle.rx_courses.proofs.HubsTellNone.{calm, quiet_hubs}
use Rattle.rx_courses.proofs.OrderOfCourses.{those-append, tells_in_order}
use Rattle.rx_courses.proofs.NotesOfCommands.{tells_each_note, notes_grow}
use Rattle.rx_courses.proofs.EndsOfRoots.{notes_of-append, ordered_notes}

-- lists ----------------------------------------------------------------------------------------------

heard-append : (word : ℕ) (xs ys : List Effect) → heard word (xs ++ ys) ≡ heard word xs ++ heard word ys
heard-append word [] ys = refl
heard-append word (x ∷ xs) ys = by_test (is_heard x.what && x.user == word) (heard-append word xs ys) where
  by_test : (b : Bool) → heard word (xs ++ ys) ≡ heard word xs ++ heard word ys →
      (if b then x.what ∷ heard word (xs ++ ys) else heard word (xs ++ ys)) ≡ (if b then x.what ∷ heard word xs else heard word xs) ++ heard word ys
  by_test true rest = ap (λ (zs : List What). x.what ∷ zs) rest
  by_test false rest = rest

-- what is heard is a note, and no release
release_unheard : (what : What) → is_release what ≡ true → is_heard what ≡ false
release_unheard Next is = absurd (false≢true is)
release_unheard Project is = refl
release_unheard Completed is = absurd (false≢true is)
release_unheard Failed is = absurd (false≢true is)
release_unheard Gone is = refl
release_unheard Merged is = refl
release_unheard Release is = refl
release_unheard Put is = refl

other_unheard : (what : What) → tells what ≡ false → is_heard what ≡ false
other_unheard Next is = absurd (false≢true (sym is))
other_unheard Project is = refl
other_unheard Completed is = absurd (false≢true (sym is))
other_unheard Failed is = absurd (false≢true (sym is))
other_unheard Gone is = refl
other_unheard Merged is = refl
other_unheard Release is = refl
other_unheard Put is = refl

unheard : (word : ℕ) (e : Effect) (es : List Effect) → is_heard e.what ≡ false → heard word (e ∷ es) ≡ heard word es
unheard word e es is = ap (λ (b : Bool). if (b && e.user == word) then e.what ∷ heard word es else heard word es) is

heard_but : (word : ℕ) (es : List Effect) → heard word (but_releases es) ≡ heard word es
heard_but word [] = refl
heard_but word (e ∷ es) = by_release (is_release e.what) refl (heard_but word es) where
  by_release : (b : Bool) → is_release e.what ≡ b → heard word (but_releases es) ≡ heard word es →
      heard word (if b then but_releases es else e ∷ but_releases es) ≡ heard word (e ∷ es)
  by_release true is rest = rest ∙ sym (unheard word e es (release_unheard e.what is))
  by_release false is rest = ap (λ (zs : List What). if (is_heard e.what && e.user == word) then e.what ∷ zs else zs) rest

-- what is heard under a word in a lane
abbrev heard_there : ℕ → LaneName → List Effect → List What
heard_there word name es = heard word (those_there name es)

heard_only : (word : ℕ) (name : LaneName) (es : List Effect) → heard_there word name (notes_only es) ≡ heard_there word name es
heard_only word name [] = refl
heard_only word name (e ∷ es) = by_test (tells e.what) refl (is_name e.lane name) refl (heard_only word name es) where
  with_it : (b : Bool) (zs ys : List Effect) → heard word zs ≡ heard word ys → heard word (if b then e ∷ zs else zs) ≡ heard word (if b then e ∷ ys else ys)
  with_it true zs ys rest = ap (λ (ws : List What). if (is_heard e.what && e.user == word) then e.what ∷ ws else ws) rest
  with_it false zs ys rest = rest

  without_it : (b : Bool) (ys : List Effect) → is_heard e.what ≡ false → heard word ys ≡ heard word (if b then e ∷ ys else ys)
  without_it true ys is = sym (unheard word e ys is)
  without_it false ys is = refl

  by_test : (b : Bool) → tells e.what ≡ b → (c : Bool) → is_name e.lane name ≡ c → heard_there word name (notes_only es) ≡ heard_there word name es →
      heard_there word name (if b then e ∷ notes_only es else notes_only es) ≡ heard word (if c then e ∷ those_there name es else those_there name es)
  by_test true is c here rest =
      ap (λ (x : Bool). heard word (if x then e ∷ those_there name (notes_only es) else those_there name (notes_only es))) here
      ∙ with_it c (those_there name (notes_only es)) (those_there name es) rest
  by_test false is c here rest = rest ∙ without_it c (those_there name es) (other_unheard e.what is)

-- who hears under a word in a lane -------------------------------------------------------------------

module _ (n word : ℕ) (name : LaneName) where
  -- just the role of this number has this word and this lane
  abbrev IsVoice : Role → Type 0
  IsVoice r = (r.number == n) ≡ (r.word == word && is_name r.lane name)

  abbrev pub AreVoices : List Role → Type 0
  AreVoices [] = Unit {0}
  AreVoices (r ∷ rs) = IsVoice r × AreVoices rs

  voices-append : (xs ys : List Role) → AreVoices xs → AreVoices ys → AreVoices (xs ++ ys)
  voices-append [] ys first second = second
  voices-append (x ∷ xs) ys first second = (first.0, voices-append xs ys first.1 second)

  voices_without : (rs : List Role) (k : ℕ) → AreVoices rs → AreVoices (without rs k)
  voices_without [] k all = tt
  voices_without (r ∷ rs) k all = by_test (r.number == k) (voices_without rs k all.1) where
    by_test : (b : Bool) → AreVoices (without rs k) → AreVoices (if b then rs else r ∷ without rs k)
    by_test true rest = all.1
    by_test false rest = (all.0, rest)

  voices_without_all : (rs : List Role) (ks : List ℕ) → AreVoices rs → AreVoices (without_all rs ks)
  voices_without_all rs [] all = all
  voices_without_all rs (k ∷ ks) all = voices_without_all (without rs k) ks (voices_without rs k all)

  voices_after : (rs : List Role) (m : Mail) → AreVoices rs → AreVoices (after rs m)
  voices_after rs m all = by_end (is_end m.note) where
    by_end : (b : Bool) → AreVoices (if b then without rs m.to else rs)
    by_end true = voices_without rs m.to all
    by_end false = all

  voices_after_all : (rs : List Role) (ms : List Mail) → AreVoices rs → AreVoices (after_all rs ms)
  voices_after_all rs [] all = all
  voices_after_all rs (m ∷ ms) all = voices_after_all (after rs m) ms (voices_after rs m all)

  -- whoever is found by a number
  found_voice : (rs : List Role) (k : ℕ) (r : Role) → AreVoices rs → role_of rs k ≡ Some r → (k == n) ≡ (r.word == word && is_name r.lane name)
  found_voice [] k r all is = cc
  found_voice (x ∷ rs) k r all is = by_test (x.number == k) refl is (λ found. found_voice rs k r all.1 found) where
    same_role : Some x ≡ Some r → x ≡ r
    same_role found = cc

    by_test : (b : Bool) → (x.number == k) ≡ b → (if b then Some x else role_of rs k) ≡ Some r → (role_of rs k ≡ Some r →
        (k == n) ≡ (r.word == word && is_name r.lane name)) →
        (k == n) ≡ (r.word == word && is_name r.lane name)
    by_test true here found rest =
        ap (λ (j : ℕ). j == n) (sym (eqb-true x.number k here)) ∙ all.0
        ∙ ap (λ (r : Role). r.word == word && is_name r.lane name) (same_role found)
    by_test false differs found rest = rest found

  -- one note to who hears
  heard_one : (by value : ℕ) (what : What) (r : Role) (rest : List Effect) (c : Bool) (more : List What) → is_heard what ≡ true →
      c ≡ (r.word == word && is_name r.lane name) → heard_there word name rest ≡ more →
      heard_there word name (effect_for by value what r ∷ rest) ≡ (if c then what ∷ more else more)
  heard_one by value what r rest c more hears same same_rest =
      by_tests (is_name r.lane name) (r.word == word) refl
      ∙ sym (ap (λ (x : Bool). if x then what ∷ more else more) same) where
        by_tests : (a b : Bool) → (r.word == word) ≡ b →
            heard word (if a then effect_for by value what r ∷ those_there name rest else those_there name rest) ≡ (if (b && a) then what ∷ more else more)
        by_tests true true is = λ i. if (hears i && is i) then what ∷ same_rest i else same_rest i
        by_tests true false is = λ i. if (hears i && is i) then what ∷ same_rest i else same_rest i
        by_tests false true is = same_rest
        by_tests false false is = same_rest

  -- one to who projects
  heard_none : (by value : ℕ) (o : Option Role) (rest : List Effect) →
      heard_there word name (effects_for by value Project o ++ rest) ≡ heard_there word name rest
  heard_none by value None rest = refl
  heard_none by value (Some r) rest = by_lane (is_name r.lane name) where
    by_lane : (a : Bool) → heard word (if a then effect_for by value Project r ∷ those_there name rest else those_there name rest) ≡ heard_there word name rest
    by_lane true = refl
    by_lane false = refl

  end_heard : (t : Terminal) → is_heard (end_told t) ≡ true
  end_heard Completes = refl
  end_heard (Error code) = refl

  one_heard : (by value : ℕ) (hears : List Role) (what : What) (k : ℕ) (rest : List Effect) (more : List What) → AreVoices hears →
      is_some (role_of hears k) ≡ true → is_heard what ≡ true → heard_there word name rest ≡ more →
      heard_there word name (effects_for by value what (role_of hears k) ++ rest) ≡ (if (k == n && true) then what ∷ more else more)
  one_heard by value hears what k rest more all there is same = by_role (role_of hears k) refl there where
    by_role : (o : Option Role) → role_of hears k ≡ o → is_some o ≡ true →
        heard_there word name (effects_for by value what o ++ rest) ≡ (if (k == n && true) then what ∷ more else more)
    by_role None none there = absurd (false≢true there)
    by_role (Some r) found there = heard_one by value what r rest (k == n && true) more is (and_true (k == n) ∙ found_voice hears k r all found) same

  told_heard : (by value : ℕ) (hears merges : List Role) (ms : List Mail) → AreVoices hears → AllListened hears merges ms →
      heard_there word name (all_told by value hears merges ms) ≡ notes_of n ms
  told_heard by value hears merges [] all listened = refl
  told_heard by value hears merges (m ∷ ms) all listened =
      by_note m.note listened.0 (told_heard by value (after hears m) merges ms (voices_after hears m all) listened.1) where
        rest : List Effect
        rest = all_told by value (after hears m) merges ms

        by_note : (note : Note) → is_some (role_told hears merges note m.to) ≡ true → heard_there word name rest ≡ notes_of n ms →
            heard_there word name (effects_for by value (what_told note) (role_told hears merges note m.to) ++ rest) ≡
            (if (m.to == n && is_for_who_hears note) then what_told note ∷ notes_of n ms else notes_of n ms)
        by_note (NextNote v) there same = one_heard by value hears Next m.to rest (notes_of n ms) all there refl same
        by_note (End t) there same = one_heard by value hears (end_told t) m.to rest (notes_of n ms) all there (end_heard t) same
        by_note (ProjectNote v) there same =
            heard_none by value (role_of merges m.to) rest ∙ same
            ∙ sym (ap (λ (b : Bool). if b then Project ∷ notes_of n ms else notes_of n ms) (and_false (m.to == n)))

  -- commands -----------------------------------------------------------------------------------------

  settles_voices : (g : Ghosts Token) (by value : ℕ) (mid : BookState) (p : Parts) (t : BookState) (q : Parts) → AreVoices p.hears.list →
      Settles g by value mid p t q → AreVoices q.hears.list
  settles_voices g by value mid p t q all d =
      subst AreVoices (sym d.hears) (voices_without_all (after_all p.hears.list (mail_left mid)) (closed_of mid) (voices_after_all p.hears.list (mail_left mid)
      all))

  gives_voices : (hears : Bool) (number own : ℕ) (lane : LaneName) (roles roles' : List Role) (s t : LanesState Effect) → AreVoices roles →
      IsOther hears number own lane n word name → Gives hears number own (Some lane) roles roles' s t → AreVoices roles'
  gives_voices true number own lane roles roles' s t all other g =
      subst AreVoices (sym g.list)
      (voices-append roles ((record { number = number; word = own; lane = g.name }) ∷ []) all
      (other ∙ ap (λ (x : LaneName). own == word && is_name x name) (sym g.lanes.0), tt))
  gives_voices false number own lane roles roles' s t all other g = subst AreVoices (sym (g.list ∙ append-nil roles)) all

  enters_voices : (p q : Parts) (number : ℕ) (hears merges : Bool) (own : ℕ) (home : Home) (lane : LaneName) → AreVoices p.hears.list →
      IsOther hears number own lane n word name → Enters p number hears merges own home lane q → AreVoices q.hears.list
  enters_voices p q number hears merges own home lane all other e =
      gives_voices hears number own lane p.hears.list q.hears.list e.housed e.between all other e.hears_is

  connects_voices : (p q : Parts) (number place share : ℕ) → AreVoices p.hears.list → Connects p number place share q → AreVoices q.hears.list
  connects_voices p q number place share all c =
      subst (λ (x : Parts). AreVoices x.hears.list) (sym c.names.only) (enters_voices p c.housed number false false 0 _ c.name all tt c.houses)

  second_voices : (second : Option ℕ) (p q : Parts) (place share : ℕ) → AreVoices p.hears.list → ConnectsIf p second place share q → AreVoices q.hears.list
  second_voices None p q place share all same = subst (λ (x : Parts). AreVoices x.hears.list) (sym same) all
  second_voices (Some number) p q place share all c = connects_voices p q number place share all c

  subscribes_voices : (p q : Parts) (number : ℕ) (hears : Bool) (user : ℕ) (home : Home) (place share : ℕ) (second : Option ℕ) → AreVoices p.hears.list →
      (c : Subscribes p number hears user home place share second q) → IsOther hears number user c.name n word name → AreVoices q.hears.list
  subscribes_voices p q number hears user home place share second all c other =
      second_voices second c.named q place share
      (subst (λ (x : Parts). AreVoices x.hears.list) (sym c.names.only) (enters_voices p c.entered number hears false user home c.name all other c.enters))
      c.connects

  command_voices : (g : Ghosts Token) (s t : State) → IsPromised s → (c : IsCommand g s t) → OpensOnly n word name c → AreVoices s.parts.hears.list →
      AreVoices t.parts.hears.list
  command_voices g s t kept (is_refused seen) only all = subst AreVoices (sym seen.parts.hears) all
  command_voices g s t kept (has_done by value plain d) only all = settles_voices g by value d.mid s.parts t.book t.parts all d.settles
  command_voices g s t kept (has_held node tag by d) only all =
      settles_voices g by 0 d.mid d.entered t.book t.parts (subst AreVoices (sym d.keeps.hears) all) d.settles
  command_voices g s t kept (has_used at kind user tag by alone d) only all =
      settles_voices g by 0 d.mid d.with_tag t.book t.parts
      (subst AreVoices (sym d.keeps.hears) (enters_voices s.parts d.entered (length s.book.history) _ _ user.word _ d.name all only d.enters)) d.settles
  command_voices g s t kept (has_opened at kind user by alone d) only all =
      settles_voices g by 0 d.mid d.entered t.book t.parts (enters_voices s.parts d.entered (length s.book.history) _ _ user.word _ d.name all only d.enters)
      d.settles
  command_voices g s t kept (has_put to user value by d) only all = subst AreVoices (sym d.puts.hears) all
  command_voices g s t kept (has_subscribed at share user by place d) only all =
      settles_voices g by 0 d.mid d.entered t.book t.parts
      (subscribes_voices s.parts d.entered (length s.book.history) _ user.word _ place share.word _ all d.subscribes only) d.settles
  command_voices g s t kept (has_connected share user by place d) only all =
      settles_voices g by 0 d.mid d.entered t.book t.parts (connects_voices s.parts d.entered (length s.book.history) place share.word all d.connects) d.settles
  command_voices g s t kept (has_made_hubs by makes) only all = subst AreVoices (sym (quiet_hubs g by s t (calm s kept) makes).hears) all
  command_voices g s t kept (has_checkpointed c) only all = subst (λ (p : Parts). AreVoices p.hears.list) (sym c.parts) all

  -- courses ------------------------------------------------------------------------------------------

  course_voices : (g : Ghosts Token) (s t : State) (course : Course g s t) → AllOpenOnly n word name course → AreVoices s.parts.hears.list →
      AreVoices t.parts.hears.list
  course_voices g s t begins only all = all
  course_voices g s t (commands {t = m} before kept c) only all = command_voices g m t kept c only.1 (course_voices g s m before only.0 all)
  course_voices g s t (takes {t = m} from inside by before kept take) only all =
      subst (λ (x : State). AreVoices x.parts.hears.list) (sym take.same) (course_voices g s m before only all)
  course_voices g s t (gives_up {t = m} from by _ before kept give) only all =
      subst (λ (x : State). AreVoices x.parts.hears.list) (sym give.same) (course_voices g s m before only all)

  course_heard : (g : Ghosts Token) (s t : State) (course : Course g s t) → AllOpenOnly n word name course → AreVoices s.parts.hears.list →
      heard_there word name (all_effects course) ≡ notes_of n (all_added course)
  course_heard g s t begins only all = refl
  course_heard g s t (commands {t = m} before kept c) only all =
      let tells_it = tells_each_note g m t kept c in
      ap (heard word) (those-append name (all_effects before) (effects_of c))
      ∙ heard-append word (those_there name (all_effects before)) (those_there name (effects_of c))
      ∙ (λ i. course_heard g s m before only.0 all i ++
      (sym (heard_only word name (effects_of c)) ∙ ap (heard_there word name) tells_it.told
      ∙ told_heard (maker c) (value_of c) m.parts.hears.list m.parts.merges.list (notes_added m t) (course_voices g s m before only.0 all) tells_it.listened) i)
      ∙ sym (notes_of-append n (all_added before) (notes_added m t))
  course_heard g s t (takes {t = m} from inside by before kept take) only all = course_heard g s m before only all
  course_heard g s t (gives_up {t = m} from by _ before kept give) only all = course_heard g s m before only all

-- the history has them
course_noted : (g : Ghosts Token) (s t : State) (course : Course g s t) → HasNoCheckpoint course →
    notes t.book.history ≡ notes s.book.history ++ all_added course
course_noted g s t begins none = sym (append-nil (notes s.book.history))
course_noted g s t (commands {t = m} before kept c) none =
    notes_grow g m t kept c none.1 ∙ ap (λ (ms : List Mail). ms ++ notes_added m t) (course_noted g s m before none.0)
    ∙ append_assoc (notes s.book.history) (all_added before) (notes_added m t)
course_noted g s t (takes {t = m} from inside by before kept take) none = ap (λ (x : State). notes x.book.history) take.same ∙ course_noted g s m before none
course_noted g s t (gives_up {t = m} from by _ before kept give) none = ap (λ (x : State). notes x.book.history) give.same ∙ course_noted g s m before none

pub tells_each_root : (g : Ghosts Token) → TellsEachRoot g
tells_each_root g n word name s t empty nobody course honest only = record {
  told = sym (heard_but word (told_there name course ++ line_at name t.parts.lanes)) ∙ ap (heard word) (tells_in_order g name s t empty course honest)
      ∙ heard_but word (those_there name (all_effects course))
      ∙ course_heard n word name g s t course only (subst (AreVoices n word name) (sym nobody) tt);
  ordered = ordered_notes n g s t course;
  noted = course_noted g s t course;
}
