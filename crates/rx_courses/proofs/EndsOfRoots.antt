-- What a root is told over a course are items, then at most one end, then nothing.
use Rattle.std.proofs.Common.{◌≡◌, ℕ, ◌<◌, ◌≤◌, ◌==◌, ◌&&◌, ◌||◌, not, Bool, true, false, List, [], ◌∷◌, ◌++◌, length, Option, Some, None, is_some, refl, sym, ap, ◌∙◌, arith, subst, if◌then◌else◌, append-nil}
use Rattle.std.proofs.lemmas.Bool.{false≢true, eqb-true, and_parts, ne_eqb}
use Rattle.rx_resource.specs.declared.Resource.{Ghosts}
use Rattle.rx_resource.specs.declared.token.Token.{Token}
use Rattle.rx_note.specs.declared.note.Note.{Note}
use Rattle.rx_note.specs.declared.note.Note.TheVariants.{Next as NextNote, Project as ProjectNote, End}
use Rattle.rx_note.specs.declared.note.Terminal.{Terminal}
use Rattle.rx_note.specs.Notes.{is_end}
use Rattle.rx_event.specs.declared.event.Event.{Event}
use Rattle.rx_event.specs.declared.mail.Mail.{Mail}
use Rattle.rx_event.proofs.Laws.Common.{notes, at, is_open, is_root}
use Rattle.rx_event.proofs.Laws.Openness.{is_open_within}
use Rattle.rx_book.specs.State.{State as BookState}
use Rattle.rx_book.proofs.Laws.StepsContinue.{accepted_continues}
use Rattle.rx_lanes.specs.declared.names.LaneName.{LaneName}
use Rattle.rx_lanes.specs.State.{State as LanesState}
use Rattle.rx_roles.specs.declared.roles.Role.{Role}
use Rattle.rx_roles.specs.declared.effect.Effect.{Effect}
use Rattle.rx_roles.specs.declared.effect.What.{What}
use Rattle.rx_roles.specs.declared.effect.What.TheVariants.{Next}
use Rattle.rx_roles.specs.Roles.{role_of, without, without_all}
use Rattle.rx_roles.specs.Effects.{end_told, what_told, role_told, after, after_all, AllListened}
use Rattle.rx_roles.proofs.Laws.RolesTaken.{role_of-without, without_swaps, without_absent, role_of-append}
use Rattle.rx_engine.specs.declared.parts.Parts.{Parts}
use Rattle.rx_engine.specs.declared.homes.Home.{Home}
use Rattle.rx_engine.specs.Hubs.{MakesHubs, none_made, one_made, room_gotten}
use Rattle.rx_engine.specs.Openings.{Gives, Enters}
use Rattle.rx_engine.specs.Settlements.{mail_left, all_given, closed_of, effects_told, Releases, none_released, one_released, Settles}
use Rattle.rx_engine.specs.Sharings.{Connects, ConnectsIf, Subscribes}
use Rattle.rx_engine.specs.States.{State, IsPromised, IsLanesOnly}
use Rattle.rx_courses.specs.Courses.{IsCommand, is_refused, has_done, has_held, has_used, has_opened, has_put, has_subscribed, has_connected, has_made_hubs, has_checkpointed, Course, begins, commands, takes, gives_up}
use Rattle.rx_courses.specs.NotesTold.{notes_added}
use Rattle.rx_courses.specs.RootsTold.{is_for_who_hears, notes_of, all_added, is_ending, ends_last}
use Rattle.rx_courses.proofs.HubsTellNone.{calm, quiet_hubs}
use Rattle.rx_courses.proofs.NotesOfCommands.{tells_each_note, none_added, settled_none, done_added, checkpoint_added, held_quiet, used_quiet, opened_quiet, subscribed_quiet, connected_quiet}

-- lists ----------------------------------------------------------------------------------------------

pub notes_of-append : (n : ℕ) (xs ys : List Mail) → notes_of n (xs ++ ys) ≡ notes_of n xs ++ notes_of n ys
notes_of-append n [] ys = refl
notes_of-append n (x ∷ xs) ys = by_test (x.to == n && is_for_who_hears x.note) (notes_of-append n xs ys) where
  by_test : (b : Bool) → notes_of n (xs ++ ys) ≡ notes_of n xs ++ notes_of n ys →
      (if b then what_told x.note ∷ notes_of n (xs ++ ys) else notes_of n (xs ++ ys)) ≡
      (if b then what_told x.note ∷ notes_of n xs else notes_of n xs) ++ notes_of n ys
  by_test true rest = ap (λ (zs : List What). what_told x.note ∷ zs) rest
  by_test false rest = rest

abbrev has_end : List What → Bool
has_end [] = false
has_end (w ∷ ws) = is_ending w || has_end ws

end_behind : (xs ys : List What) → has_end xs ≡ false → has_end (xs ++ ys) ≡ has_end ys
end_behind [] ys none = refl
end_behind (x ∷ xs) ys none = by_test (is_ending x) none (end_behind xs ys) where
  by_test : (b : Bool) → (b || has_end xs) ≡ false → (has_end xs ≡ false → has_end (xs ++ ys) ≡ has_end ys) → (b || has_end (xs ++ ys)) ≡ has_end ys
  by_test true none rest = absurd (false≢true (sym none))
  by_test false none rest = rest none

-- an item before what is in order
item_first : (w : What) (ws : List What) → is_ending w ≡ false → ends_last ws ≡ true → ends_last (w ∷ ws) ≡ true
item_first w [] item rest = refl
item_first w (v ∷ ws) item rest = (λ i. not (item i) && rest i)

items_first : (xs ys : List What) → has_end xs ≡ false → ends_last ys ≡ true → ends_last (xs ++ ys) ≡ true
items_first [] ys none rest = rest
items_first (x ∷ xs) ys none rest = by_test (is_ending x) refl none (λ still. items_first xs ys still rest) where
  by_test : (b : Bool) → is_ending x ≡ b → (b || has_end xs) ≡ false → (has_end xs ≡ false → ends_last (xs ++ ys) ≡ true) → ends_last (x ∷ (xs ++ ys)) ≡ true
  by_test true is none more = absurd (false≢true (sym none))
  by_test false is none more = item_first x (xs ++ ys) is (more none)

-- roles that have gone -------------------------------------------------------------------------------

without_none : (rs : List Role) (k n : ℕ) → role_of rs n ≡ None → role_of (without rs k) n ≡ None
without_none rs k n none = by_test (k == n) refl where
  by_test : (b : Bool) → (k == n) ≡ b → role_of (without rs k) n ≡ None
  by_test true same =
      let here = eqb-true k n same in
      ap (λ (x : List Role). role_of x n) (without_absent rs k (ap (role_of rs) here ∙ none)) ∙ none
  by_test false differs = role_of-without rs k n differs ∙ none

without_all_none : (rs : List Role) (ks : List ℕ) (n : ℕ) → role_of rs n ≡ None → role_of (without_all rs ks) n ≡ None
without_all_none rs [] n none = none
without_all_none rs (k ∷ ks) n none = without_all_none (without rs k) ks n (without_none rs k n none)

after_none : (rs : List Role) (m : Mail) (n : ℕ) → role_of rs n ≡ None → role_of (after rs m) n ≡ None
after_none rs m n none = by_end (is_end m.note) where
  by_end : (b : Bool) → role_of (if b then without rs m.to else rs) n ≡ None
  by_end true = without_none rs m.to n none
  by_end false = none

after_all_none : (rs : List Role) (ms : List Mail) (n : ℕ) → role_of rs n ≡ None → role_of (after_all rs ms) n ≡ None
after_all_none rs [] n none = none
after_all_none rs (m ∷ ms) n none = after_all_none (after rs m) ms n (after_none rs m n none)

-- each number has one role at most
abbrev pub AreOnce : List Role → Type 0
AreOnce rs = (k : ℕ) → role_of (without rs k) k ≡ None

once_without : (rs : List Role) (q : ℕ) → AreOnce rs → AreOnce (without rs q)
once_without rs q once k = by_test (q == k) refl where
  by_test : (b : Bool) → (q == k) ≡ b → role_of (without (without rs q) k) k ≡ None
  by_test true same =
      let here = eqb-true q k same in
      without_none (without rs q) k k (ap (λ (j : ℕ). role_of (without rs j) k) here ∙ once k)
  by_test false differs =
      ap (λ (x : List Role). role_of x k) (without_swaps rs q k differs) ∙ role_of-without (without rs k) q k differs ∙ once k

once_after : (rs : List Role) (m : Mail) → AreOnce rs → AreOnce (after rs m)
once_after rs m once = by_end (is_end m.note) where
  by_end : (b : Bool) → AreOnce (if b then without rs m.to else rs)
  by_end true = once_without rs m.to once
  by_end false = once

-- who hears no more is told nothing
none_told : (n : ℕ) (hears merges : List Role) (ms : List Mail) → role_of hears n ≡ None → AllListened hears merges ms → notes_of n ms ≡ []
none_told n hears merges [] none listened = refl
none_told n hears merges (m ∷ ms) none listened =
    by_note (m.to == n) refl m.note listened.0 (none_told n (after hears m) merges ms (after_none hears m n none) listened.1) where
      unheard : (m.to == n) ≡ true → is_some (role_of hears m.to) ≡ true → ⊥
      unheard here there = false≢true (sym (ap (λ (o : Option Role). is_some o) (ap (role_of hears) (eqb-true m.to n here) ∙ none)) ∙ there)

      by_note : (b : Bool) → (m.to == n) ≡ b → (note : Note) → is_some (role_told hears merges note m.to) ≡ true → notes_of n ms ≡ [] →
          (if (b && is_for_who_hears note) then what_told note ∷ notes_of n ms else notes_of n ms) ≡ []
      by_note true here (NextNote v) there rest = absurd (unheard here there)
      by_note true here (End t) there rest = absurd (unheard here there)
      by_note true here (ProjectNote v) there rest = rest
      by_note false here note there rest = rest

-- what a node is told by one command, and that behind an end it hears no more
record EndsIn (n : ℕ) (hears : List Role) (ms : List Mail) : Type 0 where
  ordered : ends_last (notes_of n ms) ≡ true
  gone : has_end (notes_of n ms) ≡ true → role_of (after_all hears ms) n ≡ None

ends_in : (n : ℕ) (hears merges : List Role) (ms : List Mail) → AreOnce hears → AllListened hears merges ms → EndsIn n hears ms
ends_in n hears merges [] once listened = record { ordered = refl; gone = λ is. absurd (false≢true is) }
ends_in n hears merges (m ∷ ms) once listened =
    let rest = ends_in n (after hears m) merges ms (once_after hears m once) listened.1 in
    let both = by_note (m.to == n) refl m.note refl rest.ordered rest.gone in
    record { ordered = both.0; gone = both.1 } where
      behind : (t : Terminal) → (m.to == n) ≡ true → m.note ≡ End t → role_of (after hears m) n ≡ None
      behind t here is =
          (λ i. role_of (if is_end (is i) then without hears m.to else hears) n) ∙ ap (λ (j : ℕ). role_of (without hears j) n) (eqb-true m.to n here) ∙ once n

      by_note : (b : Bool) → (m.to == n) ≡ b → (note : Note) → m.note ≡ note → ends_last (notes_of n ms) ≡ true →
          (has_end (notes_of n ms) ≡ true → role_of (after_all (after hears m) ms) n ≡ None) →
          (ends_last (if (b && is_for_who_hears note) then what_told note ∷ notes_of n ms else notes_of n ms) ≡ true)
          × (has_end (if (b && is_for_who_hears note) then what_told note ∷ notes_of n ms else notes_of n ms) ≡ true →
          role_of (after_all (after hears m) ms) n ≡ None)
      by_note true here (NextNote v) is ordered gone = (item_first Next (notes_of n ms) refl ordered, gone)
      by_note true here (ProjectNote v) is ordered gone = (ordered, gone)
      by_note true here (End t) is ordered gone = (
        ap (λ (ws : List What). ends_last (end_told t ∷ ws)) (none_told n (after hears m) merges ms (behind t here is) listened.1),
        λ ended. after_all_none (after hears m) ms n (behind t here is),
      )
      by_note false here note is ordered gone = (ordered, gone)

-- commands -------------------------------------------------------------------------------------------

settles_gone : (n : ℕ) (g : Ghosts Token) (by value : ℕ) (mid : BookState) (p : Parts) (t : BookState) (q : Parts) →
    role_of (after_all p.hears.list (mail_left mid)) n ≡ None → Settles g by value mid p t q → role_of q.hears.list n ≡ None
settles_gone n g by value mid p t q none d =
    ap (λ (rs : List Role). role_of rs n) d.hears ∙ without_all_none (after_all p.hears.list (mail_left mid)) (closed_of mid) n none

gives_gone : (n : ℕ) (hears : Bool) (number own : ℕ) (lane : LaneName) (roles roles' : List Role) (s t : LanesState Effect) → (hears ≡ true → n < number) →
    role_of roles n ≡ None → Gives hears number own (Some lane) roles roles' s t → role_of roles' n ≡ None
gives_gone n true number own lane roles roles' s t later none g =
    let r : Role = record { number = number; word = own; lane = g.name } in
    let l = later refl in
    ap (λ (rs : List Role). role_of rs n) g.list ∙ role_of-append roles r n none
    ∙ ap (λ (b : Bool). if b then Some r else None) (ne_eqb number n (λ is. let i : number ≡ n = is in omega (arith, l, i)))
gives_gone n false number own lane roles roles' s t later none g = ap (λ (rs : List Role). role_of rs n) (g.list ∙ append-nil roles) ∙ none

enters_gone : (n : ℕ) (p q : Parts) (number : ℕ) (hears merges : Bool) (own : ℕ) (home : Home) (lane : LaneName) → (hears ≡ true → n < number) →
    role_of p.hears.list n ≡ None → Enters p number hears merges own home lane q → role_of q.hears.list n ≡ None
enters_gone n p q number hears merges own home lane later none e =
    gives_gone n hears number own lane p.hears.list q.hears.list e.housed e.between later none e.hears_is

connects_gone : (n : ℕ) (p q : Parts) (number place share : ℕ) → role_of p.hears.list n ≡ None → Connects p number place share q → role_of q.hears.list n ≡ None
connects_gone n p q number place share none c =
    ap (λ (x : Parts). role_of x.hears.list n) c.names.only
    ∙ enters_gone n p c.housed number false false 0 _ c.name (λ is. absurd (false≢true is)) none c.houses

second_gone : (n : ℕ) (second : Option ℕ) (p q : Parts) (place share : ℕ) → role_of p.hears.list n ≡ None → ConnectsIf p second place share q →
    role_of q.hears.list n ≡ None
second_gone n None p q place share none same = ap (λ (x : Parts). role_of x.hears.list n) same ∙ none
second_gone n (Some number) p q place share none c = connects_gone n p q number place share none c

subscribes_gone : (n : ℕ) (p q : Parts) (number : ℕ) (hears : Bool) (user : ℕ) (home : Home) (place share : ℕ) (second : Option ℕ) → n < number →
    role_of p.hears.list n ≡ None → Subscribes p number hears user home place share second q → role_of q.hears.list n ≡ None
subscribes_gone n p q number hears user home place share second later none c =
    second_gone n second c.named q place share
    (ap (λ (x : Parts). role_of x.hears.list n) c.names.only ∙ enters_gone n p c.entered number hears false user home c.name (λ is. later) none c.enters)
    c.connects

-- who hears no more behind what a command tells hears no more behind it
command_gone : (n : ℕ) (g : Ghosts Token) (s t : State) → IsPromised s → (c : IsCommand g s t) → n < length s.book.history →
    role_of (after_all s.parts.hears.list (notes_added s t)) n ≡ None → role_of t.parts.hears.list n ≡ None
command_gone n g s t kept c old none = by_command c where
  was_none : notes_added s t ≡ [] → role_of s.parts.hears.list n ≡ None
  was_none added = sym (ap (λ (ms : List Mail). role_of (after_all s.parts.hears.list ms) n) added) ∙ none

  settled_gone : (by : ℕ) (mid : BookState) (p : Parts) → role_of p.hears.list n ≡ None → Settles g by 0 mid p t.book t.parts →
      role_of t.parts.hears.list n ≡ None
  settled_gone by mid p gone d = settles_gone n g by 0 mid p t.book t.parts (after_all_none p.hears.list (mail_left mid) n gone) d

  by_command : IsCommand g s t → role_of t.parts.hears.list n ≡ None
  by_command (is_refused seen) =
      ap (λ (rs : List Role). role_of rs n) seen.parts.hears ∙ was_none (none_added g s t kept (ap (λ (b : BookState). notes b.history) seen.book))
  by_command (has_done by value plain d) =
      settles_gone n g by value d.mid s.parts t.book t.parts
      (sym (ap (λ (ms : List Mail). role_of (after_all s.parts.hears.list ms) n) (done_added g s t _ by value kept plain d)) ∙ none) d.settles
  by_command (has_held node tag by d) =
      settled_gone by d.mid d.entered
      (ap (λ (rs : List Role). role_of rs n) d.keeps.hears ∙ was_none
      (settled_none g s t kept by d.mid d.entered d.settles (held_quiet g s t node tag by kept d)))
      d.settles
  by_command (has_used at kind user tag by alone d) =
      settled_gone by d.mid d.with_tag
      (ap (λ (rs : List Role). role_of rs n) d.keeps.hears
      ∙ enters_gone n s.parts d.entered (length s.book.history) _ _ user.word _ d.name (λ is. old)
      (was_none (settled_none g s t kept by d.mid d.with_tag d.settles (used_quiet g s t at kind user tag by kept d))) d.enters) d.settles
  by_command (has_opened at kind user by alone d) =
      settled_gone by d.mid d.entered
      (enters_gone n s.parts d.entered (length s.book.history) _ _ user.word _ d.name (λ is. old)
      (was_none (settled_none g s t kept by d.mid d.entered d.settles (opened_quiet g s t at kind user by kept d))) d.enters) d.settles
  by_command (has_put to user value by d) =
      ap (λ (rs : List Role). role_of rs n) d.puts.hears ∙ was_none (none_added g s t kept (ap (λ (b : BookState). notes b.history) d.book))
  by_command (has_subscribed at share user by place d) =
      settled_gone by d.mid d.entered
      (subscribes_gone n s.parts d.entered (length s.book.history) _ user.word _ place share.word _ old
      (was_none (settled_none g s t kept by d.mid d.entered d.settles (subscribed_quiet g s t at share user by place kept d))) d.subscribes) d.settles
  by_command (has_connected share user by place d) =
      settled_gone by d.mid d.entered
      (connects_gone n s.parts d.entered (length s.book.history) place share.word
      (was_none (settled_none g s t kept by d.mid d.entered d.settles (connected_quiet g s t share user by place kept d))) d.connects) d.settles
  by_command (has_made_hubs by makes) =
      let q = quiet_hubs g by s t (calm s kept) makes in
      ap (λ (rs : List Role). role_of rs n) q.hears ∙ was_none (none_added g s t kept q.notes_same)
  by_command (has_checkpointed c) = ap (λ (p : Parts). role_of p.hears.list n) c.parts ∙ was_none (checkpoint_added s t kept c)

-- no history gets shorter ----------------------------------------------------------------------------

releases_longer : (g : Ghosts Token) (by : ℕ) (s : BookState) (holds : List Role) (es : List Effect) (t : BookState) (holds' : List Role) (es' : List Effect) →
    Releases g by s holds es t holds' es' → length s.history ≤ length t.history
releases_longer g by s holds es t holds' es' none_released = omega arith
releases_longer g by s holds es t holds' es' (one_released {t = m} {holds' = held} {effects' = fs} before kept says) =
    let rest = releases_longer g by s holds es m held fs before in let one = (accepted_continues m t _ says.accepted).longer in omega (arith, rest, one)

settles_longer : (g : Ghosts Token) (by value : ℕ) (mid : BookState) (p : Parts) (t : BookState) (q : Parts) → Settles g by value mid p t q →
    length mid.history ≤ length t.history
settles_longer g by value mid p t q d = releases_longer g by (all_given mid) p.holds.list (effects_told by value mid p) t q.holds.list d.effects d.releases

hubs_longer : (g : Ghosts Token) (by : ℕ) (s t : State) → MakesHubs g by s t → length s.book.history ≤ length t.book.history
hubs_longer g by s t none_made = omega arith
hubs_longer g by s t (one_made {t = m} before d) =
    let rest = hubs_longer g by s m before in
    let one = (accepted_continues m.book d.mid _ d.accepts).longer in
    let more = settles_longer g by 0 d.mid d.added t.book t.parts d.settles in
    omega (arith, rest, one, more)
hubs_longer g by s t (room_gotten {t = m} before seen) =
    let rest = hubs_longer g by s m before in let same = ap (λ (b : BookState). length b.history) seen.book in omega (arith, rest, same)

command_longer : (g : Ghosts Token) (s t : State) → IsCommand g s t → length s.book.history ≤ length t.book.history
command_longer g s t (is_refused seen) = let same = ap (λ (b : BookState). length b.history) seen.book in omega (arith, same)
command_longer g s t (has_done by value plain d) = grown by value d.mid s.parts d.settles (accepted_continues s.book d.mid _ d.accepts).longer where
  grown : (by value : ℕ) (mid : BookState) (p : Parts) → Settles g by value mid p t.book t.parts → length s.book.history ≤ length mid.history →
      length s.book.history ≤ length t.book.history
  grown by value mid p d first = let more = settles_longer g by value mid p t.book t.parts d in omega (arith, first, more)
command_longer g s t (has_held node tag by d) =
    let first = (accepted_continues s.book d.mid _ d.accepts).longer in let more = settles_longer g by 0 d.mid d.entered t.book t.parts d.settles in
    omega (arith, first, more)
command_longer g s t (has_used at kind user tag by alone d) =
    let first = (accepted_continues s.book d.middle _ d.opens).longer in
    let then_held = (accepted_continues d.middle (record d.mid { closed = [] }) _ d.holds).longer in
    let more = settles_longer g by 0 d.mid d.with_tag t.book t.parts d.settles in omega (arith, first, then_held, more)
command_longer g s t (has_opened at kind user by alone d) =
    let first = (accepted_continues s.book d.mid _ d.accepts).longer in let more = settles_longer g by 0 d.mid d.entered t.book t.parts d.settles in
    omega (arith, first, more)
command_longer g s t (has_put to user value by d) = let same = ap (λ (b : BookState). length b.history) d.book in omega (arith, same)
command_longer g s t (has_subscribed at share user by place d) =
    let first = (accepted_continues s.book d.mid _ d.accepts).longer in let more = settles_longer g by 0 d.mid d.entered t.book t.parts d.settles in
    omega (arith, first, more)
command_longer g s t (has_connected share user by place d) =
    let first = (accepted_continues s.book d.mid _ d.accepts).longer in let more = settles_longer g by 0 d.mid d.entered t.book t.parts d.settles in
    omega (arith, first, more)
command_longer g s t (has_made_hubs by makes) = hubs_longer g by s t makes
command_longer g s t (has_checkpointed c) = let same = c.book.agree.same_length in let now = ap (length {A = Event}) c.book.history in omega (arith, same, now)

-- courses --------------------------------------------------------------------------------------------

-- what a node was told so far is in order, and behind an end it hears no more
record RootEnds (n : ℕ) (t : State) (ws : List What) : Type 0 where
  ordered : ends_last ws ≡ true
  gone : has_end ws ≡ true → role_of t.parts.hears.list n ≡ None
  old : has_end ws ≡ true → n < length t.book.history

-- where only lanes changed
lanes_ends : (n : ℕ) (s t : State) (ws : List What) → IsLanesOnly s t → RootEnds n s ws → RootEnds n t ws
lanes_ends n s t ws same ends = record {
  ordered = ends.ordered;
  gone = λ ended. ap (λ (x : State). role_of x.parts.hears.list n) same ∙ ends.gone ended;
  old = λ ended. subst (λ (x : State). n < length x.book.history) (sym same) (ends.old ended);
}

-- who is told something was there
was_there : (n : ℕ) (s t : State) → IsPromised s → AllListened s.parts.hears.list s.parts.merges.list (notes_added s t) →
    has_end (notes_of n (notes_added s t)) ≡ true → n < length s.book.history
was_there n s t kept listened ended = by_role (role_of s.parts.hears.list n) refl where
  by_role : (o : Option Role) → role_of s.parts.hears.list n ≡ o → n < length s.book.history
  by_role None none =
      absurd (false≢true (sym (ap has_end (none_told n s.parts.hears.list s.parts.merges.list (notes_added s t) none listened)) ∙ ended))
  by_role (Some r) found =
      let hears : (is_open s.book.history n && at is_root s.book.history n) ≡ true = sym (kept.tied.hears.there n)
      ∙ ap (λ (o : Option Role). is_some o) found in
      is_open_within s.book.history n (and_parts (is_open s.book.history n) (at is_root s.book.history n) hears).0

command_ends : (n : ℕ) (g : Ghosts Token) (s t : State) (ws : List What) → IsPromised s → IsCommand g s t → RootEnds n s ws →
    RootEnds n t (ws ++ notes_of n (notes_added s t))
command_ends n g s t ws kept c before = by_end (has_end ws) refl where
  listened : AllListened s.parts.hears.list s.parts.merges.list (notes_added s t)
  listened = (tells_each_note g s t kept c).listened

  new : List What
  new = notes_of n (notes_added s t)

  longer : n < length s.book.history → n < length t.book.history
  longer old = let more = command_longer g s t c in omega (arith, old, more)

  by_end : (b : Bool) → has_end ws ≡ b → RootEnds n t (ws ++ new)
  by_end true ended =
      let nothing = none_told n s.parts.hears.list s.parts.merges.list (notes_added s t) (before.gone ended) listened in
      subst (λ (vs : List What). RootEnds n t vs) (sym (ap (λ (vs : List What). ws ++ vs) nothing ∙ append-nil ws))
      (record {
        ordered = before.ordered;
        gone = λ is. command_gone n g s t kept c (before.old ended) (after_all_none s.parts.hears.list (notes_added s t) n (before.gone ended));
        old = λ is. longer (before.old ended);
      })
  by_end false open_still =
      let ends = ends_in n s.parts.hears.list s.parts.merges.list (notes_added s t) (kept.tied.hears.once) listened in
      let now = end_behind ws new open_still in
      record {
        ordered = items_first ws new open_still ends.ordered;
        gone = λ is. command_gone n g s t kept c (was_there n s t kept listened (sym now ∙ is)) (ends.gone (sym now ∙ is));
        old = λ is. longer (was_there n s t kept listened (sym now ∙ is));
      }

course_ends : (n : ℕ) (g : Ghosts Token) (s t : State) (course : Course g s t) → RootEnds n t (notes_of n (all_added course))
course_ends n g s t begins = record { ordered = refl; gone = λ is. absurd (false≢true is); old = λ is. absurd (false≢true is) }
course_ends n g s t (commands {t = m} before kept c) =
    subst (λ (ws : List What). RootEnds n t ws) (sym (notes_of-append n (all_added before) (notes_added m t)))
    (command_ends n g m t (notes_of n (all_added before)) kept c (course_ends n g s m before))
course_ends n g s t (takes {t = m} from inside by before kept take) = lanes_ends n m t (notes_of n (all_added before)) take.same (course_ends n g s m before)
course_ends n g s t (gives_up {t = m} from by _ before kept give) = lanes_ends n m t (notes_of n (all_added before)) give.same (course_ends n g s m before)

pub ordered_notes : (n : ℕ) (g : Ghosts Token) (s t : State) (course : Course g s t) → ends_last (notes_of n (all_added course)) ≡ true
ordered_notes n g s t course = (course_ends n g s t course).ordered
