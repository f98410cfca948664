-- The laws of tags, of last effects and of notes.
use Rattle.std.proofs.Common.{◌≡◌, ℕ, ◌+◌, ◌==◌, Bool, true, false, List, [], ◌∷◌, length, drop, Option, Some, None, refl, sym, ap, ◌∙◌, arith, subst, if◌then◌else◌}
use Rattle.rx_resource.specs.declared.Resource.{Ghosts}
use Rattle.rx_resource.specs.declared.token.Token.{Token}
use Rattle.rx_event.specs.declared.event.Event.{Event}
use Rattle.rx_event.specs.Notes.{notes}
use Rattle.rx_book.specs.State.{State as BookState}
use Rattle.rx_book.specs.Requests.{Request}
use Rattle.rx_lanes.specs.declared.names.LaneName.{LaneName}
use Rattle.rx_roles.specs.declared.roles.Role.{Role}
use Rattle.rx_roles.specs.declared.effect.Effect.{Effect}
use Rattle.rx_roles.specs.Effects.{tagged, finals, words_of, released, all_told, after_all, all_last, AllListened}
use Rattle.rx_roles.proofs.Laws.LastEffects.{tagged-append, told_untagged, last_untagged, released_tagged, words-append, finals-append, told_finals, closed_finals, released_finals}
use Rattle.rx_engine.specs.declared.parts.Parts.{Parts}
use Rattle.rx_engine.specs.declared.homes.Home.{Home}
use Rattle.rx_engine.specs.States.{State, IsPromised}
use Rattle.rx_engine.specs.Rooms.{role_if}
use Rattle.rx_engine.specs.Settlements.{mail_left, closed_of, effects_told, Releases, none_released, one_released, Settles}
use Rattle.rx_engine.specs.Openings.{Enters}
use Rattle.rx_engine.specs.Holdings.{Keeps}
use Rattle.rx_engine.specs.Sharings.{Connects, ConnectsIf, Subscribes}
use Rattle.rx_courses.specs.Courses.{IsCommand, is_refused, has_done, has_held, has_used, has_opened, has_put, has_subscribed, has_connected, has_made_hubs, has_checkpointed, Course, begins, commands, takes, gives_up, effects_of, all_effects}
use Rattle.rx_courses.specs.Courses.{handed_in, all_handed_in, TagsOnce, words_in, given_to, all_given_to, WordsEndOnce, AreNotesTold, NoNoteIsLost}
use Rattle.rx_courses.proofs.HubsTellNone.{calm, quiet_hubs}
use Rattle.rx_engine.proofs.Laws.PlainCalls.{IsPlainCall, left_is, tells}
use Rattle.rx_engine.proofs.Laws.PlainCalls.{plain_call}

-- notes ----------------------------------------------------------------------------------------------

plain_told : (s : State) (mid : BookState) (asked : Request) (e : Event) → IsPromised s → IsPlainCall s.book asked e mid → AreNotesTold s mid
plain_told s mid asked e kept call =
    let left = left_is call kept.tied.given in
    record {
      notes_are = ap (λ (n : ℕ). drop n (notes mid.history)) (call.accepts.given ∙ kept.tied.given);
      listened = subst (AllListened s.parts.hears.list s.parts.merges.list) (sym left)
          ((tells call).listened s.parts.hears.list s.parts.merges.list kept.tied.hears kept.tied.merges);
    }

pub no_note_is_lost : (g : Ghosts Token) → NoNoteIsLost g
no_note_is_lost g s t asked by value kept plain d =
    let has = plain_call s.book asked d.mid kept.book plain d.accepts in
    plain_told s d.mid asked has.event kept has.call

-- tags -----------------------------------------------------------------------------------------------

releases_tagged : (tag : ℕ) (g : Ghosts Token) (by : ℕ) (s : BookState) (holds : List Role) (es : List Effect) (t : BookState) (holds' : List Role)
    (es' : List Effect) →
    Releases g by s holds es t holds' es' → tagged tag es' + words_of tag holds' ≡ tagged tag es + words_of tag holds
releases_tagged tag g by s holds es t holds' es' none_released = refl
releases_tagged tag g by s holds es t holds' es' (one_released {t = m} {holds' = held} {effects' = fs} {number = number} before kept says) =
    let rest = releases_tagged tag g by s holds es m held fs before in
    let one = released_tagged tag by held number in
    let both = tagged-append tag fs (released by held number) in
    omega (arith, rest, one, both)

-- a settling puts as many releases of a tag as roles of it go
settles_tagged : (tag : ℕ) (g : Ghosts Token) (by value : ℕ) (mid : BookState) (p : Parts) (t : BookState) (q : Parts) (s : Settles g by value mid p t q) →
    tagged tag s.effects + words_of tag q.holds.list ≡ words_of tag p.holds.list
settles_tagged tag g by value mid p t q s =
    let hears = p.hears.list in let merges = p.merges.list in
    let told = all_told by value hears merges (mail_left mid) in
    let last = all_last by (after_all hears (mail_left mid)) merges (closed_of mid) in
    let freed = releases_tagged tag g by _ p.holds.list (effects_told by value mid p) t q.holds.list s.effects s.releases in
    let first = tagged-append tag told last in
    let none = told_untagged tag by value hears merges (mail_left mid) in
    let no_more = last_untagged tag by (after_all hears (mail_left mid)) merges (closed_of mid) in
    omega (arith, freed, first, none, no_more)

-- what names a hub holds no tag
connects_holds : (p q : Parts) (number place word : ℕ) → Connects p number place word q → q.holds.list ≡ p.holds.list
connects_holds p q number place word c = ap (λ (x : Parts). x.holds.list) c.names.only ∙ c.houses.holds

second_holds : (second : Option ℕ) (p q : Parts) (place word : ℕ) → ConnectsIf p second place word q → q.holds.list ≡ p.holds.list
second_holds None p q place word same = ap (λ (x : Parts). x.holds.list) same
second_holds (Some number) p q place word c = connects_holds p q number place word c

subscribes_holds : (p q : Parts) (number : ℕ) (hears : Bool) (user : ℕ) (home : Home) (place word : ℕ) (second : Option ℕ) →
    Subscribes p number hears user home place word second q → q.holds.list ≡ p.holds.list
subscribes_holds p q number hears user home place word second c =
    second_holds second c.named q place word c.connects ∙ ap (λ (x : Parts). x.holds.list) c.names.only ∙ c.enters.holds

command_tagged : (tag : ℕ) (g : Ghosts Token) (s t : State) → IsPromised s → (c : IsCommand g s t) →
    tagged tag (effects_of c) + words_of tag t.parts.holds.list ≡ words_of tag s.parts.holds.list + handed_in tag c
command_tagged tag g s t kept (is_refused seen) = let k = ap (words_of tag) seen.parts.holds in omega (arith, k)
command_tagged tag g s t kept (has_done by value plain d) =
    let same = settles_tagged tag g by value d.mid s.parts t.book t.parts d.settles in omega (arith, same)
command_tagged tag g s t kept (has_held node held by d) =
    let same = settles_tagged tag g by 0 d.mid d.entered t.book t.parts d.settles in
    let k = ap (words_of tag) d.keeps.holds_is in
    let one = words-append tag s.parts.holds.list ((record { number = length s.book.history; word = held; lane = d.name }) ∷ []) in
    omega (arith, same, k, one)
command_tagged tag g s t kept (has_used at kind user held by alone d) =
    let same = settles_tagged tag g by 0 d.mid d.with_tag t.book t.parts d.settles in
    let k = ap (words_of tag) d.enters.holds in
    let l = ap (words_of tag) d.keeps.holds_is in
    let one = words-append tag d.entered.holds.list ((record { number = length d.middle.history; word = held; lane = d.name }) ∷ []) in
    omega (arith, same, k, l, one)
command_tagged tag g s t kept (has_opened at kind user by alone d) =
    let same = settles_tagged tag g by 0 d.mid d.entered t.book t.parts d.settles in
    let k = ap (words_of tag) d.enters.holds in
    omega (arith, same, k)
command_tagged tag g s t kept (has_put to user value by d) = let k = ap (words_of tag) d.puts.holds in omega (arith, k)
command_tagged tag g s t kept (has_subscribed at share user by place d) =
    let same = settles_tagged tag g by 0 d.mid d.entered t.book t.parts d.settles in
    let k = ap (words_of tag) (subscribes_holds s.parts d.entered _ _ user.word _ place share.word _ d.subscribes) in
    omega (arith, same, k)
command_tagged tag g s t kept (has_connected share user by place d) =
    let same = settles_tagged tag g by 0 d.mid d.entered t.book t.parts d.settles in
    let k = ap (words_of tag) (connects_holds s.parts d.entered _ place share.word d.connects) in
    omega (arith, same, k)
command_tagged tag g s t kept (has_made_hubs by makes) = let k = ap (words_of tag) (quiet_hubs g by s t (calm s kept) makes).holds in omega (arith, k)
command_tagged tag g s t kept (has_checkpointed c) = let k = ap (λ (p : Parts). words_of tag p.holds.list) c.parts in omega (arith, k)

course_tagged : (tag : ℕ) (g : Ghosts Token) (s t : State) (course : Course g s t) →
    tagged tag (all_effects course) + words_of tag t.parts.holds.list ≡ words_of tag s.parts.holds.list + all_handed_in tag course
course_tagged tag g s t begins = omega arith
course_tagged tag g s t (commands {t = m} before kept c) =
    let rest = course_tagged tag g s m before in
    let one = command_tagged tag g m t kept c in
    let both = tagged-append tag (all_effects before) (effects_of c) in
    omega (arith, rest, one, both)
course_tagged tag g s t (takes {t = m} name inside by before kept taken) =
    let rest = course_tagged tag g s m before in let same = ap (λ (x : State). words_of tag x.parts.holds.list) taken.same in omega (arith, rest, same)
course_tagged tag g s t (gives_up {t = m} name by _ before kept given) =
    let rest = course_tagged tag g s m before in let same = ap (λ (x : State). words_of tag x.parts.holds.list) given.same in omega (arith, rest, same)

pub tags_once : (g : Ghosts Token) → TagsOnce g
tags_once g tag s t empty course =
    let all = course_tagged tag g s t course in
    let none = ap (words_of tag) empty in
    omega (arith, all, none)

-- words ----------------------------------------------------------------------------------------------

pub releases_finals : (word : ℕ) (g : Ghosts Token) (by : ℕ) (s : BookState) (holds : List Role) (es : List Effect) (t : BookState) (holds' : List Role)
    (es' : List Effect) →
    Releases g by s holds es t holds' es' → finals word es' + words_of word holds' ≡ finals word es + words_of word holds
releases_finals word g by s holds es t holds' es' none_released = refl
releases_finals word g by s holds es t holds' es' (one_released {t = m} {holds' = held} {effects' = fs} {number = number} before kept says) =
    let rest = releases_finals word g by s holds es m held fs before in
    let one = released_finals word by held number in
    let both = finals-append word fs (released by held number) in
    omega (arith, rest, one, both)

-- a settling puts as many last effects for a word as roles of it go
settles_finals : (word : ℕ) (g : Ghosts Token) (by value : ℕ) (mid : BookState) (p : Parts) (t : BookState) (q : Parts) (s : Settles g by value mid p t q) →
    finals word s.effects + words_in word q ≡ words_in word p
settles_finals word g by value mid p t q s =
    let hears = p.hears.list in let merges = p.merges.list in
    let told = all_told by value hears merges (mail_left mid) in
    let last = all_last by (after_all hears (mail_left mid)) merges (closed_of mid) in
    let freed = releases_finals word g by _ p.holds.list (effects_told by value mid p) t q.holds.list s.effects s.releases in
    let first = finals-append word told last in
    let ended = told_finals word by value hears merges (mail_left mid) in
    let closed = closed_finals word by (after_all hears (mail_left mid)) merges (closed_of mid) in
    let h = ap (words_of word) s.hears in let m = ap (words_of word) s.merges in
    omega (arith, freed, first, ended, closed, h, m)

pub role_if_words : (word : ℕ) (is : Bool) (r : Role) → words_of word (role_if is r) ≡ (if r.word == word then (if is then 1 else 0) else 0)
role_if_words word true r = by_test (r.word == word) where
  by_test : (b : Bool) → (if b then 1 else 0) + 0 ≡ (if b then 1 else 0)
  by_test true = refl
  by_test false = refl
role_if_words word false r = by_test (r.word == word) where
  by_test : (b : Bool) → ◌≡◌ {A = ℕ} 0 (if b then 0 else 0)
  by_test true = refl
  by_test false = refl

pub both_given : (b : Bool) (x y : ℕ) → (if b then x else 0) + (if b then y else 0) ≡ (if b then x + y else 0)
both_given true x y = refl
both_given false x y = refl

pub entered_words : (word : ℕ) (p q : Parts) (n : ℕ) (root merging : Bool) (own : ℕ) (home : Home) (name : LaneName) → Enters p n root merging own home name q →
    words_in word q ≡ words_in word p + (if own == word then (if root then 1 else 0) + (if merging then 1 else 0) else 0)
entered_words word p q n root merging own home name enters =
    let ear : Role = record { number = n; word = own; lane = enters.hears_is.name } in
    let mouth : Role = record { number = n; word = own; lane = enters.merges_is.name } in
    let h = ap (words_of word) enters.hears_is.list in let m = ap (words_of word) enters.merges_is.list in
    let k = ap (words_of word) enters.holds in
    let a = words-append word p.hears.list (role_if root ear) in let b = words-append word p.merges.list (role_if merging mouth) in
    let x = role_if_words word root ear in let y = role_if_words word merging mouth in
    let z = both_given (own == word) (if root then 1 else 0) (if merging then 1 else 0) in
    omega (arith, h, m, k, a, b, x, y, z)

pub no_more : (b : Bool) → ◌≡◌ {A = ℕ} (if b then 0 else 0) 0
no_more true = refl
no_more false = refl

pub connects_words : (word : ℕ) (p q : Parts) (number place share : ℕ) → Connects p number place share q → words_in word q ≡ words_in word p
connects_words word p q number place share c =
    let same = ap (words_in word) c.names.only in
    let none = entered_words word p c.housed number false false 0 _ c.name c.houses in
    let zero_given = no_more (0 == word) in
    omega (arith, same, none, zero_given)

second_words : (word : ℕ) (second : Option ℕ) (p q : Parts) (place share : ℕ) → ConnectsIf p second place share q → words_in word q ≡ words_in word p
second_words word None p q place share same = ap (words_in word) same
second_words word (Some number) p q place share c = connects_words word p q number place share c

pub subscribes_words : (word : ℕ) (p q : Parts) (number : ℕ) (hears : Bool) (user : ℕ) (home : Home) (place share : ℕ) (second : Option ℕ) →
    Subscribes p number hears user home place share second q →
    words_in word q ≡ words_in word p + (if user == word then (if hears then 1 else 0) + 0 else 0)
subscribes_words word p q number hears user home place share second c =
    let last = second_words word second c.named q place share c.connects in
    let same = ap (words_in word) c.names.only in
    let first = entered_words word p c.entered number hears false user home c.name c.enters in
    omega (arith, last, same, first)

pub kept_words : (word : ℕ) (p q : Parts) (n tag : ℕ) (name : LaneName) → Keeps p n tag name q →
    words_in word q ≡ words_in word p + (if tag == word then 1 else 0)
kept_words word p q n tag name keeps =
    let h = ap (words_of word) keeps.hears in let m = ap (words_of word) keeps.merges in let k = ap (words_of word) keeps.holds_is in
    let one = words-append word p.holds.list ((record { number = n; word = tag; lane = name }) ∷ []) in
    omega (arith, h, m, k, one)

command_finals : (word : ℕ) (g : Ghosts Token) (s t : State) → IsPromised s → (c : IsCommand g s t) →
    finals word (effects_of c) + words_in word t.parts ≡ words_in word s.parts + given_to word c
command_finals word g s t kept (is_refused seen) =
    let r = seen.parts in
    let h = ap (words_of word) r.hears in let m = ap (words_of word) r.merges in let k = ap (words_of word) r.holds in omega (arith, h, m, k)
command_finals word g s t kept (has_done by value plain d) =
    let same = settles_finals word g by value d.mid s.parts t.book t.parts d.settles in omega (arith, same)
command_finals word g s t kept (has_held node held by d) =
    let same = settles_finals word g by 0 d.mid d.entered t.book t.parts d.settles in
    let more = kept_words word s.parts d.entered (length s.book.history) held d.name d.keeps in
    omega (arith, same, more)
command_finals word g s t kept (has_used at kind user tag by alone d) =
    let same = settles_finals word g by 0 d.mid d.with_tag t.book t.parts d.settles in
    let more = entered_words word s.parts d.entered (length s.book.history) _ _ user.word _ d.name d.enters in
    let one = kept_words word d.entered d.with_tag (length d.middle.history) tag d.name d.keeps in
    omega (arith, same, more, one)
command_finals word g s t kept (has_opened at kind user by alone d) =
    let same = settles_finals word g by 0 d.mid d.entered t.book t.parts d.settles in
    let more = entered_words word s.parts d.entered (length s.book.history) _ _ user.word _ d.name d.enters in
    omega (arith, same, more)
command_finals word g s t kept (has_put to user value by d) =
    let h = ap (words_of word) d.puts.hears in let m = ap (words_of word) d.puts.merges in let k = ap (words_of word) d.puts.holds in omega (arith, h, m, k)
command_finals word g s t kept (has_subscribed at share user by place d) =
    let same = settles_finals word g by 0 d.mid d.entered t.book t.parts d.settles in
    let more = subscribes_words word s.parts d.entered _ _ user.word _ place share.word _ d.subscribes in
    omega (arith, same, more)
command_finals word g s t kept (has_connected share user by place d) =
    let same = settles_finals word g by 0 d.mid d.entered t.book t.parts d.settles in
    let none = connects_words word s.parts d.entered _ place share.word d.connects in
    omega (arith, same, none)
command_finals word g s t kept (has_made_hubs by makes) =
    let q = quiet_hubs g by s t (calm s kept) makes in
    let h = ap (words_of word) q.hears in let m = ap (words_of word) q.merges in let k = ap (words_of word) q.holds in omega (arith, h, m, k)
command_finals word g s t kept (has_checkpointed c) = let same = ap (words_in word) c.parts in omega (arith, same)

pub course_finals : (word : ℕ) (g : Ghosts Token) (s t : State) (course : Course g s t) →
    finals word (all_effects course) + words_in word t.parts ≡ words_in word s.parts + all_given_to word course
course_finals word g s t begins = omega arith
course_finals word g s t (commands {t = m} before kept c) =
    let rest = course_finals word g s m before in
    let one = command_finals word g m t kept c in
    let both = finals-append word (all_effects before) (effects_of c) in
    omega (arith, rest, one, both)
course_finals word g s t (takes {t = m} name inside by before kept taken) =
    let rest = course_finals word g s m before in let same = ap (λ (x : State). words_in word x.parts) taken.same in omega (arith, rest, same)
course_finals word g s t (gives_up {t = m} name by _ before kept given) =
    let rest = course_finals word g s m before in let same = ap (λ (x : State). words_in word x.parts) given.same in omega (arith, rest, same)

pub words_end_once : (g : Ghosts Token) → WordsEndOnce g
words_end_once g word s t empty course =
    let all = course_finals word g s t course in
    omega (arith, all, empty)
