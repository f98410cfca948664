-- Each effect is made for a role that is there, and behind its last effect a role is there no more.
use Rattle.std.proofs.Common.{◌≡◌, ℕ, ◌+◌, ◌-◌, ◌<◌, ◌≤◌, ◌==◌, Bool, true, false, List, [], ◌∷◌, ◌++◌, length, Option, Some, None, refl, ap, ◌∙◌, arith, if◌then◌else◌}
use Rattle.std.proofs.lemmas.Bool.{false≢true, and_parts}
use Rattle.rx_resource.specs.declared.Resource.{Ghosts}
use Rattle.rx_resource.specs.declared.token.Token.{Token}
use Rattle.rx_note.specs.declared.note.Note.{Note}
use Rattle.rx_note.specs.declared.note.Note.TheVariants.{Next as NextNote, Project as ProjectNote, End}
use Rattle.rx_event.specs.declared.mail.Mail.{Mail}
use Rattle.rx_book.specs.State.{State as BookState}
use Rattle.rx_roles.specs.declared.roles.Role.{Role}
use Rattle.rx_roles.specs.declared.effect.Effect.{Effect}
use Rattle.rx_roles.specs.declared.effect.What.{What}
use Rattle.rx_roles.specs.declared.effect.What.TheVariants.{Gone, Merged, Release}
use Rattle.rx_roles.specs.Roles.{role_of, without}
use Rattle.rx_roles.specs.Effects.{finals, words_of, effects_for, what_told, role_told, told, after, all_told, after_all, last_of, all_last, released}
use Rattle.rx_roles.proofs.Laws.LastEffects.{finals-append, told_finals, closed_finals}
use Rattle.rx_engine.specs.declared.parts.Parts.{Parts}
use Rattle.rx_engine.specs.Settlements.{mail_left, all_given, closed_of, effects_told, Releases, none_released, one_released, Settles}
use Rattle.rx_engine.specs.States.{State}
use Rattle.rx_courses.specs.Courses.{IsCommand, is_refused, has_done, has_held, has_used, has_opened, has_put, has_subscribed, has_connected, has_made_hubs, has_checkpointed, begins, commands, takes, gives_up, effects_of, words_in, given_to}
use Rattle.rx_courses.specs.NothingBehind.{ends_one, FindRoles, NothingBehind}
use Rattle.rx_courses.proofs.LawsOfCourses.{releases_finals, entered_words, kept_words, connects_words, subscribes_words, course_finals}

module _ (word : ℕ) where
  find_more : (m n : ℕ) (es : List Effect) → m ≤ n → FindRoles word m es → FindRoles word n es
  find_more m n [] less found = tt
  find_more m n (e ∷ es) less found =
      (λ is. (let some = found.0 is in omega (arith, less, some)), find_more (m - ends_one word e) (n - ends_one word e) es (omega (arith, less)) found.1)

  find-append : (n : ℕ) (es fs : List Effect) → FindRoles word n es → FindRoles word (n - finals word es) fs → FindRoles word n (es ++ fs)
  find-append n [] fs first second = find_more (n - 0) n fs (omega arith) second
  find-append n (e ∷ es) fs first second = (
    first.0,
    find-append (n - ends_one word e) es fs first.1
        (find_more (n - (ends_one word e + finals word es)) ((n - ends_one word e) - finals word es) fs (omega arith) second),
  )

  found_words : (rs : List Role) (k : ℕ) (r : Role) → role_of rs k ≡ Some r → (r.word == word) ≡ true → 0 < words_of word rs
  found_words [] k r found is = cc
  found_words (x ∷ rs) k r found is = by_test (x.number == k) found (λ there. found_words rs k r there is) where
    same_role : Some x ≡ Some r → x ≡ r
    same_role same = cc

    counts : (b : Bool) → b ≡ true → ◌≡◌ {A = ℕ} (if b then 1 else 0) 1
    counts true is = refl
    counts false is = absurd (false≢true is)

    by_test : (b : Bool) → (if b then Some x else role_of rs k) ≡ Some r → (role_of rs k ≡ Some r → 0 < words_of word rs) →
        0 < (if x.word == word then 1 else 0) + words_of word rs
    by_test true same rest =
        let one = counts (x.word == word) (ap (λ (y : Role). y.word == word) (same_role same) ∙ is) in omega (arith, one)
    by_test false there rest = let more = rest there in omega (arith, more)

  find_one : (n by value : ℕ) (what : What) (rs : List Role) (k : ℕ) → words_of word rs ≤ n → FindRoles word n (effects_for by value what (role_of rs k))
  find_one n by value what rs k less = by_role (role_of rs k) refl where
    by_role : (o : Option Role) → role_of rs k ≡ o → FindRoles word n (effects_for by value what o)
    by_role None none = tt
    by_role (Some r) found = ((λ is. (let some = found_words rs k r found (and_parts _ (r.word == word) is).1 in omega (arith, less, some))), tt)

  find_told : (n by value : ℕ) (hears merges : List Role) (ms : List Mail) → words_of word hears + words_of word merges ≤ n →
      FindRoles word n (all_told by value hears merges ms)
  find_told n by value hears merges [] less = tt
  find_told n by value hears merges (m ∷ ms) less =
      let one = told_finals word by value hears merges (m ∷ []) in
      let own = finals-append word (told by value hears merges m) [] in
      find-append n (told by value hears merges m) (all_told by value (after hears m) merges ms) (by_note m.note)
      (find_told (n - finals word (told by value hears merges m)) by value (after hears m) merges ms (omega (arith, one, own, less))) where
        by_note : (note : Note) → FindRoles word n (effects_for by value (what_told note) (role_told hears merges note m.to))
        by_note (NextNote v) = find_one n by value (what_told (NextNote v)) hears m.to (omega (arith, less))
        by_note (ProjectNote v) = find_one n by value (what_told (ProjectNote v)) merges m.to (omega (arith, less))
        by_note (End t) = find_one n by value (what_told (End t)) hears m.to (omega (arith, less))

  find_last : (n by : ℕ) (hears merges : List Role) (ks : List ℕ) → words_of word hears + words_of word merges ≤ n →
      FindRoles word n (all_last by hears merges ks)
  find_last n by hears merges [] less = tt
  find_last n by hears merges (k ∷ ks) less =
      let both = closed_finals word by hears merges (k ∷ []) in
      let own = finals-append word (last_of by hears merges k) [] in
      let heard = closed_finals word by hears [] (k ∷ []) in
      let first = finals-append word (effects_for by 0 Gone (role_of hears k)) [] in
      let whole = finals-append word (effects_for by 0 Gone (role_of hears k) ++ []) [] in
      find-append n (last_of by hears merges k) (all_last by (without hears k) (without merges k) ks)
      (find-append n (effects_for by 0 Gone (role_of hears k)) (effects_for by 0 Merged (role_of merges k))
      (find_one n by 0 Gone hears k (omega (arith, less)))
      (find_one (n - finals word (effects_for by 0 Gone (role_of hears k))) by 0 Merged merges k (omega (arith, less, heard, first, whole))))
      (find_last (n - finals word (last_of by hears merges k)) by (without hears k) (without merges k) ks (omega (arith, both, own, less)))

  find_released : (n : ℕ) (g : Ghosts Token) (by : ℕ) (s : BookState) (holds : List Role) (es : List Effect) (t : BookState) (holds' : List Role)
      (es' : List Effect) →
      words_of word holds + finals word es ≤ n → FindRoles word n es → Releases g by s holds es t holds' es' → FindRoles word n es'
  find_released n g by s holds es t holds' es' less found none_released = found
  find_released n g by s holds es t holds' es' less found (one_released {t = m} {holds' = held} {effects' = fs} {number = number} before kept says) =
      let sum = releases_finals word g by s holds es m held fs before in
      find-append n fs (released by held number) (find_released n g by s holds es m held fs less found before)
      (find_one (n - finals word fs) by 0 Release held number (omega (arith, less, sum)))

  settles_find : (g : Ghosts Token) (by value : ℕ) (mid : BookState) (p : Parts) (t : BookState) (q : Parts) (d : Settles g by value mid p t q) →
      FindRoles word (words_in word p) d.effects
  settles_find g by value mid p t q d =
      let told_all : List Effect = all_told by value p.hears.list p.merges.list (mail_left mid) in
      let heard : List Role = after_all p.hears.list (mail_left mid) in
      let ended = told_finals word by value p.hears.list p.merges.list (mail_left mid) in
      let closed = closed_finals word by heard p.merges.list (closed_of mid) in
      let both = finals-append word told_all (all_last by heard p.merges.list (closed_of mid)) in
      find_released (words_in word p) g by (all_given mid) p.holds.list (effects_told by value mid p) t q.holds.list d.effects (omega (
        arith,
        ended,
        closed,
        both,
      ))
      (find-append (words_in word p) told_all (all_last by heard p.merges.list (closed_of mid))
      (find_told (words_in word p) by value p.hears.list p.merges.list (mail_left mid) (omega arith))
      (find_last (words_in word p - finals word told_all) by heard p.merges.list (closed_of mid) (omega (arith, ended)))) d.releases

  command_finds : (g : Ghosts Token) (s t : State) (c : IsCommand g s t) → FindRoles word (words_in word s.parts + given_to word c) (effects_of c)
  command_finds g s t (is_refused seen) = tt
  command_finds g s t (has_done by value plain d) =
      find_more (words_in word s.parts) (words_in word s.parts + 0) d.settles.effects (omega arith) (settles_find g by value d.mid s.parts t.book t.parts
      d.settles)
  command_finds g s t (has_held node tag by d) =
      let more = kept_words word s.parts d.entered (length s.book.history) tag d.name d.keeps in
      find_more (words_in word d.entered) _ d.settles.effects (omega (arith, more)) (settles_find g by 0 d.mid d.entered t.book t.parts d.settles)
  command_finds g s t (has_used at kind user tag by alone d) =
      let more = entered_words word s.parts d.entered (length s.book.history) _ _ user.word _ d.name d.enters in
      let one = kept_words word d.entered d.with_tag (length d.middle.history) tag d.name d.keeps in
      find_more (words_in word d.with_tag) _ d.settles.effects (omega (arith, more, one)) (settles_find g by 0 d.mid d.with_tag t.book t.parts d.settles)
  command_finds g s t (has_opened at kind user by alone d) =
      let more = entered_words word s.parts d.entered (length s.book.history) _ _ user.word _ d.name d.enters in
      find_more (words_in word d.entered) _ d.settles.effects (omega (arith, more)) (settles_find g by 0 d.mid d.entered t.book t.parts d.settles)
  command_finds g s t (has_put to user value by d) = ((λ is. absurd (false≢true is)), tt)
  command_finds g s t (has_subscribed at share user by place d) =
      let more = subscribes_words word s.parts d.entered _ _ user.word _ place share.word _ d.subscribes in
      find_more (words_in word d.entered) _ d.settles.effects (omega (arith, more)) (settles_find g by 0 d.mid d.entered t.book t.parts d.settles)
  command_finds g s t (has_connected share user by place d) =
      let same = connects_words word s.parts d.entered _ place share.word d.connects in
      find_more (words_in word d.entered) _ d.settles.effects (omega (arith, same)) (settles_find g by 0 d.mid d.entered t.book t.parts d.settles)
  command_finds g s t (has_made_hubs by makes) = tt
  command_finds g s t (has_checkpointed c) = tt

pub nothing_behind : (g : Ghosts Token) → NothingBehind g
nothing_behind g word s t none begins = tt
nothing_behind g word s t none (commands {t = m} before kept c) =
    let all = course_finals word g s m before in (
      nothing_behind g word s m none before,
      find_more word (words_in word m.parts + given_to word c) _ (effects_of c) (omega (arith, all, none)) (command_finds word g m t c),
    )
nothing_behind g word s t none (takes {t = m} name inside by before kept taken) = nothing_behind g word s m none before
nothing_behind g word s t none (gives_up {t = m} name by _ before kept given) = nothing_behind g word s m none before
