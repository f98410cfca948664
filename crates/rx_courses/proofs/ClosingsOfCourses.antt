-- The law of closings.
use Rattle.std.proofs.Common.{◌≡◌, ℕ, ◌+◌, ◌==◌, Bool, true, false, List, [], ◌∷◌, ◌++◌, Some, ap, arith, if◌then◌else◌, option_map}
use Rattle.std.specs.Option.{option_to_list}
use Rattle.rx_resource.specs.declared.Resource.{Ghosts}
use Rattle.rx_resource.specs.declared.token.Token.{Token}
use Rattle.rx_book.specs.State.{State as BookState}
use Rattle.rx_roles.specs.declared.roles.Role.{Role}
use Rattle.rx_roles.specs.Roles.{role_of, without, without_all}
use Rattle.rx_roles.specs.Effects.{words_of}
use Rattle.rx_roles.proofs.Laws.LastEffects.{words-append}
use Rattle.rx_engine.specs.declared.parts.User.{User}
use Rattle.rx_engine.specs.States.{State, IsPromised}
use Rattle.rx_engine.specs.Rooms.{role_if}
use Rattle.rx_engine.specs.Settlements.{closed_of}
use Rattle.rx_engine.specs.Closings.{WishState, nowhere, with_wish, words_taken, Closes}
use Rattle.rx_courses.specs.Courses.{IsCommand, is_refused, has_done, has_held, has_used, has_opened, has_put, has_subscribed, has_connected, has_made_hubs, has_checkpointed, Course, begins, commands, takes, gives_up}
use Rattle.rx_courses.specs.Courses.{times, wish_of, closed_for, wished_for, all_closed_for, all_wished_for, ClosingsOnce}
use Rattle.rx_courses.proofs.HubsTellNone.{calm, quiet_hubs}
use Rattle.rx_courses.proofs.LawsOfCourses.{role_if_words}

times-append : (word : ℕ) (xs ys : List ℕ) → times word (xs ++ ys) ≡ times word xs + times word ys
times-append word [] ys = omega arith
times-append word (x ∷ xs) ys = let rest = times-append word xs ys in omega (arith, rest)

-- a role that is taken out gives its word
taken_word : (word : ℕ) (rs : List Role) (n : ℕ) →
    times word (option_to_list (option_map (λ (r : Role). r.word) (role_of rs n))) + words_of word (without rs n) ≡ words_of word rs
taken_word word [] n = omega arith
taken_word word (r ∷ rs) n = by_test (r.number == n) (taken_word word rs n) where
  by_test : (b : Bool) → times word (option_to_list (option_map (λ (x : Role). x.word) (role_of rs n))) + words_of word (without rs n) ≡ words_of word rs →
      times word (option_to_list (option_map (λ (x : Role). x.word) (if b then Some r else role_of rs n))) + words_of word
      (if b then rs else r ∷ without rs n) ≡
      (if r.word == word then 1 else 0) + words_of word rs
  by_test true rest = omega arith
  by_test false rest = omega (arith, rest)

taken_words : (word : ℕ) (rs : List Role) (ns : List ℕ) → times word (words_taken rs ns) + words_of word (without_all rs ns) ≡ words_of word rs
taken_words word rs [] = omega arith
taken_words word rs (n ∷ ns) =
    let one = taken_word word rs n in
    let rest = taken_words word (without rs n) ns in
    let both = times-append word (option_to_list (option_map (λ (r : Role). r.word) (role_of rs n))) (words_taken (without rs n) ns) in
    omega (arith, one, rest, both)

closes_words : (word : ℕ) (mid : BookState) (rs : List Role) (v : WishState) → Closes mid rs v →
    times word v.closings + words_of word v.roles.list ≡ words_of word rs
closes_words word mid rs v c =
    let all = taken_words word rs (closed_of mid) in
    let told = ap (times word) c.closings_are in let left = ap (words_of word) c.roles_are in
    omega (arith, all, told, left)

-- with the wish of a node that the command made
wished_closes : (word : ℕ) (mid : BookState) (rs : List Role) (number : ℕ) (user : User) (v : WishState) → Closes mid (with_wish rs number user) v →
    times word v.closings + words_of word v.roles.list ≡ words_of word rs + wish_of word user
wished_closes word mid rs number user v c =
    let role : Role = record { number = number; word = user.word; lane = nowhere } in
    let all = closes_words word mid (rs ++ role_if user.wished role) v c in
    let both = words-append word rs (role_if user.wished role) in
    let new = role_if_words word user.wished role in
    omega (arith, all, both, new)

command_closes : (word : ℕ) (g : Ghosts Token) (s t : State) → IsPromised s → (c : IsCommand g s t) →
    closed_for word c + words_of word t.wishes.roles.list ≡ words_of word s.wishes.roles.list + wished_for word c
command_closes word g s t kept (is_refused seen) = let same = ap (words_of word) seen.wishes in omega (arith, same)
command_closes word g s t kept (has_done by value plain d) = let all = closes_words word d.mid s.wishes.roles.list t.wishes d.closes in omega (arith, all)
command_closes word g s t kept (has_held node tag by d) = let all = closes_words word d.mid s.wishes.roles.list t.wishes d.closes in omega (arith, all)
command_closes word g s t kept (has_used at kind user tag by alone d) = wished_closes word d.mid s.wishes.roles.list _ user t.wishes d.closes
command_closes word g s t kept (has_opened at kind user by alone d) = wished_closes word d.mid s.wishes.roles.list _ user t.wishes d.closes
command_closes word g s t kept (has_put to user value by d) = let same = ap (words_of word) d.wishes in omega (arith, same)
command_closes word g s t kept (has_subscribed at share user by place d) = wished_closes word d.mid s.wishes.roles.list _ user t.wishes d.closes
command_closes word g s t kept (has_connected share user by place d) = wished_closes word d.mid s.wishes.roles.list _ user t.wishes d.closes
command_closes word g s t kept (has_made_hubs by makes) = let same = ap (words_of word) (quiet_hubs g by s t (calm s kept) makes).wishes in omega (arith, same)
command_closes word g s t kept (has_checkpointed c) = let same = ap (λ (w : WishState). words_of word w.roles.list) c.wishes in omega (arith, same)

course_closes : (word : ℕ) (g : Ghosts Token) (s t : State) (course : Course g s t) →
    all_closed_for word course + words_of word t.wishes.roles.list ≡ words_of word s.wishes.roles.list + all_wished_for word course
course_closes word g s t begins = omega arith
course_closes word g s t (commands {t = m} before kept c) =
    let rest = course_closes word g s m before in
    let one = command_closes word g m t kept c in
    omega (arith, rest, one)
course_closes word g s t (takes {t = m} name inside by before kept taken) =
    let rest = course_closes word g s m before in let same = ap (λ (x : State). words_of word x.wishes.roles.list) taken.same in omega (arith, rest, same)
course_closes word g s t (gives_up {t = m} name by _ before kept given) =
    let rest = course_closes word g s m before in let same = ap (λ (x : State). words_of word x.wishes.roles.list) given.same in omega (arith, rest, same)

pub closings_once : (g : Ghosts Token) → ClosingsOnce g
closings_once g word s t none course =
    let all = course_closes word g s t course in
    let z = ap (words_of word) none in
    omega (arith, all, z)
