-- A role goes with its last effect, and only with that.
use Rattle.std.proofs.Common.{◌≡◌, ℕ, ◌+◌, ◌==◌, ◌&&◌, Bool, true, false, List, [], ◌∷◌, ◌++◌, length, Option, Some, None, refl, ap, arith, if◌then◌else◌}
use Rattle.std.specs.Option.{option_to_list}
use Rattle.rx_note.specs.declared.note.Note.{Note}
use Rattle.rx_note.specs.declared.note.Note.TheVariants.{Next as NextNote, Project as ProjectNote, End}
use Rattle.rx_note.specs.declared.note.Terminal.{Terminal}
use Rattle.rx_note.specs.declared.note.Terminal.TheVariants.{Completed as Completes, Error}
use Rattle.rx_note.specs.Notes.{is_end}
use Rattle.rx_event.specs.declared.mail.Mail.{Mail}
use Rattle.rx_roles.specs.declared.roles.Role.{Role}
use Rattle.rx_roles.specs.declared.effect.Effect.{Effect}
use Rattle.rx_roles.specs.declared.effect.What.{What}
use Rattle.rx_roles.specs.declared.effect.What.TheVariants.{Gone, Merged, Release}
use Rattle.rx_roles.specs.Roles.{role_of, without, without_all}
use Rattle.rx_lanes.specs.declared.names.LaneName.{LaneName}
use Rattle.rx_lanes.specs.Courses.{is_name}
use Rattle.rx_roles.specs.Effects.{names_of, lasts_at, is_release, tagged, words_of, finals, is_last, lasts, effects_for, end_told, what_told, role_told, told, after, all_told, after_all, last_of, all_last, released}
use Rattle.rx_roles.proofs.Laws.RolesTaken.{fewer}

pub lasts-append : (xs ys : List Effect) → lasts (xs ++ ys) ≡ lasts xs + lasts ys
lasts-append [] ys = omega arith
lasts-append (x ∷ xs) ys = let r = lasts-append xs ys in omega (arith, r)

-- a last effect for each who has the role
for_last : (by value : ℕ) (what : What) → is_last what ≡ true → (o : Option Role) → lasts (effects_for by value what o) ≡ length (option_to_list o)
for_last by value what is None = refl
for_last by value what is (Some r) = ap (λ (b : Bool). (if b then 1 else 0) + 0) is

for_other : (by value : ℕ) (what : What) → is_last what ≡ false → (o : Option Role) → lasts (effects_for by value what o) ≡ 0
for_other by value what is None = refl
for_other by value what is (Some r) = ap (λ (b : Bool). (if b then 1 else 0) + 0) is

end_last : (t : Terminal) → is_last (end_told t) ≡ true
end_last Completes = refl
end_last (Error code) = refl

note_lasts : (by value : ℕ) (hears merges : List Role) (note : Note) (n : ℕ) →
    lasts (effects_for by value (what_told note) (role_told hears merges note n)) + length (if is_end note then without hears n else hears) ≡ length hears
note_lasts by value hears merges (NextNote v) n = let z = for_other by value (what_told (NextNote v)) refl (role_of hears n) in omega (arith, z)
note_lasts by value hears merges (ProjectNote v) n = let z = for_other by value (what_told (ProjectNote v)) refl (role_of merges n) in omega (arith, z)
note_lasts by value hears merges (End t) n =
    let z = for_last by value (end_told t) (end_last t) (role_of hears n) in let f = fewer hears n in omega (arith, z, f)

pub told_lasts : (by value : ℕ) (hears merges : List Role) (ms : List Mail) →
    lasts (all_told by value hears merges ms) + length (after_all hears ms) ≡ length hears
told_lasts by value hears merges [] = omega arith
told_lasts by value hears merges (m ∷ ms) =
    let one = note_lasts by value hears merges m.note m.to in
    let rest = told_lasts by value (after hears m) merges ms in
    let both = lasts-append (told by value hears merges m) (all_told by value (after hears m) merges ms) in
    omega (arith, one, rest, both)

pub closed_lasts : (by : ℕ) (hears merges : List Role) (ns : List ℕ) →
    lasts (all_last by hears merges ns) + (length (without_all hears ns) + length (without_all merges ns)) ≡ length hears + length merges
closed_lasts by hears merges [] = omega arith
closed_lasts by hears merges (n ∷ ns) =
    let heard = for_last by 0 Gone refl (role_of hears n) in
    let merged = for_last by 0 Merged refl (role_of merges n) in
    let pair = lasts-append (effects_for by 0 Gone (role_of hears n)) (effects_for by 0 Merged (role_of merges n)) in
    let f = fewer hears n in let g = fewer merges n in
    let rest = closed_lasts by (without hears n) (without merges n) ns in
    let both = lasts-append (last_of by hears merges n) (all_last by (without hears n) (without merges n) ns) in
    omega (arith, heard, merged, pair, f, g, rest, both)

-- releases, by tag ---------------------------------------------------------------------------------

pub tagged-append : (tag : ℕ) (xs ys : List Effect) → tagged tag (xs ++ ys) ≡ tagged tag xs + tagged tag ys
tagged-append tag [] ys = omega arith
tagged-append tag (x ∷ xs) ys = let r = tagged-append tag xs ys in omega (arith, r)

untagged : (tag by value : ℕ) (what : What) → is_release what ≡ false → (o : Option Role) → tagged tag (effects_for by value what o) ≡ 0
untagged tag by value what is None = refl
untagged tag by value what is (Some r) = ap (λ (b : Bool). (if (b && r.word == tag) then 1 else 0) + 0) is

end_untagged : (t : Terminal) → is_release (end_told t) ≡ false
end_untagged Completes = refl
end_untagged (Error code) = refl

note_untagged : (note : Note) → is_release (what_told note) ≡ false
note_untagged (NextNote v) = refl
note_untagged (ProjectNote v) = refl
note_untagged (End t) = end_untagged t

pub told_untagged : (tag by value : ℕ) (hears merges : List Role) (ms : List Mail) → tagged tag (all_told by value hears merges ms) ≡ 0
told_untagged tag by value hears merges [] = refl
told_untagged tag by value hears merges (m ∷ ms) =
    let one = untagged tag by value (what_told m.note) (note_untagged m.note) (role_told hears merges m.note m.to) in
    let rest = told_untagged tag by value (after hears m) merges ms in
    let both = tagged-append tag (told by value hears merges m) (all_told by value (after hears m) merges ms) in
    omega (arith, one, rest, both)

pub last_untagged : (tag by : ℕ) (hears merges : List Role) (ns : List ℕ) → tagged tag (all_last by hears merges ns) ≡ 0
last_untagged tag by hears merges [] = refl
last_untagged tag by hears merges (n ∷ ns) =
    let heard = untagged tag by 0 Gone refl (role_of hears n) in
    let merged = untagged tag by 0 Merged refl (role_of merges n) in
    let pair = tagged-append tag (effects_for by 0 Gone (role_of hears n)) (effects_for by 0 Merged (role_of merges n)) in
    let rest = last_untagged tag by (without hears n) (without merges n) ns in
    let both = tagged-append tag (last_of by hears merges n) (all_last by (without hears n) (without merges n) ns) in
    omega (arith, heard, merged, pair, rest, both)

-- a role that is taken out takes its word along
words_without : (tag : ℕ) (rs : List Role) (n : ℕ) → words_of tag (without rs n) + words_of tag (option_to_list (role_of rs n)) ≡ words_of tag rs
words_without tag [] n = refl
words_without tag (r ∷ rs) n = by_test (r.number == n) (words_without tag rs n) where
  by_test : (b : Bool) → words_of tag (without rs n) + words_of tag (option_to_list (role_of rs n)) ≡ words_of tag rs →
      words_of tag (if b then rs else r ∷ without rs n) + words_of tag (option_to_list (if b then Some r else role_of rs n)) ≡ words_of tag (r ∷ rs)
  by_test true rest = omega arith
  by_test false rest = omega (arith, rest)

one_tagged : (tag by : ℕ) (o : Option Role) → tagged tag (effects_for by 0 Release o) ≡ words_of tag (option_to_list o)
one_tagged tag by None = refl
one_tagged tag by (Some r) = refl

pub released_tagged : (tag by : ℕ) (holds : List Role) (n : ℕ) → tagged tag (released by holds n) + words_of tag (without holds n) ≡ words_of tag holds
released_tagged tag by holds n = let z = one_tagged tag by (role_of holds n) in let w = words_without tag holds n in omega (arith, z, w)

pub words-append : (tag : ℕ) (xs ys : List Role) → words_of tag (xs ++ ys) ≡ words_of tag xs + words_of tag ys
words-append tag [] ys = omega arith
words-append tag (x ∷ xs) ys = let r = words-append tag xs ys in omega (arith, r)

-- last effects, by word ------------------------------------------------------------------------------

pub finals-append : (word : ℕ) (xs ys : List Effect) → finals word (xs ++ ys) ≡ finals word xs + finals word ys
finals-append word [] ys = omega arith
finals-append word (x ∷ xs) ys = let r = finals-append word xs ys in omega (arith, r)

for_final : (word by value : ℕ) (what : What) → is_last what ≡ true → (o : Option Role) → finals word (effects_for by value what o) ≡ words_of word (option_to_list o)
for_final word by value what is None = refl
for_final word by value what is (Some r) = ap (λ (b : Bool). (if (b && r.word == word) then 1 else 0) + 0) is

other_final : (word by value : ℕ) (what : What) → is_last what ≡ false → (o : Option Role) → finals word (effects_for by value what o) ≡ 0
other_final word by value what is None = refl
other_final word by value what is (Some r) = ap (λ (b : Bool). (if (b && r.word == word) then 1 else 0) + 0) is

note_finals : (word by value : ℕ) (hears merges : List Role) (note : Note) (n : ℕ) →
    finals word (effects_for by value (what_told note) (role_told hears merges note n)) + words_of word (if is_end note then without hears n else hears) ≡ words_of word hears
note_finals word by value hears merges (NextNote v) n = let z = other_final word by value (what_told (NextNote v)) refl (role_of hears n) in omega (arith, z)
note_finals word by value hears merges (ProjectNote v) n = let z = other_final word by value (what_told (ProjectNote v)) refl (role_of merges n) in omega (arith, z)
note_finals word by value hears merges (End t) n =
    let z = for_final word by value (end_told t) (end_last t) (role_of hears n) in let w = words_without word hears n in omega (arith, z, w)

pub told_finals : (word by value : ℕ) (hears merges : List Role) (ms : List Mail) →
    finals word (all_told by value hears merges ms) + words_of word (after_all hears ms) ≡ words_of word hears
told_finals word by value hears merges [] = omega arith
told_finals word by value hears merges (m ∷ ms) =
    let one = note_finals word by value hears merges m.note m.to in
    let rest = told_finals word by value (after hears m) merges ms in
    let both = finals-append word (told by value hears merges m) (all_told by value (after hears m) merges ms) in
    omega (arith, one, rest, both)

pub closed_finals : (word by : ℕ) (hears merges : List Role) (ns : List ℕ) →
    finals word (all_last by hears merges ns) + (words_of word (without_all hears ns) + words_of word (without_all merges ns)) ≡ words_of word hears + words_of word merges
closed_finals word by hears merges [] = omega arith
closed_finals word by hears merges (n ∷ ns) =
    let heard = for_final word by 0 Gone refl (role_of hears n) in
    let merged = for_final word by 0 Merged refl (role_of merges n) in
    let pair = finals-append word (effects_for by 0 Gone (role_of hears n)) (effects_for by 0 Merged (role_of merges n)) in
    let f = words_without word hears n in let g = words_without word merges n in
    let rest = closed_finals word by (without hears n) (without merges n) ns in
    let both = finals-append word (last_of by hears merges n) (all_last by (without hears n) (without merges n) ns) in
    omega (arith, heard, merged, pair, f, g, rest, both)

pub released_finals : (word by : ℕ) (holds : List Role) (n : ℕ) → finals word (released by holds n) + words_of word (without holds n) ≡ words_of word holds
released_finals word by holds n = let z = for_final word by 0 Release refl (role_of holds n) in let w = words_without word holds n in omega (arith, z, w)

-- last effects, by lane ------------------------------------------------------------------------------

pub names_without : (name : LaneName) (rs : List Role) (n : ℕ) → names_of name (without rs n) + names_of name (option_to_list (role_of rs n)) ≡ names_of name rs
names_without name [] n = refl
names_without name (r ∷ rs) n = by_test (r.number == n) (names_without name rs n) where
  by_test : (b : Bool) → names_of name (without rs n) + names_of name (option_to_list (role_of rs n)) ≡ names_of name rs →
      names_of name (if b then rs else r ∷ without rs n) + names_of name (option_to_list (if b then Some r else role_of rs n)) ≡ names_of name (r ∷ rs)
  by_test true rest = omega arith
  by_test false rest = omega (arith, rest)

pub names-append : (name : LaneName) (xs ys : List Role) → names_of name (xs ++ ys) ≡ names_of name xs + names_of name ys
names-append name [] ys = omega arith
names-append name (x ∷ xs) ys = let r = names-append name xs ys in omega (arith, r)

pub lasts_at-append : (name : LaneName) (xs ys : List Effect) → lasts_at name (xs ++ ys) ≡ lasts_at name xs + lasts_at name ys
lasts_at-append name [] ys = omega arith
lasts_at-append name (x ∷ xs) ys = let r = lasts_at-append name xs ys in omega (arith, r)

pub for_last_at : (name : LaneName) (by value : ℕ) (what : What) → is_last what ≡ true → (o : Option Role) → lasts_at name (effects_for by value what o) ≡ names_of name (option_to_list o)
for_last_at name by value what is None = refl
for_last_at name by value what is (Some r) = ap (λ (b : Bool). (if (b && is_name r.lane name) then 1 else 0) + 0) is

other_at : (name : LaneName) (by value : ℕ) (what : What) → is_last what ≡ false → (o : Option Role) → lasts_at name (effects_for by value what o) ≡ 0
other_at name by value what is None = refl
other_at name by value what is (Some r) = ap (λ (b : Bool). (if (b && is_name r.lane name) then 1 else 0) + 0) is

pub note_lasts_at : (name : LaneName) (by value : ℕ) (hears merges : List Role) (note : Note) (n : ℕ) →
    lasts_at name (effects_for by value (what_told note) (role_told hears merges note n)) + names_of name (if is_end note then without hears n else hears) ≡ names_of name hears
note_lasts_at name by value hears merges (NextNote v) n = let z = other_at name by value (what_told (NextNote v)) refl (role_of hears n) in omega (arith, z)
note_lasts_at name by value hears merges (ProjectNote v) n = let z = other_at name by value (what_told (ProjectNote v)) refl (role_of merges n) in omega (arith, z)
note_lasts_at name by value hears merges (End t) n =
    let z = for_last_at name by value (end_told t) (end_last t) (role_of hears n) in let w = names_without name hears n in omega (arith, z, w)

pub told_lasts_at : (name : LaneName) (by value : ℕ) (hears merges : List Role) (ms : List Mail) →
    lasts_at name (all_told by value hears merges ms) + names_of name (after_all hears ms) ≡ names_of name hears
told_lasts_at name by value hears merges [] = omega arith
told_lasts_at name by value hears merges (m ∷ ms) =
    let one = note_lasts_at name by value hears merges m.note m.to in
    let rest = told_lasts_at name by value (after hears m) merges ms in
    let both = lasts_at-append name (told by value hears merges m) (all_told by value (after hears m) merges ms) in
    omega (arith, one, rest, both)

pub closed_lasts_at : (name : LaneName) (by : ℕ) (hears merges : List Role) (ns : List ℕ) →
    lasts_at name (all_last by hears merges ns) + (names_of name (without_all hears ns) + names_of name (without_all merges ns)) ≡ names_of name hears + names_of name merges
closed_lasts_at name by hears merges [] = omega arith
closed_lasts_at name by hears merges (n ∷ ns) =
    let heard = for_last_at name by 0 Gone refl (role_of hears n) in
    let merged = for_last_at name by 0 Merged refl (role_of merges n) in
    let pair = lasts_at-append name (effects_for by 0 Gone (role_of hears n)) (effects_for by 0 Merged (role_of merges n)) in
    let f = names_without name hears n in let g = names_without name merges n in
    let rest = closed_lasts_at name by (without hears n) (without merges n) ns in
    let both = lasts_at-append name (last_of by hears merges n) (all_last by (without hears n) (without merges n) ns) in
    omega (arith, heard, merged, pair, f, g, rest, both)

pub released_lasts_at : (name : LaneName) (by : ℕ) (holds : List Role) (n : ℕ) → lasts_at name (released by holds n) + names_of name (without holds n) ≡ names_of name holds
released_lasts_at name by holds n = let z = for_last_at name by 0 Release refl (role_of holds n) in let w = names_without name holds n in omega (arith, z, w)
