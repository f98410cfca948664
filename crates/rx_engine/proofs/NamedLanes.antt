-- Each effect of a command goes to a lane that a role still names.
use Rattle.std.proofs.Common.{◌≡◌, ℕ, ◌+◌, ◌-◌, ◌<◌, ◌≤◌, ◌&&◌, Bool, true, false, List, [], ◌∷◌, ◌++◌, length, Option, Some, None, refl, sym, ap, ◌∙◌, arith, subst, if◌then◌else◌, length-append}
use Rattle.std.specs.Option.{option_to_list}
use Rattle.rx_resource.specs.declared.Resource.{Ghosts}
use Rattle.rx_resource.specs.declared.token.Token.{Token}
use Rattle.rx_event.specs.declared.mail.Mail.{Mail}
use Rattle.rx_note.specs.declared.note.Note.{Note}
use Rattle.rx_note.specs.declared.note.Note.TheVariants.{Next as NextNote, Project as ProjectNote, End}
use Rattle.rx_book.specs.State.{State as BookState}
use Rattle.rx_lanes.specs.declared.names.LaneName.{LaneName}
use Rattle.rx_lanes.specs.Lane.{Lane, parted, kept}
use Rattle.rx_lanes.specs.State.{State, lane, Gets}
use Rattle.rx_roles.specs.declared.roles.Role.{Role}
use Rattle.rx_roles.specs.declared.effect.Effect.{Effect}
use Rattle.rx_roles.specs.declared.effect.What.{What}
use Rattle.rx_roles.specs.declared.effect.What.TheVariants.{Gone, Merged, Release}
use Rattle.rx_roles.specs.Roles.{role_of, without, without_all}
use Rattle.rx_lanes.specs.Courses.{is_name}
use Rattle.rx_roles.specs.Effects.{names_of, lasts_at, is_last, effects_for, what_told, role_told, told, after, all_told, after_all, last_of, all_last, released, items_in}
use Rattle.rx_roles.proofs.Laws.RolesTaken.{fewer}
use Rattle.rx_roles.proofs.Laws.LastEffects.{names_without, note_lasts_at, for_last_at, lasts_at-append, told_lasts_at, closed_lasts_at, released_lasts_at}
use Rattle.rx_roles.proofs.Laws.RolesTaken.{told_paid}
use Rattle.rx_engine.specs.declared.parts.Parts.{Parts}
use Rattle.rx_engine.proofs.Laws.EffectsInLanes.{same_name, is_itself, other_name, put_many, delivered}
use Rattle.rx_engine.specs.Deliveries.{many_of, many_at, put_by, less, AreNamed}
use Rattle.rx_engine.specs.Rooms.{role_count, named}
use Rattle.rx_engine.specs.Settlements.{mail_left, all_given, closed_of, effects_told, Releases, none_released, one_released}

-- how many name each lane behind it
pub delivered_many : (s t : State Effect) (by : ℕ) (e : Effect) (l : Lane Effect) → lane s e.lane ≡ Some l → Gets s t e.lane (delivered by e l) →
    (name : LaneName) → many_at t name ≡ less (many_at s) (e ∷ []) name
delivered_many s t by e l found gets name = by_name (is_name e.lane name) refl where
  lane_many : (b : Bool) → (if b then parted (put_by by e l) else put_by by e l).many ≡ l.many - ((if (b && true) then 1 else 0) + 0)
  lane_many true = let m = put_many by e l in omega (arith, m)
  lane_many false = let m = put_many by e l in omega (arith, m)

  none : (b : Bool) → ◌≡◌ {A = ℕ} (if (b && false) then 1 else 0) 0
  none true = refl
  none false = refl

  by_name : (b : Bool) → is_name e.lane name ≡ b → many_at t name ≡ many_at s name - ((if (is_last e.what && is_name e.lane name) then 1 else 0) + 0)
  by_name true is =
      let same = same_name e.lane name is in
      ap (many_at t) (sym same) ∙ ap many_of gets.found ∙ lane_many (is_last e.what)
      ∙ ap (λ (n : ℕ). n - ((if (is_last e.what && true) then 1 else 0) + 0)) (sym (ap many_of found) ∙ ap (many_at s) same)
      ∙ ap (λ (b : Bool). many_at s name - ((if (is_last e.what && b) then 1 else 0) + 0)) (sym is)
  by_name false is =
      let z = none (is_last e.what) in
      let kept_is : many_at t name ≡ many_at s name = ap many_of (gets.others name (other_name e.lane name is)) in
      kept_is ∙ (let m = many_at s name in minus_none m (if (is_last e.what && false) then 1 else 0) z)
      ∙ ap (λ (b : Bool). many_at s name - ((if (is_last e.what && b) then 1 else 0) + 0)) (sym is) where
        minus_none : (m k : ℕ) → k ≡ 0 → m ≡ m - (k + 0)
        minus_none m k z = omega (arith, z)

-- a list of effects ----------------------------------------------------------------------------------

pub named_same : (es : List Effect) (f g : LaneName → ℕ) → ((name : LaneName) → f name ≡ g name) → AreNamed f es → AreNamed g es
named_same es f g same are = subst (λ (h : LaneName → ℕ). AreNamed h es) (λ i. λ name. same name i) are

pub twice_less : (f : LaneName → ℕ) (xs ys : List Effect) (name : LaneName) → less f (xs ++ ys) name ≡ less (less f xs) ys name
twice_less f xs ys name = let a = lasts_at-append name xs ys in minus (f name) (lasts_at name xs) (lasts_at name ys) (lasts_at name (xs ++ ys)) a where
  minus : (n a b k : ℕ) → k ≡ a + b → n - k ≡ (n - a) - b
  minus n a b k is = omega (arith, is)

pub named-append : (f : LaneName → ℕ) (xs ys : List Effect) → AreNamed f xs → AreNamed (less f xs) ys → AreNamed f (xs ++ ys)
named-append f [] ys p q = named_same ys (less f []) f (λ name. minus_zero (f name)) q where
  minus_zero : (n : ℕ) → n - 0 ≡ n
  minus_zero n = omega arith
named-append f (x ∷ xs) ys p q =
    (p.0, named-append (less f (x ∷ [])) xs ys p.1 (named_same ys (less f (x ∷ xs)) (less (less f (x ∷ [])) xs) (twice_less f (x ∷ []) xs) q))

pub role_named : (rs : List Role) (n : ℕ) (r : Role) → role_of rs n ≡ Some r → 0 < names_of r.lane rs
role_named rs n r is =
    let w = names_without r.lane rs n in
    let o = ap (λ (x : Option Role). names_of r.lane (option_to_list x)) is in
    let one : names_of r.lane (r ∷ []) ≡ 1 = ap (λ (b : Bool). (if b then 1 else 0) + 0) (is_itself r.lane) in
    omega (arith, w, o, one)

for_named : (f : LaneName → ℕ) (by value : ℕ) (what : What) (o : Option Role) → ((r : Role) → o ≡ Some r → 0 < f r.lane) →
    AreNamed f (effects_for by value what o)
for_named f by value what None some = tt
for_named f by value what (Some r) some = (some r refl, tt)

-- of these roles, or of more, each lane says so
abbrev AreEnough : (LaneName → ℕ) → (hears merges : List Role) → Type 0
AreEnough f hears merges = (name : LaneName) → names_of name hears + names_of name merges ≤ f name

note_named : (f : LaneName → ℕ) (hears merges : List Role) (note : Note) (n : ℕ) → AreEnough f hears merges → (r : Role) →
    role_told hears merges note n ≡ Some r → 0 < f r.lane
note_named f hears merges (NextNote v) n enough r is = let w = role_named hears n r is in let e = enough r.lane in omega (arith, w, e)
note_named f hears merges (ProjectNote v) n enough r is = let w = role_named merges n r is in let e = enough r.lane in omega (arith, w, e)
note_named f hears merges (End t) n enough r is = let w = role_named hears n r is in let e = enough r.lane in omega (arith, w, e)

less_of : (n k a b c : ℕ) → b + c ≤ n → k + a ≡ b → a + c ≤ n - k
less_of n k a b c enough sum = omega (arith, enough, sum)

pub told_named : (f : LaneName → ℕ) (by value : ℕ) (hears merges : List Role) (ms : List Mail) → AreEnough f hears merges →
    AreNamed f (all_told by value hears merges ms)
told_named f by value hears merges [] enough = tt
told_named f by value hears merges (m ∷ ms) enough =
    named-append f (told by value hears merges m) (all_told by value (after hears m) merges ms)
    (for_named f by value (what_told m.note) (role_told hears merges m.note m.to) (note_named f hears merges m.note m.to enough))
    (told_named (less f (told by value hears merges m)) by value (after hears m) merges ms
    (λ name. less_of (f name) (lasts_at name (told by value hears merges m)) (names_of name (after hears m)) (names_of name hears) (names_of name merges)
    (enough name) (note_lasts_at name by value hears merges m.note m.to)))

less_two : (n k a b c d : ℕ) → b + d ≤ n → k + (a + c) ≡ b + d → a + c ≤ n - k
less_two n k a b c d enough sum = omega (arith, enough, sum)

one_closed_at : (name : LaneName) (by : ℕ) (hears merges : List Role) (n : ℕ) →
    lasts_at name (last_of by hears merges n) + (names_of name (without hears n) + names_of name (without merges n)) ≡ names_of name hears + names_of name
    merges
one_closed_at name by hears merges n =
    let heard = for_last_at name by 0 Gone refl (role_of hears n) in
    let merged = for_last_at name by 0 Merged refl (role_of merges n) in
    let pair = lasts_at-append name (effects_for by 0 Gone (role_of hears n)) (effects_for by 0 Merged (role_of merges n)) in
    let f = names_without name hears n in let g = names_without name merges n in
    omega (arith, heard, merged, pair, f, g)

one_named : (f : LaneName → ℕ) (by : ℕ) (hears merges : List Role) (n : ℕ) → AreEnough f hears merges → AreNamed f (last_of by hears merges n)
one_named f by hears merges n enough =
    named-append f (effects_for by 0 Gone (role_of hears n)) (effects_for by 0 Merged (role_of merges n))
    (for_named f by 0 Gone (role_of hears n) (λ r is. (let w = role_named hears n r is in let e = enough r.lane in omega (arith, w, e))))
    (for_named (less f (effects_for by 0 Gone (role_of hears n))) by 0 Merged (role_of merges n)
    (λ r is.
    (let w = role_named merges n r is in let e = enough r.lane in
    let h = for_last_at r.lane by 0 Gone refl (role_of hears n) in let g = names_without r.lane hears n in
    still_some (f r.lane) (lasts_at r.lane (effects_for by 0 Gone (role_of hears n))) (names_of r.lane (without hears n)) (names_of r.lane hears)
    (names_of r.lane merges) e
    (omega (arith, h, g)) w))) where
      still_some : (n k a b c : ℕ) → b + c ≤ n → k + a ≡ b → 0 < c → 0 < n - k
      still_some n k a b c enough sum some = omega (arith, enough, sum, some)

pub closed_named : (f : LaneName → ℕ) (by : ℕ) (hears merges : List Role) (ns : List ℕ) → AreEnough f hears merges → AreNamed f (all_last by hears merges ns)
closed_named f by hears merges [] enough = tt
closed_named f by hears merges (n ∷ ns) enough =
    named-append f (last_of by hears merges n) (all_last by (without hears n) (without merges n) ns) (one_named f by hears merges n enough)
    (closed_named (less f (last_of by hears merges n)) by (without hears n) (without merges n) ns
    (λ name. less_two (f name) (lasts_at name (last_of by hears merges n)) (names_of name (without hears n)) (names_of name hears)
    (names_of name (without merges n)) (names_of name merges)
    (enough name) (one_closed_at name by hears merges n)))

-- releases -------------------------------------------------------------------------------------------

-- how many roles name a lane, and how many last effects are on their way to it, stays
pub releases_at : (name : LaneName) (g : Ghosts Token) (by : ℕ) (s : BookState) (holds : List Role) (es : List Effect) (t : BookState) (holds' : List Role)
    (es' : List Effect) →
    Releases g by s holds es t holds' es' → lasts_at name es' + names_of name holds' ≡ lasts_at name es + names_of name holds
releases_at name g by s holds es t holds' es' none_released = refl
releases_at name g by s holds es t holds' es' (one_released {t = m} {holds' = held} {effects' = fs} {number = number} before kept says) =
    let rest = releases_at name g by s holds es m held fs before in
    let one = released_lasts_at name by held number in
    let both = lasts_at-append name fs (released by held number) in
    omega (arith, rest, one, both)

pub releases_named : (f : LaneName → ℕ) (g : Ghosts Token) (by : ℕ) (s : BookState) (holds : List Role) (es : List Effect) (t : BookState) (holds' : List Role)
    (es' : List Effect) →
    Releases g by s holds es t holds' es' → AreNamed f es → ((name : LaneName) → lasts_at name es + names_of name holds ≤ f name) → AreNamed f es'
releases_named f g by s holds es t holds' es' none_released are enough = are
releases_named f g by s holds es t holds' es' (one_released {t = m} {holds' = held} {effects' = fs} {number = number} before kept says) are enough =
    named-append f fs (released by held number) (releases_named f g by s holds es m held fs before are enough)
    (for_named (less f fs) by 0 Release (role_of held number)
    (λ r is.
    (let w = role_named held number r is in let e = enough r.lane in
    let rest = releases_at r.lane g by s holds es m held fs before in
    some_left (f r.lane) (lasts_at r.lane fs) (names_of r.lane held) (lasts_at r.lane es + names_of r.lane holds) e rest w))) where
      some_left : (n k a b : ℕ) → b ≤ n → k + a ≡ b → 0 < a → 0 < n - k
      some_left n k a b enough sum some = omega (arith, enough, sum, some)

-- how many effects there are -------------------------------------------------------------------------

for_length : (by value : ℕ) (what : What) (o : Option Role) → length (effects_for by value what o) ≡ length (option_to_list o)
for_length by value what None = refl
for_length by value what (Some r) = refl

pub told_length : (by value : ℕ) (hears merges : List Role) (ms : List Mail) →
    length (all_told by value hears merges ms) + length (after_all hears ms) ≤ items_in ms + length hears
told_length by value hears merges [] = omega arith
told_length by value hears merges (m ∷ ms) =
    let one = told_paid hears merges m in
    let l = for_length by value (what_told m.note) (role_told hears merges m.note m.to) in
    let rest = told_length by value (after hears m) merges ms in
    let both = length-append (told by value hears merges m) (all_told by value (after hears m) merges ms) in
    omega (arith, one, l, rest, both)

closed_length : (by : ℕ) (hears merges : List Role) (ns : List ℕ) →
    length (all_last by hears merges ns) + (length (without_all hears ns) + length (without_all merges ns)) ≡ length hears + length merges
closed_length by hears merges [] = omega arith
closed_length by hears merges (n ∷ ns) =
    let heard = for_length by 0 Gone (role_of hears n) in let merged = for_length by 0 Merged (role_of merges n) in
    let pair = length-append (effects_for by 0 Gone (role_of hears n)) (effects_for by 0 Merged (role_of merges n)) in
    let f = fewer hears n in let g = fewer merges n in
    let rest = closed_length by (without hears n) (without merges n) ns in
    let both = length-append (last_of by hears merges n) (all_last by (without hears n) (without merges n) ns) in
    omega (arith, heard, merged, pair, f, g, rest, both)

releases_length : (g : Ghosts Token) (by : ℕ) (s : BookState) (holds : List Role) (es : List Effect) (t : BookState) (holds' : List Role) (es' : List Effect) →
    Releases g by s holds es t holds' es' → length es' + length holds' ≡ length es + length holds
releases_length g by s holds es t holds' es' none_released = refl
releases_length g by s holds es t holds' es' (one_released {t = m} {holds' = held} {effects' = fs} {number = number} before kept says) =
    let rest = releases_length g by s holds es m held fs before in
    let l = for_length by 0 Release (role_of held number) in let f = fewer held number in
    let both = length-append fs (released by held number) in
    omega (arith, rest, l, f, both)

-- a settling -----------------------------------------------------------------------------------------

pub record Told (g : Ghosts Token) (by value : ℕ) (mid : BookState) (p : Parts) (t : BookState) (holds : List Role) (es : List Effect) : Type 0 where
  pub many : (name : LaneName) → many_at p.lanes name ≡ named name p
  pub releases : Releases g by (all_given mid) p.holds.list (effects_told by value mid p) t holds es

module _ {g : Ghosts Token} {by value : ℕ} {mid : BookState} {p : Parts} {t : BookState} {holds : List Role} {es : List Effect}
    (c : Told g by value mid p t holds es) where
  abbrev hears_now : List Role
  hears_now = without_all (after_all p.hears.list (mail_left mid)) (closed_of mid)

  abbrev merges_now : List Role
  merges_now = without_all p.merges.list (closed_of mid)

  told_at : (name : LaneName) → lasts_at name (effects_told by value mid p) + (names_of name hears_now + names_of name merges_now) ≡ names_of name p.hears.list
      + names_of name p.merges.list
  told_at name =
      let a = told_lasts_at name by value p.hears.list p.merges.list (mail_left mid) in
      let b = closed_lasts_at name by (after_all p.hears.list (mail_left mid)) p.merges.list (closed_of mid) in
      let both = lasts_at-append name (all_told by value p.hears.list p.merges.list (mail_left mid))
      (all_last by (after_all p.hears.list (mail_left mid)) p.merges.list (closed_of mid)) in
      omega (arith, a, b, both)

  pub all_at : (name : LaneName) → lasts_at name es + (names_of name hears_now + names_of name merges_now + names_of name holds + names_of name p.homes.list) ≡
      named name p
  all_at name =
      let a = told_at name in
      let r = releases_at name g by (all_given mid) p.holds.list (effects_told by value mid p) t holds es c.releases in
      omega (arith, a, r)

  pub all_named : AreNamed (many_at p.lanes) es
  all_named = releases_named (many_at p.lanes) g by (all_given mid) p.holds.list (effects_told by value mid p) t holds es c.releases
      (named-append (many_at p.lanes) (all_told by value p.hears.list p.merges.list (mail_left mid))
      (all_last by (after_all p.hears.list (mail_left mid)) p.merges.list (closed_of mid))
      (told_named (many_at p.lanes) by value p.hears.list p.merges.list (mail_left mid) (λ name. (let m = c.many name in omega (arith, m))))
      (closed_named (less (many_at p.lanes) (all_told by value p.hears.list p.merges.list (mail_left mid))) by (after_all p.hears.list (mail_left mid))
      p.merges.list (closed_of mid)
      (λ name.
      (let m = c.many name in let a = told_lasts_at name by value p.hears.list p.merges.list (mail_left mid) in
      less_of (many_at p.lanes name) (lasts_at name (all_told by value p.hears.list p.merges.list (mail_left mid)))
      (names_of name (after_all p.hears.list (mail_left mid)))
      (names_of name p.hears.list) (names_of name p.merges.list) (omega (arith, m)) a))))
      (λ name. (let m = c.many name in let a = told_at name in omega (arith, m, a)))

  pub all_length : length es + (length hears_now + length merges_now + length holds) ≤ items_in (mail_left mid) + role_count p
  all_length =
      let a = told_length by value p.hears.list p.merges.list (mail_left mid) in
      let b = closed_length by (after_all p.hears.list (mail_left mid)) p.merges.list (closed_of mid) in
      let both = length-append (all_told by value p.hears.list p.merges.list (mail_left mid))
      (all_last by (after_all p.hears.list (mail_left mid)) p.merges.list (closed_of mid)) in
      let r = releases_length g by (all_given mid) p.holds.list (effects_told by value mid p) t holds es c.releases in
      omega (arith, a, b, both, r)

-- from what the three steps of a settling say
pub told_all : (g : Ghosts Token) (by value : ℕ) (mid : BookState) (p : Parts) (book : BookState) (hears : List Role) (told closed : List Effect)
    (t : BookState) (holds : List Role) (es : List Effect) →
    p.effects.list ≡ [] → ((name : LaneName) → many_at p.lanes name ≡ named name p) → book ≡ all_given mid → hears ≡ after_all p.hears.list (mail_left mid) →
    told ≡ p.effects.list ++ all_told by value p.hears.list p.merges.list (mail_left mid) → closed ≡ told ++ all_last by hears p.merges.list (closed_of book) →
    Releases g by book p.holds.list closed t holds es → Told g by value mid p t holds es
told_all g by value mid p book hears told closed t holds es empty many given heard tells closes releases =
    let is : closed ≡ effects_told by value mid p =
    closes ∙ (λ i. tells i ++ all_last by (heard i) p.merges.list (closed_of (given i)))
    ∙ (λ i. (empty i ++ all_told by value p.hears.list p.merges.list (mail_left mid)) ++ all_last by (after_all p.hears.list (mail_left mid)) p.merges.list
    (closed_of mid)) in
    record {
      many = many;
      releases = subst (λ (b : BookState). Releases g by b p.holds.list (effects_told by value mid p) t holds es) given
          (subst (λ (fs : List Effect). Releases g by book p.holds.list fs t holds es) is releases);
    }
