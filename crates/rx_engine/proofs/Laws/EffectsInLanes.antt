-- What an effect does to the lane that it is put into.
use Rattle.std.proofs.Common.{◌≡◌, ◌≢◌, ℕ, ◌<◌, ◌==◌, ◌&&◌, ◌||◌, not, Bool, true, false, cond, List, [], ◌∷◌, ◌++◌, Option, Some, None, refl, sym, ap, ◌∙◌, arith, subst, if◌then◌else◌}
use Rattle.std.proofs.Common.{is_some, IsSome, ltb as nat_lt}
use Rattle.std.proofs.lemmas.Bool.{eqb-true, eq-eqb, and_parts, false≢true}
use Rattle.rx_lanes.specs.declared.names.LaneName.{LaneName}
use Rattle.rx_lanes.specs.Lane.{Lane, put, freed, parted, kept, serves, is_served, is_empty, has_any}
use Rattle.rx_lanes.specs.State.{State, lane, Gets, Turns, fresh_with}
use Rattle.rx_roles.specs.declared.effect.Effect.{Effect}
use Rattle.rx_lanes.specs.Courses.{is_name}
use Rattle.rx_roles.specs.Effects.{is_release, is_last}
use Rattle.rx_engine.specs.Deliveries.{many_of, many_at, put_by, PartsIf, Arrives}

-- names ----------------------------------------------------------------------------------------------

pub same_name : (a b : LaneName) → is_name a b ≡ true → a ≡ b
same_name a b is =
    let both = and_parts (a.place == b.place) (a.turn == b.turn) is in
    λ i. record { place = eqb-true a.place b.place both.0 i; turn = eqb-true a.turn b.turn both.1 i }

pub is_itself : (a : LaneName) → is_name a a ≡ true
is_itself a = ap (λ (b : Bool). b && a.turn == a.turn) (eq-eqb a.place a.place refl) ∙ eq-eqb a.turn a.turn refl

pub other_name : (a b : LaneName) → is_name a b ≡ false → b ≢ a
other_name a b is same = false≢true (sym is ∙ ap (λ (x : LaneName). is_name a x) same ∙ is_itself a)

pub some_lane : (o : Option (Lane Effect)) → IsSome o → (l : Lane Effect) × (o ≡ Some l)
some_lane None is = absurd (cc)
some_lane (Some l) is = (l, refl)

-- one effect -----------------------------------------------------------------------------------------

nonempty : (xs : List Effect) (e : Effect) → is_empty (xs ++ e ∷ []) ≡ false
nonempty [] e = refl
nonempty (x ∷ xs) e = refl

or_true : (b : Bool) → (b || true) ≡ true
or_true true = refl
or_true false = refl

-- a lane that something was put into is needed, whoever names it
pub kept_put : (by : ℕ) (e : Effect) (l : Lane Effect) → kept (parted (put_by by e l)) ≡ Some (parted (put_by by e l))
kept_put by e l = by_release (is_release e.what) where
  has : (x : Lane Effect) → has_any x ≡ true → kept x ≡ Some x
  has x is = ap (λ (b : Bool). cond b (Some x) None) (ap (λ (b : Bool). is_served x ||
      (nat_lt 0 x.many || b)) is
      ∙ ap (λ (b : Bool). is_served x || b) (or_true (nat_lt 0 x.many)) ∙
      or_true (is_served x))

  behind : kept (parted (put e l)) ≡ Some (parted (put e l))
  behind = has (parted (put e l)) (ap (λ (b : Bool). is_some l.returned || (not (is_empty l.front) || not b)) (nonempty l.back e)
      ∙ ap (λ (b : Bool). is_some l.returned || b) (or_true (not (is_empty l.front))) ∙
      or_true (is_some l.returned))

  before : kept (parted (record l { front = l.front ++ e ∷ [] })) ≡ Some (parted (record l { front = l.front ++ e ∷ [] }))
  before = has (parted (record l { front = l.front ++ e ∷ [] }))
      (ap (λ (b : Bool). is_some l.returned || (not b || not (is_empty l.back))) (nonempty l.front e) ∙
      or_true (is_some l.returned))

  by_server : (b : Bool) → kept (parted (cond b (record l { front = l.front ++ e ∷ [] }) (put e l))) ≡
      Some (parted (cond b (record l { front = l.front ++ e ∷ [] }) (put e l)))
  by_server true = before
  by_server false = behind

  by_release : (b : Bool) → kept (parted (if b then freed by e l else put e l)) ≡ Some (parted (if b then freed by e l else put e l))
  by_release true = by_server (serves by l)
  by_release false = behind

pub put_many : (by : ℕ) (e : Effect) (l : Lane Effect) → (put_by by e l).many ≡ l.many
put_many by e l = by_release (is_release e.what) where
  by_server : (b : Bool) → (cond b (record l { front = l.front ++ e ∷ [] }) (put e l)).many ≡ l.many
  by_server true = refl
  by_server false = refl

  by_release : (b : Bool) → (if b then freed by e l else put e l).many ≡ l.many
  by_release true = by_server (serves by l)
  by_release false = refl

pub found_lane : (s : State Effect) (name : LaneName) → 0 < many_at s name → (l : Lane Effect) × (lane s name ≡ Some l) × (0 < l.many)
found_lane s name some = by_lane (lane s name) refl some where
  by_lane : (o : Option (Lane Effect)) → lane s name ≡ o → 0 < many_of o → (l : Lane Effect) × (lane s name ≡ Some l) × (0 < l.many)
  by_lane None is w = absurd (omega (arith, w))
  by_lane (Some l) is w = (l, is, w)

pub put_and_part : (s m u : State Effect) (by : ℕ) (e : Effect) (l : Lane Effect) → Gets s m e.lane (put_by by e l) →
    Turns m u e.lane (kept (parted (put_by by e l))) →
    Gets s u e.lane (parted (put_by by e l))
put_and_part s m u by e l puts parts =
    let is = kept_put by e l in
    record {
      found = parts.found ∙ is;
      others = λ other differs. parts.others other differs ∙ puts.others other differs;
      fresh_is = parts.fresh_is ∙ ap (λ (o : Option (Lane Effect)). fresh_with e.lane.place o m.fresh) is ∙ puts.fresh_is;
      next_turn = parts.next_turn ∙ puts.next_turn;
      due = parts.due ∙ puts.due;
    }

-- the lane behind it
abbrev pub delivered : ℕ → Effect → Lane Effect → Lane Effect
delivered by e l = if is_last e.what then parted (put_by by e l) else put_by by e l

pub arrives_gets : (s t : State Effect) (by : ℕ) (e : Effect) (l : Lane Effect) → Arrives by e l s t → Gets s t e.lane (delivered by e l)
arrives_gets s t by e l a = by_last (is_last e.what) a.parts where
  by_last : (b : Bool) → PartsIf b e.lane (put_by by e l) a.between t → Gets s t e.lane (if b then parted (put_by by e l) else put_by by e l)
  by_last true parts = put_and_part s a.between t by e l a.gets parts
  by_last false same = subst (λ (x : State Effect). Gets s x e.lane (put_by by e l)) (sym same) a.gets
