-- One more role names a lane.
use Rattle.std.proofs.Common.{◌≡◌, ℕ, suc, ◌+◌, ◌≤◌, if◌then◌else◌, Some, Bool, true, false, List, [], ◌∷◌, ◌++◌, length, refl, sym, ap, ◌∙◌, arith}
use Rattle.rx_lanes.specs.declared.names.LaneName.{LaneName}
use Rattle.rx_lanes.specs.Courses.{is_name}
use Rattle.rx_lanes.specs.Lane.{Lane}
use Rattle.rx_lanes.specs.State.{State as LanesState, lane, KeepsLanes}
use Rattle.rx_roles.specs.declared.roles.Role.{Role}
use Rattle.rx_roles.specs.declared.effect.Effect.{Effect}
use Rattle.rx_roles.specs.Effects.{names_of}
use Rattle.rx_roles.proofs.Laws.LastEffects.{names-append}
use Rattle.rx_engine.specs.declared.parts.Parts.{Parts}
use Rattle.rx_engine.specs.Deliveries.{many_of, many_at, Joins}
use Rattle.rx_engine.specs.Rooms.{named, name_count}
use Rattle.rx_engine.specs.Holdings.{Keeps}
use Rattle.rx_engine.proofs.Laws.EffectsInLanes.{same_name, other_name}

pub names_few : (name : LaneName) (rs : List Role) → names_of name rs ≤ length rs
names_few name [] = omega arith
names_few name (r ∷ rs) = let rest = names_few name rs in by_name (is_name r.lane name) rest where
  by_name : (b : Bool) → names_of name rs ≤ length rs → (if b then 1 else 0) + names_of name rs ≤ suc (length rs)
  by_name true rest = omega (arith, rest)
  by_name false rest = omega (arith, rest)

-- no more name a lane than there are roles and homes
pub many_few : (p : Parts) (name : LaneName) → ((n : LaneName) → many_at p.lanes n ≡ named n p) → (l : Lane Effect) → lane p.lanes name ≡ Some l →
    l.many ≤ name_count p
many_few p name many l found =
    let m = sym (ap many_of found) ∙ many name in
    let h = names_few name p.hears.list in let g = names_few name p.merges.list in let k = names_few name p.holds.list in let o = names_few name p.homes.list in
    omega (arith, m, h, g, k, o)

-- one more names this lane
pub joined_many : (s t : LanesState Effect) (name : LaneName) → Joins s t name →
    (other : LaneName) → many_at t other ≡ many_at s other + (if is_name name other then 1 else 0)
joined_many s t name j other = by_name (is_name name other) refl where
  by_name : (b : Bool) → is_name name other ≡ b → many_at t other ≡ many_at s other + (if b then 1 else 0)
  by_name true is =
      let this = same_name name other is in
      ap (many_at t) (sym this) ∙ ap many_of j.joins.found ∙ sym (ap (λ (n : ℕ). n + 1) (ap (many_at s) (sym this) ∙ ap many_of j.found))
  by_name false is = let same = ap many_of (j.joins.others other (other_name name other is)) in omega (arith, same)

pub keeps_named : (p q : Parts) (number tag : ℕ) (name : LaneName) → ((n : LaneName) → many_at p.lanes n ≡ named n p) →
    Keeps p number tag name q → (n : LaneName) → many_at q.lanes n ≡ named n q
keeps_named p q number tag name many k n =
    let more = joined_many p.lanes q.lanes name k.joins n in
    let had = many n in
    let h = ap (names_of n) k.hears in let m = ap (names_of n) k.merges in let held = ap (names_of n) k.holds_is in
    let homes = ap (names_of n) k.homes in
    let one = names-append n p.holds.list ((record { number = number; word = tag; lane = name }) ∷ []) in
    omega (arith, more, had, h, m, held, homes, one)

pub joins_kept : (s s' t : LanesState Effect) (name : LaneName) → KeepsLanes s s' → Joins s' t name → Joins s t name
joins_kept s s' t name k j = record {
  before = j.before;
  found = sym (k.lanes name) ∙ j.found;
  joins = record {
    found = j.joins.found;
    others = λ other differs. j.joins.others other differs ∙ k.lanes other;
    fresh_is = j.joins.fresh_is ∙ k.fresh_is;
    next_turn = j.joins.next_turn ∙ k.next_turn;
    due = j.joins.due ∙ k.due;
  };
}

pub lists_many : (p q : Parts) → ((name : LaneName) → many_at p.lanes name ≡ named name p) → q.hears.list ≡ p.hears.list → q.merges.list ≡ p.merges.list →
    q.holds.list ≡ p.holds.list → q.homes.list ≡ p.homes.list → KeepsLanes p.lanes q.lanes → (name : LaneName) → many_at q.lanes name ≡ named name q
lists_many p q many hears merges holds homes keeps name =
    ap many_of (keeps.lanes name) ∙ many name
    ∙ (λ i. names_of name (sym hears i) + names_of name (sym merges i) + names_of name (sym holds i) + names_of name (sym homes i))

-- with room for it, a tag is kept
pub keeps_from : (p q r : Parts) (number tag : ℕ) (name : LaneName) → q.hears.list ≡ p.hears.list → q.merges.list ≡ p.merges.list →
    q.holds.list ≡ p.holds.list → q.homes.list ≡ p.homes.list → q.shares.list ≡ p.shares.list → q.shares.hubs ≡ p.shares.hubs → KeepsLanes p.lanes q.lanes → Keeps q number tag name r → Keeps p number tag name r
keeps_from p q r number tag name hears merges holds homes shares hubs keeps k = record {
  holds_is = k.holds_is ∙ (λ i. holds i ++ (record { number = number; word = tag; lane = name }) ∷ []);
  hears = k.hears ∙ hears;
  merges = k.merges ∙ merges;
  homes = k.homes ∙ homes;
  shares = k.shares ∙ shares;
  hubs = k.hubs ∙ hubs;
  joins = joins_kept p.lanes q.lanes r.lanes name keeps k.joins;
}
