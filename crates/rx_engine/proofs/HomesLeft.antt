-- What was closed leaves its lane.
use Rattle.std.proofs.Common.{◌≡◌, ℕ, ◌+◌, ◌<◌, ◌≤◌, List, ◌++◌, Option, Some, None, refl, ap, arith, subst}
use Rattle.std.specs.Option.{option_to_list}
use Rattle.rx_lanes.specs.declared.names.LaneName.{LaneName}
use Rattle.rx_lanes.specs.Lane.{Lane, kept, parted}
use Rattle.rx_lanes.specs.State.{State, lane, Turns}
use Rattle.rx_roles.specs.declared.roles.Role.{Role}
use Rattle.rx_roles.specs.declared.effect.Effect.{Effect}
use Rattle.rx_roles.specs.Roles.{Table, role_of, without}
use Rattle.rx_roles.specs.Effects.{names_of}
use Rattle.rx_roles.proofs.Laws.LastEffects.{names_without}
use Rattle.rx_engine.specs.declared.parts.Parts.{Parts}
use Rattle.rx_engine.specs.Deliveries.{many_at, Leaves, one_left}
use Rattle.rx_engine.specs.Rooms.{named}
use Rattle.rx_engine.proofs.NamedLanes.{role_named}
use Rattle.rx_engine.proofs.Laws.EffectsInLanes.{found_lane}
use Rattle.rx_engine.proofs.LanesServed.{parted_many}

-- one left its lane, where it had one
pub record LeftOne (s t : State Effect) (homes : List Role) (n : ℕ) : Type 0 where
  pub named_is : (name : LaneName) → names_of name homes ≤ many_at s name
  pub leaves : (r : Role) → role_of homes n ≡ Some r → (l : Lane Effect) → lane s r.lane ≡ Some l → Turns s t r.lane (kept (parted l))
  pub stays : role_of homes n ≡ None → t ≡ s

module _ {s t : State Effect} {homes : List Role} {n : ℕ} (c : LeftOne s t homes n) where
  found_home : (r : Role) → role_of homes n ≡ Some r → (l : Lane Effect) × (lane s r.lane ≡ Some l) × (0 < l.many)
  found_home r is = found_lane s r.lane (let some = role_named homes n r is in let few = c.named_is r.lane in omega (arith, some, few))

  -- then it comes first of all that leave
  pub left_on : (rest : List Role) (u : State Effect) → Leaves t rest u → Leaves s (option_to_list (role_of homes n) ++ rest) u
  left_on rest u d = by_role (role_of homes n) refl where
    by_role : (o : Option Role) → role_of homes n ≡ o → Leaves s (option_to_list o ++ rest) u
    by_role None is = subst (λ (x : State Effect). Leaves x rest u) (c.stays is) d
    by_role (Some r) is = let found = found_home r is in one_left r found.0 found.1 (c.leaves r is found.0 found.1) d

  -- and one fewer names it
  pub left_many : (name : LaneName) → many_at t name + names_of name homes ≡ many_at s name + names_of name (without homes n)
  left_many name = by_role (role_of homes n) refl where
    by_role : (o : Option Role) → role_of homes n ≡ o → many_at t name + names_of name homes ≡ many_at s name + names_of name (without homes n)
    by_role None is =
        let same = ap (λ (x : State Effect). many_at x name) (c.stays is) in
        let w = names_without name homes n in let z = ap (λ (o : Option Role). names_of name (option_to_list o)) is in
        omega (arith, same, w, z)
    by_role (Some r) is =
        let found = found_home r is in
        let less = parted_many s t r.lane found.0 found.1 found.2 (c.leaves r is found.0 found.1) name in
        let w = names_without name homes n in let z = ap (λ (o : Option Role). names_of name (option_to_list o)) is in
        omega (arith, less, w, z)

-- behind it as many name each lane as it says
pub left_ready : (p : Parts) (homes : Table) (lanes : State Effect) → ((name : LaneName) → many_at p.lanes name ≡ named name p) →
    ((name : LaneName) → many_at lanes name + names_of name p.homes.list ≡ many_at p.lanes name + names_of name homes.list) →
    (name : LaneName) → many_at lanes name ≡ named name (record p { homes = homes; lanes = lanes })
left_ready p homes lanes many left name = let m = many name in let l = left name in omega (arith, m, l)
