-- Nodes that were closed end one after another.
use Rattle.std.proofs.Common.{◌≡◌, ℕ, ◌+◌, ◌≤◌, List, ◌∷◌, ◌++◌, length, ap, ◌∙◌, arith, subst, append_assoc}
use Rattle.std.specs.Option.{option_to_list}
use Rattle.rx_roles.specs.declared.roles.Role.{Role}
use Rattle.rx_roles.specs.Roles.{without, without_all}
use Rattle.rx_roles.specs.Effects.{names_of, last_of, all_last}
use Rattle.rx_pool.specs.Moves.{left_all}
use Rattle.rx_pool.specs.Places.{place_in, places_left}
use Rattle.rx_engine.specs.declared.parts.Parts.{Parts}
use Rattle.rx_engine.specs.Deliveries.{Leaves}
use Rattle.rx_engine.specs.Settlements.{taken_out}
use Rattle.rx_engine.specs.Gatherings.{EndsClosed}
use Rattle.rx_engine.proofs.HomesLeft.{LeftOne, left_on, left_many}
use Rattle.rx_engine.proofs.HubsLeft.{left_first}

-- one ended
pub record EndsOne (by n : ℕ) (p q : Parts) : Type 0 where
  pub left : LeftOne p.lanes q.lanes p.homes.list n
  pub homes : q.homes.list ≡ without p.homes.list n
  pub spare : q.lanes.spare ≡ p.lanes.spare
  pub shares : q.shares.list ≡ without p.shares.list n
  pub hubs : q.shares.hubs ≡ left_all (option_to_list (place_in p.shares.list n)) p.shares.hubs
  pub hears : q.hears.list ≡ without p.hears.list n
  pub merges : q.merges.list ≡ without p.merges.list n
  pub effects : q.effects.list ≡ p.effects.list ++ last_of by p.hears.list p.merges.list n
  pub room : p.effects.room + (length q.hears.list + length q.merges.list) ≤ q.effects.room + (length p.hears.list + length p.merges.list)
  pub holds : q.holds ≡ p.holds

-- then it comes first of all that end
pub ends_on : {by n : ℕ} {p q : Parts} (ns : List ℕ) (u : Parts) → EndsOne by n p q → EndsClosed by ns q u → EndsClosed by (n ∷ ns) p u
ends_on {by} {n} {p} {q} ns u one rest = record {
  homes = rest.homes ∙ ap (λ (rs : List Role). without_all rs ns) one.homes;
  leaves = left_on one.left (taken_out (without p.homes.list n) ns) u.lanes
      (subst (λ (rs : List Role). Leaves q.lanes (taken_out rs ns) u.lanes) one.homes rest.leaves);
  many = λ name.
      (let step = left_many one.left name in let had = rest.many name in let same = ap (names_of name) one.homes in
      omega (arith, step, had, same));
  spare = rest.spare ∙ one.spare;
  shares = rest.shares ∙ ap (λ (rs : List Role). without_all rs ns) one.shares;
  hubs = rest.hubs ∙ (λ j. left_all (places_left (one.shares j) ns) (one.hubs j)) ∙
      left_first (place_in p.shares.list n) (places_left (without p.shares.list n) ns) p.shares.hubs;
  hears = rest.hears ∙ ap (λ (rs : List Role). without_all rs ns) one.hears;
  merges = rest.merges ∙ ap (λ (rs : List Role). without_all rs ns) one.merges;
  effects = rest.effects ∙ (λ j. one.effects j ++ all_last by (one.hears j) (one.merges j) ns) ∙ append_assoc p.effects.list _ _;
  room = let a = one.room in let b = rest.room in omega (arith, a, b);
  holds = rest.holds ∙ one.holds;
}
