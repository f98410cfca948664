-- Parts with more room are as ready as they were, and as much readier as there is room.
use Rattle.std.proofs.Common.{◌≡◌, ℕ, ◌+◌, ◌≤◌, Bool, length, Option, IsSome, ap, sym, ◌∙◌, arith, subst, length-append, ◌∷◌, []}
use Rattle.rx_lanes.specs.declared.names.LaneName.{LaneName}
use Rattle.rx_lanes.specs.Lane.{Lane}
use Rattle.rx_lanes.specs.State.{lane}
use Rattle.rx_roles.specs.declared.roles.Role.{Role}
use Rattle.rx_roles.specs.declared.effect.Effect.{Effect}
use Rattle.rx_engine.specs.declared.parts.Parts.{Parts}
use Rattle.rx_engine.specs.declared.homes.Home.{Home}
use Rattle.rx_engine.specs.Rooms.{role_count, name_count, IsReady, HasRoomFor, IsRoomier}
use Rattle.rx_engine.specs.Openings.{Enters}
use Rattle.rx_engine.specs.Holdings.{Keeps}
use Rattle.rx_engine.proofs.LanesJoined.{lists_many, keeps_named}
use Rattle.rx_engine.proofs.LanesGiven.{IsOpenAt, enters_many, enters_few}

same_count : (p q : Parts) → IsRoomier p q → role_count q ≡ role_count p
same_count p q r =
    let h = ap (length {A = Role}) r.hears in let m = ap (length {A = Role}) r.merges in let k = ap (length {A = Role}) r.holds in
    omega (arith, h, m, k)

same_names : (p q : Parts) → IsRoomier p q → name_count q ≡ name_count p
same_names p q r = let same = same_count p q r in let o = ap (length {A = Role}) r.homes in omega (arith, same, o)

pub ready_roomier : (p q : Parts) → IsReady 0 p → IsRoomier p q → IsReady 0 q
ready_roomier p q ready r =
    let same = same_count p q r in
    let had = ready.room in let extra = r.room in let spare = ready.spare in let spared = r.spare in
    record {
      empty = r.effects ∙ ready.empty;
      many = lists_many p q ready.many r.hears r.merges r.holds r.homes r.lanes;
      room = omega (arith, same, had, extra);
      spare = omega (arith, same, spare, spared);
    }

pub ready_with : (extra : ℕ) (p q : Parts) → IsReady 0 p → IsRoomier p q → HasRoomFor extra q → IsReady extra q
ready_with extra p q ready r has =
    let had = has.room in let spare = has.spare in
    record {
      empty = r.effects ∙ ready.empty;
      many = lists_many p q ready.many r.hears r.merges r.holds r.homes r.lanes;
      room = omega (arith, had);
      spare = omega (arith, spare);
    }

-- there is room for what comes to no more than there is room for
pub ready_within : (items most : ℕ) (p : Parts) → items ≤ most → IsReady 0 p → role_count p + most ≤ p.effects.room → role_count p + most ≤ p.lanes.spare →
    IsReady items p
ready_within items most p few ready room spare = record {
  empty = ready.empty;
  many = ready.many;
  room = omega (arith, few, room);
  spare = omega (arith, few, spare);
}

-- who gets roles uses up as much
pub ready_entered : (n k : ℕ) → n ≡ k + 2 → (p q : Parts) (number : ℕ) (hears merges : Bool) (word : ℕ) (home : Home) (name : LaneName) → IsReady n p →
    Enters p number hears merges word home name q → q.effects ≡ p.effects → q.lanes.spare ≡ p.lanes.spare → IsReady k q
ready_entered n k extra p q number hears merges word home name ready e effects spare =
    let few = enters_few p q number hears merges word home name e in
    let had = ready.room in let kept = ap (λ x. x.room) effects in let spared = ready.spare in
    record {
      empty = ap (λ x. x.list) effects ∙ ready.empty;
      many = enters_many p q number hears merges word home name ready.many e;
      room = omega (arith, extra, few, had, kept);
      spare = omega (arith, extra, few, spared, spare);
    }

pub ready_kept : (n k : ℕ) → n ≡ k + 1 → (p q : Parts) (number tag : ℕ) (name : LaneName) → IsReady n p →
    Keeps p number tag name q → q.effects ≡ p.effects → q.lanes.spare ≡ p.lanes.spare → IsReady k q
ready_kept n k extra p q number tag name ready keeps effects spare =
    let h = ap (length {A = Role}) keeps.hears in let m = ap (length {A = Role}) keeps.merges in let held = ap (length {A = Role}) keeps.holds_is in
    let one = length-append p.holds.list ((record { number = number; word = tag; lane = name }) ∷ []) in
    let had = ready.room in let kept = ap (λ x. x.room) effects in let spared = ready.spare in
    record {
      empty = ap (λ x. x.list) effects ∙ ready.empty;
      many = keeps_named p q number tag name ready.many keeps;
      room = omega (arith, extra, h, m, held, one, had, kept);
      spare = omega (arith, extra, h, m, held, one, spared, spare);
    }

-- a lane that is open stays so
pub still_open : (p q : Parts) → IsRoomier p q → (name : LaneName) → IsSome (lane p.lanes name) → IsSome (lane q.lanes name)
still_open p q r name there = subst (λ (o : Option (Lane Effect)). IsSome o) (sym (r.lanes.lanes name)) there

pub still_at : (p q : Parts) → IsRoomier p q → (at : Option LaneName) → IsOpenAt p.lanes at → IsOpenAt q.lanes at
still_at p q r at there = λ name is. still_open p q r name (there name is)
