-- What an engine promises holds behind an effect that the face put itself.
use Rattle.std.proofs.Common.{◌≡◌, ℕ, ◌+◌, List, [], ◌∷◌, length, Some, IsSome, refl, sym, ap, ◌∙◌, arith, subst}
use Rattle.rx_lanes.specs.declared.names.LaneName.{LaneName}
use Rattle.rx_lanes.specs.Lane.{Lane, put}
use Rattle.rx_lanes.specs.State.{State as LanesState, lane, Gets}
use Rattle.rx_roles.specs.declared.roles.Role.{Role}
use Rattle.rx_roles.specs.declared.effect.Effect.{Effect}
use Rattle.rx_roles.specs.Roles.{AreRolesOf}
use Rattle.rx_roles.specs.Effects.{names_of}
use Rattle.rx_event.specs.Tree.{is_open}
use Rattle.rx_pool.specs.declared.search.PooledHub.{PooledHub}
use Rattle.rx_pool.specs.Places.{AreShared}
use Rattle.rx_book.specs.State.{is_kept}
use Rattle.rx_engine.specs.declared.parts.Parts.{Parts}
use Rattle.rx_engine.specs.Deliveries.{many_at, Delivers, none_delivered, one_delivered}
use Rattle.rx_engine.specs.Rooms.{IsReady, IsRoomier}
use Rattle.rx_engine.specs.Closings.{WishState, AreWishes}
use Rattle.rx_engine.specs.Puttings.{own, PutsOwn}
use Rattle.rx_engine.specs.States.{State, IsTied, hears_in, merges_in}
use Rattle.rx_engine.proofs.NamedLanes.{delivered_many}
use Rattle.rx_engine.proofs.Laws.EffectsInLanes.{arrives_gets}
use Rattle.rx_engine.proofs.Laws.EffectsInLanes.{some_lane}
use Rattle.rx_engine.proofs.LanesServed.{delivers_kept}

-- one effect is delivered
pub own_delivers : (s t : LanesState Effect) (name : LaneName) (user value by : ℕ) → IsSome (lane s name) →
    ((l : Lane Effect) → lane s name ≡ Some l → Gets s t name (put (own name user value by) l)) → Delivers by s (own name user value by ∷ []) t
own_delivers s t name user value by there puts =
    let found = some_lane (lane s name) there in
    one_delivered (own name user value by) found.0 found.1 (record { between = t; gets = puts found.0 found.1; parts = refl })
    (none_delivered (record { lanes = λ other. refl; fresh_is = refl; next_turn = refl; due = refl }))

-- and as many name each lane
one_many : (by : ℕ) (s t : LanesState Effect) (name : LaneName) (user value : ℕ) → Delivers by s (own name user value by ∷ []) t → (other : LaneName) →
    many_at t other ≡ many_at s other
one_many by s t name user value (one_delivered {t = m} e l found arrives (none_delivered keeps)) other =
    let same = ap Rattle.rx_engine.specs.Deliveries.many_of (keeps.lanes other) in
    let one = delivered_many s m by (own name user value by) l found (arrives_gets s m by (own name user value by) l arrives) other in
    omega (arith, same, one)

-- with room that was gotten before
pub puts_from : (p p' q : Parts) (name : LaneName) (user value by : ℕ) → IsRoomier p p' → PutsOwn name user value by p' q → PutsOwn name user value by p q
puts_from p p' q name user value by r puts = record {
  put = puts.put;
  delivers = delivers_kept by p.lanes p'.lanes (own name user value by ∷ []) puts.put r.lanes puts.delivers;
  lanes = puts.lanes;
  copies = puts.copies;
  homes = puts.homes ∙ r.homes;
  hears = puts.hears ∙ r.hears;
  merges = puts.merges ∙ r.merges;
  holds = puts.holds ∙ r.holds;
  shares = puts.shares ∙ r.shares;
  hubs = puts.hubs ∙ r.hubs;
}

pub tied_put : (s : State) (p q : Parts) (w : WishState) (name : LaneName) (user value by : ℕ) → IsTied s → IsRoomier s.parts p → IsReady 1 p →
    PutsOwn name user value by p q →
    q.effects ≡ p.effects → q.lanes.spare + 1 ≡ p.lanes.spare → w.roles.list ≡ s.wishes.roles.list → IsTied (record { book = s.book; parts = q; wishes = w })
tied_put s p q w name user value by tied r ready puts effects spare wishes = record {
  given = tied.given;
  none_waits = tied.none_waits;
  homes = subst (AreRolesOf (is_open s.book.history)) (sym (puts.homes ∙ r.homes)) tied.homes;
  hears = subst (AreRolesOf (hears_in s.book.history)) (sym (puts.hears ∙ r.hears)) tied.hears;
  merges = subst (AreRolesOf (merges_in s.book.history)) (sym (puts.merges ∙ r.merges)) tied.merges;
  holds = subst (AreRolesOf (is_kept s.book.history)) (sym (puts.holds ∙ r.holds)) tied.holds;
  shared = subst (λ (rs : List Role). AreShared s.book.history rs q.shares.hubs) (sym (puts.shares ∙ r.shares))
      (subst (λ (hs : List PooledHub). AreShared s.book.history s.parts.shares.list hs) (sym (puts.hubs ∙ r.hubs)) tied.shared);
  ready = record {
    empty = ap (λ x. x.list) effects ∙ ready.empty;
    many = λ other. ap (λ (x : LanesState Effect). many_at x other) puts.lanes ∙ one_many by p.lanes puts.put name user value puts.delivers other ∙ ready.many
        other
        ∙ sym (λ i. names_of other (puts.hears i) + names_of other (puts.merges i) + names_of other (puts.holds i) + names_of other (puts.homes i));
    room =
        let h = ap (length {A = Role}) puts.hears in let m = ap (length {A = Role}) puts.merges in let k = ap (length {A = Role}) puts.holds in
        let had = ready.room in let same = ap (λ x. x.room) effects in
        omega (arith, h, m, k, had, same);
    spare =
        let h = ap (length {A = Role}) puts.hears in let m = ap (length {A = Role}) puts.merges in let k = ap (length {A = Role}) puts.holds in
        let had = ready.spare in let same = spare in
        omega (arith, h, m, k, had, same);
  };
  wishes = subst (AreWishes s.book.history) (sym wishes) tied.wishes;
}
