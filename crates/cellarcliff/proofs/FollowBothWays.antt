-- Where only room was gotten, whatever may follow before may follow after, and the other way round.
use Rattle.std.proofs.Common.{◌≡◌, true, refl, ◌∙◌, arith}
use Rattle.std.proofs.lemmas.Bool.{false≢true}
use Rattle.rx_resource.specs.declared.Resource.{Ghosts}
use Rattle.rx_resource.specs.declared.token.Token.{Token}
use Rattle.rx_lanes.specs.State.{State as LanesState, KeepsLanes}
use Rattle.rx_roles.specs.declared.effect.Effect.{Effect}
use Rattle.rx_engine.specs.declared.parts.Parts.{Parts}
use Rattle.rx_engine.specs.States.{State, IsSeenAs}
use Rattle.rx_courses.specs.Refused.{ArePartsAlike, AreStatesAlike, FollowsAlike, RefusedIsUnchanged}
use Rattle.cellarcliff.specs.Refusals.{KeepsAllElse, is_as_before, got_room, made_checkpoint, made_hubs, is_room_only}
use Rattle.cellarcliff.specs.LanesServed.{FollowEachOther}

lanes_on : {k l m : LanesState Effect} → KeepsLanes k l → KeepsLanes l m → KeepsLanes k m
lanes_on p q = record {
  lanes = λ name. q.lanes name ∙ p.lanes name;
  fresh_is = q.fresh_is ∙ p.fresh_is;
  next_turn = q.next_turn ∙ p.next_turn;
  due = q.due ∙ p.due;
}

parts_on : {k l m : Parts} → ArePartsAlike k l → ArePartsAlike l m → ArePartsAlike k m
parts_on p q = record {
  homes = q.homes ∙ p.homes;
  hears = q.hears ∙ p.hears;
  merges = q.merges ∙ p.merges;
  holds = q.holds ∙ p.holds;
  effects = q.effects ∙ p.effects;
  shares = q.shares ∙ p.shares;
  hubs = q.hubs ∙ p.hubs;
  lanes = lanes_on p.lanes q.lanes;
  copies = q.copies ∙ p.copies;
}

alike_on : {s t u : State} → AreStatesAlike s t → AreStatesAlike t u → AreStatesAlike s u
alike_on p q = record {
  book = q.book ∙ p.book;
  parts = parts_on p.parts q.parts;
  wishes = q.wishes ∙ p.wishes;
  closings = q.closings ∙ p.closings;
}

follows_on : (g : Ghosts Token) (s t u : State) → FollowsAlike g s t → FollowsAlike g t u → FollowsAlike g s u
follows_on g s t u p q = record {
  commands = λ v c.
      let last = q.commands v c in
      let first = p.commands last.0 last.1 in
      (first.0, first.1, alike_on first.2 last.2, first.3 ∙ last.3);
  takes = λ name inside by v answer take.
      let last = q.takes name inside by v answer take in
      let first = p.takes name inside by last.0 answer last.1 in
      (first.0, first.1, alike_on first.2 last.2);
  gives_up = λ name by undone v answer give.
      let last = q.gives_up name by undone v answer give in
      let first = p.gives_up name by undone last.0 answer last.1 in
      (first.0, first.1, alike_on first.2 last.2);
}

room_alone : (s : State) → IsSeenAs s s
room_alone s = record {
  book = refl;
  parts = record {
    homes = refl;
    hears = refl;
    merges = refl;
    holds = refl;
    effects = refl;
    shares = refl;
    hubs = refl;
    lanes = record { lanes = λ name. refl; fresh_is = refl; next_turn = refl; due = refl };
    copies = refl;
    room = omega arith;
    spare = omega arith;
  };
  wishes = refl;
  closings = refl;
}

pub both_ways : (g : Ghosts Token) → RefusedIsUnchanged g → (s t : State) (keeps : KeepsAllElse g s t) → is_room_only keeps ≡ true →
    FollowEachOther g s t
both_ways g law s _ is_as_before only = law s s (room_alone s)
both_ways g law s t (got_room {t = m} before seen) only =
    let first = both_ways g law s m before only in
    let last = law m t seen in
    (follows_on g s m t first.0 last.0, follows_on g t m s last.1 first.1)
both_ways g law s t (made_checkpoint before made) only = absurd (false≢true only)
both_ways g law s t (made_hubs by before made) only = absurd (false≢true only)
