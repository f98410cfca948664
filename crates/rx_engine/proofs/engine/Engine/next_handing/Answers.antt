use Rattle.std.proofs.Common.{◌≡◌, ◌<◌, sym, subst, [], Option, None, Result, Ok, length, rules, tests}
use Rattle.rx_roles.specs.declared.effect.Effect.{Effect}
use Rattle.rx_event.specs.declared.refusal.Refusal.{Refusal}
use Rattle.rx_resource.specs.contracts.token.TokenResource.TheImpl.{ghosts}
use Rattle.rx_book.specs.State.{State as BookState}
use Rattle.rx_pool.specs.Ties.{IsPlain}
use Rattle.rx_engine.specs.declared.parts.Parts.{Parts}
use Rattle.rx_engine.specs.Settlements.{all_given}
use Rattle.rx_engine.specs.Closings.{Closes}
use Rattle.rx_engine.specs.Gatherings.{Gathers}
use Rattle.rx_engine.specs.States.{State, IsTied}
use Rattle.rx_engine.specs.Handings.{IsNextHanded}
use Rattle.rx_engine.specs.Ties.{state_of}
use Rattle.rx_engine.proofs.RoomGotten.{ready_roomier}
use Rattle.rx_engine.proofs.SpreadOut.{settles_of}
use Rattle.rx_engine.proofs.NothingToDo.{none_of_length}
use Rattle.rx_engine.proofs.NotesTold.{told_gathers, none_closes, all_promised}
use Rattle.rx_engine.proofs.ItemsAlone.{alone_last, none_waits, settled_last}
use Rattle.rx_engine.proofs.ItemsEmitted.{emitted_call, emitted_ready, emitted_leave, emitted_listened, emitted_tied}
use Rattle.rx_engine.proofs.HandedOut.{handed_tied, next_handed, next_settled}
use Rattle.rx_engine.proofs.engine.Engine.next_handing.Goals as goal

-- something was closed
pub settle-requires-clause-ready : goal.settle-requires-clause-ready
settle-requires-clause-ready c =
    emitted_ready (state_of c.self.inside) c.args.leaf c.emit.new.book c.emit.new.parts c.promise.ensures c.self.invariant c.in-Ok.ensures.accepted
    c.emit.ensures.roomier c.in-Ok.ensures.ready

pub settle-requires-clause-hubs : goal.settle-requires-clause-hubs
settle-requires-clause-hubs c =
    emitted_leave (state_of c.self.inside) c.args.leaf c.emit.new.book c.emit.new.parts c.promise.ensures c.self.invariant c.in-Ok.ensures.accepted
    c.emit.ensures.roomier

pub invariant_of-self : goal.invariant_of-self
invariant_of-self c =
    emitted_tied (state_of c.self.inside) c.args.leaf c.emit.new.book c.emit.new.parts c.promise.ensures c.self.invariant c.in-Ok.ensures.accepted
    c.emit.ensures.roomier ghosts c.args.by c.args.value (record { book = c.settle.new.book; parts = c.settle.new.parts; wishes = c.settle.new.wishes })
    (ready_roomier c.self.inside.parts c.emit.new.parts c.self.invariant.ready c.emit.ensures.roomier) c.settle.ensures.settles c.settle.ensures.closes
    c.settle.ensures.ready

pub returns-then-closed-gt0 : goal.returns-then-closed-gt0
returns-then-closed-gt0 c =
    let after : State = record { book = c.settle.new.book; parts = c.settle.new.parts; wishes = c.settle.new.wishes } in
    let call = emitted_call (state_of c.self.inside) c.args.leaf c.emit.new.book c.emit.new.parts c.promise.ensures c.self.invariant c.in-Ok.ensures.accepted
    c.emit.ensures.roomier in
    let some = subst (λ n. 0 < n) c.closed_count-closed.ensures c.if-closed-gt0.true in
    subst (λ (s : State). IsNextHanded ghosts c.args.leaf c.args.by c.args.value s after (Ok None)) c.self.view_is
    (next_settled ghosts c.args.leaf c.args.by c.args.value (state_of c.self.inside) c.emit.new.parts c.emit.new.book after c.in-Ok.ensures.accepted
    c.emit.ensures.roomier c.settle.ensures.settles c.settle.ensures.closes (settled_last call some c.settle.ensures.settles.releases)
    (record {
      book = c.promise-then-closed-gt0.ensures;
      lanes = c.promise-then-closed-gt0-2.ensures;
      hubs = c.promise-then-closed-gt0-3.ensures;
      tied = invariant_of-self c;
    }))

-- nothing was
pub hand_item-requires-clause-ready : goal.hand_item-requires-clause-ready
hand_item-requires-clause-ready c =
    emitted_ready (state_of c.self.inside) c.args.leaf c.emit.new.book c.emit.new.parts c.promise.ensures c.self.invariant c.in-Ok.ensures.accepted
    c.emit.ensures.roomier c.in-Ok.ensures.ready

pub hand_item-requires-clause-listened : goal.hand_item-requires-clause-listened
hand_item-requires-clause-listened c =
    emitted_listened (state_of c.self.inside) c.args.leaf c.emit.new.book c.emit.new.parts c.promise.ensures c.self.invariant c.in-Ok.ensures.accepted
    c.emit.ensures.roomier

none_closed : (c : goal.After-hand_item) → c.emit.new.book.closed ≡ []
none_closed c =
    let h = c.if-closed-gt0.false in
    let none : length c.emit.new.book.closed ≡ 0 = search (rules, tests) in
    none_of_length c.emit.new.book.closed none

closes : (c : goal.After-hand_item) → Closes c.emit.new.book c.self.inside.wishes.roles.list c.close_none.new.self
closes c = none_closes c.emit.new.book c.self.inside.wishes c.close_none.new.self (none_closed c) c.close_none.ensures.roles c.close_none.ensures.closings

gathers : (c : goal.After-hand_item) →
    Gathers ghosts c.args.by c.args.value c.emit.new.book c.emit.new.parts (all_given c.emit.new.book) c.hand_item.ensures.hands.told
gathers c =
    let call = emitted_call (state_of c.self.inside) c.args.leaf c.emit.new.book c.emit.new.parts c.promise.ensures c.self.invariant c.in-Ok.ensures.accepted
    c.emit.ensures.roomier in
    told_gathers c.in-Ok.ensures.ready.empty (none_closed c) (none_waits call c.promise-in-Ok.ensures (none_closed c) c.self.invariant.none_waits)
    c.hand_item.ensures.hands.tells

-- tied between the command and the handing out
between_tied : (c : goal.After-hand_item) →
    IsTied (record { book = all_given c.emit.new.book; parts = c.hand_item.ensures.hands.hands.between; wishes = c.close_none.new.self })
between_tied c =
    let hands = c.hand_item.ensures.hands.hands in
    emitted_tied (state_of c.self.inside) c.args.leaf c.emit.new.book c.emit.new.parts c.promise.ensures c.self.invariant c.in-Ok.ensures.accepted
    c.emit.ensures.roomier ghosts c.args.by c.args.value
    (record { book = all_given c.emit.new.book; parts = hands.between; wishes = c.close_none.new.self })
    (ready_roomier c.self.inside.parts c.emit.new.parts c.self.invariant.ready c.emit.ensures.roomier)
    (settles_of (gathers c) hands.spreads) (closes c) hands.ready

pub invariant_of-self-in-Ok : goal.invariant_of-self-in-Ok
invariant_of-self-in-Ok c =
    let hands = c.hand_item.ensures.hands.hands in
    subst (λ (b : BookState). IsTied (record { book = b; parts = c.hand_item.new.parts; wishes = c.close_none.new.self })) (sym c.hand_item.ensures.book)
    (handed_tied (record { book = all_given c.emit.new.book; parts = hands.between; wishes = c.close_none.new.self }) c.hand_item.new.parts (between_tied c)
    hands.only c.hand_item.ensures.ready)

pub returns-else-closed-gt0 : goal.returns-else-closed-gt0
returns-else-closed-gt0 c =
    let over = c.hand_item.ensures.hands in
    let after : BookState → State = λ (b : BookState). record { book = b; parts = c.hand_item.new.parts; wishes = c.close_none.new.self } in
    let call = emitted_call (state_of c.self.inside) c.args.leaf c.emit.new.book c.emit.new.parts c.promise.ensures c.self.invariant c.in-Ok.ensures.accepted
    c.emit.ensures.roomier in
    subst (λ (s : State). IsNextHanded ghosts c.args.leaf c.args.by c.args.value s (after c.hand_item.new.book) c.hand_item.result) c.self.view_is
    (subst (λ (b : BookState). IsNextHanded ghosts c.args.leaf c.args.by c.args.value (state_of c.self.inside) (after b) c.hand_item.result)
    (sym c.hand_item.ensures.book)
    (subst (λ (r : Result (Option Effect) Refusal). IsNextHanded ghosts c.args.leaf c.args.by c.args.value (state_of c.self.inside)
    (after (all_given c.emit.new.book)) r) (sym over.answers)
    (next_handed ghosts c.args.leaf c.args.by c.args.value (state_of c.self.inside) c.emit.new.parts over.told c.hand_item.new.parts c.emit.new.book
    (all_given c.emit.new.book) c.close_none.new.self over.given c.in-Ok.ensures.accepted c.emit.ensures.roomier (gathers c) (closes c) over.hands
    (alone_last call (none_closed c)) (all_promised c.emit.new.book c.promise-in-Ok.ensures)
    (subst (λ (x : Parts). IsPlain x.shares.hubs) (sym over.tells.only) c.promise-in-Ok-2.ensures) (between_tied c))))
