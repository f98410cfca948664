use Rattle.rx_book.proofs.Common.{None, true, [], refl, sym, ap, subst, ◌∙◌, ◌≤◌, inl, inr, w64, arith, Ok, to_z-of_z, Emitting, MakesOnly}
use Rattle.rx_book.proofs.Common.{IsStanding, IsRoomier, Ground, State, next_request, state_of, IsLetIn, Admits}
use Rattle.rx_ground.proofs.Laws.OneStop.{MakesOnly-roomier}
use Rattle.rx_register.specs.State.{IsPromised}
use Rattle.rx_book.specs.Answers.{AnswersPlaceOrWant}
use Rattle.rx_book.specs.Courses.{note_count}
use Rattle.rx_book.proofs.Admitted.{admits, admitted_let_in, state_admitted, item_within, item_room}
use Rattle.rx_book.proofs.CausesByKey.{first_of_node}
use Rattle.rx_book.proofs.AnswersOkOrErr.{answers_ok}
use Rattle.rx_book.proofs.ItemsWithin.{told_within, beyond_within, refused_within}
use Rattle.rx_book.proofs.CallWithoutCause.{one_ready, pays, connects_none, accepts, state_roomier}
use Rattle.rx_book.proofs.ListOfClosed.{answers_begun, begun_at}
use Rattle.rx_book.proofs.book.Book.next_within.Given as given
use Rattle.rx_book.proofs.book.Book.next_within.Goals as goal
use Rattle.rx_book.proofs.book.Book.next_within.Goals.{After-begin-place}
use Rattle.std.proofs.Common.{rules}

admitted : (g : given.Over) (c : After-begin-place g) → Admits g.R.Resource c.self.inside.ground None None c.begin-place.new.self
admitted g c =
    let mid = c.make_room_to_tell.new.self in
    let e = c.make_room_to_tell.ensures in
    let roomier = subst (λ (b : Ground g.row.R.Denot). IsRoomier b mid) c.in_ok-way.ensures.kept e.kept in
    let begun = c.begin-place.ensures.begun in
    let promised = subst (λ (b : Ground g.row.R.Denot). IsPromised b.register) begun c.begin-place.ensures.promised in
    admits None refl roomier e.standing promised tt begun

called : (g : given.Over) (c : After-begin-place g) → (let b = c.begin-place.new.self in
    IsLetIn g.R.Resource b (next_request (state_of g.R.Resource b) c.args.leaf c.args.value))
called g c =
    let told = rw (to_z-of_z w64 c.args.value c.ranges.value) at (sym c.in_ok-way.ensures.none) in
    let none = first_of_node c.self.inside.ground true c.args.leaf (λ n. Emitting n c.args.value) told in
    let mid = c.make_room_to_tell.new.self in
    let roomier = subst (λ (b : Ground g.row.R.Denot). IsRoomier b mid) c.in_ok-way.ensures.kept c.make_room_to_tell.ensures.kept in
    admitted_let_in (λ s. next_request s c.args.leaf c.args.value) (λ s. refl) tt none (admitted g c)
    (item_room c.args.leaf c.args.value c.in_ok-way.ensures.ok roomier c.in_ok-make_room_to_tell.ensures.ok c.begin-place.ensures.begun)

pub returns-in_err-way : goal.returns-in_err-way
returns-in_err-way g c =
    let a = c.in_err-way in
    let told = rw (to_z-of_z w64 c.args.value c.ranges.value) at (sym a.ensures.first) in
    let why = inl (first_of_node c.self.inside.ground true c.args.leaf (λ n. Emitting n c.args.value) told) in
    rw (← c.self.view_is) (refused_within c.from_residual.result a.field-0.0 c.from_residual.ensures.1 why (ap (state_of g.R.Resource) a.ensures.kept))

pub returns-then-way-most : goal.returns-then-way-most
returns-then-way-most g c =
    let told = rw (to_z-of_z w64 c.args.value c.ranges.value) at (sym c.in_ok-way.ensures.none) in
    let none = first_of_node c.self.inside.ground true c.args.leaf (λ n. Emitting n c.args.value) told in
    rw (← c.self.view_is) (beyond_within (c.in_ok-way.ensures.ok.notes c.args.value) c.if-way-most.true none (ap (state_of g.R.Resource) c.in_ok-way.ensures.kept))

pub make_room_to_tell-requires-clause-standing : goal.make_room_to_tell-requires-clause-standing
make_room_to_tell-requires-clause-standing g c κs within = subst (IsStanding g.R.Resource) (sym c.in_ok-way.ensures.kept) c.self.invariant

pub make_room_to_tell-requires-clause-within : goal.make_room_to_tell-requires-clause-within
make_room_to_tell-requires-clause-within g c κs within =
    let told = rw (to_z-of_z w64 c.args.value c.ranges.value) at (sym c.in_ok-way.ensures.none) in
    let none = first_of_node c.self.inside.ground true c.args.leaf (λ n. Emitting n c.args.value) told in
    rw c.in_ok-way.ensures.kept (item_within g.R.Resource c.self.inside.ground c.args.leaf _ c.args.value c.in_ok-way.ensures.ok none)

pub make_room_to_tell-requires-clause-notes : goal.make_room_to_tell-requires-clause-notes
make_room_to_tell-requires-clause-notes g c κs within = let few = c.in_ok-way.ensures.ok.few in omega arith

pub returns-in_err-make_room_to_tell : goal.returns-in_err-make_room_to_tell
returns-in_err-make_room_to_tell g c =
    let a = c.in_err-make_room_to_tell in
    let passed = c.from_residual-in_err-make_room_to_tell in
    let told = rw (to_z-of_z w64 c.args.value c.ranges.value) at (sym c.in_ok-way.ensures.none) in
    let none = first_of_node c.self.inside.ground true c.args.leaf (λ n. Emitting n c.args.value) told in
    let same = state_roomier g.R.Resource _ _ a.ensures.kept ∙ ap (state_of g.R.Resource) c.in_ok-way.ensures.kept in
    rw (← c.self.view_is) (refused_within passed.result a.field-0.0 passed.ensures.1 (inr (none, a.ensures.err)) same)

pub write_item-requires-clause-ready : goal.write_item-requires-clause-ready
write_item-requires-clause-ready g c κs within =
    let l = called g (goal.at.write_item-requires-clause-ready g c).After-begin-place in
    rw (to_z-of_z w64 c.args.value c.ranges.value) (one_ready g.R.Resource c.begin-place.new.self _ l _ refl)

pub write_item-requires-clause-open : goal.write_item-requires-clause-open
write_item-requires-clause-open g c κs within = search (rules, called)

pub write_item-requires-clause-only : goal.write_item-requires-clause-only
write_item-requires-clause-only g c κs within =
    let b = c.self.inside.ground in
    let key = c.args.leaf in
    let before : MakesOnly b.tree.nodes b.hubs.hubs key c.in_ok-way.way.only = c.in_ok-way.ensures.only in
    let a = admitted g (goal.at.write_item-requires-clause-only g c).After-begin-place in
    MakesOnly-roomier (record b { closed = [] }) c.begin-place.new.self key c.in_ok-way.way.only a.roomier before

pub settle-requires-clause-paid : goal.settle-requires-clause-paid
settle-requires-clause-paid g c κs within =
    let w = rw (to_z-of_z w64 c.args.value c.ranges.value) at c.write_item.ensures.wrote.written in
    let l = called g (goal.at.settle-requires-clause-paid g c).After-begin-place in
    pays g.R.Resource c.begin-place.new.self _ l c.write_item.new.self.register w

pub settle-requires-clause-room : goal.settle-requires-clause-room
settle-requires-clause-room g c κs within =
    let w = rw (to_z-of_z w64 c.args.value c.ranges.value) at c.write_item.ensures.wrote.written in
    let l = called g (goal.at.settle-requires-clause-room g c).After-begin-place in
    connects_none g.R.Resource c.begin-place.new.self _ l c.write_item.new.self.register w refl

pub returns : goal.returns
returns g c =
    let R = g.R.Resource in
    let b = c.begin-place.new.self in
    let mid = c.write_item.new.self in
    let new = c.settle.new.self in
    let u = c.write_item.ensures in
    let s = c.settle.ensures in
    let l = called g (goal.at.returns g c).After-begin-place in
    let w = rw (to_z-of_z w64 c.args.value c.ranges.value) at u.wrote in
    let done = accepts R b _ l mid w s in
    let notes = ap (λ (x : State). note_count x c.args.leaf c.args.value) (sym c.self.view_is) ∙ c.in_ok-way.ensures.ok.notes c.args.value in
    let few = c.if-way-most.false in
    let within : note_count c.args.self.now c.args.leaf c.args.value ≤ c.args.most = omega (arith, notes, few) in
    told_within (answers_begun (λ place. place)
    (subst (λ (x : State). AnswersPlaceOrWant x (next_request x c.args.leaf c.args.value) (state_of R new) (Ok c.begin-place.result))
    (begun_at (state_admitted (admitted g (goal.at.returns g c).After-begin-place)) c.self.view_is) (answers_ok c.begin-place.ensures.place done))) within
