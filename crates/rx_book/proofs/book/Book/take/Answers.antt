use Rattle.rx_book.proofs.Common.{[], refl, sym, subst, ◌∙◌, Take, IsSettled, Kept, closes_none_kept, settled_on, unforced, IsPaid, Ground, list_room}
use Rattle.rx_book.proofs.Common.{HasRoomToConnect, gathers_quiet, take_request, IsLetIn}
use Rattle.rx_book.proofs.CallWithoutCause.{let_in_free, one_ready, pays, connects_none, accepts}
use Rattle.rx_ground.specs.Settling.{Settles}
use Rattle.rx_ground.proofs.Laws.WroteInTurn.{between_begun, wrote_begun}
use Rattle.rx_book.proofs.ListOfClosed.{standing_begun, accepts_begun}
use Rattle.rx_book.proofs.OneFewerWaits.{listed_waits, fewer_wait}
use Rattle.rx_book.proofs.book.Book.take.Given as given
use Rattle.rx_book.proofs.book.Book.take.Goals as goal
use Rattle.rx_book.proofs.book.Book.take.Goals.{In_ok-handed}
use Rattle.std.proofs.Common.{rules}

pub write_take-requires-clause-room : goal.write_take-requires-clause-room
write_take-requires-clause-room g c κs within = λ r waits.
    let b = c.self.inside.ground in
    one_ready g.R.Resource (record b { closed = [] }) (take_request r) (let_in_free g.R.Resource (record b { closed = [] }) (take_request r)
    (standing_begun c.self.invariant) c.promise.ensures.register refl waits refl refl refl) _ refl

-- as where the list of what is closed was begun before
called : (g : given.Over) (c : In_ok-handed g) → IsLetIn g.R.Resource (record c.self.inside.ground { closed = [] }) (take_request c.in_ok-handed.handed.0)
called g c = search (rules, listed_waits, let_in_free, standing_begun)

pub settle-requires-clause-between : goal.settle-requires-clause-between
settle-requires-clause-between g c κs within = rw c.begin.ensures.begun (between_begun c.in_ok-handed.ensures.wrote.between)

pub settle-requires-clause-paid : goal.settle-requires-clause-paid
settle-requires-clause-paid g c κs within =
    let l = called g (goal.at.settle-requires-clause-paid g c).In_ok-handed in
    subst (λ (x : Ground g.row.R.Denot). IsPaid x.register) (sym c.begin.ensures.begun)
    (pays g.R.Resource (record c.self.inside.ground { closed = [] }) _ l c.write_take.new.self.register c.in_ok-handed.ensures.wrote.written)

pub settle-requires-clause-room : goal.settle-requires-clause-room
settle-requires-clause-room g c κs within =
    let l = called g (goal.at.settle-requires-clause-room g c).In_ok-handed in
    subst (λ (x : Ground g.row.R.Denot). HasRoomToConnect x.register.history x.tree.nodes.room (list_room x)) (sym c.begin.ensures.begun)
    (connects_none g.R.Resource (record c.self.inside.ground { closed = [] }) _ l c.write_take.new.self.register c.in_ok-handed.ensures.wrote.written refl)

pub returns : goal.returns
returns g c =
    let R = g.R.Resource in
    let b = c.self.inside.ground in
    let mid = c.write_take.new.self in
    let begun = record b { closed = [] } in
    let begun_mid = record mid { closed = [] } in
    let new = c.settle.new.self in
    let t = c.in_ok-handed.ensures in
    let s = c.settle.ensures in
    let r = c.in_ok-handed.handed.0 in
    let l = called g (goal.at.returns g c).In_ok-handed in
    let ready = one_ready R begun _ l (Take r) refl in
    let h = b.register.history in
    let rests = settled_on l.may.lawful ready.next l.may.settled refl (λ n. refl) (closes_none_kept h (Take r) refl) refl in
    let w = t.wrote.written in
    let settled =
    subst (λ (k : Kept). IsSettled k mid.register.history) (sym w.base) (subst (IsSettled b.register.base) (sym w.history) rests) in
    let settles = subst (λ (x : Ground g.row.R.Denot). Settles R x new) c.begin.ensures.begun s in
    let grown = unforced mid.register.base settles.forced settled ∙ w.history in
    let quiet = gathers_quiet {list = []} (Take r) ready.next refl w refl in
    rw (← c.self.view_is) (record {
      cases = t.waited.listed;
      accepted = accepts_begun (accepts R begun _ l begun_mid (wrote_begun quiet t.wrote) settles);
      kept = tt;
      fewer = fewer_wait R l.standing.tied.of_tree s.standing.tied.of_tree c.promise.ensures.tree.resources_apart c.promise-2.ensures.tree.resources_apart
          l.may.lawful ready.next grown;
    })
