use Rattle.rx_book.proofs.Common.{List, length, refl, ap, subst, ◌∙◌, Ok, Event, Accept, Holding, Kept, accepted_by, accepted_by_new, accepted_stays}
use Rattle.rx_book.proofs.Common.{State, hold_request, stands, AnswersResKey, state_of, IsLetIn, IsAdmitted}
use Rattle.rx_book.proofs.AnswersOkOrErr.{answers_ok, answers_err}
use Rattle.rx_book.proofs.CallWithoutCause.{one_ready, fresh_asked, live_fresh, unused_fresh, pays, connects_none, accepts}
use Rattle.rx_book.proofs.MadeKeyIsListed.{res_key_listed}
use Rattle.rx_book.proofs.ListOfClosed.{answers_begun, begun_at}
use Rattle.rx_book.proofs.book.Book.hold.Given as given
use Rattle.rx_book.proofs.book.Book.hold.Goals as goal
use Rattle.rx_book.proofs.book.Book.hold.Goals.{In_default}
use Rattle.rx_book.proofs.Admitted.{admitted_as, state_admitted, within_limit}
use Rattle.rx_book.proofs.CausesByKey.{first_of_node}
use Rattle.std.proofs.Common.{rules}

pub admit-requires-clause-within : goal.admit-requires-clause-within
admit-requires-clause-within g c κs within none = search (rules, first_of_node, within_limit, hold_request)

pub returns-in-Err : goal.returns-in-Err
returns-in-Err g c =
    let s = state_of g.R.Resource c.self.inside.ground in
    let told = rw (c.tag-tag.ensures, c.is_fresh-fresh.ensures) at c.holding_cause-cause.ensures in
    let first = first_of_node c.self.inside.ground _ c.args.node (λ n. Holding n (g.R.Resource.tag_of c.args.resource)) told in
    let why = c.in-Err.ensures.err (stands s (hold_request g.R.Resource s c.args.node c.args.resource)) first in
    rw (← c.self.view_is) (answers_err (record { why = why; back = refl }) c.in-Err.ensures.same)

admitted : (g : given.Over) (c : In_default g) →
    (let b = c.admit.new.ground in IsAdmitted g.R.Resource b (hold_request g.R.Resource (state_of g.R.Resource b) c.args.node c.args.resource))
admitted g c =
    let told = rw (c.tag-tag.ensures, c.is_fresh-fresh.ensures) at c.holding_cause-cause.ensures in
    let first = first_of_node c.self.inside.ground _ c.args.node (λ n. Holding n (g.R.Resource.tag_of c.args.resource)) told in
    admitted_as (λ s. hold_request g.R.Resource s c.args.node c.args.resource) (λ s. refl) tt first c.in_default.ensures.ok c.of_holding.ensures

called : (g : given.Over) (c : In_default g) →
    (let b = c.admit.new.ground in IsLetIn g.R.Resource b (hold_request g.R.Resource (state_of g.R.Resource b) c.args.node c.args.resource))
called g c = (admitted g c).let_in

pub write_accept-res-requires-clause-room : goal.write_accept-res-requires-clause-room
write_accept-res-requires-clause-room g c κs within = (admitted g (goal.at.write_accept-res-requires-clause-room g c).In_default).room.resources

pub write_accept-res-requires-clause-ready : goal.write_accept-res-requires-clause-ready
write_accept-res-requires-clause-ready g c κs within =
    let l = called g (goal.at.write_accept-res-requires-clause-ready g c).In_default in
    one_ready g.R.Resource c.admit.new.ground _ l _ refl

pub write_accept-res-requires-clause-open : goal.write_accept-res-requires-clause-open
write_accept-res-requires-clause-open g c κs within = search (rules, called)

pub write_accept-res-requires-clause-live : goal.write_accept-res-requires-clause-live
write_accept-res-requires-clause-live g c κs within = search (rules, called, live_fresh, fresh_asked)

pub write_accept-res-requires-clause-unused : goal.write_accept-res-requires-clause-unused
write_accept-res-requires-clause-unused g c κs within = search (rules, called, unused_fresh, fresh_asked)

pub settle-requires-clause-paid : goal.settle-requires-clause-paid
settle-requires-clause-paid g c κs within =
    let l = called g (goal.at.settle-requires-clause-paid g c).In_default in
    pays g.R.Resource c.admit.new.ground _ l c.write_accept-res.new.self.register c.write_accept-res.ensures.wrote.written

pub settle-requires-clause-room : goal.settle-requires-clause-room
settle-requires-clause-room g c κs within =
    let l = called g (goal.at.settle-requires-clause-room g c).In_default in
    connects_none g.R.Resource c.admit.new.ground _ l c.write_accept-res.new.self.register c.write_accept-res.ensures.wrote.written refl

pub returns : goal.returns
returns g c =
    let R = g.R.Resource in
    let b = c.admit.new.ground in
    let mid = c.write_accept-res.new.self in
    let new = c.settle.new.self in
    let a = c.write_accept-res.ensures in
    let s = c.settle.ensures in
    let x = a.wrote in
    let w = x.written in
    let l = called g (goal.at.returns g c).In_default in
    let h = b.register.history in
    let n = length h in
    let node = c.args.node.number in
    let tag = R.tag_of c.args.resource in
    let done = accepts R b _ l mid x s in
    let alive = accepted_stays b.register.base h new.register.history node tag l.may.lawful (one_ready R b _ l (Accept node tag) refl).next done.step.forced in
    let accepted = ap (λ (k : Kept). accepted_by k mid.register.history n) w.base ∙ ap (λ (k : List Event). accepted_by b.register.base k n) w.history ∙
    accepted_by_new b.register.base h (Accept node tag) l.may.lawful in
    let key = res_key_listed R mid new s.nodes n x.between.tied.of_tree c.write_accept-res.result s.resources
    a.number a.held accepted alive in
    answers_begun (λ is. is)
    (subst (λ (x : State). AnswersResKey x (hold_request R x c.args.node c.args.resource) c.args.resource (state_of R new) (Ok c.write_accept-res.result))
    (begun_at (state_admitted c.in_default.ensures.ok) c.self.view_is) (answers_ok key done))
