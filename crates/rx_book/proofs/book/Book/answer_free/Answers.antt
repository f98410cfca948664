use Rattle.rx_book.proofs.Common.{sym, subst, Ok, State, Request, Answers, state_of, IsLetIn}
use Rattle.rx_book.specs.Answers.{IsPlace}
use Rattle.rx_book.specs.Asks.{request_of, refuses}
use Rattle.rx_book.proofs.Admitted.{state_admitted}
use Rattle.rx_book.proofs.AnswersOkOrErr.{answers_ok, passed_refusal}
use Rattle.rx_book.proofs.CallWithoutCause.{pays, connects_none, accepts}
use Rattle.rx_book.proofs.ListOfClosed.{answers_begun, begun_at}
use Rattle.rx_book.proofs.CallsAsValues.{free_let_in, free_subscribes_none, unlisted}
use Rattle.rx_book.proofs.book.Book.answer_free.Given as given
use Rattle.rx_book.proofs.book.Book.answer_free.Goals as goal
use Rattle.rx_book.proofs.book.Book.answer_free.Goals.{In_ok-place}
use Rattle.std.proofs.Common.{rules}

pub returns-in_err-place : goal.returns-in_err-place
returns-in_err-place g c = search (rules, passed_refusal)

called : (g : given.Over) (c : In_ok-place g) → (let b = c.admit.new.ground in IsLetIn g.R.Resource b (request_of (state_of g.R.Resource b) c.args.call))
called g c = free_let_in c.args.call (sym c.cause_free-cause.ensures) c.requires c.in_ok-place.ensures.ok

pub write_free-requires-clause-let_in : goal.write_free-requires-clause-let_in
write_free-requires-clause-let_in g c κs within = called g (goal.at.write_free-requires-clause-let_in g c).In_ok-place

pub settle-requires-clause-paid : goal.settle-requires-clause-paid
settle-requires-clause-paid g c κs within =
    let l = called g (goal.at.settle-requires-clause-paid g c).In_ok-place in
    pays g.R.Resource c.admit.new.ground _ l c.write_free.new.ground.register c.write_free.ensures.written

pub settle-requires-clause-room : goal.settle-requires-clause-room
settle-requires-clause-room g c κs within =
    let b = c.admit.new.ground in
    let l = called g (goal.at.settle-requires-clause-room g c).In_ok-place in
    connects_none g.R.Resource b _ l c.write_free.new.ground.register c.write_free.ensures.written
    (free_subscribes_none (state_of g.R.Resource b) c.args.call c.requires)

pub returns : goal.returns
returns g c =
    let s = c.settle.ensures in
    let t = c.args.self.now in
    let new = state_of g.R.Resource c.settle.new.self in
    let l = called g (goal.at.returns g c).In_ok-place in
    let done = accepts g.R.Resource c.admit.new.ground _ l _ c.write_free.ensures s in
    subst (λ (q : Request). Answers (IsPlace t) (refuses t c.args.call) t q new (Ok c.in_ok-place.place)) (unlisted c.args.call t)
    (answers_begun (λ place. place)
    (subst (λ (x : State). Answers (IsPlace x) (refuses x c.args.call) x (request_of x c.args.call) new (Ok c.in_ok-place.place))
    (begun_at (state_admitted c.in_ok-place.ensures.ok) c.self.view_is) (answers_ok c.in_ok-place.ensures.place done)))
