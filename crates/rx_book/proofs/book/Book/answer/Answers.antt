use Rattle.rx_book.proofs.Common.{sym, subst, Ok, State, Request, Answers, state_of, IsAdmitted}
use Rattle.rx_book.specs.Asks.{request_of, refuses, gives, Asks}
use Rattle.rx_book.proofs.Admitted.{state_admitted}
use Rattle.rx_book.proofs.AnswersOkOrErr.{answers_ok, passed_refusal}
use Rattle.rx_book.proofs.CallWithoutCause.{pays, connects_none, accepts}
use Rattle.rx_book.proofs.ListOfClosed.{answers_begun, begun_at}
use Rattle.rx_book.proofs.CallsAsValues.{fixed_takes, fixed_within, fixed_admitted, fixed_subscribes_none, unlisted, gives_settled, gives_begun}
use Rattle.rx_book.proofs.book.Book.answer.Given as given
use Rattle.rx_book.proofs.book.Book.answer.Goals as goal
use Rattle.rx_book.proofs.book.Book.answer.Goals.{In_ok-admit}
use Rattle.std.proofs.Common.{rules}

pub admit-requires-clause-within : goal.admit-requires-clause-within
admit-requires-clause-within g c κs within none = search (rules, fixed_within)

pub returns-in_err-admit : goal.returns-in_err-admit
returns-in_err-admit g c = search (rules, fixed_takes, passed_refusal)

called : (g : given.Over) (c : In_ok-admit g) → (let b = c.admit.new.ground in IsAdmitted g.R.Resource b (request_of (state_of g.R.Resource b) c.args.call))
called g c =
    let s = state_of g.R.Resource c.self.inside.ground in
    fixed_admitted c.args.call (sym c.cause-cause.ensures) (c.cost.ensures s) c.in_ok-admit.ensures.ok

pub write-answer-requires-clause-admitted : goal.write-answer-requires-clause-admitted
write-answer-requires-clause-admitted g c κs within = called g (goal.at.write-answer-requires-clause-admitted g c).In_ok-admit

pub settle-requires-clause-paid : goal.settle-requires-clause-paid
settle-requires-clause-paid g c κs within =
    let l = (called g (goal.at.settle-requires-clause-paid g c).In_ok-admit).let_in in
    pays g.R.Resource c.admit.new.ground _ l c.write-answer.new.ground.register c.write-answer.ensures.written.written

pub settle-requires-clause-room : goal.settle-requires-clause-room
settle-requires-clause-room g c κs within =
    let b = c.admit.new.ground in
    let l = (called g (goal.at.settle-requires-clause-room g c).In_ok-admit).let_in in
    connects_none g.R.Resource b _ l c.write-answer.new.ground.register c.write-answer.ensures.written.written
    (fixed_subscribes_none (state_of g.R.Resource b) c.args.call c.requires)

pub returns : goal.returns
returns g c =
    let R = g.R.Resource in
    let s = c.settle.ensures in
    let t = c.args.self.now in
    let new = state_of R c.settle.new.self in
    let answer = c.write-answer.result in
    let l = (called g (goal.at.returns g c).In_ok-admit).let_in in
    let done = accepts R c.admit.new.ground _ l _ c.write-answer.ensures.written s in
    let told = gives_settled c.args.call answer c.requires l done s c.write-answer.ensures.gives in
    subst (λ (q : Request). Answers (gives t c.args.call new) (refuses t c.args.call) t q new (Ok answer)) (unlisted c.args.call t)
    (answers_begun (gives_begun t new c.args.call answer)
    (subst (λ (x : State). Asks x c.args.call new (Ok answer)) (begun_at (state_admitted c.in_ok-admit.ensures.ok) c.self.view_is) (answers_ok told done)))
