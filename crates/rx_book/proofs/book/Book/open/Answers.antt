use Rattle.rx_book.proofs.Common.{◌≡◌, true, refl, subst, ◌∙◌, arith, Ok, Opening, first_cause, State, open_request, stands, AnswersOpened, state_of}
use Rattle.rx_book.proofs.Admitted.{admitted_as, found_admitted, state_admitted, within_limit, few_opened}
use Rattle.rx_book.proofs.AnswersOkOrErr.{answers_ok, passed_refusal}
use Rattle.rx_book.proofs.CausesByKey.{first_of_place}
use Rattle.rx_book.proofs.ListOfClosed.{answers_begun, opened_begun, begun_at}
use Rattle.rx_book.proofs.book.Book.open.Given as given
use Rattle.rx_book.proofs.book.Book.open.Goals as goal
use Rattle.rx_book.proofs.book.Book.open.Goals.{After-opening_cause-cause}

pub opening_cause-cause-requires-clause-cost : goal.opening_cause-cause-requires-clause-cost
opening_cause-cause-requires-clause-cost g c κs within = c.of_opening-cost.ensures.cost _ c.found-found.ensures.connects

-- what stands first, by the caller's key
first : (g : given.Over) (c : After-opening_cause-cause g) → (let s = state_of g.R.Resource c.self.inside.ground in
    first_cause (stands s (open_request s c.args.at c.args.kind)) ≡ c.opening_cause-cause.result)
first g c =
    let spot = c.spot_of-spot.ensures in
    first_of_place c.self.inside.ground true c.args.at (λ place. Opening place c.args.kind) spot.place spot.above c.opening_cause-cause.ensures

pub admit-requires-clause-within : goal.admit-requires-clause-within
admit-requires-clause-within g c κs within none =
    let R = g.R.Resource in
    let b = c.self.inside.ground in
    let is = first g (goal.at.admit-requires-clause-within g c).After-opening_cause-cause in
    let few = few_opened b.register.history c.args.kind in
    within_limit R b (open_request (state_of R b) c.args.at c.args.kind) c.of_opening-cost.result refl (is ∙ none)
    (rw c.spot_of-spot.ensures.place at c.of_opening-cost.ensures.cost _ c.found-found.ensures.connects) (omega arith)

pub returns-in_err-admit : goal.returns-in_err-admit
returns-in_err-admit g c =
    let s = state_of g.R.Resource c.self.inside.ground in
    let a = c.in_err-admit in
    let why = a.ensures.err (stands s (open_request s c.args.at c.args.kind)) (first g (goal.at.returns-in_err-admit g c).After-opening_cause-cause) in
    rw (← c.self.view_is) (passed_refusal c.from_residual.result a.field-0.0 c.from_residual.ensures.1 why a.ensures.same)

pub write_opening-requires-clause-admitted : goal.write_opening-requires-clause-admitted
write_opening-requires-clause-admitted g c κs within =
    let is = first g (goal.at.write_opening-requires-clause-admitted g c).After-opening_cause-cause in
    admitted_as (λ s. open_request s c.args.at c.args.kind) (λ s. refl) tt is c.in_ok-admit.ensures.ok
    (rw c.spot_of-spot.ensures.place at c.of_opening-cost.ensures.cost _ c.found-found.ensures.connects)

pub write_opening-requires-clause-found : goal.write_opening-requires-clause-found
write_opening-requires-clause-found g c κs within = found_admitted c.in_ok-admit.ensures.ok c.args.kind c.found-found.ensures

pub returns : goal.returns
returns g c =
    let R = g.R.Resource in
    let o = c.write_opening.ensures in
    answers_begun opened_begun
    (subst (λ (x : State). AnswersOpened x (open_request x c.args.at c.args.kind) (state_of R c.write_opening.new.ground) (Ok c.write_opening.result))
    (begun_at (state_admitted c.in_ok-admit.ensures.ok) c.self.view_is) (answers_ok o.opened o.accepted))
