use Rattle.rx_book.proofs.Common.{◌≡◌, ◌+◌, List, ◌∷◌, [], ◌++◌, length, is_some, refl, sym, ap, subst, ◌∙◌, length-append, Ok, Place, Pass, Event}
use Rattle.rx_book.proofs.Common.{Open, Accept, OpeningUsing, Kept, accepted_by, IsLawful-push, accepted_by_new, opened_using_stays, find, State, Ground}
use Rattle.rx_book.proofs.Common.{Writes, IsReady, using_request}
use Rattle.rx_book.proofs.Common.{place_of, stands, AnswersOpenedUsing, state_of, IsLetIn, IsAdmitted}
use Rattle.rx_register.specs.State.{State as Register}
use Rattle.rx_book.proofs.Admitted.{admitted_as, state_admitted, within_limit}
use Rattle.rx_book.proofs.CausesByKey.{first_of_place}
use Rattle.rx_book.proofs.ShownKeys.{is_known_place_is}
use Rattle.rx_book.proofs.AnswersOkOrErr.{answers_ok, answers_err}
use Rattle.rx_book.proofs.CallWithoutCause.{known, first_ready, second_ready, fresh_asked, live_fresh, unused_fresh, pays, connects_none, accepts}
use Rattle.rx_ground.proofs.Laws.WroteInTurn.{wrote_then}
use Rattle.rx_book.proofs.Openings.{placed_at, node_space}
use Rattle.rx_book.proofs.ListOfClosed.{answers_begun, opened_using_begun, begun_at}
use Rattle.rx_book.proofs.MadeKeyIsListed.{key_listed, res_key_listed}
use Rattle.rx_book.proofs.book.Book.open_using.Given as given
use Rattle.rx_book.proofs.book.Book.open_using.Goals as goal
use Rattle.rx_book.proofs.book.Book.open_using.Goals.{In_default}
use Rattle.std.proofs.Common.{rules}

pub admit-requires-clause-within : goal.admit-requires-clause-within
admit-requires-clause-within g c κs within none = search (rules, first_of_place, within_limit, using_request)

pub returns-in-Err : goal.returns-in-Err
returns-in-Err g c =
    let s = state_of g.R.Resource c.self.inside.ground in
    let spot = c.spot_of-spot.ensures in
    let told = rw (c.tag-tag.ensures, c.is_fresh-fresh.ensures) at c.using_cause-cause.ensures in
    let call = λ (place : Place). OpeningUsing place (g.R.Resource.tag_of c.args.resource) in
    let first = first_of_place c.self.inside.ground _ c.args.at call spot.place spot.above told in
    let why = c.in-Err.ensures.err (stands s (using_request g.R.Resource s c.args.at c.args.resource)) first in
    rw (← c.self.view_is) (answers_err (record { why = why; back = refl }) c.in-Err.ensures.same)

admitted : (g : given.Over) (c : In_default g) →
    (let b = c.admit.new.ground in IsAdmitted g.R.Resource b (using_request g.R.Resource (state_of g.R.Resource b) c.args.at c.args.resource))
admitted g c =
    let spot = c.spot_of-spot.ensures in
    let told = rw (c.tag-tag.ensures, c.is_fresh-fresh.ensures) at c.using_cause-cause.ensures in
    let call = λ (place : Place). OpeningUsing place (g.R.Resource.tag_of c.args.resource) in
    let first = first_of_place c.self.inside.ground _ c.args.at call spot.place spot.above told in
    admitted_as (λ s. using_request g.R.Resource s c.args.at c.args.resource) (λ s. refl) tt first c.in_default.ensures.ok
    (rw spot.place at c.of_using.ensures)

called : (g : given.Over) (c : In_default g) →
    (let b = c.admit.new.ground in IsLetIn g.R.Resource b (using_request g.R.Resource (state_of g.R.Resource b) c.args.at c.args.resource))
called g c = (admitted g c).let_in

-- the opening may be written
opens : (g : given.Over) (c : In_default g) → (let b = c.admit.new.ground in IsReady b.register (Open (place_of c.args.at) Pass))
opens g c = let b = c.admit.new.ground in first_ready g.R.Resource b _ (called g c) (Open (place_of _) Pass) (Accept (length b.register.history)
    (g.R.Resource.tag_of _)) refl refl

-- and then the acceptance
holds : (g : given.Over) (c : In_default g) (mid : Register) → (let b = c.admit.new.ground in Writes b.register (Open (place_of c.args.at) Pass ∷ []) mid →
    IsReady mid (Accept (length b.register.history) (g.R.Resource.tag_of c.args.resource)))
holds g c mid w = let b = c.admit.new.ground in second_ready g.R.Resource b _ (called g c) (Open (place_of _) Pass) (Accept (length
    b.register.history) (g.R.Resource.tag_of _)) mid refl w refl

pub write_open-node-requires-clause-ready : goal.write_open-node-requires-clause-ready
write_open-node-requires-clause-ready g c κs within = rw c.spot_of-spot.ensures.place (opens g (goal.at.write_open-node-requires-clause-ready g c).In_default)

pub write_open-node-requires-clause-placed : goal.write_open-node-requires-clause-placed
write_open-node-requires-clause-placed g c κs within =
    let b = c.admit.new.ground in
    let l = called g (goal.at.write_open-node-requires-clause-placed g c).In_default in
    let there = sym (is_known_place_is b.tree c.args.at) ∙ known g.R.Resource b _ l in
    rw (c.spot_of-spot.ensures.place, c.spot_of-spot.ensures.above)
    (placed_at b.register.base g.R.Resource b.register.history b.tree l.standing.tied.of_tree Pass c.args.at there)

pub write_open-node-requires-clause-space : goal.write_open-node-requires-clause-space
write_open-node-requires-clause-space g c κs within = search (rules, admitted, node_space)

pub write_open-node-requires-clause-room : goal.write_open-node-requires-clause-room
write_open-node-requires-clause-room g c κs within = (admitted g (goal.at.write_open-node-requires-clause-room g c).In_default).room.nodes

pub write_accept-res-requires-clause-live : goal.write_accept-res-requires-clause-live
write_accept-res-requires-clause-live g c κs within =
    let l = called g (goal.at.write_accept-res-requires-clause-live g c).In_default in
    live_fresh g.R.Resource c.args.resource (fresh_asked g.R.Resource c.admit.new.ground _ l refl)

pub write_accept-res-requires-clause-unused : goal.write_accept-res-requires-clause-unused
write_accept-res-requires-clause-unused g c κs within =
    let l = called g (goal.at.write_accept-res-requires-clause-unused g c).In_default in
    unused_fresh g.R.Resource c.args.resource (fresh_asked g.R.Resource c.admit.new.ground _ l refl)

pub write_accept-res-requires-clause-ready : goal.write_accept-res-requires-clause-ready
write_accept-res-requires-clause-ready g c κs within = search (rules, holds)

pub settle-requires-clause-paid : goal.settle-requires-clause-paid
settle-requires-clause-paid g c κs within =
    let b = c.admit.new.ground in
    let l = called g (goal.at.settle-requires-clause-paid g c).In_default in
    pays g.R.Resource b _ l c.write_accept-res.new.self.register (wrote_then (rw c.spot_of-spot.ensures.place at c.write_open-node.ensures.wrote)
    (rw c.write_open-node.ensures.frame.is_new.numbered at c.write_accept-res.ensures.wrote)).written

pub settle-requires-clause-room : goal.settle-requires-clause-room
settle-requires-clause-room g c κs within =
    let b = c.admit.new.ground in
    let l = called g (goal.at.settle-requires-clause-room g c).In_default in
    connects_none g.R.Resource b _ l c.write_accept-res.new.self.register (wrote_then (rw c.spot_of-spot.ensures.place at c.write_open-node.ensures.wrote)
    (rw c.write_open-node.ensures.frame.is_new.numbered at c.write_accept-res.ensures.wrote)).written
    refl

pub returns : goal.returns
returns g c =
    let R = g.R.Resource in
    let b = c.admit.new.ground in
    let h = b.register.history in
    let mid = c.write_open-node.new.self in
    let last = c.write_accept-res.new.self in
    let new = c.settle.new.self in
    let e = Open (place_of c.args.at) Pass in
    let f = Accept (length h) (R.tag_of c.args.resource) in
    let o = c.write_open-node.ensures in
    let a = c.write_accept-res.ensures in
    let s = c.settle.ensures in
    let w = (rw c.spot_of-spot.ensures.place at o.wrote).written in
    let v = (rw o.frame.is_new.numbered at a.wrote).written in
    let p = (goal.at.returns g c).In_default in
    let l = called g p in
    let longer : length mid.register.history ≡ length h + 1 = ap (λ (k : List Event). length k) w.history ∙ length-append h (e ∷ []) in
    let done = accepts R b _ l last (wrote_then (rw c.spot_of-spot.ensures.place at o.wrote) (rw o.frame.is_new.numbered at a.wrote)) s in
    let alive = opened_using_stays b.register.base h new.register.history (place_of c.args.at) (R.tag_of c.args.resource) l.may.lawful (opens g p).next
    done.step.forced in
    let found = ap (λ (x : Ground g.row.R.Denot). is_some (find x.tree.nodes c.write_open-node.result)) a.frame ∙ o.frame.is_new.found in
    let key = key_listed R last new s.nodes (length h) c.write_open-node.result o.frame.is_new.numbered found alive in
    let law = IsLawful-push b.register.base h e l.may.lawful (opens g p).next in
    let at_last =
    ap (accepted_by b.register.base ((h ++ e ∷ []) ++ f ∷ [])) (sym (length-append h (e ∷ []))) ∙ accepted_by_new b.register.base (h ++ e ∷ []) f law in
    let grown = v.history ∙ ap (λ (k : List Event). k ++ f ∷ []) w.history in
    let accepted = ap (λ (k : Kept). accepted_by k last.register.history (length h + 1)) (v.base ∙ w.base) ∙
    ap (λ (k : List Event). accepted_by b.register.base k (length h + 1)) grown ∙ at_last in
    let res = res_key_listed R last new s.nodes (length h + 1) a.wrote.between.tied.of_tree c.write_accept-res.result
    s.resources (a.number ∙ longer) a.held accepted alive in
    answers_begun opened_using_begun
    (subst (λ (x : State). AnswersOpenedUsing x (using_request R x c.args.at c.args.resource) c.args.resource (state_of R new)
    (Ok (record { key = c.write_open-node.result; res = c.write_accept-res.result }))) (begun_at (state_admitted c.in_default.ensures.ok) c.self.view_is)
    (answers_ok (record { key = key; res = res }) done))
