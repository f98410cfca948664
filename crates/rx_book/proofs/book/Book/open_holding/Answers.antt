use Rattle.rx_book.proofs.Common.{◌≡◌, refl, sym, ap, map, subst, ◌∙◌, ◌∷◌, [], Ok, Accept, Opening, outside_of, first_cause, Slots, Node, adds_forced}
use Rattle.rx_book.proofs.Common.{◌<◌, ◌⊎◌, ◌++◌, length, length-append, arith, IsSome, Contains, Key, find, keys_of}
use Rattle.rx_book.proofs.Common.{gathers_on, State, place_of, AnswersOpenedHolding, IsAdmittedHolding, stands_holding, state_of}
use Rattle.rx_ground.specs.Shown.{Kept, kept_in}
use Rattle.rx_book.proofs.Admitted.{found_admitted, state_admitted}
use Rattle.rx_book.proofs.AdmittedHolding.{first_stands, holding_within, admitted_holding}
use Rattle.rx_book.proofs.HoldingUnstood.{fresh_with}
use Rattle.rx_book.proofs.OpenedStaysOpened.{opened_after}
use Rattle.rx_book.proofs.ListOfClosed.{begun_at, holding_begun, further_step, gathers_just, just_gone, gone_in_order, grown_by, either_known}
use Rattle.rx_book.proofs.book.Book.open_holding.Given as given
use Rattle.rx_book.proofs.book.Book.open_holding.Goals as goal
use Rattle.rx_book.proofs.book.Book.open_holding.Goals.{After-opening_holding_cause-cause, In_default}
use Rattle.std.proofs.Common.{rules}

pub opening_holding_cause-cause-requires-clause-cost : goal.opening_holding_cause-cause-requires-clause-cost
opening_holding_cause-cause-requires-clause-cost g c κs within = c.of_opening_holding-cost.ensures _ c.found-found.ensures.connects

-- what stands first, by the caller's key
first : (g : given.Over) (c : After-opening_holding_cause-cause g) →
    first_cause (stands_holding (state_of g.R.Resource c.self.inside.ground) c.args.at c.args.kind c.is_fresh-fresh.result)
    ≡ c.opening_holding_cause-cause.result
first g c = first_stands g.R.Resource c.self.inside.ground c.args.at c.args.kind c.is_fresh-fresh.result _
    (rw (c.spot_of-spot.ensures.place, c.spot_of-spot.ensures.above) at c.opening_holding_cause-cause.ensures)

admitted : (g : given.Over) (c : In_default g) → IsAdmittedHolding g.R.Resource c.admit.new.ground c.args.at c.args.kind c.is_fresh-fresh.result
admitted g c =
    let first = first_stands g.R.Resource c.self.inside.ground c.args.at c.args.kind c.is_fresh-fresh.result _
    (rw (c.spot_of-spot.ensures.place, c.spot_of-spot.ensures.above) at c.opening_holding_cause-cause.ensures) in
    admitted_holding c.args.at c.args.kind c.is_fresh-fresh.result c.of_opening_holding-cost.result first
    (rw c.spot_of-spot.ensures.place at c.of_opening_holding-cost.ensures _ c.found-found.ensures.connects) c.in_default.ensures.ok

pub admit-requires-clause-within : goal.admit-requires-clause-within
admit-requires-clause-within g c κs within none =
    let is = first g (goal.at.admit-requires-clause-within g c).After-opening_holding_cause-cause in
    holding_within g.R.Resource c.self.inside.ground c.args.at c.args.kind c.is_fresh-fresh.result c.of_opening_holding-cost.result (is ∙ none)
    (rw c.spot_of-spot.ensures.place at c.of_opening_holding-cost.ensures _ c.found-found.ensures.connects)

pub returns-in-Err : goal.returns-in-Err
returns-in-Err g c =
    let a = c.in-Err.ensures in
    let stand = stands_holding (state_of g.R.Resource c.self.inside.ground) c.args.at c.args.kind c.is_fresh-fresh.result in
    let why = rw c.is_fresh-fresh.ensures at (a.err stand (first g (goal.at.returns-in-Err g c).After-opening_holding_cause-cause)) in
    rw (← c.self.view_is) (record { ok = tt; no_cause = tt; refused = why; back = refl; kept = a.same })

pub write_opening-opened-requires-clause-admitted : goal.write_opening-opened-requires-clause-admitted
write_opening-opened-requires-clause-admitted g c κs within = (admitted g (goal.at.write_opening-opened-requires-clause-admitted g c).In_default).opening

pub write_opening-opened-requires-clause-found : goal.write_opening-opened-requires-clause-found
write_opening-opened-requires-clause-found g c κs within = found_admitted c.in_default.ensures.ok c.args.kind c.found-found.ensures

pub write_holding-res-requires-clause-fresh : goal.write_holding-res-requires-clause-fresh
write_holding-res-requires-clause-fresh g c κs within =
    let a = admitted g (goal.at.write_holding-res-requires-clause-fresh g c).In_default in
    sym c.is_fresh-fresh.ensures ∙ fresh_with (state_of g.R.Resource c.admit.new.ground) c.args.at c.args.kind c.is_fresh-fresh.result a.none

pub write_holding-res-requires-clause-known : goal.write_holding-res-requires-clause-known
write_holding-res-requires-clause-known g c κs within = c.write_opening-opened.ensures.opened.key.listed

pub write_holding-res-requires-clause-events : goal.write_holding-res-requires-clause-events
write_holding-res-requires-clause-events g c κs within =
    c.write_opening-opened.ensures.spare 3 (admitted g (goal.at.write_holding-res-requires-clause-events g c).In_default).events

pub write_holding-res-requires-clause-room : goal.write_holding-res-requires-clause-room
write_holding-res-requires-clause-room g c κs within = search (rules, admitted)

pub returns : goal.returns
returns g c =
    let R = g.R.Resource in
    let mid = c.write_opening-opened.new.ground in
    let new = c.write_holding-res.new.ground in
    let o = c.write_opening-opened.ensures in
    let t = c.write_holding-res.ensures in
    let none = rw c.is_fresh-fresh.ensures at (admitted g (goal.at.returns g c).In_default).none in
    let accept = Accept c.write_opening-opened.result.key.number (R.tag_of c.args.resource) in
    let keys = ap (λ (nodes : Slots Node). map (λ (k : Kept Node). k.key) (kept_in nodes)) t.nodes in
    let b = c.admit.new.ground in
    let h = b.register.history in
    let outside = outside_of h (Opening (place_of c.args.at) c.args.kind) in
    let further = further_step b.register.base h outside o.accepted.step.forced in
    let gathered = gathers_on further (accept ∷ []) t.history (gathers_just o.accepted.closed o.accepted.closed_order) t.closed.gathers in
    let longer = grown_by (h ++ outside) (adds_forced b.register.base o.accepted.step.forced) in
    let known : (k : Key) → Contains mid.closed k ⊎ IsSome (find mid.tree.nodes k) → k.number < length h → Contains (keys_of b.tree) k =
    either_known mid (keys_of b.tree) o.accepted.closed_keys o.accepted.keys in
    holding_begun (subst (λ (x : State). AnswersOpenedHolding R x c.args.at c.args.kind c.args.resource (state_of R new)
    (Ok (record { opened = c.write_opening-opened.result; res = c.write_holding-res.result })))
    (begun_at (state_admitted c.in_default.ensures.ok) c.self.view_is) (record {
      ok = record {
        middle = state_of R mid;
        opens = o.accepted;
        holds = t.accepted;
        last = t.history;
        keys = keys;
        closed = just_gone refl gathered;
        closed_keys = λ k here older. known k (t.closed.found k here (omega (arith, longer, older, length-append h outside))) older;
        closed_order = gone_in_order refl gathered;
        opened = opened_after (state_of R c.admit.new.ground) (state_of R mid) (state_of R new) accept refl t.history keys o.opened;
        res = t.res;
      };
      no_cause = none;
      refused = tt;
      back = tt;
      kept = tt;
    }))
