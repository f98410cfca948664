-- An opening that holds a resource is let in: nothing stands against it, and the room for both its events was gotten.
use Rattle.rx_book.proofs.Common.{◌≡◌, ◌+◌, Bool, Option, Some, None, sym, ap, subst, ◌∙◌, arith, Ghosts, Kind, Refusal, Opening, first_cause, added_by, At}
use Rattle.rx_book.proofs.Common.{nodes_opened, Wanted, Ground, is_there, State, place_of, open_request, key_above, stands_holding, IsAdmittedHolding, Admits}
use Rattle.rx_book.proofs.Common.{state_of, IsWithin}
use Rattle.rx_ground.specs.OpeningHolding.{opening_holding_cost, first_holding}
use Rattle.rx_book.proofs.Admitted.{few_opened, state_admitted}
use Rattle.rx_book.proofs.CallWithoutCause.{let_in}
use Rattle.rx_book.proofs.CausesByKey.{first_by_place}
use Rattle.rx_book.proofs.HoldingUnstood.{opens_unstood, within_with}
use Rattle.std.proofs.Common.{rules}

module _ {T : Type 0} (g : Ghosts T) (b : Ground T) (at : At) (kind : Kind) (fresh : Bool) where
  -- what stands first by the tree's key stands first by the caller's
  pub first_stands : (why : Option Refusal) → why ≡ first_holding b (is_there b.tree.nodes (key_above at)) fresh (place_of at) kind →
      first_cause (stands_holding (state_of g b) at kind fresh) ≡ why
  first_stands why first = search (rules, first_by_place)

  -- the cost is within the limit, and its notes are few
  pub holding_within : (cost : Wanted) → first_cause (stands_holding (state_of g b) at kind fresh) ≡ None →
      cost ≡ opening_holding_cost b.register.history (place_of at) kind → IsWithin b cost
  holding_within cost none is =
      let within = within_with (state_of g b) at kind fresh none in
      let few = few_opened b.register.history kind in
      let events = ap (λ (w : Wanted). w.events) is in
      let notes = ap (λ (w : Wanted). w.notes) is in record { events = omega arith; notes = omega arith }

-- with the room for it, it is admitted
pub admitted_holding : {T : Type 0} {g : Ghosts T} {old new : Ground T} {cause : Option Refusal} (at : At) (kind : Kind) (fresh : Bool) (cost : Wanted) →
    first_cause (stands_holding (state_of g old) at kind fresh) ≡ cause → cost ≡ opening_holding_cost old.register.history (place_of at) kind →
    Admits g old cause (Some cost) new → IsAdmittedHolding g new at kind fresh
admitted_holding {g} {old} {new} at kind fresh cost first is a =
    let same = sym (state_admitted a) in
    let none_now = subst (λ (s : State). first_cause (stands_holding s at kind fresh) ≡ None) same (first ∙ a.none) in
    let is_now = subst (λ (s : State). cost ≡ opening_holding_cost s.history (place_of at) kind) same is in
    let added : cost.events ≡ added_by new.register.history (Opening (place_of at) kind) + 3 = ap (λ (w : Wanted). w.events) is_now in
    let told : cost.notes ≡ nodes_opened new.register.history kind = ap (λ (w : Wanted). w.notes) is_now in
    let made : cost.nodes ≡ nodes_opened new.register.history kind = ap (λ (w : Wanted). w.nodes) is_now in
    let one : cost.resources ≡ 1 = ap (λ (w : Wanted). w.resources) is_now in
    let has = a.has in
    let events = has.events in
    let notes = has.notes in
    let nodes = has.nodes in
    let space = has.space in
    let resources = has.resources in
    record {
      opening = record {
        let_in = let_in g new (open_request (state_of g new) at kind) a.standing a.promised (opens_unstood (state_of g new) at kind fresh none_now) tt
            (record { events = omega arith; notes = omega arith }) a.roomier.closed;
        room = record {
          events = omega arith;
          notes = omega arith;
          nodes = omega arith;
          space = omega arith;
          resources = omega arith;
          hubs = omega arith;
          slots = has.slots;
          leases = omega arith;
        };
      };
      none = none_now;
      events = omega arith;
      resources = omega arith;
    }
