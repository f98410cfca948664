-- A call is let in: nothing stands against it, and its cost is room that was gotten.
use Rattle.rx_book.proofs.Common.{◌≡◌, ◌+◌, ◌≤◌, cond, length, List, [], Bool, true, Option, Some, None, IfSome, refl, sym, ap, subst, ◌∙◌, arith}
use Rattle.rx_book.proofs.Common.{ℤ, Ghosts, Refusal, Full, Kind, Event, Emitting, first_cause, debt, causes, added_by, is_over, Wanted}
use Rattle.rx_book.proofs.Common.{nodes_opened, HasRoomFor, notes_added, Reach, cost_of, IsReach, Ground, IsStanding, IsRoomier, HasRoomBeside, State, stands}
use Rattle.rx_book.proofs.Common.{Request, IsRefusalOf, state_of, IsLetIn, IsAdmitted, IsWithin, Admits, HasRoomToTell, most_notes}
use Rattle.rx_slots.specs.declared.Key.{Key}
use Rattle.rx_register.specs.Claims.{IsReady as IsReadyFor}
use Rattle.rx_register.specs.State.{State as Register, IsPromised}
use Rattle.rx_ground.specs.Told.{IsFound}
use Rattle.rx_ground.specs.declared.hubs.Found.{Found}
use Rattle.rx_book.proofs.CallWithoutCause.{let_in, within_full, state_roomier}
use Rattle.rx_book.proofs.ListOfClosed.{standing_begun, room_begun}
use Rattle.std.proofs.Common.{rules}

-- an opening makes two nodes at most
pub few_opened : (h : List Event) (kind : Kind) → nodes_opened h kind ≤ 2
few_opened h kind = search (rules, cond)

-- what stands first is a refusal, whether the call may take memory or not
pub refused_for : (stand : Refusal → Bool) {why : Refusal} (may_want : Bool) → first_cause stand ≡ Some why → IsRefusalOf may_want stand why
refused_for stand x1 first = search rules

-- the cost of what is asked is within the limit
pub within_limit : {T : Type 0} (g : Ghosts T) (b : Ground T) (asked : Request) (cost : Wanted) → (let h = b.register.history in let base = b.register.base in
    causes base h b.register.limit asked.is_fresh asked.call Full ≡ is_over base h b.register.limit (added_by h asked.call) →
    first_cause (stands (state_of g b) asked) ≡ None → cost ≡ cost_of h asked.call → notes_added h asked.call ≤ most_notes → IsWithin b cost)
within_limit g b asked cost full none is few = search (rules, within_full)

-- room ---------------------------------------------------------------------------------------------

pub roomier_same : {T : Type 0} (b : Ground T) → IsRoomier b b
roomier_same b = search rules

roomier_begun : {T : Type 0} {old new : Ground T} → IsRoomier old new → IsRoomier (record old { closed = [] }) (record new { closed = [] })
roomier_begun r = search rules

rooms_begun : {T : Type 0} (b : Ground T) (cost : Option Wanted) → IfSome cost (HasRoomBeside b) → IfSome cost (HasRoomBeside (record b { closed = [] }))
rooms_begun b x1 has = search (rules, room_begun)

-- room is gotten, and then the list of what is closed is begun
pub admits : {T : Type 0} {g : Ghosts T} {old mid new : Ground T} {cause : Option Refusal} (cost : Option Wanted) → cause ≡ None → IsRoomier old mid →
    IsStanding g mid → IsPromised mid.register → IfSome cost (HasRoomBeside mid) → new ≡ record mid { closed = [] } → Admits g old cause cost new
admits {T = T} {g} {old} {mid} {cause = cause} cost none roomier standing promised has begun =
    search (rules, Admits, standing_begun, roomier_begun, rooms_begun)

-- letting in ---------------------------------------------------------------------------------------

-- callers see the list begun, and nothing else changed
pub state_admitted : {T : Type 0} {g : Ghosts T} {old new : Ground T} {cause : Option Refusal} {cost : Option Wanted} → Admits g old cause cost new →
    state_of g new ≡ record (state_of g old) { closed = [] }
state_admitted {g} {old} {new} a = state_roomier g (record old { closed = [] }) new a.roomier

-- and what was found of a hub is so still
pub found_admitted : {T : Type 0} {g : Ghosts T} {old new : Ground T} {cause : Option Refusal} {cost : Option Wanted} → Admits g old cause cost new →
    (kind : Kind) {found : Found} → IsFound old.register.history old.hubs.hubs kind found → IsFound new.register.history new.hubs.hubs kind found
found_admitted {old = old} {new} a kind {found} is =
    let hubs : new.hubs.hubs ≡ old.hubs.hubs = (λ i. (a.roomier.hubs i).hubs) in
    let history : new.register.history ≡ old.register.history = (λ i. (a.roomier.register i).history) in rw (hubs, history) is

-- a call, of which the list of what is closed tells nothing, is let in
module _ {T : Type 0} {g : Ghosts T} {old new : Ground T} {cause : Option Refusal} (ask : State → Request)
    (unlisted : (s : State) → ask (record s { closed = [] }) ≡ ask s) (ready : IsReadyFor new.register.history (ask (state_of g new)).call)
    (first : first_cause (stands (state_of g old) (ask (state_of g old))) ≡ cause) where
  pub admitted_let_in : {cost : Option Wanted} → Admits g old cause cost new → HasRoomFor new.register (ask (state_of g new)).call →
      IsLetIn g new (ask (state_of g new))
  admitted_let_in a has =
      let none_begun = subst (λ (q : Request). first_cause (stands (state_of g old) q) ≡ None) (sym (unlisted (state_of g old))) (first ∙ a.none) in
      let none = subst (λ (s : State). first_cause (stands s (ask s)) ≡ None) (sym (state_admitted a)) none_begun in
      let_in g new (ask (state_of g new)) a.standing a.promised none ready has a.roomier.closed

  -- and has room, where it costs so much
  pub admitted_as : {w : Wanted} → Admits g old cause (Some w) new → w ≡ cost_of old.register.history (ask (state_of g old)).call →
      IsAdmitted g new (ask (state_of g new))
  admitted_as {w} a is =
      let is_begun = subst (λ (q : Request). w ≡ cost_of old.register.history q.call) (sym (unlisted (state_of g old))) is in
      let is_now = subst (λ (s : State). w ≡ cost_of s.history (ask s).call) (sym (state_admitted a)) is_begun in
      let events = ap (λ (x : Wanted). x.events) is_now in
      let notes = ap (λ (x : Wanted). x.notes) is_now in
      let has = a.has in
      record {
        let_in = admitted_let_in a (record { events = let e = has.events in omega arith; notes = let n = has.notes in omega arith });
        room = subst (λ (x : Wanted). HasRoomBeside new x) is_now has;
      }

-- the limit holds for what an item reaches
pub item_within : {T : Type 0} (g : Ghosts T) (b : Ground T) (leaf : Key) (known : Bool) (value : ℤ) {reach : Reach} →
    IsReach b.register.history b.tree.nodes leaf reach →
    first_cause (stands (state_of g b) (record { call = Emitting leaf.number value; is_known = known; is_fresh = true })) ≡ None →
    length b.register.history + debt b.register.base b.register.history + reach.events ≤ b.register.base.at_length + b.register.limit
item_within g b leaf known value is none =
    let within = within_full b.register.base (Emitting leaf.number value) known true b.register.history b.register.limit refl none in
    let events = is.events in omega arith

-- and the room that it wants is that of its call
pub item_room : {T : Type 0} {old mid new : Ground T} (leaf : Key) (value : ℤ) {reach : Reach} → IsReach old.register.history old.tree.nodes leaf reach →
    IsRoomier old mid → HasRoomToTell mid reach.events reach.notes → new ≡ record mid { closed = [] } →
    HasRoomFor new.register (Emitting leaf.number value)
item_room {T} {old} {mid} leaf value {reach} is roomier has begun =
    let call = Emitting leaf.number value in
    let history : mid.register.history ≡ old.register.history = ap (λ (r : Register). r.history) roomier.register in
    let added : added_by mid.register.history call ≡ reach.events = ap (λ (h : List Event). added_by h call) history ∙ sym is.events in
    let noted : notes_added mid.register.history call ≡ reach.notes = ap (λ (h : List Event). notes_added h call) history ∙ is.notes value in
    subst (λ (b : Ground T). HasRoomFor b.register call) (sym begun)
    (record { events = let e = has.events in omega arith; notes = let n = has.notes in omega arith })
