-- Calls as values: those that take no memory, and those of fixed cost. They are let in, and open no subscriber of a hub; and what they give
-- stays given.
use Rattle.rx_book.proofs.Common.{◌≡◌, ℕ, ◌≤◌, true, false, Option, Some, None, List, [], ◌∷◌, map, refl, sym, ap, ◌∙◌, true≢false}
use Rattle.rx_book.proofs.Common.{false≢true, list_all, Ghosts, Refusal, Full, Close, outside_of, first_cause, is_open, causes, added_by}
use Rattle.rx_book.proofs.Common.{is_over, connected_stays, Slots, notes_added, paid_room, Wanted, Ground, Answer, State, has_lease_key, stands, Accepts}
use Rattle.rx_book.proofs.Common.{connect_request, state_of, lease_keys_of, cost_of, IsWithin, Admits, IsLetIn, IsAdmitted}
use Rattle.rx_event.specs.declared.event.Event.TheVariants.{Connect as Connected_to}
use Rattle.rx_tree.specs.declared.node.ResKey.{ResKey}
use Rattle.rx_register.specs.Claims.{IsReady as IsReadyFor}
use Rattle.rx_book.specs.declared.call.Call.{Call}
use Rattle.rx_book.specs.declared.call.Call.TheVariants.{Open, Lease, Connect}
use Rattle.rx_book.specs.declared.answer.Answer.TheVariants.{Leased, Connected}
use Rattle.rx_book.specs.Asks.{request_of, takes_memory, has_fixed_cost, gives}
use Rattle.rx_book.proofs.Admitted.{within_limit, admitted_let_in, admitted_as}
use Rattle.rx_book.proofs.CallWithoutCause.{subscribes_none, one_ready}
use Rattle.rx_ground.specs.Settling.{Settles}
use Rattle.rx_book.proofs.ListOfClosed.{opened_begun}
use Rattle.rx_book.proofs.ShownKeys.{has_key_is}
use Rattle.std.proofs.Common.{rules}

-- costs --------------------------------------------------------------------------------------------

-- what takes no memory wants no room
free_adds : (s : State) (call : Call) → takes_memory call ≡ false →
    (added_by s.history (request_of s call).call ≡ 0) × (notes_added s.history (request_of s call).call ≡ 0)
free_adds s x1 free = search (rules, true≢false)

-- one of fixed cost may take memory
pub fixed_takes : (call : Call) → has_fixed_cost call ≡ true → takes_memory call ≡ true
fixed_takes x0 fixed = search (rules, false≢true)

-- where it is refused `Full` is told by what it adds
counted : (s : State) (call : Call) → has_fixed_cost call ≡ true → (let asked = request_of s call in
    causes s.base s.history s.limit asked.is_fresh asked.call Full ≡ is_over s.base s.history s.limit (added_by s.history asked.call))
counted s x1 fixed = search (rules, false≢true)

few_told : (s : State) (call : Call) → has_fixed_cost call ≡ true → notes_added s.history (request_of s call).call ≤ 1
few_told s x1 fixed = search (rules, false≢true)

-- its cost is within the limit
pub fixed_within : {T : Type 0} (g : Ghosts T) (b : Ground T) (call : Call) (w : Wanted) → has_fixed_cost call ≡ true →
    w ≡ cost_of b.register.history (request_of (state_of g b) call).call → first_cause (stands (state_of g b) (request_of (state_of g b) call)) ≡ None →
    IsWithin b w
fixed_within g b call w fixed is none = search (rules, few_told, within_limit, counted)

-- letting in ---------------------------------------------------------------------------------------

ready : (s : State) (call : Call) → IsReadyFor s.history (request_of s call).call
ready s x1 = search rules

-- it is the same where the list of what is closed was begun
pub unlisted : (call : Call) (s : State) → request_of (record s { closed = [] }) call ≡ request_of s call
unlisted x0 s = search rules

module _ {T : Type 0} {g : Ghosts T} {old new : Ground T} {cause : Option Refusal} (call : Call)
    (first : first_cause (stands (state_of g old) (request_of (state_of g old) call)) ≡ cause) where
  pub free_let_in : takes_memory call ≡ false → Admits g old cause None new → IsLetIn g new (request_of (state_of g new) call)
  free_let_in free a =
      let adds = free_adds (state_of g new) call free in
      admitted_let_in (λ s. request_of s call) (unlisted call) (ready (state_of g new) call) first a
      (paid_room new.register (request_of (state_of g new) call).call a.standing.paid adds.0 adds.1)

  pub fixed_admitted : {w : Wanted} → w ≡ cost_of old.register.history (request_of (state_of g old) call).call → Admits g old cause (Some w) new →
      IsAdmitted g new (request_of (state_of g new) call)
  fixed_admitted is a = admitted_as (λ s. request_of s call) (unlisted call) (ready (state_of g new) call) first a is

-- what is forced -----------------------------------------------------------------------------------

closes_subscribe_none : (ns : List ℕ) → list_all subscribes_none (map (λ n. Close n) ns) ≡ true
closes_subscribe_none [] = refl
closes_subscribe_none (n ∷ ns) = closes_subscribe_none ns

-- it opens no subscriber
pub free_subscribes_none : (s : State) (call : Call) → takes_memory call ≡ false →
    list_all subscribes_none (outside_of s.history (request_of s call).call) ≡ true
free_subscribes_none s x1 free = search (rules, true≢false, closes_subscribe_none)

pub fixed_subscribes_none : (s : State) (call : Call) → has_fixed_cost call ≡ true →
    list_all subscribes_none (outside_of s.history (request_of s call).call) ≡ true
fixed_subscribes_none s x1 fixed = search (rules, false≢true)

-- answers ------------------------------------------------------------------------------------------

-- what it gives is given still after what is forced
pub gives_settled : {T : Type 0} {g : Ghosts T} {b mid new : Ground T} (call : Call) (answer : Answer) → has_fixed_cost call ≡ true →
    IsLetIn g b (request_of (state_of g b) call) → Accepts (state_of g b) (request_of (state_of g b) call) (state_of g new) → Settles g mid new →
    gives (state_of g b) call (state_of g mid) answer → gives (state_of g b) call (state_of g new) answer
gives_settled (Open at kind) answer fixed l done s is = absurd (false≢true fixed)
gives_settled (Lease res) (Leased k) fixed l done s is =
    record { number = is.number; listed = ap (λ (leases : Slots ResKey). has_lease_key (lease_keys_of leases) k) s.leases ∙ is.listed }
gives_settled {g} {b} {mid} {new} (Connect hub) (Connected k) fixed l done s is =
    let h = b.register.history in
    let next = (one_ready g b (connect_request hub) l (Connected_to hub) refl).next in
    let alive = connected_stays b.register.base h new.register.history hub l.may.lawful l.may.settled next done.step.forced in
    let there = sym (has_key_is mid.tree k) ∙ is.listed in
    record {
      number = is.number;
      listed = has_key_is new.tree k ∙ s.nodes.still k there (ap (is_open new.register.history) is.number ∙ alive);
    }
gives_settled _ _ fixed l done s is = is

pub gives_begun : (s new : State) (call : Call) (answer : Answer) → gives (record s { closed = [] }) call new answer → gives s call new answer
gives_begun s new x2 x3 is = search (rules, opened_begun)
