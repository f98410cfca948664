-- What is promised of calls against which no cause of refusal stands, and of the calls behind events.
use Rattle.std.specs.Prelude.{◌≡◌, ◌↔◌, ◌⊎◌, ℕ, Bool, true, None, List, [], ◌∷◌, ◌++◌, IsTrue}
use Rattle.rx_event.specs.Kept.{Kept}
use Rattle.rx_event.specs.declared.event.Event.{Event}
use Rattle.rx_event.specs.declared.refusal.Refusal.{Refusal}
use Rattle.rx_event.specs.declared.refusal.Refusal.TheVariants.{Full, NoMemory}
use Rattle.rx_event.specs.Resources.{is_waiting}
use Rattle.rx_event.specs.Forced.{IsForced, IsSettled}
use Rattle.rx_event.specs.Allowed.{IsAllowed}
use Rattle.rx_event.specs.Lawful.{MayFollow, IsLawful}
use Rattle.rx_event.specs.Calls.{Call, Taking, outside_of}
use Rattle.rx_event.specs.Refusals.{first_cause}
use Rattle.rx_event.specs.Causes.{causes, added_by}
use Rattle.rx_register.specs.State.{State, Writes}
use Rattle.rx_register.specs.Paid.{IsPaid, HasRoomFor, Fits, notes_added}
use Rattle.rx_register.specs.CallBehind.{call_behind, refusal_of, takes_waiting}

-- these events may come next, each after those before it
abbrev pub MayFollowInTurn : Kept → List Event → List Event → Type 0
MayFollowInTurn base h [] = Unit {0}
MayFollowInTurn base h (e ∷ more) = MayFollow base h e × MayFollowInTurn base (h ++ e ∷ []) more

-- what no cause tells: what is taken waits
abbrev pub IsReady : List Event → Call → Type 0
IsReady h (Taking resource) = IsTrue (is_waiting h resource)
IsReady h _ = Unit {0}

-- the call may be made
pub record MayCall (base : Kept) (h : List Event) (limit : ℕ) (is_fresh : Bool) (call : Call) : Type 0 where
  pub lawful : IsLawful base h
  pub settled : IsSettled base h
  pub no_cause : first_cause (causes base h limit is_fresh call) ≡ None
  pub ready : IsReady h call

pub record CallsFollow (base : Kept) : Type 0 where
  -- its events may follow
  pub follow : (h : List Event) (limit : ℕ) (is_fresh : Bool) (call : Call) → MayCall base h limit is_fresh call → MayFollowInTurn base h (outside_of h call)
  -- and what they add is what the causes have counted
  pub fit : (h : List Event) (limit : ℕ) (is_fresh : Bool) (call : Call) → MayCall base h limit is_fresh call →
      Fits base h (h ++ outside_of h call) (added_by h call) (notes_added h call)

pub record RoomIsKept : Type 0 where
  -- after a call that there was room for, what it forces is paid for
  pub called : (old new : State) (limit : ℕ) (is_fresh : Bool) (call : Call) → MayCall old.base old.history limit is_fresh call → HasRoomFor old call →
      Writes old (outside_of old.history call) new → IsPaid new
  -- and after each forced event what is still forced
  pub forced : (old new : State) (e : Event) → IsLawful old.base old.history → IsForced old.base old.history e → IsPaid old → Writes old (e ∷ []) new →
      IsPaid new

-- only want of room may refuse the call, and what it takes waits
pub record IsClear (base : Kept) (h : List Event) (limit : ℕ) (is_fresh : Bool) (call : Call) : Type 0 where
  pub others : (why : Refusal) → IsTrue (causes base h limit is_fresh call why) → (why ≡ Full) ⊎ (why ≡ NoMemory)
  pub ready : IsReady h call

pub record EventsDecided (base : Kept) : Type 0 where
  -- an event is allowed exactly where none but `Full` and `NoMemory` stands against the call behind it
  pub allowed : (h : List Event) (limit : ℕ) (e : Event) → IsLawful base h → IsSettled base h →
      (IsAllowed base h e) ↔ (IsClear base h limit true (call_behind base h e))
  -- so where it is refused nothing, and what it takes waits
  pub unrefused : (h : List Event) (e : Event) → IsLawful base h → IsSettled base h →
      (IsAllowed base h e) ↔ ((refusal_of base h e ≡ None) × IsTrue (takes_waiting h e))
  -- the call behind an event adds just that
  pub adds : (h : List Event) (e : Event) → IsLawful base h → outside_of h (call_behind base h e) ≡ e ∷ []
  -- and where another such call is clear, the event is allowed
  pub any_call : (h : List Event) (limit : ℕ) (is_fresh : Bool) (call : Call) (e : Event) → IsLawful base h → IsSettled base h →
      outside_of h call ≡ e ∷ [] → IsClear base h limit is_fresh call → IsAllowed base h e
