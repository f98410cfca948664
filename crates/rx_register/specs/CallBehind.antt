-- The call of which a caller's event comes, and what refuses it.
use Rattle.std.specs.Prelude.{◌&&◌, if◌then◌else◌, ℕ, Bool, true, Option, None, nat_lt, List, slice_get}
use Rattle.std.specs.Option.{option_map_or, option_and_then}
use Rattle.rx_note.specs.declared.note.Terminal.TheVariants.{Completed, Error}
use Rattle.rx_event.specs.declared.event.Event.{Event}
use Rattle.rx_event.specs.declared.event.Event.TheVariants.{Open, Hub, Connect, Accept, Use, Remove, Lease, Return, Item, Decline, End, Close, Take}
use Rattle.rx_event.specs.declared.refusal.Refusal.{Refusal}
use Rattle.rx_event.specs.Events.{is_leaf, is_merging, hub_connected}
use Rattle.rx_event.specs.Kept.{Kept}
use Rattle.rx_event.specs.Tree.{at, is_open}
use Rattle.rx_event.specs.Moments.{owed}
use Rattle.rx_event.specs.Resources.{is_waiting}
use Rattle.rx_event.specs.Calls.{Call, Opening, Holding, Applying, Removing, Leasing, GivingBack, Emitting, Ending, Aborting, Declining, Failing}
use Rattle.rx_event.specs.Calls.{Disposing, Publishing, Connecting, Disconnecting, Taking}
use Rattle.rx_event.specs.Refusals.{first_cause}
use Rattle.rx_event.specs.Causes.{causes, unlimited}

-- the hub whose open connection the node is
abbrev pub hub_disconnected : List Event → ℕ → Option ℕ
hub_disconnected h n = if is_open h n then option_and_then hub_connected (slice_get h n) else None

-- something is owed at the node, which is a FlatMap or a Switch
abbrev pub may_fail : Kept → List Event → ℕ → Bool
may_fail base h n = at is_merging h n && nat_lt 0 (owed base h n)

-- a leaf is ended, a node that owes something fails at that, and any other is aborted
abbrev pub call_failing : Kept → List Event → (node code : ℕ) → Call
call_failing base h n code =
    if at is_leaf h n then Ending n (Error code) else (if may_fail base h n then Failing n code else Aborting n code)

-- the call of which the event comes
abbrev pub call_behind : Kept → List Event → Event → Call
call_behind base h (Open place kind) = Opening place kind
call_behind base h (Hub mode) = Publishing mode
call_behind base h (Connect g) = Connecting g
call_behind base h (Accept n tag) = Holding n tag
call_behind base h (Use r) = Applying r
call_behind base h (Remove r) = Removing r
call_behind base h (Lease r) = Leasing r
call_behind base h (Return l) = GivingBack l
call_behind base h (Item l value) = Emitting l value
call_behind base h (Decline f) = Declining f
call_behind base h (End n (Error code)) = call_failing base h n code
call_behind base h (End n Completed) = Ending n Completed
-- a connection is closed by its hub, while it is open
call_behind base h (Close n) = option_map_or (λ g. Disconnecting g) (hub_disconnected h n) (Disposing n)
call_behind base h (Take r) = Taking r

-- the first other cause against the call, with a fresh resource
abbrev pub refusal_against : Kept → List Event → Call → Option Refusal
refusal_against base h call = first_cause (unlimited (causes base h 0 true call))

-- and against the event, by the call behind it
abbrev pub refusal_of : Kept → List Event → Event → Option Refusal
refusal_of base h e = refusal_against base h (call_behind base h e)

-- what the event hands out waits: no cause tells that
abbrev pub takes_waiting : List Event → Event → Bool
takes_waiting h (Take r) = is_waiting h r
takes_waiting h _ = true
