-- All calls: their events may follow, and add what was counted.
use Rattle.std.proofs.Common.{ℕ, Bool, List, ◌++◌, map, subst, sym, rules}
use Rattle.rx_event.specs.Kept.{Kept}
use Rattle.rx_event.specs.Lawful.{MayFollow}
use Rattle.rx_event.specs.Causes.{added_by}
use Rattle.rx_note.specs.declared.note.Terminal.TheVariants.{Error}
use Rattle.rx_event.specs.declared.event.Kind.TheVariants.{Pass}
use Rattle.rx_event.specs.declared.event.Event.{Event}
use Rattle.rx_event.specs.declared.event.Event.TheVariants.{Open, Close}
use Rattle.rx_event.specs.Calls.{Call, Opening, OpeningUsing, Holding, Applying, Removing, Leasing, GivingBack, Emitting, Ending, Aborting, Declining}
use Rattle.rx_event.specs.Calls.{Failing, Disposing, Publishing, Connecting, Disconnecting, Taking, outside_of}
use Rattle.rx_register.specs.State.{State, Writes}
use Rattle.rx_register.specs.Claims.{MayFollowInTurn, MayCall}
use Rattle.rx_register.specs.Paid.{IsPaid, HasRoomFor, Fits, notes_added}
use Rattle.rx_register.proofs.Laws.Follow.{opening_follows, using_follows, accepting_follows, holding_follows, applying_follows, removing_follows}
use Rattle.rx_register.proofs.Laws.Follow.{leasing_follows, returning_follows, emitting_follows, ending_follows, aborting_follows, declining_follows}
use Rattle.rx_register.proofs.Laws.Follow.{failing_follows, disposing_follows, publishing_follows, connecting_follows, disconnecting_one}
use Rattle.rx_register.proofs.Laws.Follow.{disconnecting_follows, taking_follows}
use Rattle.rx_register.proofs.Laws.Paid.{call_pays}
use Rattle.rx_register.proofs.Laws.Fits.{opening_fits, using_fits, holding_fits, applying_fits, removing_fits, leasing_fits, returning_fits, emitting_fits}
use Rattle.rx_register.proofs.Laws.Fits.{ending_fits, declining_fits, closing_fits, publishing_fits, connecting_fits, taking_fits}

pub call_follows : (base : Kept) → (h : List Event) (limit : ℕ) (fresh : Bool) (call : Call) → MayCall base h limit fresh call →
    MayFollowInTurn base h (outside_of h call)
call_follows base h limit fresh (Opening place kind) m = (opening_follows h limit fresh place kind m.lawful m.settled m.no_cause, tt)
call_follows base h limit fresh (OpeningUsing place tag) m =
    let next : MayFollow base h (Open place Pass) = using_follows h limit fresh place tag m.lawful m.settled m.no_cause in
    (next, (accepting_follows base h place tag next, tt))
call_follows base h limit fresh (Holding n tag) m = (holding_follows base h limit fresh n tag m.settled m.no_cause, tt)
call_follows base h limit fresh (Applying r) m = (applying_follows base h limit fresh r m.settled m.no_cause, tt)
call_follows base h limit fresh (Removing r) m = (removing_follows base h limit fresh r m.settled m.no_cause, tt)
call_follows base h limit fresh (Leasing r) m = (leasing_follows base h limit fresh r m.settled m.no_cause, tt)
call_follows base h limit fresh (GivingBack l) m = (returning_follows base h limit fresh l m.settled m.no_cause, tt)
call_follows base h limit fresh (Emitting l v) m = (emitting_follows base h limit fresh l v m.settled m.no_cause, tt)
call_follows base h limit fresh (Ending l t) m = (ending_follows base h limit fresh l t m.settled m.no_cause, tt)
call_follows base h limit fresh (Aborting n c) m = (aborting_follows base h limit fresh n c m.settled m.no_cause, tt)
call_follows base h limit fresh (Declining f) m = (declining_follows base h limit fresh f m.settled m.no_cause, tt)
call_follows base h limit fresh (Failing f c) m = (failing_follows base h limit fresh f c m.settled m.no_cause, tt)
call_follows base h limit fresh (Disposing n) m = (disposing_follows base h limit fresh n m.settled m.no_cause, tt)
call_follows base h limit fresh (Publishing mode) m = (publishing_follows base h limit fresh mode m.settled m.no_cause, tt)
call_follows base h limit fresh (Connecting g) m = (connecting_follows base h limit fresh g m.settled m.no_cause, tt)
call_follows base h limit fresh (Disconnecting g) m =
    let one = disconnecting_one base h g m.lawful m.no_cause in
    subst (λ (cs : List ℕ). MayFollowInTurn base h (map (λ c. Close c) cs)) (sym one.1) (disconnecting_follows base h g one.0 m.settled m.no_cause one.1, tt)
call_follows base h limit fresh (Taking r) m = (taking_follows base h r m.settled m.ready, tt)

pub call_fits : (base : Kept) → (h : List Event) (limit : ℕ) (fresh : Bool) (call : Call) → MayCall base h limit fresh call →
    Fits base h (h ++ outside_of h call) (added_by h call) (notes_added h call)
call_fits base h limit fresh (Opening place kind) m =
    opening_fits base h place kind m.lawful m.settled (call_follows base h limit fresh (Opening place kind) m).0
call_fits base h limit fresh (OpeningUsing place tag) m =
    let next = call_follows base h limit fresh (OpeningUsing place tag) m in
    using_fits base h place tag m.lawful m.settled next.0 next.1.0
call_fits base h limit fresh (Holding n tag) m = holding_fits base h n tag m.lawful m.settled (call_follows base h limit fresh (Holding n tag) m).0
call_fits base h limit fresh (Applying r) m = applying_fits base h r m.lawful m.settled (call_follows base h limit fresh (Applying r) m).0
call_fits base h limit fresh (Removing r) m = removing_fits base h r m.lawful m.settled (call_follows base h limit fresh (Removing r) m).0
call_fits base h limit fresh (Leasing r) m = leasing_fits base h r m.lawful m.settled (call_follows base h limit fresh (Leasing r) m).0
call_fits base h limit fresh (GivingBack l) m = returning_fits base h l m.lawful m.settled (call_follows base h limit fresh (GivingBack l) m).0
call_fits base h limit fresh (Emitting l v) m = emitting_fits base h l v m.lawful m.settled (call_follows base h limit fresh (Emitting l v) m).0
call_fits base h limit fresh (Ending l t) m = ending_fits base h l t m.lawful m.settled (call_follows base h limit fresh (Ending l t) m).0
call_fits base h limit fresh (Aborting n c) m = ending_fits base h n (Error c) m.lawful m.settled (call_follows base h limit fresh (Aborting n c) m).0
call_fits base h limit fresh (Declining f) m = declining_fits base h f m.lawful m.settled (call_follows base h limit fresh (Declining f) m).0
call_fits base h limit fresh (Failing f c) m = ending_fits base h f (Error c) m.lawful m.settled (call_follows base h limit fresh (Failing f c) m).0
call_fits base h limit fresh (Disposing n) m = closing_fits base h n m.lawful m.settled (call_follows base h limit fresh (Disposing n) m).0
call_fits base h limit fresh (Publishing mode) m = publishing_fits base h mode m.lawful m.settled (call_follows base h limit fresh (Publishing mode) m).0
call_fits base h limit fresh (Connecting g) m = connecting_fits base h g m.lawful m.settled (call_follows base h limit fresh (Connecting g) m).0
call_fits base h limit fresh (Disconnecting g) m =
    let one = disconnecting_one base h g m.lawful m.no_cause in
    let next = disconnecting_follows base h g one.0 m.settled m.no_cause one.1 in
    subst (λ (cs : List ℕ). Fits base h (h ++ map (λ c. Close c) cs) 0 0) (sym one.1) (closing_fits base h one.0 m.lawful m.settled next)
call_fits base h limit fresh (Taking r) m = taking_fits base h r m.lawful m.settled (call_follows base h limit fresh (Taking r) m).0

-- room for a call is room for what it forces
pub called_paid : (s t : State) (limit : ℕ) (fresh : Bool) (call : Call) → MayCall s.base s.history limit fresh call → HasRoomFor s call →
    Writes s (outside_of s.history call) t → IsPaid t
called_paid s t limit fresh call m has w = search (rules, call_pays, call_fits)
