-- What holds behind each plain command.
use Rattle.std.proofs.Common.{◌≡◌, ℕ, ℤ, length, ◌≤◌, false, List, refl, arith}
use Rattle.rx_resource.specs.declared.Resource.{Ghosts}
use Rattle.rx_resource.specs.declared.token.Token.{Token}
use Rattle.rx_event.specs.declared.event.Event.{Event}
use Rattle.rx_event.specs.declared.event.Event.TheVariants.{Item, End}
use Rattle.rx_event.proofs.Laws.Common.{mail_of}
use Rattle.rx_event.specs.Events.{is_item}
use Rattle.rx_event.specs.Notes.{notes}
use Rattle.rx_slots.specs.declared.Key.{Key}
use Rattle.rx_book.specs.State.{State as BookState, IsPromised as IsBookPromised}
use Rattle.rx_book.specs.Requests.{Request, next_request}
use Rattle.rx_book.specs.Answers.{Accepts}
use Rattle.rx_roles.specs.Effects.{items_in}
use Rattle.rx_roles.proofs.Laws.NotesOfStep.{end_items}
use Rattle.rx_engine.specs.States.{State, IsTied}
use Rattle.rx_engine.specs.Rooms.{IsReady}
use Rattle.rx_engine.specs.Settlements.{mail_left, closed_of, Settles}
use Rattle.rx_engine.specs.Closings.{Closes}
use Rattle.rx_engine.specs.Plain.{IsPlain, emits}
use Rattle.rx_pool.specs.Moves.{MayLeaveAll}
use Rattle.rx_pool.specs.Places.{places_left}
use Rattle.rx_pool.proofs.Laws.SharesAfterStep.{may_leave}
use Rattle.rx_engine.proofs.Laws.PlainCalls.{left_few, is_emitting, plain_call}
use Rattle.rx_engine.proofs.TiedAfterCall.{shared_mid, tied_after}

-- only an item tells items
quiet_items : (h : List Event) (e : Event) → is_item e ≡ false → items_in (mail_of h e) ≡ 0
quiet_items h (Item l v) quiet = absurd (cc)
quiet_items h (End n t) quiet = end_items h n t
quiet_items h _ quiet = refl

-- of a plain command but an item: there is room for all that it comes to
pub ready_for : (s : State) (asked : Request) (mid : BookState) → IsPlain s.book asked → is_emitting asked.call ≡ false → IsBookPromised s.book → IsTied s →
    Accepts s.book asked mid →
    IsReady (items_in (mail_left mid)) s.parts
ready_for s asked mid plain quiet kept tied accepts =
    let has = plain_call s.book asked mid kept plain accepts in
    let few = left_few has.call tied.given in
    let none = quiet_items s.book.history has.event (has.quiet quiet) in
    let room = tied.ready.room in let spare = tied.ready.spare in
    record { empty = tied.ready.empty; many = tied.ready.many; room = omega (arith, few, none, room); spare = omega (arith, few, none, spare) }

-- and who was closed may leave its hub
pub leave_for : (s : State) (asked : Request) (mid : BookState) → IsPlain s.book asked → IsBookPromised s.book → IsTied s → Accepts s.book asked mid →
    MayLeaveAll (places_left s.parts.shares.list (closed_of mid)) s.parts.shares.hubs
leave_for s asked mid plain kept tied accepts = may_leave (shared_mid (plain_call s.book asked mid kept plain accepts).call tied.shared) 0

-- and the tie is kept
pub tied_behind : (g : Ghosts Token) (s t : State) (asked : Request) (mid : BookState) (by value : ℕ) → IsPlain s.book asked →
    IsBookPromised s.book → IsTied s → Accepts s.book asked mid → Settles g by value mid s.parts t.book t.parts → Closes mid s.wishes.roles.list t.wishes →
    IsReady 0 t.parts → IsTied t
tied_behind g s t asked mid by value plain kept tied accepts settles closes ready =
    let has = plain_call s.book asked mid kept plain accepts in
    tied_after g s t asked has.event mid by value tied has.call settles closes ready

-- an item tells no more items than its own event
pub emitted_few : (s mid : BookState) (leaf : Key) (value : ℤ) → IsBookPromised s → Accepts s (next_request s leaf value) mid →
    s.given ≡ length (notes s.history) →
    items_in (mail_left mid) ≤ items_in (mail_of s.history (Item leaf.number value))
unfolding plain_call
emitted_few s mid leaf value kept accepts all = left_few (plain_call s (next_request s leaf value) mid kept (emits leaf value) accepts).call all
