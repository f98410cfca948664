-- An item that was emitted, with room for what it comes to.
use Rattle.std.proofs.Common.{ℕ, List, pos, refl, sym, arith, subst}
use Rattle.rx_resource.specs.declared.Resource.{Ghosts}
use Rattle.rx_resource.specs.declared.token.Token.{Token}
use Rattle.rx_event.specs.declared.mail.Mail.{Mail}
use Rattle.rx_event.specs.declared.event.Event.TheVariants.{Item}
use Rattle.rx_event.specs.Notes.{mail_of}
use Rattle.rx_slots.specs.declared.Key.{Key}
use Rattle.rx_book.specs.State.{State as BookState, IsPromised as IsBookPromised}
use Rattle.rx_book.specs.Requests.{next_request}
use Rattle.rx_book.specs.Answers.{Accepts}
use Rattle.rx_book.specs.Courses.{note_count}
use Rattle.rx_pool.specs.declared.search.PooledHub.{PooledHub}
use Rattle.rx_pool.specs.Moves.{MayLeaveAll}
use Rattle.rx_pool.specs.Places.{places_left}
use Rattle.rx_roles.specs.declared.roles.Role.{Role}
use Rattle.rx_roles.specs.Effects.{AllListened, items_in}
use Rattle.rx_roles.proofs.Laws.NotesOfStep.{items_few}
use Rattle.rx_engine.specs.declared.parts.Parts.{Parts}
use Rattle.rx_engine.specs.Rooms.{IsReady, IsRoomier}
use Rattle.rx_engine.specs.Settlements.{mail_left, closed_of, Settles}
use Rattle.rx_engine.specs.Closings.{Closes}
use Rattle.rx_engine.specs.Plain.{emits}
use Rattle.rx_engine.specs.States.{State, IsTied}
use Rattle.rx_engine.proofs.Laws.PlainCalls.{IsPlainCall, left_is, tells}
use Rattle.rx_engine.proofs.PlainCommands.{emitted_few, leave_for, tied_behind}
use Rattle.rx_engine.proofs.TiedAfterCall.{tied_roomier}

module _ (s : State) (leaf : Key) (mid : BookState) (p : Parts) (kept : IsBookPromised s.book) (tied : IsTied s)
    (accepts : Accepts s.book (next_request s.book leaf (pos 0)) mid) (more : IsRoomier s.parts p) where
  pub emitted_call : IsPlainCall s.book (next_request s.book leaf (pos 0)) (Item leaf.number (pos 0)) mid
  emitted_call = record { promised = kept; accepts = accepts; one = refl; plain = refl; unheld = refl; keeps = refl }

  -- there is room for what it tells
  pub emitted_ready : IsReady (note_count s.book leaf (pos 0)) p → IsReady (items_in (mail_left mid)) p
  emitted_ready ready =
      let few = emitted_few s.book mid leaf (pos 0) kept accepts tied.given in
      let all = items_few (mail_of s.book.history (Item leaf.number (pos 0))) in
      let room = ready.room in let spare = ready.spare in
      record { empty = ready.empty; many = ready.many; room = omega (arith, few, all, room); spare = omega (arith, few, all, spare) }

  -- who was closed may leave its hub
  pub emitted_leave : MayLeaveAll (places_left p.shares.list (closed_of mid)) p.shares.hubs
  emitted_leave = subst (λ (hs : List PooledHub). MayLeaveAll (places_left p.shares.list (closed_of mid)) hs) (sym more.hubs)
      (subst (λ (rs : List Role). MayLeaveAll (places_left rs (closed_of mid)) s.parts.shares.hubs) (sym more.shares)
      (leave_for s _ mid (emits leaf (pos 0)) kept tied accepts))

  -- each note has a role to go to
  pub emitted_listened : AllListened p.hears.list p.merges.list (mail_left mid)
  emitted_listened = subst (λ (rs : List Role). AllListened rs p.merges.list (mail_left mid)) (sym more.hears)
      (subst (λ (rs : List Role). AllListened s.parts.hears.list rs (mail_left mid)) (sym more.merges)
      (subst (λ (ms : List Mail). AllListened s.parts.hears.list s.parts.merges.list ms) (sym (left_is emitted_call tied.given))
      ((tells emitted_call).listened s.parts.hears.list s.parts.merges.list tied.hears tied.merges)))

  -- and settled it is tied
  pub emitted_tied : (g : Ghosts Token) (by value : ℕ) (t : State) → IsReady 0 p → Settles g by value mid p t.book t.parts →
      Closes mid s.wishes.roles.list t.wishes → IsReady 0 t.parts → IsTied t
  emitted_tied g by value t room settles closes ready =
      tied_behind g (record s { parts = p }) t _ mid by value (emits leaf (pos 0)) kept (tied_roomier s p tied more room) accepts settles closes ready
