-- What one write leaves of a register.
use Rattle.rx_ground.proofs.Common.{◌≡◌, ◌+◌, List, [], ◌∷◌, ◌++◌, length, refl, ap, arith, length-append, Mail, Event, mail_of, State, Writes}
use Rattle.rx_event.proofs.Laws.Counts.{notes-push}
use Rattle.std.proofs.Common.{rules}

-- the notes of this event were told, and nothing else changed
pub record TellsOf (e : Event) (old told : State) : Type 0 where
  pub same : told ≡ record old { pending = told.pending; mail_room = told.mail_room }
  pub notes : old.mail_room ≡ told.mail_room + length (mail_of old.history e)

-- an event whose notes were told before it was written
pub writes_told : {old told new : State} {e : Event} → TellsOf e old told → new.base ≡ told.base → new.history ≡ told.history ++ e ∷ [] → new.pending ≡ [] →
    new.room + 1 ≡ told.room → new.limit ≡ told.limit → new.given ≡ told.given → new.mail_room ≡ told.mail_room → Writes old (e ∷ []) new
writes_told {old} {told} {new} {e} tells base history pending room limit given mail_room = search (rules, length, notes-push, length-append)

-- one that tells nothing
pub writes_silent : {old new : State} {e : Event} → mail_of old.history e ≡ [] → new.base ≡ old.base → new.history ≡ old.history ++ e ∷ [] →
    new.pending ≡ [] → new.room + 1 ≡ old.room → new.limit ≡ old.limit → new.given ≡ old.given → new.mail_room ≡ old.mail_room → Writes old (e ∷ []) new
writes_silent {old} silent = writes_told {told = old} (record { same = refl; notes = (let n = ap (λ (m : List Mail). length m) silent in omega arith) })
