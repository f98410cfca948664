-- What several calls of a book come to, one after another.
use Rattle.std.specs.Prelude.{◌≡◌, ℕ, ℤ, ◌<◌, Bool, true, false, ◌++◌, ◌∷◌, List, [], length, take, slice_get, Some, None, IfSome, IfNone, ◌≤◌, Result, IfOk, IfErr, OnErr}
use Rattle.rx_event.specs.declared.event.Event.TheVariants.{Item}
use Rattle.rx_event.specs.declared.refusal.Refusal.{Refusal}
use Rattle.rx_event.specs.Notes.{mail_of}
use Rattle.rx_event.specs.Refusals.{first_cause}
use Rattle.rx_event.specs.Calls.{Call, GivingBack, Disposing, Disconnecting}
use Rattle.rx_slots.specs.declared.Key.{Key}
use Rattle.rx_book.specs.declared.ending.Emitted.{Emitted}
use Rattle.rx_book.specs.declared.ending.ItemWithin.{ItemWithin}
use Rattle.rx_book.specs.declared.ending.ItemWithin.TheVariants.{Told, Beyond}
use Rattle.rx_book.specs.State.{State, IsPromised}
use Rattle.rx_book.specs.Requests.{Request, next_request, stands}
use Rattle.rx_book.specs.Answers.{Accepts, IsCauseOrWant}

-- letting go --------------------------------------------------------------------------------------

-- it gives a lease back, unsubscribes a root or disconnects a hub
abbrev pub lets_go : Call → Bool
lets_go (GivingBack l) = true
lets_go (Disposing root) = true
lets_go (Disconnecting g) = true
lets_go _ = false

-- from s one thing after another was let go, each by a call that was accepted
pub data LetsGo (s : State) : State → Type 0 where
  none_let_go : LetsGo s s
  next_let_go : {t u : State} {asked : Request} → LetsGo s t → IsPromised t → lets_go asked.call ≡ true → Accepts t asked u → LetsGo s u

-- items -------------------------------------------------------------------------------------------

-- from s the leaf emitted one value after another, each by a call of `next` that was accepted
pub data Emits (leaf : Key) (s : State) : List ℤ → State → Type 0 where
  none_emitted : Emits leaf s [] s
  next_emitted : {values : List ℤ} {t u : State} (value : ℤ) → Emits leaf s values t → IsPromised t
      → Accepts t (next_request t leaf value) u → Emits leaf s (values ++ value ∷ []) u

-- the values up to the first that was refused, or all of them
pub record EmitsAll (old : State) (leaf : Key) (values : List ℤ) (new : State) (answer : Emitted) : Type 0 where
  pub emits : Emits leaf old (take answer.count values) new
  pub whole : IfNone answer.refused (answer.count ≡ length values)
  pub within : IfSome answer.refused (λ why. answer.count < length values)
  pub refused : IfSome answer.refused (λ why. (value : ℤ) → slice_get values answer.count ≡ Some value
      → IsCauseOrWant new (next_request new leaf value) why)

-- how many notes an item comes to by itself
abbrev pub note_count : State → Key → ℤ → ℕ
note_count s leaf value = length (mail_of s.history (Item leaf.number value))

-- it was emitted, and comes to so many at most
pub record IsTold (most : ℕ) (old : State) (leaf : Key) (value : ℤ) (new : State) (place : ℕ) : Type 0 where
  pub place_is : place ≡ length old.history
  pub accepts : Accepts old (next_request old leaf value) new
  pub within : note_count old leaf value ≤ most

-- it comes to more, nothing stands against it, and nothing changed
pub record IsBeyond (most : ℕ) (old : State) (leaf : Key) (value : ℤ) (new : State) (notes : ℕ) : Type 0 where
  pub notes_are : notes ≡ note_count old leaf value
  pub more : most < notes
  pub none_stands : first_cause (stands old (next_request old leaf value)) ≡ None
  pub same : new ≡ old

abbrev pub IsItemWithin : ℕ → State → Key → ℤ → State → ItemWithin → Type 0
IsItemWithin most old leaf value new (Told place) = IsTold most old leaf value new place
IsItemWithin most old leaf value new (Beyond notes) = IsBeyond most old leaf value new notes

-- one or the other; or it was refused, and nothing changed
pub record EmitsWithin (most : ℕ) (old : State) (leaf : Key) (value : ℤ) (new : State) (answer : Result ItemWithin Refusal) : Type 0 where
  pub ok : IfOk answer (IsItemWithin most old leaf value new)
  pub refused : IfErr answer (IsCauseOrWant old (next_request old leaf value))
  pub kept : OnErr answer (new ≡ old)
