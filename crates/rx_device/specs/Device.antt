-- What is known of a device that is watched, and of the bytes that went through it.
use Rattle.std.specs.Prelude.{◌≡◌, ℕ, ◌≤◌, ◌⊎◌, ◌||◌, ◌==◌, Bool, true, false, List, length, take, Option}
use Rattle.std.specs.Io.KnownBytes.{Appends}
use Rattle.std.specs.Borrow.{MutBor}
use Rattle.rx_device.specs.declared.watched.Watched.{Watched}

-- the device that is watched
abbrev pub device_of : {D : Type 0} → Watched D → D
device_of w = w.device.now

-- the reference to the device stays, so that whoever lent it learns what became of it
abbrev pub KeepsDevice : {D : Type 0} → Watched D → Watched D → Type 0
KeepsDevice old new = new.device.ghost_name ≡ old.device.ghost_name

-- the device is watched through this reference
abbrev pub Watches : {D : Type 0} → Watched D → MutBor D → Type 0
Watches w device = w.device.ghost_name ≡ device.ghost_name

-- how often it was called
abbrev pub turns_of : {D : Type 0} → Watched D → ℕ
turns_of w = w.turns

-- some call of it failed
abbrev pub has_failed : {D : Type 0} → Watched D → Bool
has_failed w = w.failed

-- some call of it moved no byte: a reader at its end, a writer that takes none
abbrev pub has_stopped : {D : Type 0} → Watched D → Bool
has_stopped w = w.stopped

-- what is known after one call more, which moved so many bytes
pub record NotesMoved {D : Type 0} (old new : Watched D) (n : ℕ) : Type 0 where
  pub failed : has_failed new ≡ has_failed old
  pub stopped : has_stopped new ≡ (has_stopped old || n == 0)

-- what is known after one call more, which failed
pub record NotesFailed {D : Type 0} (old new : Watched D) : Type 0 where
  pub failed : has_failed new ≡ true
  pub stopped : has_stopped new ≡ has_stopped old

-- nothing was asked of it yet
pub record IsUnasked {D : Type 0} (w : Watched D) : Type 0 where
  pub turns : turns_of w ≡ 0
  pub failed : has_failed w ≡ false
  pub stopped : has_stopped w ≡ false

-- how often a reader is asked for bytes at most
abbrev pub most_reads : ℕ
most_reads = 33554432

-- the reader failed; one that never ends gives too many bytes before it was asked so often
abbrev pub HasReadFault : {D : Type 0} → Watched D → Type 0
HasReadFault w = has_failed w ≡ true

-- the writer failed, or took no byte
abbrev pub HasWriteFault : {D : Type 0} → Watched D → Type 0
HasWriteFault w = (has_failed w ≡ true) ⊎ (has_stopped w ≡ true)

-- a front of the text was written, and nothing else
abbrev pub AppendsPrefix : Option (List ℕ) → Option (List ℕ) → List ℕ → Type 0
AppendsPrefix old new text = (n : ℕ) × (n ≤ length text) × Appends old new (take n text)
