-- What a call answers into the caller's buffer. A prime marks the buffer after the call.
use Rattle.std.specs.Prelude.{◌≡◌, ℕ, ◌≤◌, ◌<◌, ◌++◌, List, length, drop}

-- the text stands at the front of the buffer, whose other bytes stay, and its length is told
pub record IsGiven (text buffer buffer' : List ℕ) (told : ℕ) : Type 0 where
  pub fits : length text ≤ length buffer
  pub front : buffer' ≡ text ++ drop (length text) buffer
  pub count : told ≡ length text

-- the text is longer than the buffer, which stays, and its length is told
pub record IsTextTooLong (text buffer buffer' : List ℕ) (told : ℕ) : Type 0 where
  pub long : length buffer < length text
  pub kept : buffer' ≡ buffer
  pub count : told ≡ length text

-- the buffer stays, and a number is told
pub record IsBufferKept (number : ℕ) (buffer buffer' : List ℕ) (told : ℕ) : Type 0 where
  pub kept : buffer' ≡ buffer
  pub count : told ≡ number

-- there is no text, the buffer stays, and 0 is told
abbrev pub TellsNoText : (buffer buffer' : List ℕ) → (told : ℕ) → Type 0
TellsNoText buffer buffer' told = IsBufferKept 0 buffer buffer' told

-- a call is answered, by a text with a status of its own, or by a fault: the buffer is too small (1), the input
-- says nothing of the kind (3), or memory was refused (4)
pub data AnswersText (Tells : List ℕ → ℕ → Type 0) (IsFaulty : Type 0)
    (buffer buffer' : List ℕ) (told : ℕ) : ℕ → Type 0 where
  gives : {text : List ℕ} {status : ℕ} → Tells text status → IsGiven text buffer buffer' told
      → AnswersText Tells IsFaulty buffer buffer' told status
  needs : {text : List ℕ} {status : ℕ} → Tells text status → IsTextTooLong text buffer buffer' told
      → AnswersText Tells IsFaulty buffer buffer' told 1
  faults : IsFaulty → TellsNoText buffer buffer' told → AnswersText Tells IsFaulty buffer buffer' told 3
  starves : TellsNoText buffer buffer' told → AnswersText Tells IsFaulty buffer buffer' told 4
