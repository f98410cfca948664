-- What the audit keeps of the events so far, in lists by number.
use Rattle.std.specs.Prelude.{count_by, ◌≡◌, ℕ, ◌+◌, ◌-◌, ◌<◌, Bool, true, false, Option, Some, None, List, length, slice_index_or, slice_set}

-- the list says the test of each number, and false past its end
abbrev pub IsMarked : List Bool → (ℕ → Bool) → Type 0
IsMarked marks test = (n : ℕ) → slice_index_or marks n false ≡ test n

-- how many marks are set
abbrev pub mark_count : List Bool → ℕ
mark_count marks = count_by (λ b. b) marks

-- the list says the test of each number that it has
abbrev pub IsTable : List Bool → (ℕ → Bool) → Type 0
IsTable marks test = (n : ℕ) → n < length marks → slice_index_or marks n false ≡ test n

-- the list says the count of each number that it has
abbrev pub IsTally : List ℕ → (ℕ → ℕ) → Type 0
IsTally counts amount = (n : ℕ) → n < length counts → slice_index_or counts n 0 ≡ amount n

-- the mark of the number is set
abbrev pub marks_with : List Bool → Option ℕ → List Bool
marks_with marks None = marks
marks_with marks (Some n) = slice_set marks n true

-- the count of the number is one more
abbrev pub counts_with : List ℕ → Option ℕ → List ℕ
counts_with counts None = counts
counts_with counts (Some n) = slice_set counts n (slice_index_or counts n 0 + 1)

-- the count of the number is one less, if it is not 0
abbrev pub counts_less : List ℕ → Option ℕ → List ℕ
counts_less counts None = counts
counts_less counts (Some n) = slice_set counts n (slice_index_or counts n 0 - 1)
