-- What is promised of notes.
use Rattle.std.specs.Prelude.{◌≡◌, ◌∷◌, ◌++◌}
use Rattle.rx_event.specs.Claims.Imports.{ℕ, ℤ, false, List, [], AllByRecursion, Project, Event, Kept, is_root, at, is_open, notes_to}
use Rattle.rx_event.specs.Claims.Imports.{MayFollow, IsLawful}
use Rattle.rx_note.specs.Notes.{IsGrammatical}

-- each observer is told items, then at most one end, then nothing (Observable Contract)
pub record NotesInOrder (base : Kept) : Type 0 where
  pub grammatical : (h : List Event) → IsLawful base h → (n : ℕ) → IsGrammatical (notes_to h n)
  -- what is no root is told projected items alone
  pub projected : (h : List Event) → IsLawful base h → (n : ℕ) → at is_root h n ≡ false →
      AllByRecursion (λ note. (value : ℤ) × (note ≡ Project value)) (notes_to h n)
  -- and what is not open is told nothing more
  pub silent : (h : List Event) (e : Event) → IsLawful base h → MayFollow base h e → (n : ℕ) → is_open h n ≡ false →
      notes_to (h ++ e ∷ []) n ≡ notes_to h n
