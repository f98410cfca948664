-- The Observable Contract's grammar: OnNext any number of times, then at most one OnCompleted or OnError, then nothing.
use Rattle.std.specs.Prelude.{◌≡◌, Bool, true, false, ◌&&◌, Option, List, [], ◌∷◌, ◌++◌, IsTrue}
use Rattle.std.proofs.Math.Bool.{not}
use Rattle.std.specs.List.{list_all}
use Rattle.std.specs.Option.{option_to_list, option_map}
use Rattle.rx_note.specs.declared.note.Terminal.{Terminal}
use Rattle.rx_note.specs.declared.note.Note.{Note}
use Rattle.rx_note.specs.declared.note.Note.TheVariants.{Next, Project, End}

-- the note is an end
abbrev pub is_end : Note → Bool
is_end (Next value) = false
is_end (Project value) = false
is_end (End terminal) = true

-- each note of the list is accepted, from a grammar that has ended or not
abbrev pub accepts : Bool → List Note → Bool
accepts ended [] = true
accepts ended (note ∷ rest) = not ended && accepts (is_end note) rest

-- items, then at most one end, then nothing
pub record IsGrammatical (notes : List Note) : Type 0 where
  pub items : List Note
  pub last : Option Terminal
  pub no_end : list_all (λ note. not (is_end note)) items ≡ true
  pub whole : notes ≡ items ++ option_to_list (option_map End last)

-- the two say the same
pub record GrammarLaw : Type 0 where
  pub accepted : (notes : List Note) → IsTrue (accepts false notes) → IsGrammatical notes
  pub accepts : (notes : List Note) → IsGrammatical notes → IsTrue (accepts false notes)
