-- The pieces of an answer, in JSON.
use Rattle.std.specs.Prelude.{ℕ, ℤ, List, [], ◌∷◌, ◌++◌, codes, flat_map}
use Rattle.std.specs.Fmt.{decimal, signed_decimal}
use Rattle.serde_json.specs.Data.{string}
use Rattle.serde_json.specs.Written.{compact_text}
use Rattle.rx_note.specs.declared.note.Terminal.TheVariants.{Completed, Error}
use Rattle.rx_note.specs.declared.note.Note.{Note}
use Rattle.rx_note.specs.declared.note.Note.TheVariants.{Next, Project, End}
use Rattle.rx_scenario.specs.RefusalWords.{refusal_word}
use Rattle.rx_scenario.specs.Scenario.{Name}
use Rattle.rx_line.specs.declared.outcome.Cause.{Cause}
use Rattle.rx_line.specs.declared.outcome.Cause.TheVariants.{NoName, NameTaken, Book}

abbrev pub cause_name : Cause → List ℕ
cause_name NoName = codes "NoName"
cause_name NameTaken = codes "NameTaken"
cause_name (Book why) = refusal_word why

-- a refused command
unfoldable pub refused_text : Cause → List ℕ
refused_text why = codes "{\"refused\":\"" ++ cause_name why ++ codes "\"}"

-- a line that is no order, and what is said of it
unfoldable pub faulty_text : List ℕ → List ℕ
faulty_text told = codes "{\"faulty\":" ++ compact_text (string told) ++ codes "}"

-- the front of what an accepted one is answered
unfoldable pub ok_text : (place : ℕ) → List ℕ
ok_text place = codes "{\"ok\":" ++ decimal place

-- a note, to the node of this name: an item, an item that is owed an inner observable, a completion, an error
unfoldable pub to_text : Name → List ℕ
to_text to = codes "{\"to\":\"" ++ to ++ codes "\""

unfoldable pub next_text : Name → ℤ → List ℕ
next_text to value = to_text to ++ codes ",\"next\":" ++ signed_decimal value ++ codes "}"

unfoldable pub project_text : Name → ℤ → List ℕ
project_text to value = to_text to ++ codes ",\"project\":" ++ signed_decimal value ++ codes "}"

unfoldable pub completed_text : Name → List ℕ
completed_text to = to_text to ++ codes ",\"completed\":true}"

unfoldable pub error_text : Name → (code : ℕ) → List ℕ
error_text to code = to_text to ++ codes ",\"error\":" ++ decimal code ++ codes "}"

abbrev pub note_text : Name → Note → List ℕ
note_text to (Next value) = next_text to value
note_text to (Project value) = project_text to value
note_text to (End Completed) = completed_text to
note_text to (End (Error code)) = error_text to code

-- a name as a string
unfoldable pub name_text : Name → List ℕ
name_text name = codes "\"" ++ name ++ codes "\""

-- pieces with a comma between each two
abbrev pub joined : List (List ℕ) → List ℕ
joined [] = []
joined (p ∷ ps) = p ++ flat_map (λ q. codes "," ++ q) ps

-- a member that is an array of pieces; it is left out where there are none
abbrev pub member_text : List ℕ → List (List ℕ) → List ℕ
member_text key [] = []
member_text key (p ∷ ps) = codes ",\"" ++ key ++ codes "\":[" ++ joined (p ∷ ps) ++ codes "]"
