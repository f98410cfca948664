-- Commands that take no memory, as lines that are read without any: an object of words, whose first member is `do`.
use Rattle.std.specs.Prelude.{ℕ, ◌==◌, ◌&&◌, List, [], ◌∷◌, codes, cond, drop, take, length, Bool, false, Option, Some, None}
use Rattle.std.specs.Prelude.{option_map, option_and_then, if◌then◌else◌}
use Rattle.std.specs.List.{prefix_len}
use Rattle.std.specs.Str.{bytes_eq}
use Rattle.std.specs.Option.{option_map_or}
use Rattle.json.specs.Word.{is_space}
use Rattle.rx_note.specs.declared.note.Terminal.TheVariants.{Completed}
use Rattle.rx_scenario.specs.Scenario.{Command, remove, give_back, end, decline, dispose, disconnect, drain}
use Rattle.rx_scenario.specs.Reading.{is_name_text, is_name_byte}
use Rattle.rx_line.specs.declared.free.FreeCommand.{FreeCommand}
use Rattle.rx_line.specs.declared.free.FreeCommand.TheVariants.{Remove, Return, End, Decline, Dispose, Disconnect, Drain}
use Rattle.rx_line.specs.declared.free.Said.{Said as SaidInCode}

-- what the code's value stands for
abbrev pub free_command_of : FreeCommand → Command
free_command_of (Remove res) = remove res.now
free_command_of (Return lease) = give_back lease.now
free_command_of (End node) = end node.now Completed
free_command_of (Decline node) = decline node.now
free_command_of (Dispose node) = dispose node.now
free_command_of (Disconnect hub) = disconnect hub.now
free_command_of Drain = drain

-- reading ---------------------------------------------------------------------------------------------

-- a text without the blanks at its front
unfoldable pub past_blanks : List ℕ → List ℕ
past_blanks text = drop (prefix_len is_space text) text

-- what is behind this byte, where the text begins with it
abbrev pub behind : (mark : ℕ) → List ℕ → Option (List ℕ)
behind mark [] = None
behind mark (b ∷ bs) = cond (b == mark) (Some bs) None

unfoldable pub past_mark : (mark : ℕ) → List ℕ → Option (List ℕ)
past_mark mark text = behind mark (past_blanks text)

-- the bytes at its front that names have, and what is behind these and a quote
abbrev pub word_before : List ℕ → Option (List ℕ × List ℕ)
word_before text =
    option_map (λ rest. (take (prefix_len is_name_byte text) text, rest)) (behind 34 (drop (prefix_len is_name_byte text) text))

unfoldable pub quoted_word_in : List ℕ → Option (List ℕ × List ℕ)
quoted_word_in text = option_and_then word_before (past_mark 34 text)

-- a member, and the text behind it
pub record Said : Type 0 where
  pub key : List ℕ
  pub value : List ℕ
  pub rest : List ℕ

abbrev pub said_of : SaidInCode → Said
said_of s = record { key = s.key.now; value = s.value.now; rest = s.rest.now }

abbrev pub said_by : (key value : List ℕ × List ℕ) → Said
said_by key value = record { key = key.0; value = value.0; rest = value.1 }

unfoldable pub member_in : List ℕ → Option Said
member_in text = option_and_then (λ key. option_map (said_by key) (option_and_then quoted_word_in (past_mark 58 key.1))) (quoted_word_in text)

abbrev pub is_blank : List ℕ → Bool
is_blank text = length (past_blanks text) == 0

-- an object ends here, and nothing is behind it
unfoldable pub is_end : List ℕ → Bool
is_end text = option_map_or is_blank (past_mark 125 text) false

-- which command ---------------------------------------------------------------------------------------

unfoldable pub free_of_node : (what node : List ℕ) → Option Command
free_of_node what node =
    if bytes_eq what (codes "end") then Some (end node Completed)
    else if bytes_eq what (codes "decline") then Some (decline node)
    else if bytes_eq what (codes "dispose") then Some (dispose node)
    else None

unfoldable pub free_named : (what key name : List ℕ) → Option Command
free_named what key name =
    if bytes_eq key (codes "node") then free_of_node what name
    else if bytes_eq key (codes "hub") && bytes_eq what (codes "disconnect") then Some (disconnect name)
    else if bytes_eq key (codes "res") && bytes_eq what (codes "remove") then Some (remove name)
    else if bytes_eq key (codes "lease") && bytes_eq what (codes "return") then Some (give_back name)
    else None

abbrev pub free_by : (what : List ℕ) → Said → Option Command
free_by what said = if is_end said.rest && is_name_text said.value then free_named what said.key said.value else None

unfoldable pub free_said : (what text : List ℕ) → Option Command
free_said what text =
    if is_end text then (if bytes_eq what (codes "drain") then Some drain else None)
    else option_and_then (free_by what) (option_and_then member_in (past_mark 44 text))

abbrev pub free_first : Said → Option Command
free_first said = if bytes_eq said.key (codes "do") then free_said said.value said.rest else None

-- the command of this kind that a line is
unfoldable pub free_in : List ℕ → Option Command
free_in line = option_and_then free_first (option_and_then member_in (past_mark 123 line))
