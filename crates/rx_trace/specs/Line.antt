-- The line of an executed step, as one JSON object.
use Rattle.std.specs.Prelude.{ℕ, List, [], ◌++◌, codes, map, length}
use Rattle.std.specs.Fmt.{decimal}
use Rattle.rx_agenda.specs.declared.answer.Answer.{Answer}
use Rattle.rx_agenda.specs.declared.answer.Answer.TheVariants.{Accepted, Refused}
use Rattle.rx_scenario.specs.Scenario.{Name, Command, using, open_node, hold, apply, remove, lease, give_back, next, end, abort, decline}
use Rattle.rx_scenario.specs.Scenario.{fail, dispose, make_hub, connect, disconnect, drain, checkpoint, Action, command, cancel}
use Rattle.rx_script.specs.Text.{cause_word}
use Rattle.rx_script.specs.Stage.{Stage}
use Rattle.rx_line.specs.Pieces.{name_text, member_text}
use Rattle.rx_trace.specs.Told.{names_where, told_between, told_note, waits_after, is_left_in, taken_between, resource_told}

-- the command --------------------------------------------------------------------------------------

-- the word that a scenario has for it
abbrev pub command_word : Command → List ℕ
command_word (using name site res) = codes "using"
command_word (open_node name site sort) = codes "open"
command_word (hold node res) = codes "hold"
command_word (apply res word) = codes "apply"
command_word (remove res) = codes "remove"
command_word (lease res name) = codes "lease"
command_word (give_back name) = codes "return"
command_word (next node value) = codes "next"
command_word (end node t) = codes "end"
command_word (abort node code) = codes "abort"
command_word (decline node) = codes "decline"
command_word (fail node code) = codes "fail"
command_word (dispose node) = codes "dispose"
command_word (make_hub name mode) = codes "hub"
command_word (connect hub name) = codes "connect"
command_word (disconnect hub) = codes "disconnect"
command_word drain = codes "drain"
command_word checkpoint = codes "checkpoint"

abbrev pub step_word : Action → List ℕ
step_word (command c) = command_word c
step_word (cancel label) = codes "cancel"

-- a member that is a name
unfoldable pub named_member : List ℕ → Name → List ℕ
named_member key name = codes ",\"" ++ key ++ codes "\":\"" ++ name ++ codes "\""

-- what it is about: what it opens or makes, else what it is done with, under the member that a scenario has for that; the step that it
-- cancels, under "label"
abbrev pub command_subject : Command → List ℕ
command_subject (using name site res) = named_member (codes "name") name
command_subject (open_node name site sort) = named_member (codes "name") name
command_subject (hold node res) = named_member (codes "node") node
command_subject (apply res word) = named_member (codes "res") res
command_subject (remove res) = named_member (codes "res") res
command_subject (lease res name) = named_member (codes "res") res
command_subject (give_back name) = named_member (codes "lease") name
command_subject (next node value) = named_member (codes "node") node
command_subject (end node t) = named_member (codes "node") node
command_subject (abort node code) = named_member (codes "node") node
command_subject (decline node) = named_member (codes "node") node
command_subject (fail node code) = named_member (codes "node") node
command_subject (dispose node) = named_member (codes "node") node
command_subject (make_hub name mode) = named_member (codes "name") name
command_subject (connect hub name) = named_member (codes "hub") hub
command_subject (disconnect hub) = named_member (codes "hub") hub
command_subject drain = []
command_subject checkpoint = []

abbrev pub subject_text : Action → List ℕ
subject_text (command c) = command_subject c
subject_text (cancel label) = named_member (codes "label") label

-- the parts of a line ------------------------------------------------------------------------------

-- the step that is executed as the k-th, counted from 0, its moment, and what it does
unfoldable pub step_text : (k at : ℕ) → Action → List ℕ
step_text k at action = codes "{\"step\":" ++ decimal k ++ codes ",\"at\":" ++ decimal at ++ codes ",\"do\":\"" ++ step_word action ++ codes "\""
    ++ subject_text action

-- its answer: where it is accepted, the place of its first event in the history
unfoldable pub outcome_text : Answer → (place : ℕ) → List ℕ
outcome_text Accepted place = codes ",\"ok\":" ++ decimal place
outcome_text (Refused why) place = named_member (codes "refused") (cause_word why)

-- what is told of a step that led from one stage to the other: what observers were told, the names of all resources that wait for their
-- release then, and the names of those that it handed out
abbrev pub step_told : (old new : Stage) → List ℕ
step_told old new =
    member_text (codes "notes") (map (told_note new.nodes) (told_between old.history new.history))
    ++ member_text (codes "waits") (map name_text (names_where (waits_after new.history) new.resources))
    ++ member_text (codes "release") (map (resource_told new.resources) (taken_between old.history new.history))

-- the line of the k-th step, which led from one stage to the other
abbrev pub trace_line : (k at : ℕ) → Action → Answer → (old new : Stage) → List ℕ
trace_line k at action answer old new =
    step_text k at action ++ outcome_text answer (length old.history) ++ step_told old new ++ codes "}\n"

-- the line of the closing, which hands out all that is held or waits at the last stage; by their names, in order of binding
abbrev pub closing_text : (last : Stage) → List ℕ
closing_text last =
    codes "{\"closed\":true" ++ member_text (codes "release") (map name_text (names_where (is_left_in last.history) last.resources)) ++ codes "}\n"
