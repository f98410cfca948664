-- The lines of a report, from what they show.
use Rattle.std.specs.Prelude.{ℕ, ◌==◌, Bool, List, [], ◌++◌, codes, flat_map, if◌then◌else◌}
use Rattle.std.specs.Fmt.{decimal, signed_decimal}
use Rattle.rx_note.specs.declared.note.Terminal.TheVariants.{Completed, Error}
use Rattle.rx_note.specs.declared.note.Note.{Note}
use Rattle.rx_note.specs.declared.note.Note.TheVariants.{Next, Project, End}
use Rattle.rx_agenda.specs.declared.answer.Answer.{Answer}
use Rattle.rx_agenda.specs.declared.answer.Answer.TheVariants.{Accepted, Refused}
use Rattle.rx_agenda.specs.declared.answer.Cause.{Cause}
use Rattle.rx_agenda.specs.declared.answer.Cause.TheVariants.{NoName, NameTaken, NoStock, NoStep, Book}
use Rattle.rx_script.specs.declared.line.Whereabouts.{Whereabouts}
use Rattle.rx_script.specs.declared.line.Whereabouts.TheVariants.{Held, Waiting, Taken}
use Rattle.rx_script.specs.declared.line.Account.{Account}
use Rattle.rx_script.specs.declared.line.Totals.{Totals}
use Rattle.rx_scenario.specs.RefusalWords.{refusal_word}
use Rattle.rx_scenario.specs.Scenario.{Name}

-- refused steps ------------------------------------------------------------------------------------

abbrev pub cause_word : Cause → List ℕ
cause_word NoName = codes "NoName"
cause_word NameTaken = codes "NameTaken"
cause_word NoStock = codes "NoStock"
cause_word NoStep = codes "NoStep"
cause_word (Book why) = refusal_word why

-- the line of the step that was executed as the k-th, counted from 0; an accepted one has none
unfoldable pub refused_line : ℕ → Answer → List ℕ
refused_line k Accepted = []
refused_line k (Refused why) = codes "refused " ++ decimal k ++ codes " " ++ cause_word why ++ codes "\n"

-- nodes --------------------------------------------------------------------------------------------

-- one more note of a node's line
unfoldable pub note_in_line : Note → List ℕ
note_in_line (Next v) = codes " next=" ++ signed_decimal v
note_in_line (Project v) = codes " project=" ++ signed_decimal v
note_in_line (End Completed) = codes " completed"
note_in_line (End (Error code)) = codes " error=" ++ decimal code

abbrev pub openness_text : Bool → List ℕ
openness_text is_open = if is_open then codes "open" else codes "closed"

-- a node: its name, whether it is open, and its notes
unfoldable pub node_line : Name → Bool → List Note → List ℕ
node_line name is_open notes = codes "node " ++ name ++ codes " " ++ openness_text is_open ++ codes ":" ++ flat_map note_in_line notes ++ codes "\n"

-- resources ----------------------------------------------------------------------------------------

abbrev pub whereabouts_text : Whereabouts → List ℕ
whereabouts_text Held = codes "held"
whereabouts_text Waiting = codes "waiting"
whereabouts_text Taken = codes "taken"

-- how many leases of it are out, where one is
abbrev pub leases_text : ℕ → List ℕ
leases_text n = if n == 0 then [] else codes " leases=" ++ decimal n

unfoldable pub res_line : Name → Account → List ℕ
res_line name a = codes "res " ++ name ++ codes " tag=" ++ decimal a.tag ++ codes " uses="
    ++ decimal a.uses ++ codes " " ++ whereabouts_text a.whereabouts ++ leases_text a.leases ++ codes "\n"

-- the last two lines -------------------------------------------------------------------------------

unfoldable pub totals_line : Totals → List ℕ
totals_line t = codes "totals nodes=" ++ decimal t.nodes ++ codes " open=" ++ decimal t.open_nodes ++ codes " accepted=" ++ decimal t.accepted
    ++ codes " held=" ++ decimal t.held ++ codes " waiting=" ++ decimal t.waiting ++ codes " taken=" ++ decimal t.taken ++ codes "\n"

-- how many resources were released after the last step, and how many of all releases met a fault
unfoldable pub closed_line : ℕ → ℕ → List ℕ
closed_line released faults = codes "closed " ++ decimal released ++ codes " faults " ++ decimal faults ++ codes "\n"
