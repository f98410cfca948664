-- The report of a course, its dump, and the dump with its names.
use Rattle.std.specs.Prelude.{◌≡◌, ℕ, ◌+◌, Bool, false, List, ◌++◌}
use Rattle.rx_event.specs.Kept.{nothing_kept}
use Rattle.rx_event.specs.Totals.{held_count, waiting_count}
use Rattle.rx_dump.specs.Dump.{dump}
use Rattle.rx_agenda.specs.declared.answer.Answer.{Answer}
use Rattle.rx_script.specs.Text.{totals_line, closed_line}
use Rattle.rx_script.specs.Lines.{refused_lines, node_lines, res_lines, totals_reported}
use Rattle.rx_script.specs.declared.Form.{Form}
use Rattle.rx_script.specs.declared.Form.TheVariants.{Report, Dump, NamedDump}
use Rattle.rx_scenario.specs.Scenario.{StepList, Script}
use Rattle.rx_scenario.specs.Checkpoints.{has_checkpoint}
use Rattle.rx_script.specs.Stage.{Ware, Stage}
use Rattle.rx_script.specs.Course.{Course, HasNoFull, IsCourseOf}
use Rattle.rx_script.specs.NamedDumps.{run_names, named_dump}

-- all lines but the last
unfoldable pub unclosed_report : List Answer → Stage → List ℕ
unclosed_report answers s =
    refused_lines answers ++ node_lines s.history s.nodes ++ res_lines s.history s.resources ++ totals_line (totals_reported nothing_kept s.history)

-- the text, where so many releases of the whole run met a fault. What is held or waits after the last step is released then
unfoldable pub report : Course → ℕ → List ℕ
report c faults = unclosed_report c.answers c.last ++ closed_line (held_count c.last.history + waiting_count c.last.history) faults

-- two courses of a scenario with a stock, neither cut short by a full history, are reported the same, whatever the order of what was
-- forced and drained in each
abbrev pub AreReportedAlike : Type 0
AreReportedAlike =
    (script : Script) (stock : List Ware) (c d : Course) → IsCourseOf script stock c → HasNoFull c.answers → IsCourseOf script stock d → HasNoFull d.answers
    → (faults : ℕ) → report c faults ≡ report d faults

-- what is written of a course, in this form: its report, or the dump of its history before the closing, alone or with the names of the run
abbrev pub output : Form → Course → ℕ → List ℕ
output Report c faults = report c faults
output Dump c faults = dump c.last.history
output NamedDump c faults = named_dump c.last.history (run_names c.last)

-- a scenario that may make a checkpoint has no dump, since a book lets its events go there
abbrev pub lacks_form : Form → StepList → Bool
lacks_form Report steps = false
lacks_form Dump steps = has_checkpoint steps
lacks_form NamedDump steps = has_checkpoint steps
