-- What is written of a course, in the two parts in which it is written. No public clause of another crate cites this module.
use Rattle.std.specs.Prelude.{◌≡◌, ℕ, ◌≤◌, Bool, true, false, List, []}
use Rattle.rx_event.specs.Kept.{nothing_kept}
use Rattle.rx_event.specs.Bases.{Agree}
use Rattle.rx_event.specs.Lawful.{IsLawful}
use Rattle.rx_event.specs.Totals.{taken_count}
use Rattle.rx_dump.specs.Dump.{dump}
use Rattle.rx_script.specs.declared.Form.{Form}
use Rattle.rx_script.specs.declared.Form.TheVariants.{Report, Dump, NamedDump}
use Rattle.rx_agenda.specs.declared.answer.Answer.{Answer}
use Rattle.rx_script.specs.Stage.{Stage}
use Rattle.rx_script.specs.Course.{Manner}
use Rattle.rx_script.specs.Progress.{Progress, Ends}
use Rattle.rx_script.specs.declared.engine.Engine.{Engine}
use Rattle.rx_script.specs.Text.{closed_line}
use Rattle.rx_script.specs.NamedDumps.{run_names, named_dump}
use Rattle.rx_script.specs.Report.{unclosed_report}

-- the form has the history in it
abbrev pub has_history : Form → Bool
has_history Report = false
has_history Dump = true
has_history NamedDump = true

-- before the book is closed
abbrev pub unclosed_output : Form → List Answer → Stage → List ℕ
unclosed_output Report answers s = unclosed_report answers s
unclosed_output Dump answers s = dump s.history
unclosed_output NamedDump answers s = named_dump s.history (run_names s)

-- after it
abbrev pub closing : Form → ℕ → ℕ → List ℕ
closing Report released faults = closed_line released faults
closing Dump released faults = []
closing NamedDump released faults = []

-- all steps were carried out, and this is written of them before the closing. A history is whole where no checkpoint was made
pub record IsCarriedOut {R : Type 0} (m : Manner) (until : ℕ) (first : Progress) (form : Form) (text : List ℕ) (new : Engine R) : Type 0 where
  pub answers : List Answer
  pub last : Stage
  pub ends : Ends m until first answers last
  pub lines : (has_history form ≡ true → last.checked ≡ 0) → text ≡ unclosed_output form answers last
  pub lawful : IsLawful nothing_kept last.history
  pub agree : Agree nothing_kept last.history new.book.base new.book.history
  pub few_faults : new.faults ≤ taken_count new.book.base new.book.history
