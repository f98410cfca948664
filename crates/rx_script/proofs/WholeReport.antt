-- The whole report of a course.
use Rattle.rx_script.proofs.Common.{◌≡◌, ◌≤◌, ◌+◌, ◌++◌, ℕ, List, Bool, true, false, refl, sym, ap, ◌∙◌, append-nil, count_by, range_with_len, false≢true}
use Rattle.rx_script.proofs.Common.{nothing_kept, Agree, held_count, waiting_count, accepted_count-parts, IsPromised, StepList, steps_of, Script}
use Rattle.rx_script.proofs.Common.{has_checkpoint}
use Rattle.rx_script.proofs.Common.{Engine, Ware, Stage, start, with_steps, empty_agenda, limited, Course, HasNoFull, IsCourseOf, HasOneCourse, Form, report}
use Rattle.rx_script.proofs.Common.{lacks_form, has_history, unclosed_output, IsCarriedOut}
use Rattle.std.proofs.Common.{min, rules}
use Rattle.rx_event.specs.Totals.{accepted_count}
use Rattle.rx_script.specs.Report.{AreReportedAlike, output}
use Rattle.rx_script.specs.Outputs.{closing}
use Rattle.rx_script.specs.Running.{IsReportedCanonically, has_refused}
use Rattle.rx_script.proofs.CoursesInOrder.{course_in_order}
use Rattle.rx_script.proofs.OneCourse.{one_canonical_course}
use Rattle.rx_script.proofs.SameSteps.{HasCanonical, has_canonical}
use Rattle.rx_script.proofs.SameReports.{report_same}
use Rattle.rx_script.proofs.CourseWithoutCheckpoint.{unchecked}

outputs_whole : (form : Form) (c : Course) (faults : ℕ)
    → unclosed_output form c.answers c.last ++ closing form (held_count c.last.history + waiting_count c.last.history) faults ≡ output form c faults
unfolding report
outputs_whole x0 c faults = search (rules, append-nil)

without_checkpoint : (form : Form) (steps : StepList) → has_history form ≡ true → lacks_form form steps ≡ false → has_checkpoint steps ≡ false
without_checkpoint x0 steps has has_form = search (rules, false≢true)

-- a course that no full history cut short is reported as the canonical one
record IsReportedAs (script : Script) (stock : List Ware) (c : Course) : Type 0 where
  pub one : HasOneCourse script stock
  pub same_answers : one.course.answers ≡ c.answers
  pub same_report : (n : ℕ) → report one.course n ≡ report c n

reported_as : (script : Script) (stock : List Ware) (c : Course) → IsCourseOf script stock c → HasNoFull c.answers → IsReportedAs script stock c
reported_as script stock c is room = record {
  one = record { course = found; canonical = w.canonical; only = λ other also. one_canonical_course script stock other found also w.canonical };
  same_answers = refl;
  same_report = λ n. report_same w.reads w.reads_back c.answers c.last w.last n w.same;
} where
  w : HasCanonical script stock c
  w = has_canonical script stock c is room

  found : Course
  found = record { answers = c.answers; last = w.last }

canonical_report : {script : Script} (stock : List Ware) (form : Form) (c : Course) (text : List ℕ) (faults : ℕ) → IsCourseOf script stock c
    → text ≡ output form c faults → HasNoFull c.answers → IsReportedCanonically script stock form c text faults
canonical_report {script} stock form c text faults is lines room =
    let w = reported_as script stock c is room in
    record {
      one = w.one;
      same_answers = w.same_answers;
      same_report = w.same_report;
      lines = λ in_report. lines ∙ ap (λ (f : Form). output f c faults) in_report ∙ sym (w.same_report faults);
    }

-- and so two such courses are reported the same
pub reported_alike : AreReportedAlike
reported_alike script stock c d is room also too faults =
    let one = reported_as script stock c is room in
    let other = reported_as script stock d also too in
    sym (one.same_report faults) ∙ ap (λ (x : Course). report x faults) (other.one.only one.one.course one.one.canonical) ∙ other.same_report faults

-- all that was done and written, with the last line
module _ {R : Type 0} (form : Form) (script : Script) (stock : List Ware) (limit : ℕ) (first : Stage) (unclosed whole : List ℕ) (new : Engine R)
    (released faults : ℕ)
    (out : IsCarriedOut (limited limit) script.until (record { stage = first; agenda = with_steps script.steps empty_agenda }) form unclosed new)
    (same_limit : limit ≡ script.events) (same_first : first ≡ start stock) (rest : released ≡ held_count new.book.history + waiting_count new.book.history)
    (is_whole : whole ≡ unclosed ++ closing form released faults) (has_form : lacks_form form (steps_of script.steps) ≡ false) where
  abbrev course : Course
  course = record { answers = out.answers; last = out.last }

  possible : IsCourseOf script stock course
  possible = search (rules, course_in_order, limited)

  abbrev a : Agree nothing_kept out.last.history new.book.base new.book.history
  a = out.agree

  left : released ≡ held_count out.last.history + waiting_count out.last.history
  left = search (rules, count_by, range_with_len)

  lines_whole : whole ≡ output form course faults
  lines_whole = is_whole ∙ ap (λ l. l ++ closing form released faults) (out.lines (λ has.
      unchecked (limited script.events) script stock course possible (without_checkpoint form (steps_of script.steps) has has_form)))
      ∙ ap (λ n. unclosed_output form out.answers out.last ++ closing form n faults) left ∙ outputs_whole form course faults

  -- no more releases met a fault than resources were accepted
  few : (at_end most : ℕ) → IsPromised new.book → at_end ≤ released → faults ≡ min (new.faults + at_end) most
      → faults ≤ accepted_count nothing_kept out.last.history
  few at_end most kept few_at_end sum = search (rules, accepted_count-parts)

  pub whole_output : (refused : Bool) → refused ≡ has_refused out.answers
      → (at_end most : ℕ) → IsPromised new.book → at_end ≤ released → faults ≡ min (new.faults + at_end) most
      → (c : Course) × (n : ℕ) × IsCourseOf script stock c × (n ≤ accepted_count nothing_kept c.last.history) × (whole ≡ output form c n)
      × (HasNoFull c.answers → IsReportedCanonically script stock form c whole n) × (refused ≡ has_refused c.answers)
  whole_output refused strict at_end most kept few_at_end sum = (
    course,
    faults,
    possible,
    few at_end most kept few_at_end sum,
    lines_whole,
    canonical_report stock form course whole faults possible lines_whole,
    strict,
  )
