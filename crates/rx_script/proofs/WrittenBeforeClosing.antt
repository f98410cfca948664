-- What is written before the closing, of the whole history.
use Rattle.rx_script.proofs.Common.{◌≡◌, ◌≤◌, ◌++◌, ℕ, true, List, map, sym, ap, subst, ◌∙◌, Event, nothing_kept, Agree, taken_count, Answer}
use Rattle.rx_script.proofs.Common.{Tallies, Gathers, IsWhole, node_binding, res_binding, totals_line, refused_lines, node_lines, res_lines, totals_reported}
use Rattle.rx_script.proofs.Common.{Engine}
use Rattle.rx_script.proofs.Common.{Form, Manner, Progress, Ends, unclosed_report, has_history, unclosed_output, IsCarriedOut, stage_of, IsHistoryOf, IsSound}
use Rattle.std.specs.Prelude.{Bool}
use Rattle.rx_script.specs.Running.{has_refused}
use Rattle.rx_script.proofs.EngineCarriesOut.{history_lawful, history_agrees}
use Rattle.rx_script.proofs.CheckpointCarriedOut.{gathered}
use Rattle.rx_script.proofs.AllStored.{no_base, all_stored}
use Rattle.std.proofs.Common.{rules}

module _ {R : Type 0} (e : Engine R) (sound : IsSound e) (h : List Event) (w : IsHistoryOf h e.tallies e.book) where
  -- what was gathered is all that the report is written from
  pub all_gathered : (u : Tallies) (given : ℕ) → Gathers e.tallies u e.book → IsWhole h u (record e.book { given = given })
  all_gathered u given gathers = record { tallies = gathered w sound.kept u gathers; agree = history_agrees w sound.kept }

  -- the lines, one kind after the other
  pub lines_report : (answers : List Answer) {a : List ℕ} (b c d : List ℕ) → a ≡ refused_lines answers → b ≡ a ++ node_lines h (map node_binding e.nodes)
      → c ≡ b ++ res_lines h (map res_binding e.resources) → d ≡ c ++ totals_line (totals_reported nothing_kept h) → d ≡ unclosed_report answers (stage_of e h)
  unfolding unclosed_report
  lines_report answers b c d refusals nodes resources totals = search (rules, map)

  -- what has the history in it, where no checkpoint was made
  pub history_whole : (text_of : List Event → List ℕ) (text : List ℕ) → e.book.base.at_length ≡ 0
      → (e.book.base ≡ nothing_kept → text ≡ text_of e.book.history) → text ≡ text_of h
  history_whole text_of text unchecked written = written (no_base w unchecked) ∙ ap text_of (all_stored w unchecked)

-- a run that led here, what is written of it, and whether a step was refused
pub carried_out : {R : Type 0} {m : Manner} {until : ℕ} {first : Progress} {form : Form} {text : List ℕ} {e : Engine R} (new : Engine R)
    {answers : List Answer} {k : List Event} → IsSound e → Ends m until first answers (stage_of e k) → IsHistoryOf k e.tallies e.book
    → ((has_history form ≡ true → e.book.base.at_length ≡ 0) → text ≡ unclosed_output form answers (stage_of e k))
    → new.book.base ≡ e.book.base → new.book.history ≡ e.book.history → new.faults ≡ e.faults
    → (refused : Bool) → refused ≡ has_refused answers
    → (out : IsCarriedOut m until first form text new) × (refused ≡ has_refused out.answers)
carried_out {e} new {answers} {k} sound ends w lines same_base same_history same_faults refused strict = (
  record {
    answers = answers;
    last = stage_of e k;
    ends = ends;
    lines = lines;
    lawful = history_lawful w sound.kept;
    agree = subst (λ b. Agree nothing_kept k b new.book.history) base_stays
        (subst (Agree nothing_kept k e.book.base) history_stays (history_agrees w sound.kept));
    few_faults = few;
  },
  strict,
) where
  base_stays : e.book.base ≡ new.book.base
  base_stays = sym same_base

  history_stays : e.book.history ≡ new.book.history
  history_stays = sym same_history

  few : new.faults ≤ taken_count new.book.base new.book.history
  few = subst (λ n. n ≤ taken_count new.book.base new.book.history) (sym same_faults)
      (subst (λ b. e.faults ≤ taken_count b new.book.history) base_stays (subst (λ l. e.faults ≤ taken_count e.book.base l) history_stays sound.faults))
