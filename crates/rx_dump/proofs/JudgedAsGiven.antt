-- A dump alone is judged as it is without names.
use Rattle.std.proofs.Common.{◌≡◌, ℕ, Bool, List, Some, refl, ap, sym, subst, ◌∙◌}
use Rattle.serde_json.specs.Data.{Data, null, boolean, number, string, array, object}
use Rattle.rx_event.specs.declared.event.Event.{Event}
use Rattle.rx_dump.specs.History.{history_of}
use Rattle.rx_dump.specs.Checking.{IsVerdictOn}
use Rattle.rx_dump.specs.Inputs.{IsChecked}
use Rattle.rx_dump.specs.declared.judging.Labels.{Labels}
use Rattle.rx_dump.specs.declared.judging.Labels.TheVariants.{Numbers, Names}
use Rattle.rx_dump.specs.Names.{dump_in, names_in, name_in_object}
use Rattle.rx_dump.specs.NamedVerdict.{named_verdict}
use Rattle.rx_dump.specs.Judged.{names_for, IsJudgement}
use Rattle.rx_dump.proofs.VerdictWithoutNames.{alone}
use Rattle.std.proofs.lemmas.Option.{none-some}

-- a dump has no members
pub itself : (d : Data) (h : List Event) → history_of d ≡ Some h → (dump_in d ≡ d) × (names_in d ≡ null)
unfolding history_of
itself null h reading = absurd (none-some h reading)
itself (boolean b) h reading = absurd (none-some h reading)
itself (number n) h reading = absurd (none-some h reading)
itself (string s) h reading = absurd (none-some h reading)
itself (array ds) h reading = (refl, refl)
itself (object ms) h reading = absurd (none-some h reading)

no_names_for : (labels : Labels) (d : Data) (h : List Event) → history_of d ≡ Some h → names_for labels d ≡ null
no_names_for Numbers d h reading = refl
no_names_for Names d h reading = (itself d h reading).1

-- so with either labels it is judged as it is without names
pub judged_alone : (labels : Labels) (input : List ℕ) (lawful : Bool) (text : List ℕ) → IsChecked input lawful text → IsJudgement labels input lawful text
judged_alone labels input lawful text checked =
    let is = checked.is_verdict in
    let reading = is.verdict.reading in
    let none : names_for labels is.value ≡ null = no_names_for labels is.value is.verdict.history reading in (
      checked.verdict,
      checked.says,
      record {
        value = is.value;
        json = is.json;
        verdict = subst (λ (d : Data). IsVerdictOn d checked.verdict) (sym (itself is.value is.verdict.history reading).0) is.verdict;
        tells = checked.lines ∙ sym (alone checked.verdict) ∙ ap (λ (d : Data). named_verdict (name_in_object d) checked.verdict) (sym none);
      },
    )
