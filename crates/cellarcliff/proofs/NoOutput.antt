-- Where bytes have nothing to be written of them: a text is that of one value alone.
use Rattle.std.proofs.Common.{◌≡◌, ◌∙◌, ℕ, List, sym, subst, inr}
use Rattle.std.proofs.lemmas.Option.{same_Some}
use Rattle.serde_json.specs.Data.{Data}
use Rattle.rx_device.specs.Input.{IsJsonOf}
use Rattle.rx_script.specs.declared.Form.{Form}
use Rattle.rx_script.specs.Running.{GivesNoOutput, HasNoOutput}
use Rattle.cellarcliff.specs.Ran.{HasNothingToWrite}

one_value : (input : List ℕ) (d e : Data) → IsJsonOf input d → IsJsonOf input e → d ≡ e
one_value input d e a b = same_Some _ _ (sym a.value ∙ b.value)

pub no_output : (form : Form) (scenario : List ℕ) → HasNoOutput scenario form → HasNothingToWrite form scenario
no_output form scenario is =
    inr (λ value json. subst (λ (v : Data). GivesNoOutput v form) (one_value scenario is.value value is.json json) is.none)
