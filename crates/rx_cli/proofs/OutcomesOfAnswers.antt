-- What comes of an input that was read whole, and of one of which nothing is said.
use Rattle.rx_cli.proofs.Common.{◌≡◌, List, ℕ, Err, Ok, Result, true, false, refl, subst, sym, inr, Watched, Bytes}
use Rattle.std.specs.Prelude.{◌≢◌, ◌⊎◌, IsErrOf, IfOk, string_bytes}
use Rattle.rx_device.specs.declared.fault.ScriptError.{ScriptError}
use Rattle.rx_device.specs.declared.fault.ScriptError.TheVariants.{Read, Write, Syntax, Shape}
use Rattle.rx_device.specs.Device.{device_of, has_failed, has_stopped, HasReadFault}
use Rattle.rx_device.specs.Input.{IsJsonOf, GivesWhole, GivesTooMuch, GivesNoJson}
use Rattle.rx_script.specs.Stage.{Ware}
use Rattle.rx_cli.specs.declared.request.Asked.{Asked}
use Rattle.rx_cli.specs.declared.said.Said.{Said}
use Rattle.rx_cli.specs.Said.{Says, IsSaid, LacksWhat, takes_any}
use Rattle.rx_cli.specs.Served.{IsAnswered, SaysOfGiven, of_whole, GivesLacking}

module _ {I : Type 0} (remaining : I → Bytes) (stock : List Ware) (asked : Asked) (input input' : Watched I) where
  -- what is said of an input that was read whole, and seen through a slice
  pub said_of_whole : {given seen : List ℕ} (outcome : Result Said ScriptError) → GivesWhole (remaining (device_of input)) (remaining (device_of input')) given
      → has_stopped input' ≡ true → has_failed input' ≡ false → seen ≡ given → Says stock asked seen outcome
      → IfOk outcome (λ s. SaysOfGiven remaining stock asked input input' (string_bytes s.text) s.status)
  said_of_whole (Ok s) whole stopped unhurt same says =
      of_whole whole stopped unhurt (subst (λ (l : List ℕ). IsSaid stock asked l (string_bytes s.text) s.status) same says.ok)
  said_of_whole (Err e) whole stopped unhurt same says = tt

  pub no_json_in_whole : {given seen : List ℕ} (outcome : Result Said ScriptError) → GivesWhole (remaining (device_of input)) (remaining (device_of input')) given
      → seen ≡ given → Says stock asked seen outcome → IsErrOf outcome Syntax
      → (takes_any asked ≡ false) × (GivesTooMuch (remaining (device_of input)) (remaining (device_of input'))
      ⊎ GivesNoJson (remaining (device_of input)) (remaining (device_of input')))
  no_json_in_whole {given} outcome whole same says is =
      let none = says.syntax is in (
        none.0,
        inr record {
          input = given;
          whole = whole;
          no_json = λ d json. none.1 d (subst (λ (l : List ℕ). IsJsonOf l d) (sym same) json);
        },
      )

  pub lacking_in_whole : {given seen : List ℕ} (outcome : Result Said ScriptError) → GivesWhole (remaining (device_of input)) (remaining (device_of input')) given
      → seen ≡ given → Says stock asked seen outcome → IsErrOf outcome Shape → GivesLacking remaining asked input input'
  lacking_in_whole {given} outcome whole same says is = record {
    given = given;
    whole = whole;
    lacks = subst (λ (l : List ℕ). LacksWhat asked l) same (says.shape is);
  }

  module _ {O : Type 0} (contents : O → Bytes) (output : Watched O) where
    pub not_said : (e : ScriptError) → e ≢ Write → (e ≡ Read → HasReadFault input')
        → (e ≡ Syntax → (takes_any asked ≡ false) × (GivesTooMuch (remaining (device_of input)) (remaining (device_of input'))
        ⊎ GivesNoJson (remaining (device_of input)) (remaining (device_of input'))))
        → (e ≡ Shape → GivesLacking remaining asked input input')
        → IsAnswered remaining contents stock asked input input' output output (Err e)
    not_said e other read syntax shape = record {
      ok = tt;
      unhurt = tt;
      moved = tt;
      front = λ is. absurd (other (cc));
      silent = λ _. refl;
      read = λ is. read (cc);
      write = λ is. absurd (other (cc));
      syntax = λ is. syntax (cc);
      shape = λ is. shape (cc);
    }
