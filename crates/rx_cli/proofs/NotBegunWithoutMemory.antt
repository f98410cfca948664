-- What was not begun.
use Rattle.rx_cli.proofs.Common.{List, Err, refl, ap, true≢false, Bool, true, false, Result, Memory, Watched, Bytes}
use Rattle.rx_device.specs.declared.fault.ScriptError.{ScriptError}
use Rattle.rx_script.specs.Stage.{Ware}
use Rattle.rx_storm.specs.declared.StormFault.{StormFault}
use Rattle.rx_storm.specs.declared.StormFault.TheVariants.{Memory as NoMemory}
use Rattle.rx_cli.specs.declared.request.Asked.{Asked}
use Rattle.rx_cli.specs.Served.{IsAnswered, Stormed}

abbrev is_memory : {T : Type 0} → Result T ScriptError → Bool
is_memory (Err Memory) = true
is_memory _ = false

-- memory was refused before the input was touched
pub answered_without_memory : {I O : Type 0} (remaining : I → Bytes) (contents : O → Bytes)
    (stock : List Ware) (asked : Asked) (input : Watched I) (output : Watched O)
    → IsAnswered remaining contents stock asked input input output output (Err Memory)
answered_without_memory remaining contents stock asked input output = record {
  ok = tt;
  unhurt = tt;
  moved = tt;
  front = λ e. absurd (true≢false (ap is_memory e));
  silent = λ _. refl;
  read = λ e. absurd (true≢false (ap is_memory e));
  write = λ e. absurd (true≢false (ap is_memory e));
  syntax = λ e. absurd (true≢false (ap is_memory e));
  shape = λ e. absurd (true≢false (ap is_memory e));
}

abbrev is_no_memory : {T : Type 0} → Result T StormFault → Bool
is_no_memory (Err NoMemory) = true
is_no_memory _ = false

-- the same of a storm
pub stormed_without_memory : {O : Type 0} (contents : O → Bytes) (output : Watched O) → Stormed contents output output (Err NoMemory)
stormed_without_memory contents output = record {
  told = tt;
  unhurt = tt;
  moved = tt;
  front = λ e. absurd (true≢false (ap is_no_memory e));
  memory = λ _. refl;
  thread = λ e. absurd (true≢false (ap is_no_memory e));
  write = λ e. absurd (true≢false (ap is_no_memory e));
}
