-- How an outcome is handed out. No clause of an export cites this module.
use Rattle.std.specs.Prelude.{◌≡◌, ℕ, ◌⊎◌, List, Result, Ok, Err, string_bytes}
use Rattle.rx_device.specs.declared.fault.ScriptError.{ScriptError}
use Rattle.rx_device.specs.declared.fault.ScriptError.TheVariants.{Read, Write, Syntax, Shape, Memory}
use Rattle.cellarcliff.specs.declared.handing.Said.{Said}
use Rattle.cellarcliff.specs.Answers.{IsGiven, IsTextTooLong, TellsNoText}

-- as the program has it; bytes in memory are read and written without a fault
abbrev pub fault_status_in_memory : ScriptError → ℕ
fault_status_in_memory Read = 4
fault_status_in_memory Write = 4
fault_status_in_memory Syntax = 3
fault_status_in_memory Shape = 3
fault_status_in_memory Memory = 4

-- the text with its status, or that the buffer is too small for it; or a fault, and nothing else
abbrev pub IsHandedOut : Result Said ScriptError → (buffer buffer' : List ℕ) → (told status : ℕ) → Type 0
IsHandedOut (Ok said) buffer buffer' told status =
    (IsGiven (string_bytes said.text) buffer buffer' told × (status ≡ said.status))
    ⊎ (IsTextTooLong (string_bytes said.text) buffer buffer' told × (status ≡ 1))
IsHandedOut (Err e) buffer buffer' told status = TellsNoText buffer buffer' told × (status ≡ fault_status_in_memory e)
