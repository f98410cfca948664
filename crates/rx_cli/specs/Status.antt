-- The exit status of each thing that the program does, and the line on standard error that goes with it.
use Rattle.std.specs.Prelude.{ℕ, Bool, true, false, List, [], codes, Result, Ok, Err}
use Rattle.rx_device.specs.declared.fault.ScriptError.{ScriptError}
use Rattle.rx_device.specs.declared.fault.ScriptError.TheVariants.{Read, Write, Syntax, Shape, Memory}
use Rattle.rx_storm.specs.declared.StormFault.{StormFault}
use Rattle.rx_storm.specs.declared.StormFault.TheVariants.{Memory as NoMemory, Thread as NoThread, Write as NoWrite}

abbrev pub fault_status : ScriptError → ℕ
fault_status Read = 1
fault_status Write = 1
fault_status Syntax = 3
fault_status Shape = 3
fault_status Memory = 4

abbrev pub fault_line : ScriptError → List ℕ
fault_line Read = codes "rxbook: read fault\n"
fault_line Write = codes "rxbook: write fault\n"
fault_line Syntax = codes "rxbook: faulty input\n"
fault_line Shape = codes "rxbook: faulty input\n"
fault_line Memory = codes "rxbook: out of memory\n"

-- whether the input is at fault
abbrev pub is_faulty : {T : Type 0} → Result T ScriptError → Bool
is_faulty (Err Syntax) = true
is_faulty (Err Shape) = true
is_faulty _ = false

-- of what is asked of an input, which answers its status
abbrev pub status_of : Result ℕ ScriptError → ℕ
status_of (Ok status) = status
status_of (Err e) = fault_status e

abbrev pub line_of : {T : Type 0} → Result T ScriptError → List ℕ
line_of (Ok x) = []
line_of (Err e) = fault_line e

-- of a storm, which answers whether the threads agree with the book
abbrev pub storm_status_of : Result Bool StormFault → ℕ
storm_status_of (Ok true) = 0
storm_status_of (Ok false) = 5
storm_status_of (Err NoMemory) = 4
storm_status_of (Err NoThread) = 1
storm_status_of (Err NoWrite) = 1

abbrev pub storm_line_of : Result Bool StormFault → List ℕ
storm_line_of (Ok true) = []
storm_line_of (Ok false) = codes "rxbook: mismatch\n"
storm_line_of (Err NoMemory) = codes "rxbook: out of memory\n"
storm_line_of (Err NoThread) = codes "rxbook: thread fault\n"
storm_line_of (Err NoWrite) = codes "rxbook: write fault\n"

-- what is said of a word that is no UTF-8
abbrev pub no_text_line : List ℕ
no_text_line = codes "error: invalid UTF-8 was detected in one or more arguments\n\nUsage: rxbook [COMMAND] [FILE]\n\nFor more information, try '--help'.\n"
