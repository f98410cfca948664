-- What the words of a command line order. `clap` says which subcommand they name, with which options.
use Rattle.std.specs.Prelude.{◌≡◌, ◌≤◌, ⊤, ℕ, Bool, true, false, List, [], ◌∷◌, Option, Some, None, codes, if◌then◌else◌}
use Rattle.std.specs.Str.{bytes_eq}
use Rattle.std.specs.Str.Parse.{digits_value, without_leading_plus}
use Rattle.clap.specs.Words.{App, Row, Rule, Text, new_app, new_rule, with_rule, with_subcommand, subcommand_of, first_of, fault_of}
use Rattle.clap.specs.ValueTests.{is_unsigned_in}
use Rattle.clap.specs.declared.builder.ArgAction.TheVariants.{SetTrue}
use Rattle.clap.specs.declared.builder.value_parser.ValueParser.TheVariants.{Unsigned}
use Rattle.clap.specs.declared.error.kind.ErrorKind.{ErrorKind}
use Rattle.clap.specs.declared.error.kind.ErrorKind.TheVariants.{DisplayHelp, DisplayVersion}
use Rattle.clap.specs.declared.error.kind.ErrorKind.TheVariants.{InvalidSubcommand, UnknownArgument}
use Rattle.rx_cli.specs.declared.request.Order.{Order}
use Rattle.rx_cli.specs.declared.request.Order.TheVariants.{Say, Live, Storm}
use Rattle.rx_cli.specs.declared.request.Asked.TheVariants.{Run, Trace, Audit, Explain, Picture}
use Rattle.rx_dump.specs.declared.judging.Labels.{Labels}
use Rattle.rx_dump.specs.declared.judging.Labels.TheVariants.{Numbers, Names}
use Rattle.rx_script.specs.declared.Form.{Form}
use Rattle.rx_script.specs.declared.Form.TheVariants.{Report, Dump, NamedDump}

-- the flag `--NAME`
abbrev pub flag_rule : Text → Rule
flag_rule name = record (new_rule name) { long = Some name; action = Some SetTrue }

abbrev pub run_app : App
run_app =
    with_rule (with_rule (with_rule (with_rule (new_app (codes "run")) (flag_rule (codes "dump"))) (flag_rule (codes "names")))
    (flag_rule (codes "trace"))) (flag_rule (codes "strict"))

abbrev pub audit_app : App
audit_app = with_rule (new_app (codes "audit")) (flag_rule (codes "names"))

-- the option `--NAME` of a number from the least to the most, which is the usual one where it is left out
abbrev pub number_rule : (name usual : Text) → (least most : ℕ) → Rule
number_rule name usual least most = record (new_rule name) {
  long = Some name;
  value_names = 1;
  defaults = usual ∷ [];
  parser = Some (Unsigned least most);
}

abbrev pub storm_app : App
storm_app =
    with_rule (with_rule (with_rule (new_app (codes "storm")) (number_rule (codes "sources") (codes "4") 1 64))
    (number_rule (codes "workers") (codes "3") 1 16)) (number_rule (codes "items") (codes "100") 0 10000)

-- the commands that have no option
abbrev pub explain_app : App
explain_app = new_app (codes "explain")

abbrev pub picture_app : App
picture_app = new_app (codes "picture")

abbrev pub live_app : App
live_app = new_app (codes "live")

-- a command that tells its version
abbrev pub with_version : App → App
with_version a = record a { top = record a.top { has_version = true } }

-- the program's command: `rxbook`, which tells its version, with its subcommands
abbrev pub rxbook : App
rxbook =
    with_subcommand (with_subcommand (with_subcommand (with_subcommand (with_subcommand (with_subcommand
    (with_version (new_app (codes "rxbook"))) run_app.top) audit_app.top) explain_app.top) picture_app.top) live_app.top)
    storm_app.top

-- the value of a flag says that it is set
abbrev pub is_set : Option Text → Bool
is_set None = false
is_set (Some text) = bytes_eq text (codes "true")

-- the dump with its names where the flag for names is set, whether or not that for the dump is; the dump alone where only that is
abbrev pub form_by : (dump names : Option Text) → Form
form_by dump names = if is_set names then NamedDump else (if is_set dump then Dump else Report)

abbrev pub form_of : List Row → Form
form_of rows = form_by (first_of (codes "dump") rows) (first_of (codes "names") rows)

-- a run with the flag for the trace is traced, whatever the flags for the form; a trace has the names in it. It is strict where that flag is set
abbrev pub run_by : (trace strict : Option Text) → Form → Order
run_by trace strict form = Say (if is_set trace then Trace (is_set strict) else Run form (is_set strict))

abbrev pub run_of : List Row → Order
run_of rows = run_by (first_of (codes "trace") rows) (first_of (codes "strict") rows) (form_of rows)

-- an audit tells names where the flag for them is set
abbrev pub labels_by : Option Text → Labels
labels_by names = if is_set names then Names else Numbers

abbrev pub audit_labels : List Row → Labels
audit_labels rows = labels_by (first_of (codes "names") rows)

-- the number that the text of an option writes; the least where it writes none from the least to the most,
-- which `clap` refuses
abbrev pub number_by : (least most : ℕ) → Option Text → ℕ
number_by least most None = least
number_by least most (Some text) =
    if is_unsigned_in least most text then digits_value 10 (without_leading_plus text) else least

abbrev pub storm_by : List Row → Order
storm_by rows =
    Storm (number_by 1 64 (first_of (codes "sources") rows)) (number_by 1 16 (first_of (codes "workers") rows))
    (number_by 0 10000 (first_of (codes "items") rows))

-- the order of the subcommand that was matched, with its options: of one of these, or else a run; without one a report
abbrev pub order_of_subcommand : Option (Text × List Row) → Order
order_of_subcommand None = Say (Run Report false)
order_of_subcommand (Some p) =
    if bytes_eq p.0 (codes "audit") then Say (Audit (audit_labels p.1))
    else if bytes_eq p.0 (codes "explain") then Say Explain
    else if bytes_eq p.0 (codes "picture") then Say Picture
    else if bytes_eq p.0 (codes "live") then Live
    else if bytes_eq p.0 (codes "storm") then storm_by p.1
    else run_of p.1

-- the numbers of a storm are those that there may be
abbrev pub IsInRange : Order → Type 0
IsInRange (Storm sources workers items) =
    (1 ≤ sources) × (sources ≤ 64) × (1 ≤ workers) × (workers ≤ 16) × (items ≤ 10000)
IsInRange _ = ⊤

-- `clap` takes the words, and this is what they order
pub record Orders (words : List Text) (order : Order) : Type 0 where
  pub taken : fault_of rxbook words ≡ []
  pub named : order_of_subcommand (subcommand_of rxbook words) ≡ order

-- the words of a storm of these numbers
abbrev pub storm_words : (sources workers items : Text) → List Text
storm_words sources workers items =
    codes "rxbook" ∷ codes "storm" ∷ codes "--sources" ∷ sources
    ∷ codes "--workers" ∷ workers ∷ codes "--items" ∷ items ∷ []

-- the greatest storm
abbrev pub greatest_storm : List Text
greatest_storm = storm_words (codes "64") (codes "16") (codes "10000")

-- storms of which one number is beyond its range
abbrev pub storms_beyond : List (List Text)
storms_beyond =
    storm_words (codes "65") (codes "16") (codes "10000") ∷ storm_words (codes "0") (codes "16") (codes "10000")
    ∷ storm_words (codes "64") (codes "17") (codes "10000") ∷ storm_words (codes "64") (codes "0") (codes "10000")
    ∷ storm_words (codes "64") (codes "16") (codes "10001") ∷ []

-- words that ask for help, or for the version, and what they ask for
abbrev pub questions : List (List Text)
questions =
    (codes "rxbook" ∷ codes "--help" ∷ []) ∷ (codes "rxbook" ∷ codes "audit" ∷ codes "-h" ∷ [])
    ∷ (codes "rxbook" ∷ codes "--version" ∷ []) ∷ (codes "rxbook" ∷ codes "-V" ∷ []) ∷ []

abbrev pub answers : List (List ErrorKind)
answers = (DisplayHelp ∷ []) ∷ (DisplayHelp ∷ []) ∷ (DisplayVersion ∷ []) ∷ (DisplayVersion ∷ []) ∷ []

-- words that name a file, and for which kinds of error they are refused: one of those that are listed
abbrev pub file_words : List (List Text)
file_words =
    (codes "rxbook" ∷ codes "first-run.json" ∷ []) ∷ (codes "rxbook" ∷ codes "run" ∷ codes "first-run.json" ∷ [])
    ∷ (codes "rxbook" ∷ codes "audit" ∷ codes "left-open.dump" ∷ []) ∷ []

abbrev pub refusals_of_files : List (List ErrorKind)
refusals_of_files = (UnknownArgument ∷ InvalidSubcommand ∷ []) ∷ (UnknownArgument ∷ []) ∷ (UnknownArgument ∷ []) ∷ []
