-- Laws of names: a dump alone has none, and without them a verdict has the text that it has alone.
use Rattle.std.specs.Prelude.{◌≡◌, Some, None, List}
use Rattle.serde_json.specs.Data.{Data, null}
use Rattle.rx_event.specs.declared.event.Event.{Event}
use Rattle.rx_audit.specs.declared.verdict.Verdict.{Verdict}
use Rattle.rx_dump.specs.History.{history_of}
use Rattle.rx_dump.specs.Verdict.{verdict_text}
use Rattle.rx_dump.specs.Names.{dump_in, names_in}
use Rattle.rx_dump.specs.NamedVerdict.{named_verdict}

-- a dump is an input of which it is itself the dump, without names
abbrev pub DumpHasNoNames : Type 0
DumpHasNoNames = (d : Data) (h : List Event) → history_of d ≡ Some h → (dump_in d ≡ d) × (names_in d ≡ null)

-- where no number has a name, the verdict has the text that it has without names
abbrev pub VerdictsAgree : Type 0
VerdictsAgree = (v : Verdict) → named_verdict (λ _. None) v ≡ verdict_text v
