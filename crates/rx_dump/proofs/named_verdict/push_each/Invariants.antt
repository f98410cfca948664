-- The numbers so far.
use Rattle.std.proofs.Common.{◌≡◌, ◌++◌, take, string_bytes, flat_map}
use Rattle.serde_json.specs.View.{view}
use Rattle.rx_dump.specs.Names.{name_in_object}
use Rattle.rx_dump.specs.NamedVerdict.{entry_text}
use Rattle.rx_dump.proofs.named_verdict.push_each.Given as goal

abbrev pub invariant-loop-number : goal.invariant-loop-number
invariant-loop-number l =
    string_bytes l.text ≡ string_bytes l.initial.text ++ flat_map (entry_text (name_in_object (view l.names.object.now))) (take l.number-index l.numbers)
