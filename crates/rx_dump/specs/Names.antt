-- An input: a dump, or an object with a dump and with names; and the names of numbers.
use Rattle.std.specs.Prelude.{ℕ, unwrap_or, Option, option_and_then, List, codes}
use Rattle.std.specs.Fmt.{decimal}
use Rattle.serde_json.specs.Data.{Data, null}
use Rattle.serde_json.specs.Find.{get, as_str}

-- an object may have its dump as the member `dump`, and the names of numbers as the member `names`
abbrev pub dump_in : Data → Data
dump_in d = unwrap_or (get (codes "dump") d) d

abbrev pub names_in : Data → Data
names_in d = unwrap_or (get (codes "names") d) null

-- the name of a number, by an object that leads from numbers to names
abbrev pub name_in_object : Data → ℕ → Option (List ℕ)
name_in_object names n = option_and_then as_str (get (decimal n) names)
