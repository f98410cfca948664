-- What names stand for.
use Rattle.std.specs.Prelude.{Option, List, find, string_bytes, option_map}
use Rattle.std.specs.Str.{bytes_eq}
use Rattle.rx_scenario.specs.Scenario.{Name}
use Rattle.rx_agenda.specs.declared.names.Named.{Named}

abbrev pub name_bytes : {K : Type 0} → Named K → Name
name_bytes n = string_bytes n.name

-- the first key that has the name
unfoldable pub key_named : {K : Type 0} → List (Named K) → Name → Option K
key_named names name = option_map (λ n. n.key) (find (λ n. bytes_eq (name_bytes n) name) names)
