-- What ties the fields of a type together. No public clause cites this module.
use Rattle.std.specs.Prelude.{◌≡◌, ℕ, List, String}
use Rattle.std.specs.declared.alloc.Global.{Global}
use Rattle.std.specs.HashMap.{HashMap, get_by_text}
use Rattle.rx_agenda.specs.declared.names.Named.{Named}
use Rattle.rx_agenda.specs.Names.{key_named}

-- the map has for each name what the list has
abbrev pub IsTied : {K S : Type 0} → List (Named K) → HashMap (String Global) K S → Type 0
IsTied in_order by_name = (name : List ℕ) → get_by_text by_name name ≡ key_named in_order name
