-- Which nodes stand below which, by the places in their records' events alone.
use Rattle.std.specs.Prelude.{ℕ, zero, suc, Bool, ◌==◌, Option, None, List, [], ◌∷◌}
use Rattle.std.specs.List.{list_any}
use Rattle.std.specs.Option.{option_and_then, option_map_or, option_or}
use Rattle.rx_slots.specs.declared.Entry.{Entry}
use Rattle.rx_slots.specs.Slots.{Slots, with_number}
use Rattle.rx_tree.specs.declared.node.Node.{Node}
use Rattle.rx_tree.specs.Tree.{named_above}

-- n and the numbers above it, as far as so many steps lead
abbrev pub ancestors_within : ℕ → (ℕ → Option ℕ) → ℕ → List ℕ
ancestors_within zero up n = n ∷ []
ancestors_within (suc steps) up n = n ∷ option_map_or (ancestors_within steps up) (up n) []

-- the record of a number among these
abbrev pub record_in : List (Option (Entry Node)) → ℕ → Option Node
record_in [] number = None
record_in (entry ∷ entries) number = option_or (with_number number entry) (record_in entries number)

abbrev pub record_of : Slots Node → ℕ → Option Node
record_of nodes number = record_in nodes.entries number

-- the number of the parent of the node of a number
abbrev pub up : Slots Node → ℕ → Option ℕ
up nodes number = option_and_then (named_above number) (record_of nodes number)

-- a number, its parent's, and so on. Parents have smaller numbers, so as many steps are enough
unfoldable pub ancestors : Slots Node → ℕ → List ℕ
ancestors nodes number = ancestors_within number (up nodes) number

-- the node of this number is the top, or stands below it
abbrev pub is_below : Slots Node → ℕ → ℕ → Bool
is_below nodes top number = list_any (λ a. top == a) (ancestors nodes number)
