-- What names stand for, by numbers.
use Rattle.std.specs.Prelude.{ℕ, Bool, Option, List, [], ◌∷◌, ◌++◌, is_some, is_none, find, option_map}
use Rattle.std.specs.Str.{bytes_eq}
use Rattle.rx_scenario.specs.Scenario.{Name}

-- a name, and the number of the node, hub, resource or ticket that it stands for
pub record Binding : Type 0 where
  pub name : Name
  pub number : ℕ

-- what a name stands for
unfoldable pub bound : List Binding → Name → Option ℕ
bound bindings name = option_map (λ b. b.number) (find (λ b. bytes_eq b.name name) bindings)

abbrev pub is_unbound : List Binding → Name → Bool
is_unbound bindings name = is_none (bound bindings name)

abbrev pub is_bound : List Binding → Name → Bool
is_bound bindings name = is_some (bound bindings name)

-- one more name is bound
abbrev pub with_binding : List Binding → Name → ℕ → List Binding
with_binding bindings name number = bindings ++ (record { name = name; number = number }) ∷ []
