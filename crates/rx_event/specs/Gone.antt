-- Which nodes have gone between two histories, and which lists have the numbers of just those that pass a test.
use Rattle.rx_event.specs.Imports.{ℕ, Bool, List, Event, not}
use Rattle.std.specs.Prelude.{◌≢◌, ◌&&◌, IsTrue}
use Rattle.std.specs.List.{All, AllPairs, Contains}
use Rattle.rx_event.specs.Events.{makes_node}
use Rattle.rx_event.specs.Tree.{at, is_open}

-- a node was made under this number, and is open no more
abbrev pub has_gone : List Event → ℕ → Bool
has_gone h n = at makes_node h n && not (is_open h n)

-- it has gone in the later history, and had not in the earlier one
abbrev pub goes : (earlier later : List Event) → ℕ → Bool
goes earlier later n = has_gone later n && not (has_gone earlier n)

-- the numbers of the list are those that pass the test, each once
pub record AreJust (test : ℕ → Bool) (numbers : List ℕ) : Type 0 where
  pub each : All (λ n. IsTrue (test n)) numbers
  pub every : (n : ℕ) → IsTrue (test n) → Contains numbers n
  pub once : AllPairs (λ m n. m ≢ n) numbers
