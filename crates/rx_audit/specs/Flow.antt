-- How much flows up from a node: the law on which counting visits by node stands.
use Rattle.std.specs.Prelude.{◌≡◌, ◌+◌, ◌*◌, ◌<◌, ◌≤◌, if◌then◌else◌}
use Rattle.rx_audit.specs.Imports.{ℕ, zero, suc, Some, None, List, slice_get, sum_by, Event, at, is_root, onward, climb, visits, Visit}
use Rattle.rx_audit.specs.Marking.{fired_key, projected_key}

-- the sum of a number for each node that is visited from n, each as often as it is reached,
-- as far as so many steps lead
abbrev pub flow : ℕ → List Event → (ℕ → ℕ) → ℕ → ℕ
flow zero h number n = 0
flow (suc steps) h number n = number n + sum_by (flow steps h number) (onward h n)

-- the number of the node, as often as it is reached
abbrev pub times : (ℕ → ℕ) → Visit → ℕ
times number v = v.count * number v.node

-- the number of a root, where an item is delivered: it has no entry in the log
abbrev pub delivered : List Event → (ℕ → ℕ) → ℕ → ℕ
delivered h number n = if at is_root h n then number n else 0

-- the number of any other node
abbrev pub entered : List Event → (ℕ → ℕ) → ℕ → ℕ
entered h number n = if at is_root h n then 0 else number n

-- these are the nodes among those that have an entry, in any order
abbrev pub AreEntered : List Event → List ℕ → List ℕ → Type 0
AreEntered h next nodes = (number : ℕ → ℕ) → sum_by number next ≡ sum_by (entered h number) nodes

-- the number of a node, and of the roots to which an item goes from it
abbrev pub weight : List Event → (ℕ → ℕ) → ℕ → ℕ
weight h number n = number n + sum_by (delivered h number) (onward h n)

-- each node in the log is reached
abbrev pub IsOften : List Visit → Type 0
IsOften log = (i : ℕ) (v : Visit) → slice_get log i ≡ Some v → 0 < v.count

-- the number is 0 of each node at which an item changes nothing
abbrev pub IsOfMarking : List Event → (ℕ → ℕ) → Type 0
IsOfMarking h number = (n : ℕ) → fired_key h n ≡ None → projected_key h n ≡ None → number n ≡ 0

-- the nodes of the log, each as often as it says, are those that an item of this leaf visits and at which it changes
-- something, in some order, and maybe others
pub record IsReached (h : List Event) (leaf : ℕ) (log : List Visit) : Type 0 where
  pub few : visits h leaf ≤ 1048576
  pub often : IsOften log
  pub sums : (number : ℕ → ℕ) → IsOfMarking h number → sum_by (times number) log ≡ sum_by number (climb h leaf)
