-- What a line asks for.
use Rattle.std.specs.Prelude.{◌≡◌, ℕ, ◌&&◌, ◌||◌, List, [], ◌∷◌, codes, string_bytes, Bool, false, Option, Some, None, is_some}
use Rattle.std.specs.Prelude.{option_map, option_and_then, if◌then◌else◌}
use Rattle.std.specs.Str.{bytes_eq}
use Rattle.std.specs.Option.{option_map_or, option_or}
use Rattle.serde_json.specs.Data.{Data}
use Rattle.serde_json.specs.Find.{get, as_str}
use Rattle.rx_device.specs.Input.{IsJsonOf}
use Rattle.rx_scenario.specs.Scenario.{Name, Site, Sort, Command, Action, command, cancel, site_of, sort_of, command_of}
use Rattle.rx_scenario.specs.Reading.{is_object_of, name_in, site_in, kind_in, action_in}
use Rattle.rx_line.specs.declared.order.Task.{Task as TaskInCode}
use Rattle.rx_line.specs.declared.order.Task.TheVariants.{Command as CommandThere, OpenHolding}
use Rattle.rx_line.specs.declared.order.Order.{Order as OrderInCode}
use Rattle.rx_line.specs.declared.order.Unread.{Unread}
use Rattle.rx_line.specs.declared.order.Unread.TheVariants.{Faulty, Memory}
use Rattle.rx_line.specs.declared.order.Order.TheVariants.{Task as TaskThere, Query as QueryThere, List as ListThere, Dump as DumpThere}

-- what a line has the book do: a command, as in a scenario, or the opening of a node that holds a resource from then on
pub data Task : Type 0 where
  plain : Command → Task
  open_holding : (name : Name) → Site → Sort → (res : Name) → Task

-- a task of the book; whether a node is open; what is open and held; the history so far
pub data Order : Type 0 where
  task : Task → Order
  query : (node : Name) → Order
  list : Order
  dump : Order

-- `do` has this word
unfoldable pub does : (word : List ℕ) → Data → Bool
does word d = option_map_or (λ w. bytes_eq w word) (option_and_then as_str (get (codes "do") d)) false

-- an object that has these members alone, and `do` with this word
unfoldable pub says : (members : List (List ℕ)) → (word : List ℕ) → Data → Bool
says members word d = is_object_of members d && does word d

-- the node that is asked about
unfoldable pub query_in : Data → Option Name
query_in d = if says (codes "do" ∷ codes "node" ∷ []) (codes "is") d then name_in (codes "node") d else None

-- a member that steps of a scenario may have, and lines have not
unfoldable pub is_timed : Data → Bool
is_timed d = is_some (get (codes "label") d) || is_some (get (codes "at") d) || is_some (get (codes "after") d) || is_some (get (codes "then") d)

abbrev pub only_command : Action → Option Command
only_command (command c) = Some c
only_command (cancel label) = None

-- a command as in a scenario, that comes now
unfoldable pub command_in : Data → Option Command
command_in d = if is_timed d then None else option_and_then only_command (action_in d)

-- an `open` that may have the member `res`, and has none that only steps have
unfoldable pub is_opening : Data → Bool
is_opening d =
    says
    (codes "do" ∷ codes "name" ∷ codes "place" ∷ codes "of" ∷ codes "kind" ∷ codes "hub" ∷ codes "connection" ∷ codes "res" ∷ [])
    (codes "open") d

-- the members of a command that opens a node, and the resource that this holds
unfoldable pub holding_in : Data → Option Task
holding_in d =
    if is_opening d
    then
    option_and_then (λ n. option_and_then (λ s. option_and_then (λ k. option_map (open_holding n s k)
    (name_in (codes "res") d)) (kind_in d)) (site_in d)) (name_in (codes "name") d)
    else None

-- a command, or an opening with a resource
unfoldable pub task_in : Data → Option Task
task_in d = option_or (option_map plain (command_in d)) (holding_in d)

unfoldable pub order_in : Data → Option Order
order_in d =
    if says (codes "do" ∷ []) (codes "list") d then Some list
    else if says (codes "do" ∷ []) (codes "dump") d then Some dump
    else option_or (option_map task (task_in d)) (option_map query (query_in d))

-- what the code's values stand for
abbrev pub task_of : TaskInCode → Task
task_of (CommandThere c) = plain (command_of c)
task_of (OpenHolding n s k r) = open_holding (string_bytes n) (site_of s) (sort_of k) (string_bytes r)

abbrev pub order_of : OrderInCode → Order
order_of (TaskThere t) = task (task_of t)
order_of (QueryThere node) = query (string_bytes node)
order_of ListThere = list
order_of DumpThere = dump

-- the line is the text of a JSON value that asks for it
pub record IsOrderOf (line : List ℕ) (o : Order) : Type 0 where
  pub value : Data
  pub json : IsJsonOf line value
  pub order : order_in value ≡ Some o

-- it is faulty for this reason; where memory is refused, nothing is known of it
abbrev pub IsUnread : Type 0 → Unread → Type 0
IsUnread reason (Faulty told) = reason
IsUnread reason Memory = Unit {0}
