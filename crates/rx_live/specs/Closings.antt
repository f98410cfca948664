-- Which nodes an answer names as closed.
use Rattle.std.specs.Prelude.{◌≡◌, ◌≢◌, ℕ, ◌==◌, ◌++◌, Bool, true, false, List, [], codes, map, filter_map, Option, None, option_map, if◌then◌else◌}
use Rattle.std.specs.Option.{option_map_or}
use Rattle.rx_scenario.specs.Scenario.{Name, end, abort, fail, dispose, drain, checkpoint}
use Rattle.rx_slots.specs.declared.Key.{Key}
use Rattle.rx_line.specs.declared.names.Names.{Names}
use Rattle.rx_line.specs.Names.{name_of_number}
use Rattle.rx_line.specs.Orders.{Task, plain}
use Rattle.rx_line.specs.Pieces.{name_text, member_text}
use Rattle.rx_live.specs.Session.{Session, node_by_name}

-- the node that a task ends or closes by its name
abbrev pub asked_node : Session → Task → Option ℕ
asked_node s (plain (end node terminal)) = option_map (λ k. k.number) (node_by_name s node)
asked_node s (plain (abort node code)) = option_map (λ k. k.number) (node_by_name s node)
asked_node s (plain (fail node code)) = option_map (λ k. k.number) (node_by_name s node)
asked_node s (plain (dispose node)) = option_map (λ k. k.number) (node_by_name s node)
asked_node s _ = None

-- a task that is no call of the book closes nothing
abbrev pub is_call : Task → Bool
is_call (plain drain) = false
is_call (plain checkpoint) = false
is_call _ = true

-- the name of a node, unless it is the one that was asked for
abbrev pub name_beside : Names → (asked : Option ℕ) → Key → Option Name
name_beside nodes asked k = if option_map_or (λ n. n == k.number) asked false then None else name_of_number nodes k.number

-- the named nodes that the last call closed, in the order in which the book closed them
abbrev pub names_closed : Session → (asked : Option ℕ) → List Name
names_closed s asked = filter_map (name_beside s.nodes asked) s.book.closed

-- those that a task closed, beside the one that it asks for
abbrev pub closed_names : (old : Session) → Task → (done : Session) → List Name
closed_names old t done = if is_call t then names_closed done (asked_node old t) else []

-- the member that names them; where there are some, in want of memory it names none, and says so
pub data SaysClosed (names : List Name) (said : List ℕ) : Type 0 where
  all_said : said ≡ member_text (codes "closed") (map name_text names) → SaysClosed names said
  none_said : names ≢ [] → said ≡ codes ",\"closed\":null" → SaysClosed names said

-- it stands behind what was written
pub record WritesClosed (names : List Name) (begun text : List ℕ) : Type 0 where
  pub said : List ℕ
  pub says : SaysClosed names said
  pub written : text ≡ begun ++ said
