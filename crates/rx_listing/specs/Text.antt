-- What is said of one number, in JSON.
use Rattle.std.specs.Prelude.{ℕ, Bool, List, [], ◌++◌, codes, Option, Some, None, if◌then◌else◌}
use Rattle.std.specs.Fmt.{decimal}
use Rattle.rx_event.specs.declared.event.Place.{Place}
use Rattle.rx_event.specs.declared.event.Place.TheVariants.{Root, Source, Inner, Notifier}
use Rattle.rx_event.specs.declared.event.Kind.{Kind}
use Rattle.rx_event.specs.declared.event.Kind.TheVariants.{Leaf, Pass, Flat, Switch, Until, Sub}
use Rattle.rx_event.specs.declared.event.Event.{Event}
use Rattle.rx_event.specs.declared.event.Event.TheVariants.{Open, Connect}
use Rattle.rx_scenario.specs.Scenario.{Name}
use Rattle.rx_line.specs.declared.names.Names.{Names}
use Rattle.rx_line.specs.Names.{name_of_number}

-- a member whose value is a name; it is left out where there is none
unfoldable pub member_of : (member : List ℕ) → Option Name → List ℕ
member_of member None = []
member_of member (Some name) = codes ",\"" ++ member ++ codes "\":\"" ++ name ++ codes "\""

-- where a node stands, and what it is below
unfoldable pub below_text : Names → (word : List ℕ) → (above : ℕ) → List ℕ
below_text nodes word above = member_of (codes "place") (Some word) ++ member_of (codes "of") (name_of_number nodes above)

abbrev pub place_member_text : Names → Place → List ℕ
place_member_text nodes Root = member_of (codes "place") (Some (codes "root"))
place_member_text nodes (Source n) = below_text nodes (codes "source") n
place_member_text nodes (Inner n) = below_text nodes (codes "inner") n
place_member_text nodes (Notifier n) = below_text nodes (codes "notifier") n

-- a kind, and the hub where there is one
unfoldable pub of_hub_text : Names → (word : List ℕ) → (hub : ℕ) → List ℕ
of_hub_text hubs word hub = member_of (codes "kind") (Some word) ++ member_of (codes "hub") (name_of_number hubs hub)

abbrev pub kind_member_text : Names → Kind → List ℕ
kind_member_text hubs Leaf = member_of (codes "kind") (Some (codes "leaf"))
kind_member_text hubs Pass = member_of (codes "kind") (Some (codes "pass"))
kind_member_text hubs Flat = member_of (codes "kind") (Some (codes "flat"))
kind_member_text hubs Switch = member_of (codes "kind") (Some (codes "switch"))
kind_member_text hubs Until = member_of (codes "kind") (Some (codes "until"))
kind_member_text hubs (Sub g) = of_hub_text hubs (codes "sub") g

-- what a node is, by the event that made it
abbrev pub made_text : (nodes hubs : Names) → Option Event → List ℕ
made_text nodes hubs (Some (Open place kind)) = kind_member_text hubs kind ++ place_member_text nodes place
made_text nodes hubs (Some (Connect hub)) = of_hub_text hubs (codes "connection") hub
made_text nodes hubs _ = []

-- how a hub is connected
unfoldable pub mode_word : (manual : Bool) → List ℕ
mode_word manual = if manual then codes "manual" else codes "auto"

-- objects --------------------------------------------------------------------------------------------

unfoldable pub named_text : Name → List ℕ
named_text name = codes "{\"name\":\"" ++ name ++ codes "\""

unfoldable pub front_text : Name → (number : ℕ) → List ℕ
front_text name number = named_text name ++ codes ",\"number\":" ++ decimal number

unfoldable pub node_text : (nodes hubs : Names) → Name → (number : ℕ) → Option Event → List ℕ
node_text nodes hubs name number made = front_text name number ++ made_text nodes hubs made ++ codes "}"

unfoldable pub resource_text : Name → (number : ℕ) → (node : Option Name) → (uses : ℕ) → List ℕ
resource_text name number node uses =
    front_text name number ++ member_of (codes "node") node ++ codes ",\"uses\":" ++ decimal uses ++ codes "}"

unfoldable pub lease_text : Name → (number : ℕ) → (resource : Option Name) → List ℕ
lease_text name number resource = front_text name number ++ member_of (codes "res") resource ++ codes "}"

unfoldable pub bool_word : Bool → List ℕ
bool_word b = if b then codes "true" else codes "false"

unfoldable pub hub_text : Name → (number : ℕ) → (manual connected : Bool) → (subscribers : ℕ) → List ℕ
hub_text name number manual connected subscribers =
    front_text name number ++ member_of (codes "mode") (Some (mode_word manual))
    ++ codes ",\"connected\":" ++ bool_word connected ++ codes ",\"subscribers\":" ++ decimal subscribers ++ codes "}"
