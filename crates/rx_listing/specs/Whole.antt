-- The whole text, by what book and past tell.
use Rattle.std.specs.Prelude.{◌≡◌, ◌↔◌, ℕ, ◌++◌, Bool, false, List, codes, length, Option, Some, option_map, option_and_then, IsTrue, count_by, filter_map}
use Rattle.std.specs.Bool.{nat_eq}
use Rattle.std.specs.List.{range_with_len}
use Rattle.std.specs.Option.{option_map_or}
use Rattle.rx_event.specs.Events.{hub_subscribed, is_manual_hub, leased_of}
use Rattle.rx_scenario.specs.Scenario.{Name}
use Rattle.rx_book.specs.State.{State}
use Rattle.rx_line.specs.Names.{name_of_number}
use Rattle.rx_line.specs.Pieces.{joined, ok_text}
use Rattle.rx_listing.specs.declared.known.Known.{Known}
use Rattle.rx_listing.specs.Listed.{open_name}
use Rattle.rx_listing.specs.Recalled.{made_by, holder_by, uses_by, connection_by, IsCountable}
use Rattle.rx_listing.specs.Text.{node_text, resource_text, lease_text, hub_text}

-- what is counted --------------------------------------------------------------------------------------

-- the uses of a resource, whether a hub is connected, and its subscribers
pub record ListedCounts : Type 0 where
  pub uses : ℕ → ℕ
  pub connected : ℕ → Bool
  pub subscribers : ℕ → ℕ

-- the hub that an open node subscribes to
unfoldable pub hub_by : State → Known → ℕ → Option ℕ
hub_by book known n =
    option_and_then (λ name. option_and_then hub_subscribed (made_by book known.past.now n)) (open_name book known.nodes.now n)

abbrev pub subscribes : State → Known → (hub : ℕ) → ℕ → Bool
subscribes book known g n = option_map_or (λ h. nat_eq h g) (hub_by book known n) false

pub record AreCountsOfBook (book : State) (known : Known) (c : ListedCounts) : Type 0 where
  pub uses : (r : ℕ) → IsCountable book known.past.now r → c.uses r ≡ uses_by book known.past.now (length book.history) r
  pub connected : (g : ℕ) → IsTrue (c.connected g) ↔ ((n : ℕ) × (connection_by book known.past.now (length book.history) n ≡ Some g))
  pub subscribers : (g : ℕ) → c.subscribers g ≡ count_by (subscribes book known g) (range_with_len 0 (length book.history))

-- objects ----------------------------------------------------------------------------------------------

-- what is said of a number that has a name; a node has one as long as it is open
unfoldable pub node_object : State → Known → ℕ → Option (List ℕ)
node_object book known n =
    option_map (λ name. node_text known.nodes.now known.hubs.now name n (made_by book known.past.now n)) (open_name book known.nodes.now n)

-- the name of a resource's node, while that is open
unfoldable pub holder_name : State → Known → ℕ → Option Name
holder_name book known r = option_and_then (open_name book known.nodes.now) (holder_by book known.past.now r)

unfoldable pub resource_object : State → Known → (uses : ℕ → ℕ) → ℕ → Option (List ℕ)
resource_object book known uses r = option_map (λ name. resource_text name r (holder_name book known r) (uses r)) (name_of_number known.resources.now r)

-- the name of a lease's resource
unfoldable pub leased_name : State → Known → ℕ → Option Name
leased_name book known l = option_and_then (name_of_number known.resources.now) (option_and_then leased_of (made_by book known.past.now l))

unfoldable pub lease_object : State → Known → ℕ → Option (List ℕ)
lease_object book known l = option_map (λ name. lease_text name l (leased_name book known l)) (name_of_number known.leases.now l)

unfoldable pub hub_object : State → Known → ListedCounts → ℕ → Option (List ℕ)
hub_object book known c g =
    option_map (λ name. hub_text name g (option_map_or is_manual_hub (made_by book known.past.now g) false) (c.connected g) (c.subscribers g))
    (name_of_number known.hubs.now g)

-- the text ---------------------------------------------------------------------------------------------

-- the objects of a part, by rising number, with commas between them
abbrev pub part_text : (object : ℕ → Option (List ℕ)) → (len : ℕ) → List ℕ
part_text object len = joined (filter_map object (range_with_len 0 len))

unfoldable pub whole_text : State → Known → ListedCounts → List ℕ
whole_text book known c =
    let len = length book.history in
    ok_text len ++ codes ",\"nodes\":[" ++ part_text (node_object book known) len
    ++ codes "],\"resources\":[" ++ part_text (resource_object book known c.uses) len
    ++ codes "],\"leases\":[" ++ part_text (lease_object book known) len
    ++ codes "],\"hubs\":[" ++ part_text (hub_object book known c) len ++ codes "]}"

pub record IsList (book : State) (known : Known) (text : List ℕ) : Type 0 where
  pub counted : ListedCounts
  pub is : AreCountsOfBook book known counted
  pub written : text ≡ whole_text book known counted
