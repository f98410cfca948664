-- The parts of a text, of the values that the code has. No public clause cites this module.
use Rattle.std.specs.Prelude.{◌≡◌, ℕ, ◌++◌, Bool, true, false, cond, List, [], ◌∷◌, codes, Option, Some, None, unwrap_or}
use Rattle.std.specs.Bool.{nat_eq}
use Rattle.std.specs.List.{list_any}
use Rattle.std.specs.HashMap.{get, values}
use Rattle.rx_book.specs.State.{State}
use Rattle.rx_line.specs.declared.names.Names.{Names}
use Rattle.rx_listing.specs.declared.known.Known.{Known}
use Rattle.rx_listing.specs.declared.list.Part.{Part}
use Rattle.rx_listing.specs.declared.list.Sight.{Sight}
use Rattle.rx_listing.specs.declared.list.Part.TheVariants.{Nodes, Resources, Leases, Hubs}
use Rattle.rx_listing.specs.Listed.{AreNamesBelow}
use Rattle.rx_listing.specs.Recalled.{IsNamed}
use Rattle.rx_listing.specs.Whole.{ListedCounts, node_object, resource_object, lease_object, hub_object}

-- one more number has a value, and this one alone
abbrev pub IsPut : {X : Type 0} → (old : ℕ → Option X) → (number : ℕ) → (value : X) → (new : ℕ → Option X) → Type 0
IsPut old number value new = (n : ℕ) → new n ≡ cond (nat_eq number n) (Some value) (old n)

-- what is wanted of these numbers, and nothing of another
abbrev pub IsKept : {X : Type 0} → List ℕ → (wanted kept : ℕ → Option X) → Type 0
IsKept numbers wanted kept = (n : ℕ) → kept n ≡ cond (list_any (nat_eq n) numbers) (wanted n) None

-- all numbers that have names are among these
abbrev pub HasNamed : List ℕ → Names → Type 0
HasNamed numbers names = (len n : ℕ) → AreNamesBelow len names → IsNamed names n → list_any (nat_eq n) numbers ≡ true

-- parts ----------------------------------------------------------------------------------------------

abbrev pub names_of_part : Known → Part → Names
names_of_part known Nodes = known.nodes.now
names_of_part known Resources = known.resources.now
names_of_part known Leases = known.leases.now
names_of_part known Hubs = known.hubs.now

-- what leads to a part
abbrev pub lead_of : Part → List ℕ
lead_of Nodes = codes ",\"nodes\":["
lead_of Resources = codes "],\"resources\":["
lead_of Leases = codes "],\"leases\":["
lead_of Hubs = codes "],\"hubs\":["

-- what is counted, by the code's tables
abbrev pub counted_of : Sight → ListedCounts
counted_of sight =
    record {
      uses = λ r. unwrap_or (get nat_eq sight.seen.uses r) 0;
      connected = λ g. list_any (λ one. nat_eq one g) (values sight.seen.connections);
      subscribers = λ g. unwrap_or (get nat_eq sight.subscribers g) 0;
    }

abbrev pub part_object : State → Known → ListedCounts → Part → ℕ → Option (List ℕ)
part_object book known c Nodes = node_object book known
part_object book known c Resources = resource_object book known c.uses
part_object book known c Leases = lease_object book known
part_object book known c Hubs = hub_object book known c

abbrev pub has_no_texts : List (List ℕ) → Bool
has_no_texts [] = true
has_no_texts (object ∷ objects) = false

-- an object behind those before it
abbrev pub led_text : (is_first : Bool) → List ℕ → List ℕ
led_text true object = object
led_text false object = codes "," ++ object
