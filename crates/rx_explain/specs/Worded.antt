-- What `explain` says of an event that is refused: how its sentence begins, by the refusal of the table of causes.
use Rattle.std.specs.Prelude.{◌≡◌, ℕ, ◌≤◌, Option, Some, List, [], ◌∷◌, ◌++◌, length, take, slice_get, unwrap_or, codes, String, string_bytes, IfSome}
use Rattle.std.specs.Fmt.{decimal}
use Rattle.std.specs.Io.{StartsWith}
use Rattle.std.specs.declared.alloc.Global.{Global}
use Rattle.serde_json.specs.Data.{Data}
use Rattle.rx_event.specs.declared.event.Kind.TheVariants.{Sub}
use Rattle.rx_event.specs.declared.event.Event.{Event}
use Rattle.rx_event.specs.declared.event.Event.TheVariants.{Open, Hub, Connect, Accept, Use, Remove, Lease, Return, Item, Decline, End, Close, Take}
use Rattle.rx_event.specs.declared.refusal.Refusal.{Refusal}
use Rattle.rx_event.specs.declared.refusal.Refusal.TheVariants.{Gone, WrongKind, PlaceTaken, NothingOwed, NotRoot, NoHub, HubOrder, Connected}
use Rattle.rx_event.specs.declared.refusal.Refusal.TheVariants.{NoLease, NotHeld, Leased, HasChild, TooMany}
use Rattle.rx_event.specs.Events.{named_by}
use Rattle.rx_event.specs.Kept.{nothing_kept}
use Rattle.rx_event.specs.Forced.{IsSettled}
use Rattle.rx_event.specs.Lawful.{IsLawful}
use Rattle.rx_register.specs.CallBehind.{refusal_of}
use Rattle.rx_device.specs.Input.{IsJsonOf, most_bytes}
use Rattle.rx_dump.specs.History.{history_of}
use Rattle.rx_dump.specs.Names.{dump_in, names_in, name_in_object}
use Rattle.rx_dump.specs.NamedVerdict.{label_text}

-- the number of what the event is about, and of an opening that of the node that its place names
abbrev pub number_named : Event → ℕ
number_named (Open place kind) = unwrap_or (named_by place) 0
number_named (Hub mode) = 0
number_named (Connect g) = g
number_named (Accept n tag) = n
number_named (Use r) = r
number_named (Remove r) = r
number_named (Lease r) = r
number_named (Return l) = l
number_named (Item n value) = n
number_named (Decline n) = n
number_named (End n terminal) = n
number_named (Close n) = n
number_named (Take r) = r

-- the number of the hub that it subscribes to or connects
abbrev pub hub_number : Event → ℕ
hub_number (Open place (Sub g)) = g
hub_number (Connect g) = g
hub_number _ = 0

abbrev pub on_node : (label : ℕ → List ℕ) → Event → List ℕ → List ℕ
on_node label e words = codes "node " ++ label (number_named e) ++ words

abbrev pub on_hub : (label : ℕ → List ℕ) → Event → List ℕ → List ℕ
on_hub label e words = codes "hub " ++ label (hub_number e) ++ words

-- what a node or a hub is not, or is
abbrev pub kinds : (label : ℕ → List ℕ) → Event → List (List ℕ)
kinds label e = on_hub label e (codes " has RefCount") ∷ on_node label e (codes " has no place for a source")
    ∷ on_node label e (codes " is neither a FlatMap nor a Switch") ∷ on_node label e (codes " is not a TakeUntil")
    ∷ on_node label e (codes " is not a leaf") ∷ on_node label e (codes " is a subscriber")
    ∷ on_node label e (codes " is the connection of hub ") ∷ []

-- how the sentence may begin, with the end of its line: a row for each refusal; against an event no other stands
abbrev pub beginnings : (label : ℕ → List ℕ) → Event → Refusal → List (List ℕ)
beginnings label e NoHub = (codes "there is no hub " ++ label (hub_number e) ++ codes "\n") ∷ []
beginnings label e Gone = (codes "there is no node " ++ label (number_named e) ++ codes "\n")
    ∷ on_node label e (codes " is closed") ∷ []
beginnings label e WrongKind = kinds label e
beginnings label e PlaceTaken = codes "the place was used before" ∷ []
beginnings label e NothingOwed = (codes "nothing is owed at node " ++ label (number_named e) ++ codes "\n") ∷ []
beginnings label e NotRoot = on_node label e (codes " is not a root") ∷ []
beginnings label e HubOrder =
    (codes "a subscriber of hub " ++ label (hub_number e) ++ codes " may not stand below a connection") ∷ []
beginnings label e Connected = on_hub label e (codes " is connected already") ∷ []
beginnings label e NoLease = (codes "there is no lease " ++ label (number_named e) ++ codes "\n")
    ∷ (codes "lease " ++ label (number_named e) ++ codes " was given back") ∷ []
beginnings label e NotHeld = (codes "there is no resource " ++ label (number_named e) ++ codes "\n")
    ∷ (codes "resource " ++ label (number_named e) ++ codes " was handed out")
    ∷ (codes "resource " ++ label (number_named e) ++ codes " is not held") ∷ []
beginnings label e Leased = (codes "only leases hold resource " ++ label (number_named e) ++ codes ": ") ∷ []
beginnings label e HasChild = (codes "a node below node " ++ label (number_named e) ++ codes " is open") ∷ []
-- the texts have the figures of `most_nodes`, `most_hubs` and `most_visits`
beginnings label e TooMany = codes "it would take more than 1048576 open nodes" ∷ codes "there are 1024 hubs already"
    ∷ codes "the item would make more than 1048576 visits" ∷ []
beginnings label e _ = codes "it may not follow the events before it" ∷ []

-- a number, with its name behind it if it has one
abbrev pub labels : (names : Data) → ℕ → List ℕ
labels names = label_text (name_in_object names)

-- a sentence that words the refusal of the event may begin so
abbrev pub IsBeginning : (names : Data) → Event → Refusal → List ℕ → Type 0
IsBeginning names e why text = (row : ℕ) × (slice_get (beginnings (labels names) e why) row ≡ Some text)

-- and this one does
pub record IsWorded (names : Data) (e : Event) (why : Refusal) (text : List ℕ) : Type 0 where
  pub beginning : List ℕ
  pub known : IsBeginning names e why beginning
  pub begins : StartsWith (text ++ codes "\n") beginning

abbrev pub Words : (names : Data) → Event → (why : Refusal) → String Global → Type 0
Words names e why told = IsWorded names e why (string_bytes told)

-- the event is refused so after these, which are lawful and settled
pub record IsRefused (h : List Event) (e : Event) (why : Refusal) : Type 0 where
  pub lawful : IsLawful nothing_kept h
  pub settled : IsSettled nothing_kept h
  pub refused : refusal_of nothing_kept h e ≡ Some why

-- and that is worded
abbrev pub WordsRefusal : (names : Data) → List Event → Event → (text : List ℕ) → Type 0
WordsRefusal names h e text = (why : Refusal) → IsRefused h e why → IsWorded names e why text

-- the text tells the place of an event, and why it is refused after those before it
pub record TellsRefusal (names : Data) (h : List Event) (place : ℕ) (e : Event) (text : List ℕ) : Type 0 where
  pub shown : List ℕ
  pub told : List ℕ
  pub is : text ≡ codes "event " ++ decimal place ++ codes ", " ++ shown ++ codes ": " ++ told
  pub worded : WordsRefusal names (take place h) e told

-- the first event of the history that is refused is told so
abbrev pub TellsFirst : (names : Data) → List Event → Option (String Global) → Type 0
TellsFirst names h told = (place : ℕ) (e : Event) (why : Refusal) → slice_get h place ≡ Some e →
    IsRefused (take place h) e why → IfSome told (λ s. TellsRefusal names h place e (string_bytes s))

-- in a dump, or in an object with a dump and names
abbrev pub TellsFirstIn : Data → Option (String Global) → Type 0
TellsFirstIn d told = (h : List Event) → history_of (dump_in d) ≡ Some h → TellsFirst (names_in d) h told

-- in an input that is not too long
abbrev pub TellsFirstOf : List ℕ → Option (String Global) → Type 0
TellsFirstOf input told = (d : Data) → length input ≤ most_bytes → IsJsonOf input d → TellsFirstIn d told
