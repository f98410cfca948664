-- An item on its way over a tree and its hubs: what it tells and marks at each stop. No public clause cites this module.
use Rattle.std.specs.Prelude.{◌≡◌, ℕ, ℤ, ◌+◌, ◌≤◌, ◌++◌, List, [], ◌∷◌, length, Option, Some, None, is_some, slice_get, IsSome, count_by}
use Rattle.std.specs.Prelude.{true, false}
use Rattle.std.specs.List.{filter_map}
use Rattle.std.specs.Option.{option_and_then}
use Rattle.rx_event.specs.Kept.{Kept}
use Rattle.rx_event.specs.declared.event.Event.{Event}
use Rattle.rx_event.specs.declared.mail.Mail.{Mail}
use Rattle.rx_event.specs.Climb.{Stop as NumberedStop, stops}
use Rattle.rx_event.specs.Marks.{marks_of, due_at, after_stops, after_projection, after_firing}
use Rattle.rx_event.specs.Moments.{is_projection}
use Rattle.rx_event.specs.Notes.{told}
use Rattle.rx_event.specs.Tree.{is_open}
use Rattle.rx_slots.specs.declared.Entry.{Entry}
use Rattle.rx_slots.specs.declared.Key.{Key}
use Rattle.rx_slots.specs.Slots.{Slots, find}
use Rattle.rx_tree.specs.declared.node.Node.{Node}
use Rattle.rx_tree.specs.Owed.{owed_in}
use Rattle.rx_tree.specs.Tree.{Tree, is_on}
use Rattle.rx_hub.specs.declared.stop.Reached.{Reached}
use Rattle.rx_hub.specs.declared.stop.Stop.{Stop}
use Rattle.rx_hub.specs.declared.stop.Stop.TheVariants.{Delivery, Projection, Firing, Connection}
use Rattle.rx_hub.specs.TreeClaims.{numbered}
use Rattle.rx_hub.specs.Walk.{arrival}
use Rattle.rx_register.specs.State.{State as Register}
use Rattle.rx_ground.specs.declared.route.Reach.{Reach}
use Rattle.rx_ground.specs.Ties.{HasKey, Remarks}

-- one stop ----------------------------------------------------------------------------------------

-- how many answers an item is owed that stops there: one at a FlatMap or Switch
abbrev pub owed_at : Stop → ℕ
owed_at (Delivery key) = 0
owed_at (Projection key) = 1
owed_at (Firing key) = 0
owed_at (Connection key) = 0

-- how many notes it tells there: one at a root, and one at a FlatMap or Switch
abbrev pub told_at : Stop → ℕ
told_at (Delivery key) = 1
told_at (Projection key) = 1
told_at (Firing key) = 0
told_at (Connection key) = 0

-- and which
abbrev pub mail_at : (place : ℕ) → ℤ → Stop → Option Mail
mail_at place value stop = option_and_then (told place value) (numbered stop)

-- it is a stop where an item arrives, at a node that is there
abbrev pub IsThere : Slots Node → Stop → Type 0
IsThere nodes (Delivery key) = IsSome (find nodes key)
IsThere nodes (Projection key) = IsSome (find nodes key)
IsThere nodes (Firing key) = IsSome (find nodes key)
IsThere nodes (Connection key) = ⊥

module _ {T : Type 0} where
  -- the marks there are those after the stop, and nothing else changed
  abbrev pub IsMarkedAt : Stop → (old new : Tree T) → Type 0
  IsMarkedAt (Delivery key) old new = new ≡ old
  IsMarkedAt (Projection key) old new = Remarks old new key after_projection
  IsMarkedAt (Firing key) old new = Remarks old new key after_firing
  IsMarkedAt (Connection key) old new = new ≡ old

-- all stops ---------------------------------------------------------------------------------------

abbrev pub sum_at : (Stop → ℕ) → List Stop → ℕ
sum_at f [] = 0
sum_at f (stop ∷ stops) = f stop + sum_at f stops

-- an item that climbed so arrives there, and its way ends
pub record IsArrived (climb : Reached) (stop : Stop) : Type 0 where
  pub stops : climb.stop ≡ Some stop
  pub arrives : arrival stop ≡ Some stop
  pub few : climb.visits ≤ 1048576

-- what an item wants that makes these stops
pub record IsMeasured (stops : List Stop) (reach : Reach) : Type 0 where
  pub events : reach.events ≡ 1 + sum_at owed_at stops
  pub notes : reach.notes ≡ sum_at told_at stops
  pub few : reach.notes ≤ 1048577

-- the nodes at these slots
abbrev pub nodes_at : List (Option (Entry Node)) → Slots Node
nodes_at entries = record { entries = entries; next_slot = 0; count = 0; room = 0 }

-- the records of the open nodes, as they are marked after these stops of an item that is not yet written
pub record ArePassed (base : Kept) (h : List Event) (done : List NumberedStop) (nodes : Slots Node) (chain : List Key) : Type 0 where
  pub made : (key : Key) (node : Node) → find nodes key ≡ Some node → slice_get h key.number ≡ Some node.made
  pub alive : (key : Key) (node : Node) → find nodes key ≡ Some node → is_open h key.number ≡ true
  pub marks : (key : Key) (node : Node) → find nodes key ≡ Some node → node.marks ≡ after_stops key.number done (marks_of base h key.number)
  pub every : (n : ℕ) → is_open h n ≡ true → HasKey nodes n
  pub quiet : (key : Key) (node : Node) → find nodes key ≡ Some node → is_on key chain ≡ false → due_at node.made node.marks key.number ≡ None

-- an item of this leaf told and marked what it had to, but at the stops that are ahead
pub record IsPassing {T : Type 0} (first : Register) (start : Tree T) (leaf : ℕ) (value : ℤ) (register : Register) (tree : Tree T)
    (ahead : List NumberedStop) : Type 0 where
  pub done : List NumberedStop
  pub whole : stops first.history leaf ≡ done ++ ahead
  pub same : register ≡ record first { pending = register.pending; mail_room = register.mail_room }
  pub pending : register.pending ≡ filter_map (told (length first.history) value) done
  pub mail_room : first.mail_room ≡ register.mail_room + length (filter_map (told (length first.history) value) done)
  pub records : ArePassed first.base first.history done tree.nodes tree.chain
  pub there : (key : Key) → is_some (find tree.nodes key) ≡ is_some (find start.nodes key)
  pub places : tree.nodes ≡ record start.nodes { entries = tree.nodes.entries }
  pub resources : tree.resources ≡ start.resources
  pub owed : owed_in tree.nodes ≡ owed_in start.nodes + count_by is_projection done
