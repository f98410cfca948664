-- An item is handed out by the command that emits it, where it is all that comes of that, and nothing stands before it.
use Rattle.std.specs.Prelude.{◌≡◌, ◌&&◌, ℕ, ◌-◌, Bool, false, pos, List, [], ◌∷◌, length, Option, Some, None, IfSome, Result, IfOk, IfErr}
use Rattle.std.specs.Prelude.{OnErr, if◌then◌else◌}
use Rattle.std.specs.Option.{option_and_then}
use Rattle.rx_resource.specs.declared.Resource.{Ghosts}
use Rattle.rx_resource.specs.declared.token.Token.{Token}
use Rattle.rx_event.specs.declared.event.Event.{Event}
use Rattle.rx_event.specs.declared.refusal.Refusal.{Refusal}
use Rattle.rx_event.specs.Events.{is_item}
use Rattle.rx_event.specs.Kept.{event_since}
use Rattle.rx_slots.specs.declared.Key.{Key}
use Rattle.rx_book.specs.State.{State as BookState}
use Rattle.rx_book.specs.Requests.{next_request}
use Rattle.rx_book.specs.Answers.{IsCauseOrWant}
use Rattle.rx_lanes.specs.declared.names.LaneName.{LaneName}
use Rattle.rx_lanes.specs.Lane.{Lane, is_empty, is_idle}
use Rattle.rx_lanes.specs.State.{State as LanesState, lane}
use Rattle.rx_roles.specs.declared.effect.Effect.{Effect}
use Rattle.rx_roles.specs.Effects.{only_item}
use Rattle.rx_engine.specs.States.{State, IsPromised, IsSeenAs}
use Rattle.rx_engine.specs.Commands.{IsDone}
use Rattle.rx_engine.specs.Servings.{IsTake}

-- it is an item, if there is one
abbrev pub is_some_item : Option Event → Bool
is_some_item None = false
is_some_item (Some e) = is_item e

-- the last event is an item: it forced nothing, so nothing was closed, and no resource was taken behind it
abbrev pub is_item_last : BookState → Bool
is_item_last b = is_some_item (event_since b.base b.history (length b.history - 1))

abbrev pub is_idle_there : Option (Lane Effect) → Bool
is_idle_there None = false
is_idle_there (Some l) = is_idle l

-- nothing is in the lane, and nobody serves it, and no lane got something
abbrev pub may_hand : LanesState Effect → LaneName → Bool
may_hand lanes name = is_empty lanes.fresh && is_idle_there (lane lanes name)

-- what is handed out of these effects, without being put into these lanes: the only one, where it is an item, and its lane is idle
abbrev pub item_at_once : List Effect → LanesState Effect → Option Effect
item_at_once es lanes = option_and_then (λ (e : Effect). if may_hand lanes e.lane then Some e else None) (only_item es)

-- and nothing where an event stands behind the item
abbrev pub handed_of : (none_behind : Bool) → List Effect → LanesState Effect → Option Effect
handed_of none_behind es lanes = if none_behind then item_at_once es lanes else None

-- its lane, which alone is due, is taken of, and gives it; where nothing is handed out nothing changes
abbrev pub Hands : (by : ℕ) → State → State → Option Effect → Type 0
Hands by s t None = t ≡ s
Hands by s t (Some e) = (s.parts.lanes.due ≡ record { lane = e.lane; inside = false } ∷ []) × IsTake e.lane false by s t (Some e)

-- the command was made, and what is to be handed out of what it came to is: its item; between the two the engine keeps its promise too
pub record IsMadeAndHanded (g : Ghosts Token) (leaf : Key) (by value : ℕ) (s t : State) (given : Option Effect) : Type 0 where
  pub between : State
  pub made : IsDone g (next_request s.book leaf (pos 0)) by value s between
  pub promised : IsPromised between
  pub exact : given ≡ handed_of (is_item_last between.book) made.settles.effects made.settles.left
  pub item : IfSome given (λ e. (e.value ≡ value) × (e.by ≡ by))
  pub hands : Hands by between t given

-- or it was refused, as the command is, and nothing changed but room
pub record IsNextHanded (g : Ghosts Token) (leaf : Key) (by value : ℕ) (s t : State) (answer : Result (Option Effect) Refusal) : Type 0 where
  pub done : IfOk answer (IsMadeAndHanded g leaf by value s t)
  pub refused : IfErr answer (IsCauseOrWant s.book (next_request s.book leaf (pos 0)))
  pub kept : OnErr answer (IsSeenAs s t)
