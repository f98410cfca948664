-- The hubs after one more event: what it closes leaves them, what it makes joins them (Publish, Connect, RefCount).
use Rattle.std.specs.Prelude.{◌≡◌, ℕ, Bool, true, false, ◌++◌, List, [], ◌∷◌, map, length}
use Rattle.std.specs.Prelude.{Option, Some, None, IsTrue}
use Rattle.std.specs.List.{AllByRecursion}
use Rattle.std.specs.Option.{option_to_list}
use Rattle.std.proofs.Math.Bool.{not}
use Rattle.rx_event.specs.declared.event.Kind.TheVariants.{Sub}
use Rattle.rx_event.specs.declared.event.Event.{Event}
use Rattle.rx_event.specs.declared.event.Event.TheVariants.{Open, Hub as Publish, Connect, End}
use Rattle.rx_event.specs.Tree.{is_open, is_within}
use Rattle.rx_slots.specs.declared.Key.{Key}
use Rattle.rx_hub.specs.declared.hub.LastEnd.{LastEnd}
use Rattle.rx_hub.specs.Closing.{without_gone}
use Rattle.rx_hub.specs.Hubs.{Hub, at_hub, new_hub, subscribed, connected}

-- what it closes ----------------------------------------------------------------------------------

-- two tests agree on the keys of a hub: its connection's and its subscribers'
abbrev pub AgreeAt : (one other : Key → Bool) → Hub → Type 0
AgreeAt one other hub = AllByRecursion (λ key. one key ≡ other key) (option_to_list hub.connection ++ hub.subscribers)

-- how a connection ends by an event at this place
abbrev pub end_by : ℕ → Event → Option LastEnd
end_by place (End n t) = Some (record { place = place; terminal = t })
end_by place _ = None

-- the key's node is not open after one more event
abbrev pub is_gone_after : List Event → Event → Key → Bool
is_gone_after h e key = not (is_open (h ++ e ∷ []) key.number)

-- the event closes no node
abbrev pub ClosesNone : List Event → Event → Type 0
ClosesNone h e = (n : ℕ) → IsTrue (is_open h n) → IsTrue (is_open (h ++ e ∷ []) n)

-- the key's node is the top, or stands below it
abbrev pub is_inside : List Event → (top : ℕ) → Key → Bool
is_inside h top key = is_within h top key.number

-- what it makes -----------------------------------------------------------------------------------

-- a hub comes last, a subscriber comes last among those of its hub, and a hub gets its connection
abbrev pub with_made : Key → Event → List Hub → List Hub
with_made key (Publish mode) hubs = hubs ++ new_hub key.number mode ∷ []
with_made key (Open place (Sub g)) hubs = at_hub g (subscribed key) hubs
with_made key (Connect g) hubs = at_hub g (connected key) hubs
with_made key _ hubs = hubs

-- the event makes one of these
abbrev pub joins_hubs : Event → Bool
joins_hubs (Publish mode) = true
joins_hubs (Open place (Sub g)) = true
joins_hubs (Connect g) = true
joins_hubs _ = false

-- both --------------------------------------------------------------------------------------------

-- the key of a node that the next event makes, where it stands at this slot
abbrev pub next_key : List Event → (slot : ℕ) → Key
next_key h slot = record { slot = slot; number = length h }

-- the hubs after one more event, where a node that the event makes stands at this slot
abbrev pub hubs_after : List Event → Event → (slot : ℕ) → List Hub → List Hub
hubs_after h e slot hubs =
    with_made (next_key h slot) e (map (without_gone (is_gone_after h e) (end_by (length h) e)) hubs)
