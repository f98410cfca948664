-- One order of what is forced: a hub's connection first, else the first rule that gives an event, and of its events the one at the
-- node of the least number.
use Rattle.std.specs.Prelude.{◌≡◌, ◌&&◌, ◌∷◌, ◌++◌, if◌then◌else◌}
use Rattle.rx_event.specs.Imports.{ℕ, Bool, true, false, Option, Some, None, List, [], slice_get, nat_lt, list_any}
use Rattle.rx_event.specs.Imports.{option_and_then, option_map, option_map_or, Terminal, Completed, Event, Connect, End, Close}
use Rattle.rx_event.specs.Kept.{Kept}
use Rattle.rx_event.specs.Events.{is_mirroring, is_merging, is_until, is_auto_hub, is_connect_of, is_subscriber_of, hub_subscribed, hub_connected}
use Rattle.rx_event.specs.Tree.{at, places, is_open, open_subscribers, open_connections}
use Rattle.rx_event.specs.Moments.{is_fired}
use Rattle.rx_event.specs.Marks.{first_some, child_terminal, marks_of, is_over}
use Rattle.rx_event.specs.Lawful.{IsStep}

-- how the event ends a connection of g
abbrev pub ends_connection : List Event → ℕ → Event → Option Terminal
ends_connection h g (End c t) = if at (is_connect_of g) h c then Some t else None
ends_connection h g _ = None

abbrev pub ends_source_at : List Event → ℕ → ℕ → ℕ → Option Terminal
ends_source_at h s g place = if nat_lt s place then option_and_then (ends_connection h g) (slice_get h place) else None

-- how a connection of the hub of s ended after s was opened, if one did
unfoldable pub source_end : List Event → ℕ → Option Terminal
source_end h s = option_and_then (λ g. first_some (ends_source_at h s g) (places h)) (option_and_then hub_subscribed (slice_get h s))

abbrev pub is_nothing : {X : Type 0} → Option X → Bool
is_nothing None = true
is_nothing (Some x) = false

abbrev pub is_nil : List ℕ → Bool
is_nil [] = true
is_nil (x ∷ xs) = false

-- an open subscriber whose source has not ended
abbrev pub waits_at : List Event → ℕ → ℕ → Bool
waits_at h g s = at (is_subscriber_of g) h s && is_open h s && is_nothing (source_end h s)

-- the rules, in order
pub data Rule : Type 0 where
  Joining : Rule
  Mirroring : Rule
  Firing : Rule
  Failing : Rule
  Completing : Rule
  Cutting : Rule
  Leaving : Rule

abbrev pub rules : List Rule
rules = Joining ∷ Mirroring ∷ Firing ∷ Failing ∷ Completing ∷ Cutting ∷ Leaving ∷ []

-- what the rule gives at n
abbrev pub gives : (base : Kept) → List Event → Rule → ℕ → Option Event
gives base h Joining n = if at is_auto_hub h n && list_any (waits_at h n) (places h) && is_nil (open_connections h n) then Some (Connect n) else None
gives base h Mirroring n = if is_open h n && at is_mirroring h n then option_map (λ t. End n t) (child_terminal h n) else None
gives base h Firing n = if is_open h n && at is_until h n && is_fired h n then Some (End n Completed) else None
gives base h Failing n = if is_open h n && at is_merging h n then option_map (λ t. End n t) (child_terminal h n) else None
gives base h Completing n =
    if is_open h n && at is_merging h n && is_nothing (child_terminal h n) && is_over (marks_of base h n) then Some (End n Completed) else None
gives base h Cutting n = if is_open h n then option_map (λ t. End n t) (source_end h n) else None
gives base h Leaving n =
    if is_open h n && option_map_or (λ g. at is_auto_hub h g && is_nil (open_subscribers h g)) (option_and_then hub_connected (slice_get h n)) false
    then Some (Close n)
    else None

-- the first that is given, if anything is forced
unfoldable pub first_forced : (base : Kept) → List Event → Option Event
first_forced base h = first_some (λ rule. first_some (gives base h rule) (places h)) rules

-- what follows in this order
pub data IsFirstOn (base : Kept) (b : List Event) : List Event → Type 0 where
  nothing_yet : IsFirstOn base b b
  first_next : {k : List Event} {e : Event} → IsFirstOn base b k → first_forced base k ≡ Some e → IsFirstOn base b (k ++ e ∷ [])

-- a step in this order
pub record IsFirstStep (base : Kept) (h outside k : List Event) : Type 0 where
  pub step : IsStep base h outside k
  pub ordered : IsFirstOn base (h ++ outside) k
