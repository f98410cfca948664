-- What is known of events that are gone.
use Rattle.std.specs.Prelude.{◌≡◌, ℕ, zero, suc, ◌+◌, ◌<◌, true, false, cond, Option, Some, None, length, is_some, unwrap_or}
use Rattle.std.specs.Bool.{nat_eq}
use Rattle.std.specs.HashMap.{get}
use Rattle.std.specs.Option.{option_map_or}
use Rattle.rx_event.specs.declared.event.Event.{Event}
use Rattle.rx_event.specs.declared.event.Event.TheVariants.{Connect, End, Close}
use Rattle.rx_event.specs.Kept.{event_since}
use Rattle.rx_event.specs.Events.{node_of_accept, is_use_of}
use Rattle.rx_book.specs.State.{State}
use Rattle.rx_line.specs.declared.names.Names.{Names}
use Rattle.rx_line.specs.Names.{name_of_number}
use Rattle.rx_listing.specs.declared.known.Known.{Known}
use Rattle.rx_listing.specs.declared.past.Past.{Past}
use Rattle.rx_listing.specs.Listed.{AreNamesBelow}

-- what it has
abbrev pub made_in : Past → ℕ → Option Event
made_in past n = get nat_eq past.made n

abbrev pub holder_in : Past → ℕ → Option ℕ
holder_in past r = get nat_eq past.holders r

abbrev pub uses_in : Past → ℕ → ℕ
uses_in past r = unwrap_or (get nat_eq past.uses r) 0

abbrev pub connected_in : Past → ℕ → Option ℕ
connected_in past c = get nat_eq past.connections c

-- nothing was before
pub record IsBlank (past : Past) : Type 0 where
  pub made : (n : ℕ) → made_in past n ≡ None
  pub holders : (r : ℕ) → holder_in past r ≡ None
  pub uses : (r : ℕ) → uses_in past r ≡ 0
  pub connections : (c : ℕ) → connected_in past c ≡ None

-- book and past ------------------------------------------------------------------------------------

-- what made the number
unfoldable pub made_by : State → Past → ℕ → Option Event
made_by book past n = option_map_or (λ e. Some e) (event_since book.base book.history n) (made_in past n)

-- the node that the resource was accepted at
unfoldable pub holder_by : State → Past → ℕ → Option ℕ
holder_by book past r = option_map_or node_of_accept (event_since book.base book.history r) (holder_in past r)

-- how often it was used before this place
abbrev pub uses_by : State → Past → (place : ℕ) → ℕ → ℕ
uses_by book past zero r = uses_in past r
uses_by book past (suc k) r =
    uses_by book past k r + cond (option_map_or (is_use_of r) (event_since book.base book.history k) false) 1 0

-- what one more event makes of an open connection
abbrev pub connection_after : (place : ℕ) → Event → (c : ℕ) → Option ℕ → Option ℕ
connection_after place (Connect g) c was = cond (nat_eq place c) (Some g) was
connection_after place (End n t) c was = cond (nat_eq n c) None was
connection_after place (Close n) c was = cond (nat_eq n c) None was
connection_after place _ c was = was

-- the hub of the connection, if that is open there
abbrev pub connection_by : State → Past → (place : ℕ) → (c : ℕ) → Option ℕ
connection_by book past zero c = connected_in past c
connection_by book past (suc k) c =
    let was = connection_by book past k c in
    option_map_or (λ e. connection_after k e c was) (event_since book.base book.history k) was

-- a past for what has names ------------------------------------------------------------------------

abbrev pub IsNamed : Names → ℕ → Type 0
IsNamed names n = is_some (name_of_number names n) ≡ true

-- each name stands for a number below this one
pub record ArePlaced (len : ℕ) (known : Known) : Type 0 where
  pub nodes : AreNamesBelow len known.nodes.now
  pub hubs : AreNamesBelow len known.hubs.now
  pub resources : AreNamesBelow len known.resources.now
  pub leases : AreNamesBelow len known.leases.now

-- the uses of a resource are fewer than a counter holds
abbrev pub IsCountable : State → Past → ℕ → Type 0
IsCountable book past r = uses_in past r + length book.history < 18446744073709551616

-- of what has names it tells, by itself, what the book and the past before it tell
pub record Recalls (book : State) (known : Known) (past : Past) : Type 0 where
  pub nodes : (n : ℕ) → IsNamed known.nodes.now n → made_in past n ≡ made_by book known.past.now n
  pub hubs : (g : ℕ) → IsNamed known.hubs.now g → made_in past g ≡ made_by book known.past.now g
  pub leases : (l : ℕ) → IsNamed known.leases.now l → made_in past l ≡ made_by book known.past.now l
  pub holders : (r : ℕ) → IsNamed known.resources.now r → holder_in past r ≡ holder_by book known.past.now r
  pub uses : (r : ℕ) → IsNamed known.resources.now r → IsCountable book known.past.now r →
      uses_in past r ≡ uses_by book known.past.now (length book.history) r
  pub connections : (c : ℕ) → connected_in past c ≡ connection_by book known.past.now (length book.history) c
