-- A list that goes on with the keys of the nodes that go.
use Rattle.std.specs.Prelude.{◌≡◌, ◌≢◌, ℕ, ◌<◌, ◌++◌, ◌⊎◌, List, length, map, take, IsSome, IsTrue}
use Rattle.std.specs.List.{All, AllPairs, Contains}
use Rattle.rx_event.specs.declared.event.Event.{Event}
use Rattle.rx_event.specs.Gone.{goes, has_gone}
use Rattle.rx_slots.specs.declared.Key.{Key}
use Rattle.rx_slots.specs.Slots.{find}
use Rattle.rx_ground.specs.Shown.{Ground}

abbrev pub numbers_of : List Key → List ℕ
numbers_of keys = map (λ key. key.number) keys

-- the first went no later than the second
pub record GoesFirst (h : List Event) (m n : ℕ) : Type 0 where
  pub no_later : (place : ℕ) → IsTrue (has_gone (take place h) n) → IsTrue (has_gone (take place h) m)

-- the list goes on with the keys of just the nodes that went between the two histories, each once, in the order in which they went
pub record Gathers (earlier : List Event) (list : List Key) (later : List Event) (longer : List Key) : Type 0 where
  pub gone : List Key
  pub listed : longer ≡ list ++ gone
  pub each : All (λ n. IsTrue (goes earlier later n)) (numbers_of gone)
  pub every : (n : ℕ) → IsTrue (goes earlier later n) → Contains (numbers_of gone) n
  pub once : AllPairs (λ m n. m ≢ n) (numbers_of gone)
  pub order : AllPairs (GoesFirst later) (numbers_of gone)

module _ {T : Type 0} where
  -- the list of what was closed went on so, and each key that came to it and is older found a node
  pub record Closes (old new : Ground T) : Type 0 where
    pub gathers : Gathers old.register.history old.closed new.register.history new.closed
    pub found : (key : Key) → Contains new.closed key → key.number < length old.register.history → Contains old.closed key ⊎ IsSome (find old.tree.nodes key)
