-- What a contract sees of hubs, the published observables: for each its number and mode, its connection, how its last
-- connection ended that ended by itself, and its open subscribers by rising number (Publish, Connect, RefCount).
use Rattle.std.specs.Prelude.{◌≡◌, ℕ, ◌<◌, ◌==◌, ◌++◌, cond, false, List, [], ◌∷◌, map, Option, Some, None, option_map, slice_get}
use Rattle.std.specs.List.{filter, list_any}
use Rattle.std.specs.Option.{option_or}
use Rattle.std.proofs.Math.Bool.{not}
use Rattle.rx_event.specs.declared.base.BaseHub.{BaseHub}
use Rattle.rx_event.specs.declared.event.Mode.{Mode}
use Rattle.rx_slots.specs.declared.Key.{Key}
use Rattle.rx_tree.specs.Tree.{is_key, first_of}
use Rattle.rx_hub.specs.declared.hub.LastEnd.{LastEnd}
use Rattle.rx_hub.specs.declared.hub.Published.{Published}

pub record Hub : Type 0 where
  pub number : ℕ
  pub mode : Mode
  pub connection : Option Key
  pub last_end : Option LastEnd
  pub subscribers : List Key

-- hubs by rising number; how many hubs more need no memory; and the subscribers at which slots need none: those below
pub record Hubs : Type 0 where
  pub hubs : List Hub
  pub room : ℕ
  pub slots : ℕ

-- a hub without its subscribers, and with them
abbrev pub published_of : Hub → Published
published_of hub = record { number = hub.number; mode = hub.mode; connection = hub.connection; last_end = hub.last_end }

abbrev pub hub_of : Published → List Key → Hub
hub_of p keys = record { number = p.number; mode = p.mode; connection = p.connection; last_end = p.last_end; subscribers = keys }

-- a hub that nobody has subscribed to
abbrev pub new_hub : ℕ → Mode → Hub
new_hub number mode = record { number = number; mode = mode; connection = None; last_end = None; subscribers = [] }

-- the hub of a number
abbrev pub find_hub : List Hub → ℕ → Option Hub
find_hub [] number = None
find_hub (hub ∷ hubs) number = cond (hub.number == number) (Some hub) (find_hub hubs number)

-- the hub of this number stands there
abbrev pub StandsAt : List Hub → (index number : ℕ) → Type 0
StandsAt hubs index number = option_map (λ (hub : Hub). hub.number) (slice_get hubs index) ≡ Some number

-- the hub of this number changes so, and the others stay
abbrev pub at_hub : ℕ → (Hub → Hub) → List Hub → List Hub
at_hub number change hubs = map (λ hub. cond (hub.number == number) (change hub) hub) hubs

abbrev pub subscribed : Key → Hub → Hub
subscribed key hub = record hub { subscribers = hub.subscribers ++ key ∷ [] }

abbrev pub without_key : Key → List Key → List Key
without_key key keys = filter (λ k. not (is_key key k)) keys

abbrev pub unsubscribed : Key → Hub → Hub
unsubscribed key hub = record hub { subscribers = without_key key hub.subscribers }

abbrev pub with_published : Published → Hub → Hub
with_published p hub = hub_of p hub.subscribers

abbrev pub connected : Key → Hub → Hub
connected key hub = record hub { connection = Some key }

-- its connection is gone; where it ended by itself, that end is kept, and else the one before
abbrev pub disconnected : Option LastEnd → Hub → Hub
disconnected ended hub = record hub { connection = None; last_end = option_or ended hub.last_end }

-- what a checkpoint keeps of a hub, and the hub once it has forgotten how its connections ended
abbrev pub hub_as_kept : Hub → BaseHub
hub_as_kept hub = record { number = hub.number; mode = hub.mode }

abbrev pub ended_never : Published → Published
ended_never p = record p { last_end = None }

abbrev pub without_end : Hub → Hub
without_end hub = record hub { last_end = None }

-- numbers below, and numbers that rise
abbrev pub AreBelow : ℕ → List Key → Type 0
AreBelow n [] = Unit {0}
AreBelow n (k ∷ ks) = (k.number < n) × AreBelow n ks

abbrev pub AreAbove : ℕ → List Key → Type 0
AreAbove n [] = Unit {0}
AreAbove n (k ∷ ks) = (n < k.number) × AreAbove n ks

abbrev pub Rises : List Key → Type 0
Rises [] = Unit {0}
Rises (k ∷ ks) = AreAbove k.number ks × Rises ks

-- the last of a list, after this
abbrev pub last_from : Option Key → List Key → Option Key
last_from before [] = before
last_from before (k ∷ ks) = last_from (Some k) ks

-- what follows a key
abbrev pub key_after : Key → List Key → Option Key
key_after key [] = None
key_after key (k ∷ ks) = cond (is_key key k) (first_of ks) (key_after key ks)

-- no subscriber of any hub stands at this slot
abbrev pub IsFree : List Hub → ℕ → Type 0
IsFree hubs slot = (i : ℕ) (hub : Hub) → slice_get hubs i ≡ Some hub → list_any (λ k. slot == k.slot) hub.subscribers ≡ false

-- what holds of all hubs: their numbers rise, and those of each one's subscribers; no slot has two subscribers
pub record IsPromised (s : Hubs) : Type 0 where
  pub rising : (i j : ℕ) (a b : Hub) → slice_get s.hubs i ≡ Some a → slice_get s.hubs j ≡ Some b → i < j → a.number < b.number
  pub rises : (i : ℕ) (hub : Hub) → slice_get s.hubs i ≡ Some hub → Rises hub.subscribers
