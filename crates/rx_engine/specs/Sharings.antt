-- Subscribing to a share, connecting and disconnecting one: the pool says which hub, and the node that is made names it.
use Rattle.std.specs.Prelude.{◌≡◌, ℕ, Bool, true, false, length, slice_get, option_map, Option, Some, None, Ok, Err, Result, IfOk, IfErr, IfSome, OnErr, IsTrue}
use Rattle.rx_resource.specs.declared.Resource.{Ghosts}
use Rattle.rx_resource.specs.declared.token.Token.{Token}
use Rattle.rx_event.specs.declared.event.Event.TheVariants.{Open}
use Rattle.rx_event.specs.declared.event.Kind.TheVariants.{Sub}
use Rattle.rx_event.specs.declared.refusal.Refusal.{Refusal}
use Rattle.rx_event.specs.declared.event.Mode.TheVariants.{Manual}
use Rattle.rx_event.specs.declared.refusal.Refusal.TheVariants.{Gone, NoMemory, NotConnected}
use Rattle.rx_event.specs.Events.{is_root}
use Rattle.rx_book.specs.declared.answer.At.{At}
use Rattle.rx_book.specs.State.{State as BookState, has_key}
use Rattle.rx_book.specs.Requests.{Request, open_request, connect_request, disconnect_request, place_of}
use Rattle.rx_book.specs.Answers.{Accepts, IsCauseOrWant, IsNewKey, connection_made}
use Rattle.rx_lanes.specs.declared.names.LaneName.{LaneName}
use Rattle.rx_pool.specs.declared.search.PooledHub.{PooledHub}
use Rattle.rx_pool.specs.declared.search.Share.{Share}
use Rattle.rx_pool.specs.Pool.{is_own}
use Rattle.rx_pool.specs.Choice.{choice, last_before}
use Rattle.rx_pool.specs.Places.{Joins}
use Rattle.rx_engine.specs.declared.parts.Parts.{Parts}
use Rattle.rx_engine.specs.declared.parts.User.{User}
use Rattle.rx_engine.specs.declared.sharing.Subscribed.{Subscribed}
use Rattle.rx_engine.specs.declared.sharing.Connected.{Connected}
use Rattle.rx_engine.specs.Commands.{IsFreeMade}
use Rattle.rx_engine.specs.declared.homes.Home.{Home}
use Rattle.rx_engine.specs.declared.homes.LaneOf.{LaneOf}
use Rattle.rx_engine.specs.Homes.{no_limit, whose, is_housed, home_of}
use Rattle.rx_engine.specs.States.{State, IsSeenAs}
use Rattle.rx_engine.specs.Openings.{Enters}
use Rattle.rx_engine.specs.Settlements.{Settles}
use Rattle.rx_engine.specs.Closings.{with_wish, Closes}

-- the node of this number names the hub at this place, for the share of this word
pub record Names (p : Parts) (number place word : ℕ) (q : Parts) : Type 0 where
  pub joins : Joins p.shares number place word q.shares
  pub only : q ≡ record p { shares = q.shares }

-- a connection has a new lane, and below it stands what stands before its own hub
abbrev pub connection_home : (place : ℕ) → Home
connection_home place = record { lane = None; limit = place }

pub record Connects (p : Parts) (number place word : ℕ) (q : Parts) : Type 0 where
  pub name : LaneName
  pub housed : Parts
  pub houses : Enters p number false false 0 (connection_home place) name housed
  pub names : Names housed number place word q

-- if there is one
abbrev pub ConnectsIf : Parts → Option ℕ → (place word : ℕ) → Parts → Type 0
ConnectsIf p None place word q = q ≡ p
ConnectsIf p (Some number) place word q = Connects p number place word q

-- a subscriber has its roles and names its hub, and so does the connection that came with it, if one did
pub record Subscribes (p : Parts) (number : ℕ) (hears : Bool) (user : ℕ) (home : Home) (place word : ℕ) (second : Option ℕ) (q : Parts) : Type 0 where
  pub name : LaneName
  pub entered : Parts
  pub enters : Enters p number hears false user home name entered
  pub named : Parts
  pub names : Names entered number place word named
  pub connects : ConnectsIf named second place word q

-- the hub at this place is the share's
pub record IsChosen (s : State) (share : Share) (limit place : ℕ) : Type 0 where
  pub chosen : choice s.parts.shares.hubs share limit ≡ Ok place
  pub hub : PooledHub
  pub there : slice_get s.parts.shares.hubs place ≡ Some hub

-- before which place the hub of a share has to stand that is subscribed to there
abbrev pub limit_for : State → At → Option LaneOf → ℕ
limit_for s at asked = (home_of s at asked).limit

-- why no hub is asked of the book, or it refuses what is asked of it
pub data IsShareRefused (s : State) (is_housed : Bool) (share : Share) (limit : ℕ) (asked : ℕ → Request) : Refusal → Type 0 where
  is_gone : is_housed ≡ false → IsShareRefused s is_housed share limit asked Gone
  none_chosen : {why : Refusal} → is_housed ≡ true → choice s.parts.shares.hubs share limit ≡ Err why → IsShareRefused s is_housed share limit asked why
  is_wanting : {place : ℕ} → is_housed ≡ true → IsChosen s share limit place → IsShareRefused s is_housed share limit asked NoMemory
  is_refused : {place : ℕ} {why : Refusal} → is_housed ≡ true → (c : IsChosen s share limit place) → IsCauseOrWant s.book (asked (c.hub).number) why →
      IsShareRefused s is_housed share limit asked why

-- the book opened a subscriber of that hub, it has its roles and its place before anything is told, and all that it came to is done
pub record IsSubscribeDone (g : Ghosts Token) (at : At) (share : Share) (user : User) (by place : ℕ) (s t : State) : Type 0 where
  pub housed : is_housed s.book (whose at user.lane) ≡ true
  pub chosen : IsChosen s share (limit_for s at user.lane) place
  pub mid : BookState
  pub accepts : Accepts s.book (open_request s.book at (Sub (chosen.hub).number)) mid
  pub entered : Parts
  pub subscribes : Subscribes s.parts (length s.book.history) (is_root (Open (place_of at) (Sub (chosen.hub).number))) user.word (home_of s at user.lane) place share.word
      (connection_made s.book.history mid.history) entered
  pub settles : Settles g by 0 mid entered t.book t.parts
  pub closes : Closes mid (with_wish s.wishes.roles.list (length s.book.history) user) t.wishes

-- done, with the node, the connection that came with it, and the place of the hub; or refused, and nothing changed but room
pub record IsSubscribeMade (g : Ghosts Token) (at : At) (share : Share) (user : User) (by : ℕ) (s t : State) (answer : Result Subscribed Refusal) : Type 0 where
  pub key : IfOk answer (λ u. IsNewKey t.book (length s.book.history) u.key)
  pub connection : IfOk answer (λ u. IfSome u.connection (λ k. IsTrue (has_key t.book.keys k)))
  pub done : IfOk answer (λ u. (d : IsSubscribeDone g at share user by u.place s t) × (option_map (λ k. k.number) u.connection ≡ connection_made s.book.history d.mid.history))
  pub refused : IfErr answer (IsShareRefused s (is_housed s.book (whose at user.lane)) share (limit_for s at user.lane) (λ hub. open_request s.book at (Sub hub)))
  pub kept : OnErr answer (IsSeenAs s t)

-- the book connected that hub, the connection has its home and its place, and all that it came to is done
pub record IsConnectDone (g : Ghosts Token) (share : Share) (user : User) (by place : ℕ) (s t : State) : Type 0 where
  pub chosen : IsChosen s share no_limit place
  pub mid : BookState
  pub accepts : Accepts s.book (connect_request (chosen.hub).number) mid
  pub entered : Parts
  pub connects : Connects s.parts (length s.book.history) place share.word entered
  pub settles : Settles g by 0 mid entered t.book t.parts
  pub closes : Closes mid (with_wish s.wishes.roles.list (length s.book.history) user) t.wishes

pub record IsConnectMade (g : Ghosts Token) (share : Share) (user : User) (by : ℕ) (s t : State) (answer : Result Connected Refusal) : Type 0 where
  pub key : IfOk answer (λ u. IsNewKey t.book (length s.book.history) u.key)
  pub done : IfOk answer (λ u. IsConnectDone g share user by u.place s t)
  pub refused : IfErr answer (IsShareRefused s true share no_limit connect_request)
  pub kept : OnErr answer (IsSeenAs s t)

-- a share that is connected by hand
abbrev pub published : (word : ℕ) → Share
published word = record { word = word; mode = Manual; level = 0 }

-- where no hub serves the share it is not connected; else it is that hub which is disconnected
pub data IsDisconnectMade {A : Type 0} (g : Ghosts Token) (word by : ℕ) (s t : State) : Result A Refusal → Type 0 where
  none_serves : last_before (is_own (published word)) s.parts.shares.hubs (length s.parts.shares.hubs) ≡ None → IsSeenAs s t → IsDisconnectMade g word by s t (Err NotConnected)
  one_serves : {answer : Result A Refusal} (place : ℕ) (hub : PooledHub) →
      last_before (is_own (published word)) s.parts.shares.hubs (length s.parts.shares.hubs) ≡ Some place → slice_get s.parts.shares.hubs place ≡ Some hub →
      IsFreeMade g (λ x. disconnect_request hub.number) by 0 s t answer → IsDisconnectMade g word by s t answer
