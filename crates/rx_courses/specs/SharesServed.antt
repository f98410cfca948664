-- What holds of the shares of every engine.
use Rattle.std.specs.Prelude.{◌≡◌, ℕ, ◌<◌, true, [], Some, Ok, Err, slice_get}
use Rattle.rx_resource.specs.declared.Resource.{Ghosts}
use Rattle.rx_resource.specs.declared.token.Token.{Token}
use Rattle.rx_event.specs.declared.refusal.Refusal.{Refusal}
use Rattle.rx_event.specs.Tree.{open_subscribers, open_connections}
use Rattle.rx_book.specs.declared.answer.At.{At}
use Rattle.rx_pool.specs.declared.search.PooledHub.{PooledHub}
use Rattle.rx_pool.specs.declared.search.Share.{Share}
use Rattle.rx_pool.specs.Pool.{is_own}
use Rattle.rx_pool.specs.Choice.{choice, passes}
use Rattle.rx_pool.specs.Claims.{MayServe, IsRefusal}
use Rattle.rx_engine.specs.declared.parts.User.{User}
use Rattle.rx_engine.specs.declared.sharing.Subscribed.{Subscribed}
use Rattle.rx_engine.specs.Sharings.{limit_for, IsSubscribeMade}
use Rattle.rx_engine.specs.States.{State, IsPromised}

-- a share that a hub serves gets that hub; and what is subscribed to is a hub before the limit that served the share,
-- or nobody
pub record KeepsHub (g : Ghosts Token) (at : At) (share : Share) (user : User) (by : ℕ) (s t : State) (u : Subscribed)
    : Type 0 where
  pub keeps : (place : ℕ) → passes (is_own share) s.parts.shares.hubs place ≡ true → u.place ≡ place
  pub before : u.place < limit_for s at user.lane
  pub serves : MayServe s.parts.shares.hubs share u.place

-- where the pool refuses a share no hub before the limit may serve it: `HubOrder` where one behind the limit may, and
-- `NoHub` where none may
pub record RefusesShare (s : State) (share : Share) (limit : ℕ) (why : Refusal) : Type 0 where
  pub none : (place : ℕ) → place < limit → MayServe s.parts.shares.hubs share place → ⊥
  pub why_is : IsRefusal s.parts.shares.hubs share limit why

-- in every engine, at each moment
pub record ServesShares (g : Ghosts Token) : Type 0 where
  pub keeps : (at : At) (share : Share) (user : User) (by : ℕ) (s t : State) (u : Subscribed) → IsPromised s →
      IsSubscribeMade g at share user by s t (Ok u) → KeepsHub g at share user by s t u
  pub refuses : (share : Share) (limit : ℕ) (s : State) (why : Refusal) → IsPromised s →
      choice s.parts.shares.hubs share limit ≡ Err why →
      RefusesShare s share limit why
  pub free : (s : State) (i : ℕ) (hub : PooledHub) → IsPromised s → slice_get s.parts.shares.hubs i ≡ Some hub →
      hub.many ≡ 0 →
      (open_subscribers s.book.history hub.number ≡ []) × (open_connections s.book.history hub.number ≡ [])
