-- What one call of the book comes to.
use Rattle.std.specs.Prelude.{◌≡◌, ℕ, List, [], ◌∷◌, ◌++◌, map, drop, length, Some, IsTrue}
use Rattle.rx_resource.specs.declared.Resource.{Ghosts}
use Rattle.rx_resource.specs.declared.token.Token.{Token}
use Rattle.rx_event.specs.declared.mail.Mail.{Mail}
use Rattle.rx_event.specs.Notes.{notes}
use Rattle.rx_slots.specs.declared.Key.{Key}
use Rattle.rx_tree.specs.declared.node.ResKey.{ResKey}
use Rattle.rx_ground.specs.declared.leases.LeaseKey.{LeaseKey}
use Rattle.rx_book.specs.State.{State as BookState, IsPromised, has_key, has_res_key, has_lease_key}
use Rattle.rx_book.specs.Answers.{AnswersHanded}
use Rattle.rx_roles.specs.declared.roles.Role.{Role}
use Rattle.rx_roles.specs.declared.effect.Effect.{Effect}
use Rattle.std.specs.Option.{option_to_list}
use Rattle.rx_roles.specs.Roles.{role_of, without, without_all}
use Rattle.rx_roles.specs.Effects.{released, all_told, all_last, after_all, copies_in}
use Rattle.rx_lanes.specs.State.{State as LanesState}
use Rattle.rx_pool.specs.Moves.{left_all}
use Rattle.rx_pool.specs.Places.{places_left}
use Rattle.rx_engine.specs.Deliveries.{Delivers, Leaves, settled}
use Rattle.rx_engine.specs.declared.parts.Parts.{Parts}

-- the notes that are still to be handed out
abbrev pub mail_left : BookState → List Mail
mail_left s = drop s.given (notes s.history)

-- all were handed out
abbrev pub all_given : BookState → BookState
all_given s = record s { given = length (notes s.history) }

-- the numbers of the nodes that the last call closed
abbrev pub closed_of : BookState → List ℕ
closed_of s = map (λ k. k.number) s.closed

-- what waits was taken, one resource after another, and for each its release was put and its role is gone
pub data Releases (g : Ghosts Token) (by : ℕ) (s : BookState) (holds : List Role) (effects : List Effect) : BookState →
    List Role → List Effect → Type 0 where
  none_released : Releases g by s holds effects s holds effects
  one_released : {t u : BookState} {holds' : List Role} {effects' : List Effect} {number : ℕ} {token : Token} →
      Releases g by s holds effects t holds' effects' → IsPromised t → AnswersHanded g t u (Some (number, token)) →
      Releases g by s holds effects u (without holds' number) (effects' ++ released by holds' number)

-- each key that found what is there finds it still
pub record KeepsKeys (s t : BookState) : Type 0 where
  pub keys : (k : Key) → IsTrue (has_key s.keys k) → IsTrue (has_key t.keys k)
  pub res_keys : (k : ResKey) → IsTrue (has_res_key s.res_keys k) → IsTrue (has_res_key t.res_keys k)
  pub lease_keys : (k : LeaseKey) → IsTrue (has_lease_key s.lease_keys k) → IsTrue (has_lease_key t.lease_keys k)

-- the effects before the releases: what is told, and the last of what was closed
abbrev pub effects_told : (by value : ℕ) → BookState → Parts → List Effect
effects_told by value mid p =
    all_told by value p.hears.list p.merges.list (mail_left mid) ++
    all_last by (after_all p.hears.list (mail_left mid)) p.merges.list (closed_of mid)

-- the roles of these numbers, each one taken out
abbrev pub taken_out : List Role → List ℕ → List Role
taken_out roles [] = []
taken_out roles (n ∷ ns) = option_to_list (role_of roles n) ++ taken_out (without roles n) ns

-- from mid, and these parts: what was closed has left its lane and its hub, all is told, the roles of what was closed have ended, nothing waits, each
-- effect is in its lane, what got something is due, and so many effects carry the value; the book's base and its limit are as before
pub record Settles (g : Ghosts Token) (by value : ℕ) (mid : BookState) (p : Parts) (t : BookState) (q : Parts) : Type 0 where
  pub homes : q.homes.list ≡ without_all p.homes.list (closed_of mid)
  pub left : LanesState Effect
  pub leaves : Leaves p.lanes (taken_out p.homes.list (closed_of mid)) left
  pub shares : q.shares.list ≡ without_all p.shares.list (closed_of mid)
  pub hubs : q.shares.hubs ≡ left_all (places_left p.shares.list (closed_of mid)) p.shares.hubs
  pub hears : q.hears.list ≡ without_all (after_all p.hears.list (mail_left mid)) (closed_of mid)
  pub merges : q.merges.list ≡ without_all p.merges.list (closed_of mid)
  pub effects : List Effect
  pub releases : Releases g by (all_given mid) p.holds.list (effects_told by value mid p) t q.holds.list effects
  pub put : LanesState Effect
  pub delivers : Delivers by left effects put
  pub lanes : q.lanes ≡ settled by put
  pub copies : q.copies ≡ copies_in effects
  pub none_waits : t.waiting ≡ []
  pub base : t.base ≡ mid.base
  pub limit : t.limit ≡ mid.limit
