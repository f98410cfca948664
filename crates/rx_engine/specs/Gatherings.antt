-- The two steps of a settling: what a call of the book came to becomes effects, and these go into their lanes.
use Rattle.std.specs.Prelude.{◌≡◌, ℕ, ◌+◌, ◌≤◌, ◌++◌, List, length, []}
use Rattle.rx_resource.specs.declared.Resource.{Ghosts}
use Rattle.rx_resource.specs.declared.token.Token.{Token}
use Rattle.rx_book.specs.State.{State as BookState}
use Rattle.rx_lanes.specs.declared.names.LaneName.{LaneName}
use Rattle.rx_lanes.specs.State.{State as LanesState}
use Rattle.rx_roles.specs.declared.effect.Effect.{Effect}
use Rattle.rx_roles.specs.Roles.{without_all}
use Rattle.rx_roles.specs.Effects.{after_all, all_last, copies_in, lasts_at, names_of}
use Rattle.rx_pool.specs.Moves.{left_all}
use Rattle.rx_pool.specs.Places.{places_left}
use Rattle.rx_engine.specs.declared.parts.Parts.{Parts}
use Rattle.rx_engine.specs.Deliveries.{many_at, AreNamed, Delivers, Leaves, settled}
use Rattle.rx_engine.specs.Rooms.{role_count, named}
use Rattle.rx_engine.specs.Settlements.{mail_left, all_given, closed_of, effects_told, taken_out, Releases}

-- from mid, and these parts: as a settling, with its effects still on their way
pub record Gathers (g : Ghosts Token) (by value : ℕ) (mid : BookState) (p : Parts) (t : BookState) (q : Parts) : Type 0 where
  pub homes : q.homes.list ≡ without_all p.homes.list (closed_of mid)
  pub leaves : Leaves p.lanes (taken_out p.homes.list (closed_of mid)) q.lanes
  pub shares : q.shares.list ≡ without_all p.shares.list (closed_of mid)
  pub hubs : q.shares.hubs ≡ left_all (places_left p.shares.list (closed_of mid)) p.shares.hubs
  pub hears : q.hears.list ≡ without_all (after_all p.hears.list (mail_left mid)) (closed_of mid)
  pub merges : q.merges.list ≡ without_all p.merges.list (closed_of mid)
  pub releases : Releases g by (all_given mid) p.holds.list (effects_told by value mid p) t q.holds.list q.effects.list
  pub none_waits : t.waiting ≡ []
  pub base : t.base ≡ mid.base
  pub limit : t.limit ≡ mid.limit

-- the nodes of these numbers left their lanes and their hubs, and their roles ended, one node after another
pub record EndsClosed (by : ℕ) (closed : List ℕ) (p q : Parts) : Type 0 where
  pub homes : q.homes.list ≡ without_all p.homes.list closed
  pub leaves : Leaves p.lanes (taken_out p.homes.list closed) q.lanes
  pub many : (name : LaneName) → many_at q.lanes name + names_of name p.homes.list ≡ many_at p.lanes name + names_of
      name q.homes.list
  pub spare : q.lanes.spare ≡ p.lanes.spare
  pub shares : q.shares.list ≡ without_all p.shares.list closed
  pub hubs : q.shares.hubs ≡ left_all (places_left p.shares.list closed) p.shares.hubs
  pub hears : q.hears.list ≡ without_all p.hears.list closed
  pub merges : q.merges.list ≡ without_all p.merges.list closed
  pub effects : q.effects.list ≡ p.effects.list ++ all_last by p.hears.list p.merges.list closed
  pub room : p.effects.room + (length q.hears.list + length q.merges.list) ≤ q.effects.room +
      (length p.hears.list + length p.merges.list)
  pub holds : q.holds ≡ p.holds

-- they are in their lanes, in order, and those that got something are due
pub record Spreads (by : ℕ) (p q : Parts) : Type 0 where
  pub put : LanesState Effect
  pub delivers : Delivers by p.lanes p.effects.list put
  pub lanes : q.lanes ≡ settled by put
  pub copies : q.copies ≡ copies_in p.effects.list
  pub only : q ≡ record p { effects = q.effects; lanes = q.lanes; copies = q.copies }

-- each effect on its way goes to a lane that its role still names, and there is room for it
pub record IsLoaded (p : Parts) : Type 0 where
  pub are_named : AreNamed (many_at p.lanes) p.effects.list
  pub many : (name : LaneName) → many_at p.lanes name ≡ lasts_at name p.effects.list + named name p
  pub room : role_count p ≤ p.effects.room
  pub spare : length p.effects.list + role_count p ≤ p.lanes.spare
