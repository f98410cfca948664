-- An engine as its callers see it, and what it promises at every moment.
use Rattle.std.specs.Prelude.{◌≡◌, ℕ, ◌&&◌, Bool, List, [], length}
use Rattle.rx_event.specs.declared.event.Event.{Event}
use Rattle.rx_event.specs.Events.{is_root, is_merging}
use Rattle.rx_event.specs.Tree.{at, is_open}
use Rattle.rx_event.specs.Notes.{notes}
use Rattle.rx_book.specs.State.{State as BookState, IsPromised as IsBookPromised, is_kept}
use Rattle.rx_lanes.specs.State.{IsPromised as AreLanesPromised}
use Rattle.rx_roles.specs.Roles.{AreRolesOf}
use Rattle.rx_pool.specs.Ties.{IsPlain}
use Rattle.rx_pool.specs.Places.{AreShared}
use Rattle.rx_engine.specs.declared.parts.Parts.{Parts}
use Rattle.rx_engine.specs.Rooms.{IsReady, IsRoomier}
use Rattle.rx_engine.specs.Closings.{WishState, AreWishes}

-- a book, what is kept beside it, and the wishes
pub record State : Type 0 where
  pub book : BookState
  pub parts : Parts
  pub wishes : WishState

-- it has a role of this sort: an open root, an open FlatMap or Switch, a resource that was accepted and not taken
abbrev pub hears_in : List Event → ℕ → Bool
hears_in h n = is_open h n && at is_root h n

abbrev pub merges_in : List Event → ℕ → Bool
merges_in h n = is_open h n && at is_merging h n

-- nothing is left to be told or released, each open node has its home and just those have roles, who names a hub has its place and the hubs
-- count it, there is room for the last effect of each, and who has a wish is open
pub record IsTied (s : State) : Type 0 where
  pub given : s.book.given ≡ length (notes s.book.history)
  pub none_waits : s.book.waiting ≡ []
  pub homes : AreRolesOf (is_open s.book.history) s.parts.homes.list
  pub hears : AreRolesOf (hears_in s.book.history) s.parts.hears.list
  pub merges : AreRolesOf (merges_in s.book.history) s.parts.merges.list
  pub holds : AreRolesOf (is_kept s.book.history) s.parts.holds.list
  pub shared : AreShared s.book.history s.parts.shares.list s.parts.shares.hubs
  pub ready : IsReady 0 s.parts
  pub wishes : AreWishes s.book.history s.wishes.roles.list

-- what every engine promises at each moment
pub record IsPromised (s : State) : Type 0 where
  pub book : IsBookPromised s.book
  pub lanes : AreLanesPromised s.parts.lanes
  pub hubs : IsPlain s.parts.shares.hubs
  pub tied : IsTied s

-- the same for whoever looks at it: only room may have been gotten
pub record IsSeenAs (s t : State) : Type 0 where
  pub book : t.book ≡ s.book
  pub parts : IsRoomier s.parts t.parts
  pub wishes : t.wishes.roles.list ≡ s.wishes.roles.list
  pub closings : t.wishes.closings ≡ s.wishes.closings

-- nothing but lanes changed
abbrev pub IsLanesOnly : State → State → Type 0
IsLanesOnly s t = t ≡ record s { parts = record s.parts { lanes = t.parts.lanes } }
