-- Letting go of one thing after another: leases that are out, open roots, hubs that were connected by hand.
use Rattle.std.specs.Prelude.{◌≡◌, ℕ, ◌==◌, ◌&&◌, Bool, Some, None, Result, IfErr, OnOk, OnErr, IsTrue}
use Rattle.std.specs.List.{find}
use Rattle.rx_resource.specs.declared.Resource.{Ghosts}
use Rattle.rx_resource.specs.declared.token.Token.{Token}
use Rattle.rx_event.specs.declared.refusal.Refusal.{Refusal}
use Rattle.rx_event.specs.declared.refusal.Refusal.TheVariants.{Gone}
use Rattle.rx_ground.specs.Told.{is_connected_manual}
use Rattle.rx_event.specs.Claims.Closing.{is_open_root}
use Rattle.rx_event.specs.Resources.{is_out}
use Rattle.rx_event.specs.Totals.{open_count, held_count, lease_count}
use Rattle.rx_event.specs.Tree.{places}
use Rattle.rx_slots.specs.declared.Key.{Key}
use Rattle.rx_ground.specs.declared.leases.LeaseKey.{LeaseKey}
use Rattle.rx_book.specs.State.{State as BookState, has_key, has_lease_key}
use Rattle.rx_book.specs.Requests.{Request, give_back_request, dispose_request, disconnect_request}
use Rattle.rx_lanes.specs.Reports.{waiting}
use Rattle.rx_engine.specs.Commands.{IsDone}
use Rattle.rx_engine.specs.States.{State}

-- what is asked next: to give back the oldest lease that is out; where none is, to dispose of the oldest open root; and where
-- none is open, to disconnect the oldest hub that is connected by hand
pub data IsNext (b : BookState) : Request → Type 0 where
  next_lease : (k : LeaseKey) → find (is_out b.history) (places b.history) ≡ Some k.number → IsTrue (has_lease_key b.lease_keys k) →
      IsNext b (give_back_request b k)
  next_root : (k : Key) → find (is_out b.history) (places b.history) ≡ None → find (is_open_root b.history) (places b.history) ≡ Some k.number →
      IsTrue (has_key b.keys k) → IsNext b (dispose_request b k)
  next_hub : (hub : ℕ) → find (is_out b.history) (places b.history) ≡ None → find (is_open_root b.history) (places b.history) ≡ None →
      find (is_connected_manual b.history) (places b.history) ≡ Some hub → IsNext b (disconnect_request hub)

-- it was done, as the plain command that it is
pub record IsNextLetGo (g : Ghosts Token) (by : ℕ) (s t : State) : Type 0 where
  pub asked : Request
  pub next : IsNext s.book asked
  pub done : IsDone g asked by 0 s t

-- nothing is open or held, and no lease is out
pub record IsNothingLeft (b : BookState) : Type 0 where
  pub none_open : open_count b.history ≡ 0
  pub none_held : held_count b.history ≡ 0
  pub none_out : lease_count b.history ≡ 0

-- done; or refused, where there is nothing to let go of
pub record IsClosingMade {A : Type 0} (g : Ghosts Token) (by : ℕ) (s t : State) (answer : Result A Refusal) : Type 0 where
  pub done : OnOk answer (IsNextLetGo g by s t)
  pub refused : IfErr answer (λ why. (why ≡ Gone) × IsNothingLeft s.book)
  pub kept : OnErr answer (t ≡ s)

-- nothing is open or held, no lease is out, and no effect stands in a lane
abbrev pub is_over : State → Bool
is_over s = open_count s.book.history == 0 && held_count s.book.history == 0 && lease_count s.book.history == 0 && waiting s.parts.lanes == 0
