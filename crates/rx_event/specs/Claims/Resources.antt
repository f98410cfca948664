-- What is promised of resources.
use Rattle.std.specs.Prelude.{◌≡◌, ◌+◌, ◌<◌, ◌≤◌, ◌==◌, ◌&&◌, ◌||◌, ◌∷◌, ◌++◌, if◌then◌else◌}
use Rattle.rx_event.specs.Claims.Imports.{ℕ, false, Some, List, [], length, slice_get, IsTrue}
use Rattle.rx_event.specs.Claims.Imports.{not, Terminal, Event, Accept, Remove, Lease, Return, End, Close, Kept, makes_resource, makes_lease, is_remove_of}
use Rattle.rx_event.specs.Claims.Imports.{is_lease_of, is_return, is_return_of, is_take_of, at, is_within, is_open, is_owned, is_out, leases_of, is_leased}
use Rattle.rx_event.specs.Claims.Imports.{is_held, is_taken, is_waiting, open_count, accepted_count, owned_count, held_count, lease_count, waiting_count}
use Rattle.rx_event.specs.Claims.Imports.{taken_count, MayFollow, IsLawful}

-- each resource is held, waits, or was taken, and only one of these
pub record EachInOnePlace (base : Kept) : Type 0 where
  pub one : (h : List Event) → IsLawful base h → (r : ℕ) →
      (if is_held h r then 1 else 0) + (if is_waiting h r then 1 else 0) + (if is_taken h r then 1 else 0) ≡ (if at makes_resource h r then 1 else 0)
  pub all : (h : List Event) → IsLawful base h → accepted_count base h ≡ held_count h + waiting_count h + taken_count base h

-- a lease that is out keeps its resource: that is held, and neither waits nor was taken
pub record LeasedIsHeld (base : Kept) : Type 0 where
  pub leased : (h : List Event) → IsLawful base h → (l r : ℕ) → slice_get h l ≡ Some (Lease r) → IsTrue (is_out h l) →
      IsTrue (is_leased h r)
  pub held : (h : List Event) → IsLawful base h → (l r : ℕ) → slice_get h l ≡ Some (Lease r) → IsTrue (is_out h l) →
      IsTrue (is_held h r)
  pub waits_not : (h : List Event) → IsLawful base h → (l r : ℕ) → slice_get h l ≡ Some (Lease r) → IsTrue (is_out h l) →
      is_waiting h r ≡ false
  pub untaken : (h : List Event) → IsLawful base h → (l r : ℕ) → slice_get h l ≡ Some (Lease r) → IsTrue (is_out h l) →
      is_taken h r ≡ false
  -- it is a lease of a resource that was accepted before it
  pub older : (h : List Event) → IsLawful base h → (l r : ℕ) → slice_get h l ≡ Some (Lease r) → r < l
  pub accepted : (h : List Event) → IsLawful base h → (l r : ℕ) → slice_get h l ≡ Some (Lease r) → IsTrue (at makes_resource h r)

-- where no node is open nothing is owned, where no lease is out either nothing is held, and where nothing waits either all that was
-- accepted was handed out
pub record AllReleased (base : Kept) : Type 0 where
  pub owned : (h : List Event) → open_count h ≡ 0 → owned_count h ≡ 0
  pub held : (h : List Event) → open_count h ≡ 0 → lease_count h ≡ 0 → held_count h ≡ 0
  pub taken : (h : List Event) → IsLawful base h → open_count h ≡ 0 → lease_count h ≡ 0 → waiting_count h ≡ 0 →
      taken_count base h ≡ accepted_count base h

-- where each resource is after one more event
pub record ResourceChanges (base : Kept) : Type 0 where
  -- an owned one stays owned as long as its node is open, unless it is removed
  pub owned : (h : List Event) (e : Event) → IsLawful base h → (r n tag : ℕ) → slice_get h r ≡ Some (Accept n tag) →
      is_owned (h ++ e ∷ []) r ≡ (is_owned h r && is_open (h ++ e ∷ []) n && not (is_remove_of r e))
  -- a lease is out until it is returned, and there are as many of a resource
  pub out : (h : List Event) (e : Event) (l : ℕ) → l < length h → is_out (h ++ e ∷ []) l ≡ (is_out h l && not (is_return_of l e))
  pub new_out : (h : List Event) (e : Event) → IsLawful base h → is_out (h ++ e ∷ []) (length h) ≡ makes_lease e
  pub leases : (h : List Event) (e : Event) → IsLawful base h → is_return e ≡ false → (r : ℕ) →
      leases_of (h ++ e ∷ []) r ≡ leases_of h r + (if is_lease_of r e then 1 else 0)
  pub returned : (h : List Event) (l q : ℕ) → IsLawful base h → MayFollow base h (Return l) → slice_get h l ≡ Some (Lease q) → (r : ℕ) →
      leases_of (h ++ Return l ∷ []) r + (if q == r then 1 else 0) ≡ leases_of h r
  -- what its node does not own is leased no more
  pub unleased : (h : List Event) (e : Event) → IsLawful base h → MayFollow base h e → (r : ℕ) → is_owned h r ≡ false →
      leases_of (h ++ e ∷ []) r ≤ leases_of h r
  -- nothing but an acceptance makes a resource held that was not
  pub held : (h : List Event) (e : Event) → IsLawful base h → MayFollow base h e → (r : ℕ) → r < length h →
      IsTrue (is_held (h ++ e ∷ []) r) → IsTrue (is_held h r)
  -- what is held no longer waits, until it is taken
  pub waiting : (h : List Event) (e : Event) → IsLawful base h → MayFollow base h e → (r : ℕ) → r < length h →
      is_waiting (h ++ e ∷ []) r ≡ ((is_waiting h r || (is_held h r && not (is_held (h ++ e ∷ []) r))) && not (is_take_of r e))
  pub taken : (h : List Event) (e : Event) (r : ℕ) → r < length h →
      is_taken (h ++ e ∷ []) r ≡ (is_taken h r || (at makes_resource h r && is_take_of r e))
  -- a new one is owned, so held
  pub new_owned : (h : List Event) (e : Event) → IsLawful base h → MayFollow base h e →
      is_owned (h ++ e ∷ []) (length h) ≡ makes_resource e
  pub new_held : (h : List Event) (e : Event) → IsLawful base h → MayFollow base h e →
      is_held (h ++ e ∷ []) (length h) ≡ makes_resource e
  pub new_waiting : (h : List Event) (e : Event) → IsLawful base h → MayFollow base h e →
      is_waiting (h ++ e ∷ []) (length h) ≡ false
  pub new_taken : (h : List Event) (e : Event) → IsLawful base h → is_taken (h ++ e ∷ []) (length h) ≡ false
  -- after an end and a closing, just what was owned there and below goes over: to waiting, or to its leases
  pub left_by_end : (h : List Event) (c : ℕ) (t : Terminal) → IsLawful base h → (r n tag : ℕ) →
      slice_get h r ≡ Some (Accept n tag) → is_owned (h ++ End c t ∷ []) r ≡ (is_owned h r && not (is_within h c n))
  pub wait_after_end : (h : List Event) (c : ℕ) (t : Terminal) → IsLawful base h → (r n tag : ℕ) →
      slice_get h r ≡ Some (Accept n tag) →
      is_waiting (h ++ End c t ∷ []) r ≡ (is_waiting h r || (is_owned h r && is_within h c n && not (is_leased h r)))
  pub left_by_close : (h : List Event) (c : ℕ) → IsLawful base h → (r n tag : ℕ) → slice_get h r ≡ Some (Accept n tag) →
      is_owned (h ++ Close c ∷ []) r ≡ (is_owned h r && not (is_within h c n))
  pub wait_after_close : (h : List Event) (c : ℕ) → IsLawful base h → (r n tag : ℕ) → slice_get h r ≡ Some (Accept n tag) →
      is_waiting (h ++ Close c ∷ []) r ≡ (is_waiting h r || (is_owned h r && is_within h c n && not (is_leased h r)))
  -- so after a removal what has no lease out
  pub wait_after_removal : (h : List Event) (q : ℕ) → IsLawful base h → (r : ℕ) → r < length h →
      is_waiting (h ++ Remove q ∷ []) r ≡ (is_waiting h r || (is_owned h r && q == r && not (is_leased h r)))
  -- and after a return what was not owned, if that was its last lease
  pub wait_after_return : (h : List Event) (l q : ℕ) → IsLawful base h → MayFollow base h (Return l) → slice_get h l ≡ Some (Lease q) →
      (r : ℕ) → is_waiting (h ++ Return l ∷ []) r ≡ (is_waiting h r || (q == r && not (is_owned h r) && leases_of h r == 1))
