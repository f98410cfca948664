-- A hub that was chosen is there, and the node that is made may join it.
use Rattle.std.proofs.Common.{◌≡◌, ℕ, zero, suc, ◌+◌, ◌<◌, Bool, true, false, List, length, Option, Some, None, Ok, refl, sym, ap, ◌∙◌, arith, subst, if◌then◌else◌}
use Rattle.std.proofs.lemmas.Bool.{false≢true}
use Rattle.std.proofs.lemmas.Option.{same_Some}
use Rattle.rx_event.specs.declared.event.Event.{Event}
use Rattle.rx_event.specs.Events.{is_root, is_merging}
use Rattle.rx_event.specs.Tree.{at}
use Rattle.rx_event.proofs.Laws.Common.{slice_get, option_map_or, none-some}
use Rattle.rx_book.specs.State.{State as BookState}
use Rattle.rx_book.specs.Requests.{Request}
use Rattle.rx_book.specs.Answers.{makes_connection, connection_made}
use Rattle.rx_pool.specs.declared.search.PooledHub.{PooledHub}
use Rattle.rx_pool.specs.declared.search.Share.{Share}
use Rattle.rx_pool.specs.Choice.{choice, last_before, passes}
use Rattle.rx_pool.specs.Claims.{MayServe, own, free}
use Rattle.rx_pool.specs.Ties.{IsPlain, MayJoin}
use Rattle.rx_pool.proofs.Laws.Choices.{chooses_admissible}
use Rattle.rx_roles.specs.declared.roles.Role.{Role}
use Rattle.rx_roles.specs.Roles.{AreBelow}
use Rattle.rx_pool.proofs.Laws.JoinsAllowed.{first_may, few_many}
use Rattle.rx_pool.proofs.Laws.SharesAfterStep.{none_placed}
use Rattle.rx_engine.specs.declared.parts.Parts.{Parts}
use Rattle.rx_engine.specs.declared.homes.Home.{Home}
use Rattle.rx_engine.specs.States.{State, IsTied, IsSeenAs}
use Rattle.rx_engine.specs.Rooms.{HasRoomFor, HasRoomToShare, MayConnect, MayShare, IsRoomier}
use Rattle.rx_engine.specs.Settlements.{closed_of}
use Rattle.rx_engine.proofs.LanesGiven.{IsOpenAt}
use Rattle.rx_engine.proofs.RoomGotten.{ready_roomier, still_at}
use Rattle.rx_engine.proofs.TiedAfterCall.{tied_roomier}
use Rattle.rx_engine.specs.Closings.{AreWishes}
use Rattle.rx_engine.proofs.TiedAfterOpening.{IsMakingCall, making, none_beyond, none_housed_beyond}

-- nothing changed
pub seen_itself : (s : State) → IsSeenAs s s
seen_itself s = record {
  book = refl;
  parts = record {
    homes = refl;
    hears = refl;
    merges = refl;
    holds = refl;
    effects = refl;
    shares = refl;
    hubs = refl;
    lanes = record { lanes = λ name. refl; fresh_is = refl; next_turn = refl; due = refl };
    copies = refl;
    room = omega arith;
    spare = omega arith;
  };
  wishes = refl;
  closings = refl;
}

-- and then the tie holds still
pub tied_seen : (s t : State) → IsTied s → IsSeenAs s t → IsTied t
tied_seen s t tied seen =
    let roomier = tied_roomier s t.parts tied seen.parts (ready_roomier s.parts t.parts tied.ready seen.parts) in
    subst (λ (b : BookState). IsTied (record t { book = b })) (sym seen.book)
    (record {
      given = tied.given;
      none_waits = tied.none_waits;
      homes = roomier.homes;
      hears = roomier.hears;
      merges = roomier.merges;
      holds = roomier.holds;
      shared = roomier.shared;
      ready = roomier.ready;
      wishes = subst (AreWishes s.book.history) (sym seen.wishes) tied.wishes;
    })

-- the hub is there
pub chosen_there : (hubs : List PooledHub) (share : Share) (limit place : ℕ) → IsPlain hubs → choice hubs share limit ≡ Ok place → slice_get hubs place ≡ None → ⊥
chosen_there hubs share limit place plain chosen none = by_serves (chooses_admissible hubs share limit place plain.apart chosen).serves where
  by_test : (test : PooledHub → Bool) → passes test hubs place ≡ true → ⊥
  by_test test is = false≢true (sym (ap (λ (o : Option PooledHub). option_map_or test o false) none) ∙ is)

  by_serves : MayServe hubs share place → ⊥
  by_serves (own is) = by_test _ is
  by_serves (free is unserved) = by_test _ is

-- what a search finds is there
pub found_there : (test : PooledHub → Bool) (hubs : List PooledHub) (end place : ℕ) → last_before test hubs end ≡ Some place → slice_get hubs place ≡ None → ⊥
found_there test hubs zero place is none = none-some place is
found_there test hubs (suc end) place is none = by_test (passes test hubs end) refl is (λ rest. found_there test hubs end place rest none) where
  by_test : (b : Bool) → passes test hubs end ≡ b → (if b then Some end else last_before test hubs end) ≡ Some place → (last_before test hubs end ≡ Some place → ⊥) → ⊥
  by_test true yes_there found rest =
      false≢true (sym (ap (λ (o : Option PooledHub). option_map_or test o false) (ap (slice_get hubs) (same_Some end place found) ∙ none)) ∙ yes_there)
  by_test false other found rest = rest found

-- the connection comes later than the node
pub later_second : (h k : List Event) (o : Option ℕ) (n m : ℕ) → o ≡ connection_made h k → n ≡ length h → o ≡ Some m → n < m
later_second h k o n m made here is = by_test (at makes_connection k (length h + 1)) refl where
  by_test : (b : Bool) → at makes_connection k (length h + 1) ≡ b → n < m
  by_test true there =
      let same : length h + 1 ≡ m = same_Some (length h + 1) m (sym (ap (λ (b : Bool). if b then Some (length h + 1) else None) there) ∙ sym made ∙ is) in
      omega (arith, same, here)
  by_test false none = absurd (none-some m (sym (ap (λ (b : Bool). if b then Some (length h + 1) else None) none) ∙ sym made ∙ is))

-- a hub was chosen, there is room, and the book made the node
pub record IsReserved (s : State) (asked : Request) (e : Event) (mid : BookState) (share : Share) (limit place : ℕ) (p : Parts) : Type 0 where
  pub tied : IsTied s
  pub plain : IsPlain s.parts.shares.hubs
  pub chosen : choice s.parts.shares.hubs share limit ≡ Ok place
  pub call : IsMakingCall s.book asked e mid (closed_of mid)
  pub roomier : IsRoomier s.parts p
  pub room : HasRoomFor 4 p
  pub shares : HasRoomToShare p

module _ {s : State} {asked : Request} {e : Event} {mid : BookState} {share : Share} {limit place : ℕ} {p : Parts} (c : IsReserved s asked e mid share limit place p) where
  below : (rs rs' : List Role) → rs' ≡ rs → AreBelow rs (length s.book.history) → (n : ℕ) → n ≡ length s.book.history → AreBelow rs' n
  below rs rs' same is n here = subst (AreBelow rs') (sym here) (subst (λ (xs : List Role). AreBelow xs (length s.book.history)) (sym same) is)

  may_join : MayJoin p.shares.hubs place share.word
  may_join = subst (λ (hs : List PooledHub). MayJoin hs place share.word) (sym c.roomier.hubs)
      (first_may s.book.base s.book.history e s.parts.shares.hubs share limit place (c.call).promised.settled (making c.call).next (c.call).node (c.tied).shared.pool c.plain c.chosen)

  pub may_share : (number : ℕ) (second : Option ℕ) (home : Home) → IsOpenAt s.parts.lanes home.lane → number ≡ length s.book.history →
      second ≡ connection_made s.book.history mid.history → MayShare p number second home place share.word
  may_share number second home there here made = record {
    room = c.shares;
    homes = below s.parts.homes.list p.homes.list c.roomier.homes (none_housed_beyond s.book.history s.parts.homes.list c.tied.homes) number here;
    hears = below s.parts.hears.list p.hears.list c.roomier.hears (none_beyond is_root s.book.history s.parts.hears.list c.tied.hears) number here;
    merges = below s.parts.merges.list p.merges.list c.roomier.merges (none_beyond is_merging s.book.history s.parts.merges.list c.tied.merges) number here;
    shares = below s.parts.shares.list p.shares.list c.roomier.shares (none_placed c.tied.shared) number here;
    later = λ k is. later_second s.book.history mid.history second number k made here is;
    there = still_at s.parts p c.roomier home.lane there;
    many = (ready_roomier s.parts p c.tied.ready c.roomier).many;
    few = let has = c.room in let few = has.few in omega (arith, few);
    may = may_join;
    few_many = λ hub at_place. few_many s.book.base s.book.history e s.parts.shares.hubs (c.call).promised.settled (making c.call).next (c.call).node (c.tied).shared.pool place hub
        (ap (λ (hs : List PooledHub). slice_get hs place) (sym c.roomier.hubs) ∙ at_place);
  }

  pub may_connect : (number : ℕ) → number ≡ length s.book.history → MayConnect p number place share.word
  may_connect number here = record {
    homes_room = let r = c.shares.homes in omega (arith, r);
    lanes_room = let r = c.shares.lanes in omega (arith, r);
    shares_room = let r = c.shares.shares in omega (arith, r);
    homes = below s.parts.homes.list p.homes.list c.roomier.homes (none_housed_beyond s.book.history s.parts.homes.list c.tied.homes) number here;
    shares = below s.parts.shares.list p.shares.list c.roomier.shares (none_placed c.tied.shared) number here;
    may = may_join;
  }
