-- What an engine promises holds behind the making of a hub of the pool.
use Rattle.std.proofs.Common.{◌≡◌, ℕ, ◌+◌, ◌&&◌, ◌⊎◌, inl, inr, not, Bool, true, false, List, [], ◌∷◌, ◌++◌, length, refl, sym, ap, ◌∙◌, arith, subst, length-append}
use Rattle.rx_resource.specs.declared.Resource.{Ghosts}
use Rattle.rx_resource.specs.declared.token.Token.{Token}
use Rattle.rx_event.specs.declared.event.Event.{Event}
use Rattle.rx_event.specs.declared.event.Event.TheVariants.{Hub}
use Rattle.rx_event.specs.declared.event.Mode.{Mode}
use Rattle.rx_event.specs.Gone.{goes}
use Rattle.rx_event.proofs.Laws.Common.{is_open}
use Rattle.rx_event.proofs.Laws.Calm.{closes_none_kept}
use Rattle.rx_event.proofs.Laws.Openness.{is_open_unchanged}
use Rattle.rx_book.specs.State.{State as BookState, IsPromised as IsBookPromised}
use Rattle.rx_book.specs.Requests.{hub_request}
use Rattle.rx_book.specs.Answers.{Accepts, IsCauseOrWant}
use Rattle.rx_pool.specs.declared.search.PooledHub.{PooledHub}
use Rattle.rx_pool.specs.Pool.{new_hub}
use Rattle.rx_pool.specs.Moves.{left_all, MayLeaveAll}
use Rattle.rx_roles.specs.declared.roles.Role.{Role}
use Rattle.rx_roles.specs.Roles.{without_all}
use Rattle.rx_roles.specs.Effects.{items_in}
use Rattle.rx_pool.specs.Places.{places_left, AreShared}
use Rattle.rx_pool.proofs.Laws.SharesAfterStep.{shares_added, length_left}
use Rattle.rx_roles.proofs.Laws.NodesAfterStep.{first_follows, forces_none}
use Rattle.rx_roles.proofs.Laws.NodesGone.{goes_is}
use Rattle.rx_engine.specs.declared.parts.Parts.{Parts}
use Rattle.rx_engine.specs.States.{State, IsTied, IsSeenAs}
use Rattle.rx_engine.specs.Rooms.{IsReady}
use Rattle.rx_engine.specs.Settlements.{mail_left, closed_of, Settles}
use Rattle.rx_engine.specs.Closings.{Closes}
use Rattle.rx_event.specs.declared.refusal.Refusal.{Refusal}
use Rattle.rx_event.specs.declared.refusal.Refusal.TheVariants.{NoMemory}
use Rattle.rx_engine.specs.Hubs.{AddsHub, mode_at}
use Rattle.rx_engine.specs.Plain.{publishes}
use Rattle.rx_engine.proofs.PlainCommands.{ready_for}
use Rattle.rx_engine.proofs.TiedAfterCall.{homes_mid, hears_mid, merges_mid, holds_mid, wishes_mid, IsBehind, tied_settled}
use Rattle.rx_engine.proofs.Laws.PlainCalls.{IsPlainCall, tells}
use Rattle.rx_engine.proofs.TiedAfterHolding.{none_listed}

-- the book made a hub, and the pool has it
pub record IsAdding (s : State) (mode : Mode) (mid : BookState) (q : Parts) : Type 0 where
  pub tied : IsTied s
  pub promised : IsBookPromised s.book
  pub accepts : Accepts s.book (hub_request mode) mid
  pub adds : AddsHub s.parts (length s.book.history) mode q

module _ {s : State} {mode : Mode} {mid : BookState} {q : Parts} (c : IsAdding s mode mid q) where
  call : IsPlainCall s.book (hub_request mode) (Hub mode) mid
  call = record { promised = c.promised; accepts = c.accepts; one = refl; plain = refl; unheld = refl; keeps = refl }

  grown : mid.history ≡ s.book.history ++ Hub mode ∷ []
  grown = forces_none s.book.base (c.promised).lawful (c.promised).settled
      (first_follows s.book.base s.book.history (Hub mode) mid.history (c.promised).lawful (c.accepts).step.lawful (c.accepts).step.forced) refl (λ u. refl)
      (closes_none_kept s.book.history (Hub mode) refl) refl (c.accepts).step.forced

  opens : (n : ℕ) → is_open mid.history n ≡ is_open s.book.history n
  opens n = ap (λ (k : List Event). is_open k n) grown ∙ is_open_unchanged s.book.history (Hub mode) refl refl n

  both : (b : Bool) → (b && not b) ≡ false
  both true = refl
  both false = refl

  none_closed : closed_of mid ≡ []
  none_closed = none_listed (goes s.book.history mid.history) (closed_of mid)
      (λ n. goes_is (tells call).makes n ∙ ap (λ (b : Bool). is_open s.book.history n && not b) (opens n) ∙ both (is_open s.book.history n)) (c.accepts).closed.each

  pub leave_added : MayLeaveAll (places_left q.shares.list (closed_of mid)) q.shares.hubs
  leave_added = subst (λ (ns : List ℕ). MayLeaveAll (places_left q.shares.list ns) q.shares.hubs) (sym none_closed) tt

  pub ready_added : IsReady (items_in (mail_left mid)) q
  ready_added = let ready = ready_for s _ mid (publishes mode) refl c.promised c.tied c.accepts in
      subst (λ (p : Parts). IsReady (items_in (mail_left mid)) p) (sym (c.adds).only)
      (record { empty = ready.empty; many = ready.many; room = ready.room; spare = ready.spare })

  shared_more : AreShared mid.history q.shares.list q.shares.hubs
  shared_more =
      subst (λ (k : List Event). AreShared k q.shares.list q.shares.hubs) (sym grown)
      (subst (λ (rs : List Role). AreShared (s.book.history ++ Hub mode ∷ []) rs q.shares.hubs) (sym (c.adds).list)
      (subst (λ (hs : List PooledHub). AreShared (s.book.history ++ Hub mode ∷ []) s.parts.shares.list hs) (sym (c.adds).hubs)
      (shares_added mode (c.promised).lawful (c.tied).shared)))

  behind_added : IsBehind mid (record s.parts { shares = q.shares }) s.wishes.roles.list
  behind_added = record {
    homes = homes_mid call (c.tied).homes;
    hears = hears_mid call (c.tied).given (c.tied).hears;
    merges = merges_mid call (c.tied).merges;
    holds = holds_mid call (c.tied).holds;
    shared = subst (λ (ns : List ℕ). AreShared mid.history (without_all q.shares.list ns) (left_all (places_left q.shares.list ns) q.shares.hubs)) (sym none_closed) shared_more;
    wishes = wishes_mid call (c.tied).wishes;
  }

  pub tied_added : (g : Ghosts Token) (t : State) (by : ℕ) → Settles g by 0 mid q t.book t.parts → Closes mid s.wishes.roles.list t.wishes → IsReady 0 t.parts → IsTied t
  tied_added g t by settles closes ready =
      tied_settled g mid q s.wishes.roles.list t by 0 (subst (λ (p : Parts). IsBehind mid p s.wishes.roles.list) (sym (c.adds).only) behind_added) settles closes ready

-- so the pool has one more
pub one_longer : (g : Ghosts Token) (by value : ℕ) (mid : BookState) (p q : Parts) (number : ℕ) (mode : Mode) (t : State) → AddsHub p number mode q →
    Settles g by value mid q t.book t.parts → length t.parts.shares.hubs ≡ length p.shares.hubs + 1
one_longer g by value mid p q number mode t adds settles =
    let all = ap (length {A = PooledHub}) settles.hubs in
    let left = length_left (places_left q.shares.list (closed_of mid)) q.shares.hubs in
    let added = ap (length {A = PooledHub}) adds.hubs in
    let one = length-append p.shares.hubs (new_hub number mode ∷ []) in
    omega (arith, all, left, added, one)

-- what refused one stands still
pub refused_still : (s t : State) (mode : Mode) (why : Refusal) → IsSeenAs s t → mode ≡ mode_at (length s.parts.shares.hubs) →
    (why ≡ NoMemory) ⊎ IsCauseOrWant s.book (hub_request mode) why →
    (why ≡ NoMemory) ⊎ IsCauseOrWant t.book (hub_request (mode_at (length t.parts.shares.hubs))) why
refused_still s t mode why seen same (inl want) = inl want
refused_still s t mode why seen same (inr cause) = inr
    (subst (λ (b : BookState). IsCauseOrWant b (hub_request (mode_at (length t.parts.shares.hubs))) why) (sym seen.book)
    (subst (λ (m : Mode). IsCauseOrWant s.book (hub_request m) why) (same ∙ ap (λ (hs : List PooledHub). mode_at (length hs)) (sym seen.parts.hubs)) cause))
