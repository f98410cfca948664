-- What an engine promises holds behind the handing in of a resource.
use Rattle.std.proofs.Common.{◌≡◌, ℕ, ◌<◌, ◌==◌, ◌||◌, ◌⊎◌, inl, inr, Bool, true, false, cond, List, [], ◌∷◌, ◌++◌, length, drop, refl, sym, ap, ◌∙◌, arith, subst, length-append, suc, ◌&&◌, not, IsTrue}
use Rattle.std.proofs.Math.Seq.{drop-length}
use Rattle.std.proofs.lemmas.Bool.{both_ways, cases_order}
use Rattle.std.specs.List.{All}
use Rattle.std.proofs.lemmas.List.{append-nil}
use Rattle.std.proofs.lemmas.Option.{slice_get_past}
use Rattle.rx_resource.specs.contracts.token.TokenResource.TheImpl.{ghosts}
use Rattle.rx_event.specs.declared.event.Event.{Event}
use Rattle.rx_event.specs.declared.event.Event.TheVariants.{Accept}
use Rattle.rx_event.specs.declared.mail.Mail.{Mail}
use Rattle.rx_event.proofs.Laws.Common.{at, is_open, notes, makes_node, is_root, is_merging, IsLawful, IsSettled}
use Rattle.rx_event.proofs.Laws.Counts.{notes-push}
use Rattle.rx_event.proofs.Laws.Openness.{is_open_unchanged}
use Rattle.rx_event.proofs.Laws.Places.{at-append, slice_get_last}
use Rattle.rx_event.specs.Gone.{goes, has_gone}
use Rattle.rx_slots.specs.declared.Key.{Key}
use Rattle.rx_book.specs.State.{State as BookState, is_kept}
use Rattle.rx_book.specs.Answers.{Accepts}
use Rattle.rx_book.proofs.Laws.LastsThroughSteps.{kept_held, kept_past}
use Rattle.rx_lanes.specs.declared.names.LaneName.{LaneName}
use Rattle.rx_roles.specs.declared.roles.Role.{Role}
use Rattle.rx_roles.specs.Roles.{without_all, AreRolesOf, AreBelow}
use Rattle.rx_roles.specs.Effects.{after_all, items_in}
use Rattle.rx_roles.proofs.Laws.RolesTaken.{roles_same, roles_put, roles_end}
use Rattle.rx_roles.proofs.Laws.NodesAfterStep.{first_follows, StepMakes, makes_none_more}
use Rattle.rx_pool.specs.declared.search.PooledHub.{PooledHub}
use Rattle.rx_pool.specs.Moves.{left_all, MayLeaveAll}
use Rattle.rx_pool.specs.Places.{places_left, AreShared}
use Rattle.rx_roles.proofs.Laws.AcceptedAlone.{accepted_alone}
use Rattle.rx_engine.specs.declared.parts.Parts.{Parts}
use Rattle.rx_engine.specs.States.{State, IsTied, hears_in, merges_in}
use Rattle.rx_engine.specs.Closings.{AreWishes, Closes}
use Rattle.rx_engine.proofs.WishesKept.{wishes_same}
use Rattle.rx_engine.specs.Holdings.{held_request, Keeps}
use Rattle.rx_engine.specs.Rooms.{IsReady, HasRoomFor, IsRoomier}
use Rattle.rx_engine.specs.Settlements.{mail_left, all_given, closed_of, effects_told, Settles}
use Rattle.rx_engine.proofs.LanesJoined.{keeps_from}
use Rattle.rx_engine.proofs.RoomGotten.{ready_with, ready_kept}
use Rattle.rx_engine.proofs.TiedAfterCall.{LeavesOpen, freed, same_sort, node_after, none_made, shared_on}

not_both : (b : Bool) → (b && not b) ≡ false
not_both true = refl
not_both false = refl

pub none_listed : (test : ℕ → Bool) (ns : List ℕ) → ((n : ℕ) → test n ≡ false) → All (λ n. IsTrue (test n)) ns → ns ≡ []
none_listed test [] none all = refl
none_listed test (n ∷ ns) none all = absurd (both_ways (test n) (none n) (all 0 n (let w : 0 < suc (length ns) = omega arith in w)))

none_goes : (h : List Event) (node tag n : ℕ) → goes h (h ++ Accept node tag ∷ []) n ≡ false
none_goes h node tag n = by_place (cases_order n (length h)) where
  e : Event
  e = Accept node tag

  by_place : (n ≡ length h) ⊎ ((n < length h) ⊎ (length h < n)) → goes h (h ++ Accept node tag ∷ []) n ≡ false
  by_place (inl same) = rw (same, slice_get_last h (Accept node tag)) refl
  by_place (inr (inl l)) = rw (is_open_unchanged h (Accept node tag) refl refl n, at-append makes_node h (Accept node tag ∷ []) n l) (not_both (has_gone h n))
  by_place (inr (inr g)) = rw (slice_get_past (h ++ Accept node tag ∷ []) n (let l = length-append h (Accept node tag ∷ []) in omega arith)) refl

-- no resource from the next on has a role
pub none_kept_beyond : (h : List Event) (roles : List Role) → AreRolesOf (is_kept h) roles → AreBelow roles (length h)
none_kept_beyond h roles are = roles_end are (length h) (λ n l. kept_past h n l)

pub record IsHolding (s : BookState) (node : Key) (tag : ℕ) (mid : BookState) : Type 0 where
  pub lawful : IsLawful s.base s.history
  pub settled : IsSettled s.base s.history
  pub accepts : Accepts s (held_request ghosts s node tag) mid

module _ {s mid : BookState} {node : Key} {tag : ℕ} (c : IsHolding s node tag mid) where
  grown : mid.history ≡ s.history ++ Accept node.number tag ∷ []
  grown = accepted_alone s.base s.history node.number tag mid.history c.lawful c.settled
      (first_follows s.base s.history (Accept node.number tag) mid.history c.lawful c.accepts.step.lawful c.accepts.step.forced) c.accepts.step.forced

  pub leaves : LeavesOpen s mid
  leaves = record {
    given = c.accepts.given;
    notes_same = ap notes grown ∙ notes-push s.history (Accept node.number tag) ∙ append-nil (notes s.history);
    opens = λ n. ap (λ (k : List Event). is_open k n) grown ∙ is_open_unchanged s.history (Accept node.number tag) refl refl n;
    sorts = λ p n o. ap (λ (k : List Event). at p k n) grown ∙ node_after p s.history (Accept node.number tag ∷ []) n o;
    made = subst (λ (x : List Event). StepMakes s.history x []) (sym grown) (makes_none_more (Accept node.number tag) (omega arith) refl (none_made s.history));
  }

  pub none_left : s.given ≡ length (notes s.history) → mail_left mid ≡ []
  none_left all = ap (λ (n : ℕ). drop n (notes mid.history)) (c.accepts.given ∙ all)
      ∙ ap (drop (length (notes s.history))) leaves.notes_same ∙ drop-length (notes s.history)

  pub held_goes : (n : ℕ) → goes s.history mid.history n ≡ false
  held_goes n = ap (λ (k : List Event). goes s.history k n) grown ∙ none_goes s.history node.number tag n

  pub none_closed : closed_of mid ≡ []
  none_closed = none_listed (goes s.history mid.history) (closed_of mid) held_goes c.accepts.closed.each

  or_cond : (a b : Bool) → (a || b) ≡ cond b true a
  or_cond true true = refl
  or_cond true false = refl
  or_cond false true = refl
  or_cond false false = refl

  pub holds_mid : (holds : List Role) (lane : LaneName) → AreRolesOf (is_kept s.history) holds →
      AreRolesOf (is_kept mid.history) (holds ++ (record { number = length s.history; word = tag; lane = lane }) ∷ [])
  holds_mid holds lane roles = roles_same
      (roles_put (record { number = length s.history; word = tag; lane = lane }) roles (kept_past s.history (length s.history) (omega arith)))
      (λ r. or_cond (is_kept s.history r) (length s.history == r) ∙ sym (kept_held c.lawful c.accepts.step r))

pub tied_held : (s t : State) (node : Key) (tag : ℕ) (lane : LaneName) (mid : BookState) (entered : Parts) (by : ℕ) → IsTied s → IsHolding s.book node tag mid →
    Keeps s.parts (length s.book.history) tag lane entered → Settles ghosts by 0 mid entered t.book t.parts →
    Closes mid s.wishes.roles.list t.wishes → IsReady 0 t.parts → IsTied t
tied_held s t node tag lane mid entered by tied call keeps settles closes ready =
    let held = subst (AreRolesOf (is_kept mid.history)) (sym keeps.holds_is) (holds_mid call s.parts.holds.list lane tied.holds) in
    let f = freed ghosts by (all_given mid) entered.holds.list (effects_told by 0 mid entered) t.book t.parts.holds.list settles.effects held settles.releases
    in
    let hears_same : t.parts.hears.list ≡ s.parts.hears.list =
    settles.hears ∙ (λ i. without_all (after_all entered.hears.list (none_left call tied.given i)) (none_closed call i)) ∙ keeps.hears in
    let merges_same : t.parts.merges.list ≡ s.parts.merges.list = settles.merges ∙ ap (without_all entered.merges.list) (none_closed call) ∙ keeps.merges in
    let homes_same : t.parts.homes.list ≡ s.parts.homes.list = settles.homes ∙ ap (without_all entered.homes.list) (none_closed call) ∙ keeps.homes in
    let shares_same : t.parts.shares.list ≡ s.parts.shares.list = settles.shares ∙ ap (without_all entered.shares.list) (none_closed call) ∙ keeps.shares in
    let hubs_same : t.parts.shares.hubs ≡ s.parts.shares.hubs =
    settles.hubs ∙ ap (λ (ns : List ℕ). left_all (places_left entered.shares.list ns) entered.shares.hubs) (none_closed call) ∙ keeps.hubs in
    record {
      given = f.leaves.given ∙ ap (length {A = Mail}) (sym f.leaves.notes_same);
      none_waits = settles.none_waits;
      homes = subst (AreRolesOf (is_open t.book.history)) (sym homes_same) (roles_same tied.homes (λ n. sym (f.leaves.opens n ∙ (leaves call).opens n)));
      hears = subst (AreRolesOf (hears_in t.book.history)) (sym hears_same)
          (roles_same (roles_same tied.hears (same_sort (leaves call) is_root)) (same_sort f.leaves is_root));
      merges = subst (AreRolesOf (merges_in t.book.history)) (sym merges_same)
          (roles_same (roles_same tied.merges (same_sort (leaves call) is_merging)) (same_sort f.leaves is_merging));
      holds = f.roles;
      shared = subst (λ (rs : List Role). AreShared t.book.history rs t.parts.shares.hubs) (sym shares_same)
          (subst (λ (hs : List PooledHub). AreShared t.book.history s.parts.shares.list hs) (sym hubs_same) (shared_on f.leaves (shared_on (leaves call) tied.shared)));
      ready = ready;
      wishes = subst (AreWishes t.book.history) (sym (closes.roles_are ∙ ap (without_all s.wishes.roles.list) (none_closed call)))
          (wishes_same tied.wishes (λ n o. f.leaves.opens n ∙ (leaves call).opens n ∙ o));
    }

-- one command: the state, the parts with room, with the tag's role, and the book behind the holding
pub record IsKeeping (s : State) (node : Key) (tag : ℕ) (name : LaneName) (p q : Parts) (number : ℕ) (mid : BookState) : Type 0 where
  pub tied : IsTied s
  pub holds : IsHolding s.book node tag mid
  pub roomier : IsRoomier s.parts p
  pub room : HasRoomFor 1 p
  pub number_is : number ≡ length s.book.history
  pub keeps : Keeps p number tag name q
  pub effects : q.effects ≡ p.effects
  pub spare : q.lanes.spare ≡ p.lanes.spare

module _ {s : State} {node : Key} {tag : ℕ} {name : LaneName} {p q : Parts} {number : ℕ} {mid : BookState} (c : IsKeeping s node tag name p q number mid) where
  pub ready_held : IsReady (items_in (mail_left mid)) q
  ready_held = subst (λ (n : ℕ). IsReady n q) (sym (ap items_in (none_left c.holds c.tied.given)))
      (ready_kept 1 0 refl p q number tag name (ready_with 1 s.parts p c.tied.ready c.roomier c.room) c.keeps c.effects c.spare)

  -- nobody leaves a hub
  pub none_leave : MayLeaveAll (places_left q.shares.list (closed_of mid)) q.shares.hubs
  none_leave = subst (λ (ns : List ℕ). MayLeaveAll (places_left q.shares.list ns) q.shares.hubs) (sym (none_closed c.holds)) tt

  pub keeps_first : Keeps s.parts (length s.book.history) tag name q
  keeps_first = keeps_from s.parts p q (length s.book.history) tag name c.roomier.hears c.roomier.merges c.roomier.holds c.roomier.homes c.roomier.shares c.roomier.hubs c.roomier.lanes
      (subst (λ (n : ℕ). Keeps p n tag name q) c.number_is c.keeps)
