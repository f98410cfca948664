-- What an engine promises holds behind an opening at any place, of a node that names no hub.
use Rattle.std.proofs.Common.{◌≡◌, ℕ, ◌+◌, ◌&&◌, Bool, true, false, List, [], ◌∷◌, ◌++◌, length, drop, refl, sym, ap, ◌∙◌, subst}
use Rattle.std.proofs.Math.Seq.{drop-length}
use Rattle.std.proofs.lemmas.Bool.{false≢true, eq-eqb}
use Rattle.std.proofs.lemmas.List.{append-nil}
use Rattle.rx_resource.specs.declared.Resource.{Ghosts}
use Rattle.rx_resource.specs.declared.token.Token.{Token}
use Rattle.rx_event.specs.declared.event.Event.{Event}
use Rattle.rx_event.specs.declared.event.Event.TheVariants.{Open, Connect}
use Rattle.rx_event.specs.declared.event.Kind.{Kind}
use Rattle.rx_event.specs.declared.event.Kind.TheVariants.{Leaf, Pass, Flat, Switch, Until, Sub}
use Rattle.rx_event.specs.Events.{is_connect}
use Rattle.rx_event.specs.Calls.{outside_of}
use Rattle.rx_event.specs.Gone.{goes, AreJust}
use Rattle.rx_event.proofs.Laws.Common.{at, is_open, notes, makes_node, is_root, is_merging, IsForcedOn, and_true, if◌then◌else◌}
use Rattle.rx_event.proofs.Laws.Openness.{is_open_past}
use Rattle.rx_book.specs.declared.answer.At.{At}
use Rattle.rx_book.specs.State.{State as BookState, IsPromised as IsBookPromised, is_kept}
use Rattle.rx_book.specs.Requests.{Request, open_request, connect_request, place_of}
use Rattle.rx_book.specs.Answers.{Accepts}
use Rattle.rx_book.proofs.Laws.LastsThroughSteps.{keeps_resources, kept_same}
use Rattle.rx_lanes.specs.declared.names.LaneName.{LaneName}
use Rattle.rx_pool.specs.declared.search.PooledHub.{PooledHub}
use Rattle.rx_pool.specs.Moves.{left_all, MayLeaveAll}
use Rattle.rx_roles.specs.declared.roles.Role.{Role}
use Rattle.rx_roles.specs.Roles.{is_among, without_all, AreRolesOf, AreBelow}
use Rattle.rx_roles.specs.Effects.{after_all, items_in}
use Rattle.rx_roles.proofs.Laws.RolesTaken.{roles_same, roles_end}
use Rattle.rx_pool.specs.Places.{places_left, names_hub, AreShared}
use Rattle.rx_pool.proofs.Laws.SharesAfterStep.{IsShareStep, shares_opened, joins_none, none_second, shared_after, may_leave}
use Rattle.rx_roles.proofs.Laws.NodesAfterStep.{first_follows}
use Rattle.rx_roles.proofs.Laws.NodesMade.{IsMaking, made_by, made_silent, step_makes}
use Rattle.rx_roles.proofs.Laws.NotesOfStep.{of_sort}
use Rattle.rx_roles.proofs.Laws.RolesAfterStep.{are_closed, roles_opened, roles_made}
use Rattle.rx_engine.specs.declared.parts.Parts.{Parts}
use Rattle.rx_engine.specs.declared.parts.User.{User}
use Rattle.rx_engine.specs.declared.homes.Home.{Home}
use Rattle.rx_engine.specs.States.{State, IsTied, hears_in, merges_in}
use Rattle.rx_engine.specs.Closings.{with_wish, AreWishes, Closes}
use Rattle.rx_engine.specs.Openings.{connects_none, Enters}
use Rattle.rx_engine.specs.Rooms.{role_if, IsReady, HasRoomFor, IsRoomier}
use Rattle.rx_engine.specs.Settlements.{mail_left, closed_of, Settles}
use Rattle.rx_engine.proofs.RoomGotten.{ready_with, ready_entered}
use Rattle.rx_engine.proofs.LanesGiven.{enters_from}
use Rattle.rx_engine.proofs.TiedAfterCall.{node_sort, tied_settled}
use Rattle.rx_engine.proofs.WishesKept.{wishes_made}

-- such a node names no hub
pub names_none : (place : At) (kind : Kind) → connects_none kind ≡ true → names_hub (Open (place_of place) kind) ≡ false
names_none place Leaf is = refl
names_none place Pass is = refl
names_none place Flat is = refl
names_none place Switch is = refl
names_none place Until is = refl
names_none place (Sub g) is = absurd (false≢true is)

-- no node from the next on has a role
pub none_beyond : (p : Event → Bool) (h : List Event) (roles : List Role) → AreRolesOf (of_sort p h) roles → AreBelow roles (length h)
none_beyond p h roles are = roles_end are (length h) (λ n l. ap (λ (b : Bool). b && at p h n) (is_open_past h n l))

-- no open node has a number from the next on
pub none_housed_beyond : (h : List Event) (homes : List Role) → AreRolesOf (is_open h) homes → AreBelow homes (length h)
none_housed_beyond h homes are = roles_end are (length h) (λ n l. is_open_past h n l)

-- the book accepted a call by one event of a caller that makes a node, and these are all that have gone since
pub record IsMakingCall (s : BookState) (asked : Request) (e : Event) (mid : BookState) (closed : List ℕ) : Type 0 where
  pub promised : IsBookPromised s
  pub accepts : Accepts s asked mid
  pub one : outside_of s.history asked.call ≡ e ∷ []
  pub node : makes_node e ≡ true
  pub keeps : keeps_resources asked.call ≡ true
  pub gone : AreJust (goes s.history mid.history) closed

-- an opening is such a call
abbrev pub IsOpening : BookState → At → Kind → BookState → List ℕ → Type 0
IsOpening s place kind mid closed = IsMakingCall s (open_request s place kind) (Open (place_of place) kind) mid closed

pub is_opening : (s : BookState) (place : At) (kind : Kind) (mid : BookState) (closed : List ℕ) → IsBookPromised s → Accepts s (open_request s place kind) mid →
    AreJust (goes s.history mid.history) closed → IsOpening s place kind mid closed
is_opening s place kind mid closed promised accepts gone =
    record { promised = promised; accepts = accepts; one = refl; node = refl; keeps = refl; gone = gone }

-- a connection by hand is another
pub is_connecting : (s : BookState) (hub : ℕ) (mid : BookState) (closed : List ℕ) → IsBookPromised s → Accepts s (connect_request hub) mid →
    AreJust (goes s.history mid.history) closed → IsMakingCall s (connect_request hub) (Connect hub) mid closed
is_connecting s hub mid closed promised accepts gone =
    record { promised = promised; accepts = accepts; one = refl; node = refl; keeps = refl; gone = gone }

module _ {s mid : BookState} {asked : Request} {e : Event} {closed : List ℕ} (c : IsMakingCall s asked e mid closed) where
  steps : IsForcedOn s.base (s.history ++ e ∷ []) mid.history
  steps = subst (λ (es : List Event). IsForcedOn s.base (s.history ++ es) mid.history) c.one c.accepts.step.forced

  pub making : IsMaking s.base s.history e mid.history
  making = record {
    law = c.promised.lawful;
    rests = c.promised.settled;
    next = first_follows s.base s.history e mid.history c.promised.lawful c.accepts.step.lawful steps;
    node = c.node;
    steps = steps;
    settled = c.accepts.step.settled;
  }

  pub none_left : s.given ≡ length (notes s.history) → mail_left mid ≡ []
  none_left all = ap (λ (n : ℕ). drop n (notes mid.history)) (c.accepts.given ∙ all) ∙ ap (drop (length (notes s.history))) (made_silent making) ∙
      drop-length (notes s.history)

  -- a table of a sort that no connection is of
  pub table_mid : (p : Event → Bool) → ((g : ℕ) → p (Connect g) ≡ false) → (roles : List Role) (r : Role) → r.number ≡ length s.history →
      AreRolesOf (of_sort p s.history) roles → AreRolesOf (of_sort p mid.history) (without_all (roles ++ role_if (p e) r) closed)
  table_mid p never roles r here are = roles_opened making c.gone p are never r here

  -- the homes, with that of the node and that of the connection
  pub homes_both : (homes : List Role) (r x : Role) → r.number ≡ length s.history → x.number ≡ length s.history + 1 → AreRolesOf (is_open s.history) homes →
      AreRolesOf (is_open mid.history) (without_all ((homes ++ r ∷ []) ++ role_if (at is_connect mid.history (length s.history + 1)) x) closed)
  homes_both homes r x here second are =
      subst (λ (rs : List Role). AreRolesOf (is_open mid.history) (without_all rs closed))
      (λ i. (homes ++ (if c.node i then r ∷ [] else [])) ++ role_if (and_true (at is_connect mid.history (length s.history + 1)) i) x)
      (roles_same (roles_made making c.gone makes_node (roles_same are (λ n. sym (node_sort s.history n))) true (λ g. refl) r x here second) (node_sort mid.history))

  pub wishes_mid : {ws : List Role} (user : User) → AreWishes s.history ws → AreWishes mid.history (without_all (with_wish ws (length s.history) user) closed)
  wishes_mid user wishes = wishes_made user ((step_makes making).opens (length s.history) own) (are_closed (step_makes making) c.gone) wishes where
    own : is_among (length s.history) (made_by s.history mid.history) ≡ true
    own = rw (eq-eqb (length s.history) (length s.history) refl) refl

  pub holds_mid : {holds : List Role} → AreRolesOf (is_kept s.history) holds → AreRolesOf (is_kept mid.history) holds
  holds_mid are = roles_same are (λ r. sym (kept_same asked.call c.accepts.step c.keeps r))

  -- where it names no hub
  module _ (plain : names_hub e ≡ false) where
    pub homes_mid : (homes : List Role) (r : Role) → r.number ≡ length s.history → AreRolesOf (is_open s.history) homes →
        AreRolesOf (is_open mid.history) (without_all (homes ++ r ∷ []) closed)
    homes_mid homes r here are =
        subst (λ (rs : List Role). AreRolesOf (is_open mid.history) (without_all rs closed))
        (ap (λ (b : Bool). (homes ++ r ∷ []) ++ role_if b (record r { number = length s.history + 1 })) (none_second making plain) ∙ append-nil (homes ++ r ∷ []))
        (homes_both homes r (record r { number = length s.history + 1 }) here refl are)

    share_step : {list : List Role} {hubs : List PooledHub} → AreShared s.history list hubs → IsShareStep s.history mid.history (length s.history ∷ []) closed list hubs
    share_step shared = shares_opened making plain c.gone shared

    pub shared_mid : {list : List Role} {hubs : List PooledHub} → AreShared s.history list hubs →
        AreShared mid.history (without_all list closed) (left_all (places_left list closed) hubs)
    shared_mid {list} {hubs} shared =
        subst (λ (hs : List PooledHub). AreShared mid.history (without_all list closed) (left_all (places_left list closed) hs))
        (joins_none making plain 0 shared) (shared_after (share_step shared) 0)

    pub leave_mid : {list : List Role} {hubs : List PooledHub} → AreShared s.history list hubs → MayLeaveAll (places_left list closed) hubs
    leave_mid {list} {hubs} shared =
        subst (λ (hs : List PooledHub). MayLeaveAll (places_left list closed) hs) (joins_none making plain 0 shared) (may_leave (share_step shared) 0)

-- a table of shares that is another's
pub shared_as : {h : List Event} (closed : List ℕ) (p q : Parts) → q.shares.list ≡ p.shares.list → q.shares.hubs ≡ p.shares.hubs →
    AreShared h (without_all p.shares.list closed) (left_all (places_left p.shares.list closed) p.shares.hubs) →
    AreShared h (without_all q.shares.list closed) (left_all (places_left q.shares.list closed) q.shares.hubs)
shared_as {h} closed p q list hubs shared =
    subst (λ (rs : List Role). AreShared h (without_all rs closed) (left_all (places_left rs closed) q.shares.hubs)) (sym list)
    (subst (λ (hs : List PooledHub). AreShared h (without_all p.shares.list closed) (left_all (places_left p.shares.list closed) hs)) (sym hubs) shared)

pub leave_as : (closed : List ℕ) (p q : Parts) → q.shares.list ≡ p.shares.list → q.shares.hubs ≡ p.shares.hubs → MayLeaveAll (places_left p.shares.list closed) p.shares.hubs →
    MayLeaveAll (places_left q.shares.list closed) q.shares.hubs
leave_as closed p q list hubs may =
    subst (λ (rs : List Role). MayLeaveAll (places_left rs closed) q.shares.hubs) (sym list)
    (subst (λ (hs : List PooledHub). MayLeaveAll (places_left p.shares.list closed) hs) (sym hubs) may)

pub tied_opened : (g : Ghosts Token) (s t : State) (place : At) (kind : Kind) (user : User) (home : Home) (name : LaneName) (mid : BookState) (entered : Parts) (by : ℕ) → IsTied s →
    IsOpening s.book place kind mid (closed_of mid) → connects_none kind ≡ true →
    Enters s.parts (length s.book.history) (is_root (Open (place_of place) kind)) (is_merging (Open (place_of place) kind)) user.word home name entered →
    Settles g by 0 mid entered t.book t.parts → Closes mid (with_wish s.wishes.roles.list (length s.book.history) user) t.wishes →
    IsReady 0 t.parts → IsTied t
tied_opened g s t place kind user home name mid entered by tied call alone enters settles closes ready =
    tied_settled g mid entered (with_wish s.wishes.roles.list (length s.book.history) user) t by 0
    (record {
      homes = subst (λ (rs : List Role). AreRolesOf (is_open mid.history) (without_all rs (closed_of mid))) (sym enters.homes_is)
          (homes_mid call (names_none place kind alone) s.parts.homes.list _ refl tied.homes);
      hears = subst (λ (rs : List Role). AreRolesOf (hears_in mid.history) (without_all rs (closed_of mid)))
          (sym ((λ i. after_all entered.hears.list (none_left call tied.given i)) ∙ enters.hears_is.list))
          (table_mid call is_root (λ g. refl) s.parts.hears.list _ refl tied.hears);
      merges = subst (λ (rs : List Role). AreRolesOf (merges_in mid.history) (without_all rs (closed_of mid))) (sym enters.merges_is.list)
          (table_mid call is_merging (λ g. refl) s.parts.merges.list _ refl tied.merges);
      holds = subst (AreRolesOf (is_kept mid.history)) (sym enters.holds) (holds_mid call tied.holds);
      shared = shared_as (closed_of mid) s.parts entered enters.shares enters.hubs (shared_mid call (names_none place kind alone) tied.shared);
      wishes = wishes_mid call user tied.wishes;
    }) settles closes ready

-- one command: the state, the parts with room, with the roles of the node, and the book behind the opening
pub record IsEntering (s : State) (place : At) (kind : Kind) (word : ℕ) (home : Home) (name : LaneName) (p q : Parts) (number : ℕ) (mid : BookState) : Type
    0 where
  pub tied : IsTied s
  pub opens : IsOpening s.book place kind mid (closed_of mid)
  pub alone : connects_none kind ≡ true
  pub roomier : IsRoomier s.parts p
  pub room : HasRoomFor 2 p
  pub number_is : number ≡ length s.book.history
  pub enters : Enters p number (is_root (Open (place_of place) kind)) (is_merging (Open (place_of place) kind)) word home name q
  pub effects : q.effects ≡ p.effects
  pub spare : q.lanes.spare ≡ p.lanes.spare

module _ {s : State} {place : At} {kind : Kind} {word : ℕ} {home : Home} {name : LaneName} {p q : Parts} {number : ℕ} {mid : BookState}
    (c : IsEntering s place kind word home name p q number mid) where
  pub ready_opened : IsReady (items_in (mail_left mid)) q
  ready_opened = subst (λ (n : ℕ). IsReady n q) (sym (ap items_in (none_left c.opens c.tied.given)))
      (ready_entered 2 0 refl p q number _ _ word home name (ready_with 2 s.parts p c.tied.ready c.roomier c.room) c.enters c.effects c.spare)

  pub enters_first : Enters s.parts (length s.book.history) (is_root (Open (place_of place) kind)) (is_merging (Open (place_of place) kind)) word home name q
  enters_first = enters_from s.parts p q (length s.book.history) number _ _ word home name c.roomier c.number_is c.enters

  pub leave_opened : MayLeaveAll (places_left q.shares.list (closed_of mid)) q.shares.hubs
  leave_opened = leave_as (closed_of mid) s.parts q enters_first.shares enters_first.hubs (leave_mid c.opens (names_none place kind c.alone) c.tied.shared)
