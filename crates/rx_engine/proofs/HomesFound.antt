-- A key finds a lane just where its node is open, and projects; and what is asked of the book with such a key.
use Rattle.std.proofs.Common.{◌≡◌, ℕ, ◌≤◌, ◌==◌, ◌&&◌, ◌||◌, Bool, true, false, List, [], ◌∷◌, map, Option, Some, None, IsSome, IfSome, is_some, IsTrue, option_map, if◌then◌else◌, refl, sym, ap, ◌∙◌, arith, subst, inl}
use Rattle.std.proofs.lemmas.Bool.{false≢true}
use Rattle.std.proofs.lemmas.Option.{same_Some}
use Rattle.rx_resource.specs.contracts.token.TokenResource.TheImpl.{ghosts}
use Rattle.rx_event.specs.declared.event.Kind.{Kind}
use Rattle.rx_event.specs.declared.event.Kind.TheVariants.{Leaf, Pass, Flat, Switch, Until, Sub}
use Rattle.rx_event.specs.declared.refusal.Refusal.TheVariants.{Gone}
use Rattle.rx_event.specs.Events.{is_merging}
use Rattle.rx_event.specs.Refusals.{IsRefusal}
use Rattle.rx_event.specs.Tree.{at, is_open}
use Rattle.rx_slots.specs.declared.Key.{Key}
use Rattle.rx_book.specs.declared.answer.At.{At}
use Rattle.rx_book.specs.declared.answer.At.TheVariants.{Root, Source, Inner, Notifier}
use Rattle.rx_book.specs.State.{State as BookState, IsPromised as IsBookPromised, has_key}
use Rattle.rx_book.specs.Requests.{place_of, open_request}
use Rattle.rx_book.specs.Answers.{IsCauseOrWant}
use Rattle.rx_book.specs.OpensHolding.{stands_holding}
use Rattle.rx_lanes.specs.declared.names.LaneName.{LaneName}
use Rattle.rx_lanes.specs.Lane.{Lane}
use Rattle.rx_lanes.specs.State.{State as LanesState, lane}
use Rattle.rx_roles.specs.declared.roles.Role.{Role}
use Rattle.rx_roles.specs.declared.effect.Effect.{Effect}
use Rattle.rx_roles.specs.Roles.{role_of, is_among}
use Rattle.rx_roles.specs.Effects.{names_of}
use Rattle.rx_engine.specs.declared.homes.LaneOf.{LaneOf}
use Rattle.rx_engine.specs.declared.homes.LaneOf.TheVariants.{Node, Projections}
use Rattle.rx_engine.specs.declared.homes.Home.{Home}
use Rattle.rx_engine.specs.Deliveries.{many_at}
use Rattle.rx_engine.specs.Homes.{lane_in, lane_of, is_there, whose, is_housed}
use Rattle.rx_engine.specs.Openings.{connects_none, opening_request}
use Rattle.rx_engine.specs.Usings.{stands_using}
use Rattle.rx_engine.specs.Holdings.{held_request}
use Rattle.rx_engine.specs.States.{State, IsTied}
use Rattle.rx_engine.proofs.NamedLanes.{role_named}
use Rattle.rx_engine.proofs.Laws.EffectsInLanes.{found_lane}
use Rattle.rx_roles.proofs.Laws.JustThose.{among_all}

-- keys -----------------------------------------------------------------------------------------------

key_among : (keys : List Key) (k : Key) → has_key keys k ≡ true → is_among k.number (map (λ (j : Key). j.number) keys) ≡ true
key_among [] k is = absurd (false≢true is)
key_among (j ∷ js) k is = by_tests (j.slot == k.slot) (j.number == k.number) is (λ there. key_among js k there) where
  by_tests : (a b : Bool) → ((a && b) || has_key js k) ≡ true → (has_key js k ≡ true → is_among k.number (map (λ (i : Key). i.number) js) ≡ true) →
      (b || is_among k.number (map (λ (i : Key). i.number) js)) ≡ true
  by_tests a true is rest = refl
  by_tests true false is rest = rest is
  by_tests false false is rest = rest is

key_open : (b : BookState) → IsBookPromised b → (k : Key) → has_key b.keys k ≡ true → is_open b.history k.number ≡ true
key_open b kept k is = among_all (λ n. IsTrue (is_open b.history n)) k.number (map (λ (j : Key). j.number) b.keys) kept.keys.each (key_among b.keys k is)

some_lane_in : (o : Option Role) → is_some (option_map (λ (r : Role). r.lane) o) ≡ is_some o
some_lane_in None = refl
some_lane_in (Some r) = refl

pub lane_there : (s : State) → IsBookPromised s.book → IsTied s → (of : LaneOf) → is_some (lane_of s of) ≡ is_there s.book of
lane_there s kept tied (Node k) = by_key (has_key s.book.keys k) refl where
  by_key : (b : Bool) → has_key s.book.keys k ≡ b → is_some (if b then lane_in s.parts.homes.list k.number else None) ≡ b
  by_key true is = some_lane_in (role_of s.parts.homes.list k.number) ∙ tied.homes.there k.number ∙ key_open s.book kept k is
  by_key false is = refl
lane_there s kept tied (Projections k) = by_key (has_key s.book.keys k) refl where
  by_key : (b : Bool) → has_key s.book.keys k ≡ b → is_some (if b then lane_in s.parts.merges.list k.number else None) ≡
      (b && at is_merging s.book.history k.number)
  by_key true is = some_lane_in (role_of s.parts.merges.list k.number) ∙ tied.merges.there k.number
      ∙ ap (λ (b : Bool). b && at is_merging s.book.history k.number) (key_open s.book kept k is)
  by_key false is = refl

table_found : (lanes : LanesState Effect) (roles : List Role) → ((name : LaneName) → names_of name roles ≤ many_at lanes name) → (n : ℕ) (name : LaneName) →
    lane_in roles n ≡ Some name → IsSome (lane lanes name)
table_found lanes roles few n name is = by_role (role_of roles n) refl is where
  by_role : (o : Option Role) → role_of roles n ≡ o → option_map (λ (r : Role). r.lane) o ≡ Some name → IsSome (lane lanes name)
  by_role None there is = absurd (cc)
  by_role (Some r) there is =
      let found = found_lane lanes r.lane (let some = role_named roles n r there in let f = few r.lane in omega (arith, some, f)) in
      subst (λ (x : LaneName). IsSome (lane lanes x)) (same_Some r.lane name is) (subst (λ (o : Option (Lane Effect)). IsSome o) (sym found.1) refl)

pub home_found : (s : State) → IsTied s → (n : ℕ) (name : LaneName) → lane_in s.parts.homes.list n ≡ Some name → IsSome (lane s.parts.lanes name)
home_found s tied n name is = table_found s.parts.lanes s.parts.homes.list (λ other. (let many = tied.ready.many other in omega (arith, many))) n name is

pub lane_found : (s : State) → IsTied s → (of : LaneOf) (name : LaneName) → lane_of s of ≡ Some name → IsSome (lane s.parts.lanes name)
lane_found s tied (Node k) name is = by_key (has_key s.book.keys k) is where
  by_key : (b : Bool) → (if b then lane_in s.parts.homes.list k.number else None) ≡ Some name → IsSome (lane s.parts.lanes name)
  by_key true is = home_found s tied k.number name is
  by_key false is = absurd (cc)
lane_found s tied (Projections k) name is = by_key (has_key s.book.keys k) is where
  by_key : (b : Bool) → (if b then lane_in s.parts.merges.list k.number else None) ≡ Some name → IsSome (lane s.parts.lanes name)
  by_key true is = table_found s.parts.lanes s.parts.merges.list (λ other. (let many = tied.ready.many other in omega (arith, many))) k.number name is
  by_key false is = absurd (cc)

pub all_found : (s : State) → IsTied s → (of : LaneOf) (o : Option LaneName) → o ≡ lane_of s of → IfSome o (λ name. IsSome (lane s.parts.lanes name))
all_found s tied of None is = tt
all_found s tied of (Some name) is = lane_found s tied of name (sym is)

-- homes ----------------------------------------------------------------------------------------------

pub housed_home : (b : Bool) (x y : Home) → Some x ≡ (if b then Some y else None) → (b ≡ true) × (x ≡ y)
housed_home true x y is = (refl, same_Some x y is)
housed_home false x y is = absurd (cc)

pub not_housed : (b : Bool) (y : Home) → ◌≡◌ {A = Option Home} None (if b then Some y else None) → b ≡ false
not_housed true y is = absurd (cc)
not_housed false y is = refl

-- below an open node
abbrev home_with : Option LaneName → ℕ → Home
home_with at limit = record { lane = at; limit = limit }

pub below_housed : (b : Bool) (at : Option LaneName) (limit : ℕ) → ◌≡◌ {A = Option Home} (if b then Some (home_with at limit) else None)
    (if b then Some (home_with (if b then at else None) limit) else None)
below_housed true at limit = refl
below_housed false at limit = refl

-- requests -------------------------------------------------------------------------------------------

-- where the node is there whose lane is asked for, the book is asked as ever
pub asked_same : (b : BookState) (place : At) (kind : Kind) (asked : Option LaneOf) → is_housed b (whose place asked) ≡ true →
    opening_request b place kind asked ≡ open_request b place kind
asked_same b Root kind asked housed = ap (λ (known : Bool). record (open_request b Root kind) { is_known = known }) housed
asked_same b (Source k) kind asked housed = refl
asked_same b (Inner k) kind asked housed = refl
asked_same b (Notifier k) kind asked housed = refl

pub stands_same : (b : BookState) (place : At) (kind : Kind) (asked : Option LaneOf) (fresh : Bool) → is_housed b (whose place asked) ≡ true →
    stands_using b place kind asked fresh ≡ stands_holding b place kind fresh
stands_same b Root kind asked fresh housed =
    ap (λ (known : Bool). Rattle.rx_event.specs.Causes.by_key known (Rattle.rx_ground.specs.OpeningHolding.opening_holding_causes b.base b.history b.limit fresh
    (place_of Root) kind)) housed
stands_same b (Source k) kind asked fresh housed = refl
stands_same b (Inner k) kind asked fresh housed = refl
stands_same b (Notifier k) kind asked fresh housed = refl

-- and where it is not, it is gone
pub gone_opening : (b : BookState) (place : At) (kind : Kind) (asked : Option LaneOf) → connects_none kind ≡ true → is_housed b (whose place asked) ≡ false →
    IsCauseOrWant b (opening_request b place kind asked) Gone
gone_opening b place Leaf asked alone gone = rw gone (inl refl)
gone_opening b place Pass asked alone gone = rw gone (inl refl)
gone_opening b place Flat asked alone gone = rw gone (inl refl)
gone_opening b place Switch asked alone gone = rw gone (inl refl)
gone_opening b place Until asked alone gone = rw gone (inl refl)
gone_opening b place (Sub g) asked alone gone = absurd (false≢true alone)

pub gone_using : (b : BookState) (place : At) (kind : Kind) (asked : Option LaneOf) (fresh : Bool) → connects_none kind ≡ true →
    is_housed b (whose place asked) ≡ false →
    IsRefusal (stands_using b place kind asked fresh) Gone
gone_using b place Leaf asked fresh alone gone = rw gone (inl refl)
gone_using b place Pass asked fresh alone gone = rw gone (inl refl)
gone_using b place Flat asked fresh alone gone = rw gone (inl refl)
gone_using b place Switch asked fresh alone gone = rw gone (inl refl)
gone_using b place Until asked fresh alone gone = rw gone (inl refl)
gone_using b place (Sub g) asked fresh alone gone = absurd (false≢true alone)

pub gone_holding : (b : BookState) (node : Key) (tag : ℕ) → has_key b.keys node ≡ false → IsCauseOrWant b (held_request ghosts b node tag) Gone
gone_holding b node tag gone = rw gone (inl refl)
