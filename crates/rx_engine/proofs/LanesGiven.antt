-- A new role gets a lane.
use Rattle.std.proofs.Common.{◌≡◌, ◌≢◌, ℕ, ◌+◌, ◌≤◌, Bool, true, false, List, [], ◌∷◌, ◌++◌, length, Option, Some, None, IsSome, refl, sym, ap, ◌∙◌, arith, subst, if◌then◌else◌, length-append, append-nil}
use Rattle.std.proofs.lemmas.Option.{same_Some}
use Rattle.rx_lanes.specs.declared.names.LaneName.{LaneName}
use Rattle.rx_lanes.specs.Lane.{Lane, joined, new_lane}
use Rattle.rx_lanes.specs.State.{State, lane, Opens, KeepsLanes}
use Rattle.rx_roles.specs.declared.roles.Role.{Role}
use Rattle.rx_roles.specs.declared.effect.Effect.{Effect}
use Rattle.rx_lanes.specs.Courses.{is_name}
use Rattle.rx_roles.specs.Effects.{names_of}
use Rattle.rx_roles.proofs.Laws.LastEffects.{names-append}
use Rattle.rx_engine.specs.declared.parts.Parts.{Parts}
use Rattle.rx_engine.specs.declared.homes.Home.{Home}
use Rattle.rx_engine.specs.Deliveries.{many_of, many_at}
use Rattle.rx_engine.specs.Rooms.{role_if, named, role_count, name_count, IsRoomier}
use Rattle.rx_engine.specs.Openings.{IsLaneFor, Gives, Enters}
use Rattle.rx_engine.proofs.Laws.EffectsInLanes.{same_name, other_name}
use Rattle.rx_engine.proofs.LanesJoined.{names_few, joined_many, joins_kept}

opened_many : (s t : State Effect) (name : LaneName) → Opens s t name → (other : LaneName) →
    many_at t other ≡ many_at s other + (if is_name name other then 1 else 0)
opened_many s t name opens other = by_name (is_name name other) refl where
  by_name : (b : Bool) → is_name name other ≡ b → many_at t other ≡ many_at s other + (if b then 1 else 0)
  by_name true is =
      let this = same_name name other is in
      let now = ap (many_at t) (sym this) ∙ ap many_of opens.found in
      let was = ap (many_at s) (sym this) ∙ ap many_of opens.was_free in
      omega (arith, now, was)
  by_name false is = let same = ap many_of (opens.others other (other_name name other is)) in omega (arith, same)

lane_many : (at : Option LaneName) (s t : State Effect) (name : LaneName) → IsLaneFor at s t name → (other : LaneName) →
    many_at t other ≡ many_at s other + (if is_name name other then 1 else 0)
lane_many None s t name is other = opened_many s t name is other
lane_many (Some given) s t name is other = joined_many s t name is.1 other

pub gives_many : (is : Bool) (number word : ℕ) (at : Option LaneName) (roles roles' : List Role) (s t : State Effect) →
    Gives is number word at roles roles' s t →
    (other : LaneName) → many_at t other + names_of other roles ≡ many_at s other + names_of other roles'
gives_many true number word at roles roles' s t g other =
    let more = lane_many at s t g.name g.lanes other in
    let l = ap (names_of other) g.list in
    let a = names-append other roles ((record { number = number; word = word; lane = g.name }) ∷ []) in
    omega (arith, more, l, a)
gives_many false number word at roles roles' s t g other =
    let same = ap many_of (g.lanes.lanes other) in
    let l = ap (names_of other) (g.list ∙ append-nil roles) in
    omega (arith, same, l)

-- a lane that was found is found
found_now : (s t : State Effect) (name other : LaneName) (l : Lane Effect) → lane t name ≡ Some l → ((n : LaneName) → n ≢ name → lane t n ≡ lane s n) →
    IsSome (lane s other) → IsSome (lane t other)
found_now s t name other l found others some = by_name (is_name name other) refl where
  by_name : (b : Bool) → is_name name other ≡ b → IsSome (lane t other)
  by_name true same = subst (λ (n : LaneName). IsSome (lane t n)) (same_name name other same) (subst (λ (o : Option (Lane Effect)). IsSome o) (sym found) refl)
  by_name false differs = subst (λ (o : Option (Lane Effect)). IsSome o) (sym (others other (other_name name other differs))) some

lane_still : (at : Option LaneName) (s t : State Effect) (name : LaneName) → IsLaneFor at s t name → (other : LaneName) → IsSome (lane s other) →
    IsSome (lane t other)
lane_still None s t name is other some = found_now s t name other new_lane is.found is.others some
lane_still (Some given) s t name is other some = found_now s t name other (joined is.1.before) is.1.joins.found is.1.joins.others some

pub gives_still : (is : Bool) (number word : ℕ) (at : Option LaneName) (roles roles' : List Role) (s t : State Effect) →
    Gives is number word at roles roles' s t →
    (other : LaneName) → IsSome (lane s other) → IsSome (lane t other)
gives_still true number word at roles roles' s t g other some = lane_still at s t g.name g.lanes other some
gives_still false number word at roles roles' s t g other some = subst (λ (o : Option (Lane Effect)). IsSome o) (sym (g.lanes.lanes other)) some

role_if_length : (is : Bool) (r : Role) → length (role_if is r) ≤ 1
role_if_length true r = omega arith
role_if_length false r = omega arith

pub gives_few : (is : Bool) (number word : ℕ) (at : Option LaneName) (roles roles' : List Role) (s t : State Effect) →
    Gives is number word at roles roles' s t → length roles' ≤ length roles + 1
gives_few is number word at roles roles' s t g =
    let l = ap (length {A = Role}) g.list in
    let a = length-append roles (role_if is (record { number = number; word = word; lane = g.name })) in
    let one = role_if_length is (record { number = number; word = word; lane = g.name }) in
    omega (arith, l, a, one)

one_most : (b : Bool) → (if b then 1 else 0) ≤ 1
one_most true = omega arith
one_most false = omega arith

-- a new role more names a lane at most
gives_more : (is : Bool) (number word : ℕ) (at : Option LaneName) (roles roles' : List Role) (s t : State Effect) → Gives is number word at roles roles' s t →
    (other : LaneName) → many_at t other ≤ many_at s other + 1
gives_more true number word at roles roles' s t g other =
    let more = lane_many at s t g.name g.lanes other in let one = one_most (is_name g.name other) in
    omega (arith, more, one)
gives_more false number word at roles roles' s t g other = let same = ap many_of (g.lanes.lanes other) in omega (arith, same)

-- the lane of a new role is found
pub housed_lane : (at : Option LaneName) (s t : State Effect) (name : LaneName) → IsLaneFor at s t name → IsSome (lane t name)
housed_lane None s t name is = subst (λ (o : Option (Lane Effect)). IsSome o) (sym is.found) refl
housed_lane (Some given) s t name is = subst (λ (o : Option (Lane Effect)). IsSome o) (sym is.1.joins.found) refl

-- a lane that is asked for is open
abbrev pub IsOpenAt : State Effect → Option LaneName → Type 0
IsOpenAt s at = (name : LaneName) → at ≡ Some name → IsSome (lane s name)

pub only_open : (s : State Effect) (name : LaneName) → IsSome (lane s name) → IsOpenAt s (Some name)
only_open s name there other is = subst (λ (n : LaneName). IsSome (lane s n)) (same_Some name other is) there

pub none_open : (s : State Effect) → IsOpenAt s None
none_open s name is = absurd (cc)

pub housed_few : (p : Parts) (at : Option LaneName) (housed : State Effect) (name : LaneName) → ((n : LaneName) → many_at p.lanes n ≡ named n p) →
    IsLaneFor at p.lanes housed name → (other : LaneName) (l : Lane Effect) → lane housed other ≡ Some l → l.many ≤ name_count p + 1
housed_few p at housed name many is other l found =
    let more = lane_many at p.lanes housed name is other in let one = one_most (is_name name other) in
    let had = many other in let now = ap many_of found in
    let h = names_few other p.hears.list in let m = names_few other p.merges.list in let k = names_few other p.holds.list in let o = names_few other
    p.homes.list in
    omega (arith, more, one, had, now, h, m, k, o)

pub between_few : (p : Parts) (at : Option LaneName) (housed : State Effect) (name : LaneName) → ((n : LaneName) → many_at p.lanes n ≡ named n p) →
    IsLaneFor at p.lanes housed name → (is : Bool) (number word : ℕ) (roles : List Role) (between : State Effect) →
    Gives is number word (Some name) p.hears.list roles housed between → (other : LaneName) (l : Lane Effect) → lane between other ≡ Some l →
    l.many ≤ name_count p + 2
between_few p at housed name many lane_is is number word roles between g other l found =
    let more = lane_many at p.lanes housed name lane_is other in let one = one_most (is_name name other) in
    let two = gives_more is number word (Some name) p.hears.list roles housed between g other in
    let had = many other in let now = ap many_of found in
    let h = names_few other p.hears.list in let m = names_few other p.merges.list in let k = names_few other p.holds.list in let o = names_few other
    p.homes.list in
    omega (arith, more, one, two, had, now, h, m, k, o)

-- a node was entered
module _ {p q : Parts} {number : ℕ} {hears merges : Bool} {word : ℕ} {home : Home} {name : LaneName} (e : Enters p number hears merges word home name q) where
  home_gives : Gives true number home.limit home.lane p.homes.list q.homes.list p.lanes e.housed
  home_gives = record { name = name; list = e.homes_is; lanes = e.lane_is }

  -- its lane is open
  pub entered_lane : IsSome (lane q.lanes name)
  entered_lane =
      gives_still merges number word None p.merges.list q.merges.list e.between q.lanes e.merges_is name
      (gives_still hears number word (Some name) p.hears.list q.hears.list e.housed e.between e.hears_is name
      (housed_lane home.lane p.lanes e.housed name e.lane_is))

  -- as many name each lane as it says
  pub entered_many : ((n : LaneName) → many_at p.lanes n ≡ named n p) → (n : LaneName) → many_at q.lanes n ≡ named n q
  entered_many many n =
      let zero = gives_many true number home.limit home.lane p.homes.list q.homes.list p.lanes e.housed home_gives n in
      let one = gives_many hears number word (Some name) p.hears.list q.hears.list e.housed e.between e.hears_is n in
      let two = gives_many merges number word None p.merges.list q.merges.list e.between q.lanes e.merges_is n in
      let had = many n in let held = ap (names_of n) e.holds in
      omega (arith, zero, one, two, had, held)

  pub entered_names : name_count q ≤ name_count p + 3
  entered_names =
      let zero = gives_few true number home.limit home.lane p.homes.list q.homes.list p.lanes e.housed home_gives in
      let one = gives_few hears number word (Some name) p.hears.list q.hears.list e.housed e.between e.hears_is in
      let two = gives_few merges number word None p.merges.list q.merges.list e.between q.lanes e.merges_is in
      let held = ap (length {A = Role}) e.holds in
      omega (arith, zero, one, two, held)

pub enters_many : (p q : Parts) (number : ℕ) (hears merges : Bool) (word : ℕ) (home : Home) (name : LaneName) →
    ((n : LaneName) → many_at p.lanes n ≡ named n p) →
    Enters p number hears merges word home name q → (n : LaneName) → many_at q.lanes n ≡ named n q
enters_many p q number hears merges word home name many e = entered_many e many

pub enters_few : (p q : Parts) (number : ℕ) (hears merges : Bool) (word : ℕ) (home : Home) (name : LaneName) → Enters p number hears merges word home name q →
    role_count q ≤ role_count p + 2
enters_few p q number hears merges word home name e =
    let one = gives_few hears number word (Some name) p.hears.list q.hears.list e.housed e.between e.hears_is in
    let two = gives_few merges number word None p.merges.list q.merges.list e.between q.lanes e.merges_is in
    let held = ap (length {A = Role}) e.holds in
    omega (arith, one, two, held)

-- more room
lane_for_kept : (at : Option LaneName) (s s' t : State Effect) (name : LaneName) → KeepsLanes s s' → IsLaneFor at s' t name → IsLaneFor at s t name
lane_for_kept None s s' t name k is = record {
  turn = is.turn ∙ k.next_turn;
  was_free = sym (k.lanes name) ∙ is.was_free;
  found = is.found;
  others = λ other differs. is.others other differs ∙ k.lanes other;
  fresh_is = is.fresh_is ∙ k.fresh_is;
  next_turn = is.next_turn ∙ ap (λ (n : ℕ). n + 1) k.next_turn;
  due = is.due ∙ k.due;
}
lane_for_kept (Some given) s s' t name k is = (is.0, joins_kept s s' t name k is.1)

pub enters_from : (p p' q : Parts) (number number' : ℕ) (hears merges : Bool) (word : ℕ) (home : Home) (name : LaneName) → IsRoomier p p' → number' ≡ number →
    Enters p' number' hears merges word home name q → Enters p number hears merges word home name q
enters_from p p' q number number' hears merges word home name r same e = record {
  housed = e.housed;
  between = e.between;
  lane_is = lane_for_kept home.lane p.lanes p'.lanes e.housed name r.lanes e.lane_is;
  homes_is = e.homes_is ∙ (λ i. r.homes i ++ (record { number = same i; word = home.limit; lane = name }) ∷ []);
  hears_is = record {
    name = e.hears_is.name;
    list = e.hears_is.list ∙ (λ i. r.hears i ++ role_if hears (record { number = same i; word = word; lane = e.hears_is.name }));
    lanes = e.hears_is.lanes;
  };
  merges_is = record {
    name = e.merges_is.name;
    list = e.merges_is.list ∙ (λ i. r.merges i ++ role_if merges (record { number = same i; word = word; lane = e.merges_is.name }));
    lanes = e.merges_is.lanes;
  };
  holds = e.holds ∙ r.holds;
  shares = e.shares ∙ r.shares;
  hubs = e.hubs ∙ r.hubs;
}

-- no role, and nothing changes
pub gives_none : (number word : ℕ) (at : Option LaneName) (roles : List Role) (s : State Effect) → Gives false number word at roles roles s s
gives_none number word at roles s = record {
  name = record { place = 0; turn = 0 };
  list = sym (append-nil roles);
  lanes = record { lanes = λ name. refl; fresh_is = refl; next_turn = refl; due = refl };
}
