-- Who takes of a lane, or gives it up, leaves as many that name it.
use Rattle.std.proofs.Common.{◌≡◌, ℕ, ◌+◌, ◌||◌, Bool, true, false, cond, List, Option, Some, None, refl, sym, ap, ◌∙◌, ◌<◌, ◌≤◌, arith, subst, ◌++◌, if◌then◌else◌, [], ◌∷◌}
use Rattle.std.proofs.Common.{ltb as nat_lt}
use Rattle.std.proofs.lemmas.Bool.{false≢true, ltb-false}
use Rattle.rx_lanes.specs.declared.names.LaneName.{LaneName}
use Rattle.rx_lanes.specs.Lane.{Lane, kept, serves, is_served, has_any, is_needed, may_take, first_back, first_front, first_given, first_of_lane, served_by, served, taken, given_up, claimed, is_idle, with_server, parted}
use Rattle.rx_lanes.specs.State.{State, lane, Turns, KeepsLanes, fresh_with, touched}
use Rattle.rx_roles.specs.declared.effect.Effect.{Effect}
use Rattle.rx_lanes.specs.Courses.{is_name}
use Rattle.rx_engine.specs.declared.parts.Parts.{Parts}
use Rattle.rx_engine.specs.Deliveries.{many_of, many_at}
use Rattle.rx_resource.specs.declared.Resource.{Ghosts}
use Rattle.rx_resource.specs.declared.token.Token.{Token}
use Rattle.rx_book.specs.State.{State as BookState}
use Rattle.rx_roles.specs.declared.roles.Role.{Role}
use Rattle.rx_roles.specs.Roles.{without_all}
use Rattle.rx_roles.specs.Effects.{after_all, all_told, all_last}
use Rattle.rx_engine.specs.Deliveries.{Delivers, none_delivered, one_delivered, Leaves, none_left, one_left}
use Rattle.rx_engine.specs.Rooms.{IsRoomier}
use Rattle.rx_pool.specs.Moves.{left_all}
use Rattle.rx_pool.specs.Places.{places_left}
use Rattle.rx_engine.specs.Settlements.{mail_left, all_given, closed_of, effects_told, taken_out, Releases, Settles}
use Rattle.rx_engine.specs.States.{State as EngineState, IsTied}
use Rattle.rx_engine.proofs.Laws.EffectsInLanes.{same_name, other_name}

or_none : (a b : Bool) → (a || b) ≡ false → b ≡ false
or_none true b is = absurd (false≢true (sym is))
or_none false b is = is

or_first : (a b : Bool) → (a || b) ≡ false → a ≡ false
or_first true b is = is
or_first false b is = refl

pub kept_many : (l : Lane Effect) → many_of (kept l) ≡ l.many
kept_many l = by_test (is_needed l) refl where
  zero_of : (n : ℕ) → nat_lt 0 n ≡ false → 0 ≡ n
  zero_of n is = let none = ltb-false 0 n is in omega (arith, none)

  by_test : (b : Bool) → is_needed l ≡ b → many_of (cond b (Some l) None) ≡ l.many
  by_test true is = refl
  by_test false is = zero_of l.many (or_first (nat_lt 0 l.many) (has_any l) (or_none (is_served l) (nat_lt 0 l.many || has_any l) is))

pub taken_many : (by : ℕ) (inside : Bool) (l : Lane Effect) → (taken by inside l).lane.many ≡ l.many
taken_many by inside l = by_leave (may_take by inside l) where
  back : (es : List Effect) → (first_back l es).lane.many ≡ l.many
  back [] = refl
  back (e ∷ es) = refl

  front_none : (b : Bool) → (cond b (record { effect = None; lane = l }) (first_back l l.back)).lane.many ≡ l.many
  front_none true = refl
  front_none false = back l.back

  front : (es : List Effect) → (first_front inside l es).lane.many ≡ l.many
  front [] = front_none inside
  front (e ∷ es) = refl

  first : (o : Option Effect) → (first_given inside l o).lane.many ≡ l.many
  first None = front l.front
  first (Some e) = refl

  stays : (b : Bool) (o : Option Effect) (x : Lane Effect) → (served_by by b o x).many ≡ x.many
  stays true None x = refl
  stays false None x = refl
  stays b (Some e) x = refl

  by_leave : (b : Bool) → (cond b (served by inside (first_of_lane inside l)) (record { effect = None; lane = l })).lane.many ≡ l.many
  by_leave true = stays inside (first_of_lane inside l).effect (first_of_lane inside l).lane ∙ first l.returned
  by_leave false = refl

pub given_up_many : (by : ℕ) (undone : Option Effect) (l : Lane Effect) → (given_up by undone l).many ≡ l.many
given_up_many by undone l = by_server (serves by l) where
  by_server : (b : Bool) → (cond b (record l { returned = undone; server = None }) l).many ≡ l.many
  by_server true = refl
  by_server false = refl

pub turns_many : (s t : State Effect) (name : LaneName) (l : Lane Effect) (o : Option (Lane Effect)) → lane s name ≡ Some l → Turns s t name o →
    many_of o ≡ l.many →
    (other : LaneName) → many_at t other ≡ many_at s other
turns_many s t name l o found turns same other = by_name (is_name name other) refl where
  by_name : (b : Bool) → is_name name other ≡ b → many_at t other ≡ many_at s other
  by_name true is =
      let this = same_name name other is in
      ap (many_at t) (sym this) ∙ ap many_of turns.found ∙ same ∙ sym (ap many_of found) ∙ ap (many_at s) this
  by_name false is = ap many_of (turns.others other (other_name name other is))

pub served_many : (s t : State Effect) (name : LaneName) (after : Lane Effect → Option (Lane Effect)) →
    ((l : Lane Effect) → lane s name ≡ Some l → Turns s t name (after l)) →
    (lane s name ≡ None → t ≡ s) → ((l : Lane Effect) → many_of (after l) ≡ l.many) → (other : LaneName) → many_at t other ≡ many_at s other
served_many s t name after turns gone same other = by_lane (lane s name) refl where
  by_lane : (o : Option (Lane Effect)) → lane s name ≡ o → many_at t other ≡ many_at s other
  by_lane None is = ap (λ (x : State Effect). many_at x other) (gone is)
  by_lane (Some l) is = turns_many s t name l (after l) is (turns l is) (same l) other

pub tied_served : (s : EngineState) (lanes : State Effect) → IsTied s → ((other : LaneName) → many_at lanes other ≡ many_at s.parts.lanes other) →
    s.parts.lanes.spare ≤ lanes.spare → IsTied (record s { parts = record s.parts { lanes = lanes } })
tied_served s lanes tied many spare = record {
  given = tied.given;
  none_waits = tied.none_waits;
  homes = tied.homes;
  hears = tied.hears;
  merges = tied.merges;
  holds = tied.holds;
  shared = tied.shared;
  ready = record {
    empty = tied.ready.empty;
    many = λ name. many name ∙ tied.ready.many name;
    room = tied.ready.room;
    spare = let had = tied.ready.spare in omega (arith, had, spare);
  };
  wishes = tied.wishes;
}

-- more room ------------------------------------------------------------------------------------------

pub delivers_kept : (by : ℕ) (s s' : State Effect) (es : List Effect) (u : State Effect) → KeepsLanes s s' → Delivers by s' es u → Delivers by s es u
delivers_kept by s s' es u k (none_delivered j) = none_delivered (record {
  lanes = λ name. j.lanes name ∙ k.lanes name;
  fresh_is = j.fresh_is ∙ k.fresh_is;
  next_turn = j.next_turn ∙ k.next_turn;
  due = j.due ∙ k.due;
})
delivers_kept by s s' es u k (one_delivered e l found arrives rest) =
    one_delivered e l (sym (k.lanes e.lane) ∙ found)
    (record {
      between = arrives.between;
      gets = record {
        found = arrives.gets.found;
        others = λ other differs. arrives.gets.others other differs ∙ k.lanes other;
        fresh_is = arrives.gets.fresh_is ∙ ap (touched e.lane.place) k.fresh_is;
        next_turn = arrives.gets.next_turn ∙ k.next_turn;
        due = arrives.gets.due ∙ k.due;
      };
      parts = arrives.parts;
    }) rest

turns_from : (s s' t : State Effect) (name : LaneName) (o : Option (Lane Effect)) → KeepsLanes s s' → Turns s' t name o → Turns s t name o
turns_from s s' t name o k turns = record {
  found = turns.found;
  others = λ other differs. turns.others other differs ∙ k.lanes other;
  fresh_is = turns.fresh_is ∙ ap (λ (xs : List ℕ). fresh_with name.place o xs) k.fresh_is;
  next_turn = turns.next_turn ∙ k.next_turn;
  due = turns.due ∙ k.due;
}

-- a lane that is left has one name fewer
pub parted_many : (s t : State Effect) (name : LaneName) (l : Lane Effect) → lane s name ≡ Some l → 0 < l.many → Turns s t name (kept (parted l)) →
    (other : LaneName) → many_at t other + (if is_name name other then 1 else 0) ≡ many_at s other
parted_many s t name l found some turns other = by_name (is_name name other) refl where
  by_name : (b : Bool) → is_name name other ≡ b → many_at t other + (if b then 1 else 0) ≡ many_at s other
  by_name true is =
      let this = same_name name other is in
      let now = ap (many_at t) (sym this) ∙ ap many_of turns.found ∙ kept_many (parted l) in
      let was = ap (many_at s) (sym this) ∙ ap many_of found in
      omega (arith, now, was, some)
  by_name false is = let same = ap many_of (turns.others other (other_name name other is)) in omega (arith, same)

pub leaves_kept : (s s' : State Effect) (rs : List Role) (u : State Effect) → KeepsLanes s s' → Leaves s' rs u → Leaves s rs u
leaves_kept s s' rs u k (none_left j) = none_left (record {
  lanes = λ name. j.lanes name ∙ k.lanes name;
  fresh_is = j.fresh_is ∙ k.fresh_is;
  next_turn = j.next_turn ∙ k.next_turn;
  due = j.due ∙ k.due;
})
leaves_kept s s' rs u k (one_left {t = m} r l found turns rest) = one_left r l (sym (k.lanes r.lane) ∙ found)
    (turns_from s s' m r.lane (kept (parted l)) k turns) rest

unfoldable pub settles_roomier : (g : Ghosts Token) (by value : ℕ) (mid : BookState) (p p' : Parts) (t : BookState) (q : Parts) → IsRoomier p p' →
    Settles g by value mid p' t q → Settles g by value mid p t q
settles_roomier g by value mid p p' t q r s = record {
  hears = s.hears ∙ (λ i. without_all (after_all (r.hears i) (mail_left mid)) (closed_of mid));
  merges = s.merges ∙ (λ i. without_all (r.merges i) (closed_of mid));
  effects = s.effects;
  releases = subst (λ (rs : List Role). Releases g by (all_given mid) rs (effects_told by value mid p) t q.holds.list s.effects) r.holds
      (subst (λ (es : List Effect). Releases g by (all_given mid) p'.holds.list es t q.holds.list s.effects)
      (λ i. all_told by value (r.hears i) (r.merges i) (mail_left mid) ++ all_last by (after_all (r.hears i) (mail_left mid)) (r.merges i) (closed_of mid))
      s.releases);
  none_waits = s.none_waits;
  base = s.base;
  limit = s.limit;
  homes = s.homes ∙ (λ i. without_all (r.homes i) (closed_of mid));
  shares = s.shares ∙ (λ i. without_all (r.shares i) (closed_of mid));
  hubs = s.hubs ∙ (λ i. left_all (places_left (r.shares i) (closed_of mid)) (r.hubs i));
  left = s.left;
  leaves = leaves_kept p.lanes p'.lanes (taken_out p.homes.list (closed_of mid)) s.left r.lanes
      (subst (λ (rs : List Role). Leaves p'.lanes (taken_out rs (closed_of mid)) s.left) r.homes s.leaves);
  copies = s.copies;
  put = s.put;
  delivers = s.delivers;
  lanes = s.lanes;
}

pub claimed_many : (by : ℕ) (l : Lane Effect) → (claimed by l).many ≡ l.many
claimed_many by l = by_idle (is_idle l) where
  by_idle : (b : Bool) → (cond b (with_server (Some by) l) l).many ≡ l.many
  by_idle true = refl
  by_idle false = refl
