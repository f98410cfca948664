-- A lane that a command leaves was left before, or is named.
use Rattle.std.proofs.Common.{◌≡◌, ◌≢◌, ℕ, ◌++◌, ◌&&◌, ◌⊎◌, inl, inr, not, Bool, true, false, cond, List, [], ◌∷◌, Option, Some, None, refl, sym, ap, ◌∙◌, subst, if◌then◌else◌}
use Rattle.std.proofs.lemmas.Bool.{false≢true, eq-eqb}
use Rattle.std.proofs.lemmas.Option.{same_Some}
use Rattle.rx_resource.specs.declared.Resource.{Ghosts}
use Rattle.rx_resource.specs.declared.token.Token.{Token}
use Rattle.rx_slots.specs.Lists.{is_in}
use Rattle.rx_lanes.specs.declared.names.LaneName.{LaneName}
use Rattle.rx_lanes.specs.declared.names.Due.{Due}
use Rattle.rx_lanes.specs.Courses.{is_name, is_named}
use Rattle.rx_lanes.specs.Lane.{Lane, put, freed, joined, parted, kept, new_lane, serves, is_served, is_empty, is_left, is_needed}
use Rattle.rx_lanes.specs.State.{State as LanesState, Opened, lane, opened_at, with_turn, Gets, Opens, IsLeft, due_at, due_of}
use Rattle.rx_lanes.proofs.Laws.Courses.{touched_keeps, touched_own, named_append, is_due, fresh_named, left_free}
use Rattle.rx_roles.specs.declared.effect.Effect.{Effect}
use Rattle.rx_roles.specs.Effects.{is_last, is_release}
use Rattle.rx_engine.specs.Deliveries.{put_by, Delivers, none_delivered, one_delivered, settled}
use Rattle.rx_engine.proofs.Laws.EffectsInLanes.{same_name, other_name, delivered, arrives_gets}
use Rattle.rx_courses.specs.Courses.{effects_of}
use Rattle.rx_courses.specs.Serving.{maker, answered}
use Rattle.rx_courses.specs.LeftNamed.{IsServedBy, AreThere, CommandsNameWhatIsLeft}
use Rattle.rx_courses.proofs.MovesOfLanes.{Moves, moves_none, moves_kept, moves_joined, moves_opened, moves_left, Rests, rests_none, rests_kept, rests_settled, Runs, runs_resting, runs_settled}
use Rattle.rx_courses.proofs.RunsOfCommands.{command_runs}
use Rattle.rx_courses.proofs.RunsOfLanes.{runs_fresh}

-- no lane is left that was not, and nobody serves what he did not
record IsCalm (s t : LanesState Effect) : Type 0 where
  left : (n : LaneName) → IsLeft t n → IsLeft s n
  served : (n : LaneName) (by : ℕ) → IsServedBy t n by → IsServedBy s n by

calm_then : (s t u : LanesState Effect) → IsCalm s t → IsCalm t u → IsCalm s u
calm_then s t u p q = record { left = λ n is. p.left n (q.left n is); served = λ n by is. p.served n by (q.served n by is) }

-- where all lanes are as they were
same_lanes : (s t : LanesState Effect) → ((n : LaneName) → lane t n ≡ lane s n) → IsCalm s t
same_lanes s t same = record {
  left = λ n is. (is.0, sym (same n) ∙ is.1, is.2);
  served = λ n by is. (is.0, sym (same n) ∙ is.1, is.2);
}

-- where one is another: who serves it did, and it is left only if it was
one_turned : (s t : LanesState Effect) (name : LaneName) (l : Lane Effect) → lane s name ≡ Some l →
    ((l' : Lane Effect) → lane t name ≡ Some l' → (l'.server ≡ l.server) × (is_left l' ≡ is_left l)) →
    ((other : LaneName) → other ≢ name → lane t other ≡ lane s other) → IsCalm s t
one_turned s t name l found now others = record { left = λ n is. by_left n (is_name name n) refl is; served = λ n by is. by_served n by (is_name name n) refl is } where
  by_left : (n : LaneName) (b : Bool) → is_name name n ≡ b → IsLeft t n → IsLeft s n
  by_left n true same is =
      let own = same_name name n same in
      subst (IsLeft s) own (l, found, sym (now is.0 (ap (lane t) own ∙ is.1)).1 ∙ is.2)
  by_left n false differs is = (is.0, sym (others n (other_name name n differs)) ∙ is.1, is.2)

  by_served : (n : LaneName) (by : ℕ) (b : Bool) → is_name name n ≡ b → IsServedBy t n by → IsServedBy s n by
  by_served n by true same is =
      let own = same_name name n same in
      subst (λ (x : LaneName). IsServedBy s x by) own (l, found, sym (now is.0 (ap (lane t) own ∙ is.1)).0 ∙ is.2)
  by_served n by false differs is = (is.0, sym (others n (other_name name n differs)) ∙ is.1, is.2)

opened_calm : (s t : LanesState Effect) (name : LaneName) → Opens s t name → IsCalm s t
opened_calm s t name o = record { left = λ n is. by_left n (is_name name n) refl is; served = λ n by is. by_served n by (is_name name n) refl is } where
  new_there : (n : LaneName) (l : Lane Effect) → is_name name n ≡ true → lane t n ≡ Some l → new_lane ≡ l
  new_there n l same found = same_Some new_lane l (sym o.found ∙ ap (lane t) (same_name name n same) ∙ found)

  by_left : (n : LaneName) (b : Bool) → is_name name n ≡ b → IsLeft t n → IsLeft s n
  by_left n true same is = absurd (false≢true (ap (λ (l : Lane Effect). is_left l) (new_there n is.0 same is.1) ∙ is.2))
  by_left n false differs is = (is.0, sym (o.others n (other_name name n differs)) ∙ is.1, is.2)

  by_served : (n : LaneName) (by : ℕ) (b : Bool) → is_name name n ≡ b → IsServedBy t n by → IsServedBy s n by
  by_served n by true same is =
      let none : None ≡ Some by = ap (λ (l : Lane Effect). l.server) (new_there n is.0 same is.1) ∙ is.2 in absurd (cc)
  by_served n by false differs is = (is.0, sym (o.others n (other_name name n differs)) ∙ is.1, is.2)

kept_is : (l l' : Lane Effect) → kept l ≡ Some l' → l ≡ l'
kept_is l l' is = by_need (is_needed l) is where
  by_need : (b : Bool) → cond b (Some l) None ≡ Some l' → l ≡ l'
  by_need true some = same_Some l l' some
  by_need false none = absurd (cc)

-- a lane whose names alone are counted anew
as_parted : (l l' : Lane Effect) → parted l ≡ l' → (l'.server ≡ l.server) × (is_left l' ≡ is_left l)
as_parted l l' same = (sym (ap (λ (x : Lane Effect). x.server) same), sym (ap (λ (x : Lane Effect). is_left x) same))

as_joined : (l l' : Lane Effect) → joined l ≡ l' → (l'.server ≡ l.server) × (is_left l' ≡ is_left l)
as_joined l l' same = (sym (ap (λ (x : Lane Effect). x.server) same), sym (ap (λ (x : Lane Effect). is_left x) same))

moves_calm : (s t : LanesState Effect) → Moves s t → IsCalm s t
moves_calm s t moves_none = same_lanes s t (λ n. refl)
moves_calm s t (moves_kept {t = x} k rest) = calm_then s x t (same_lanes s x k.lanes) (moves_calm x t rest)
moves_calm s t (moves_joined {t = x} name j rest) =
    calm_then s x t
    (one_turned s x name j.before j.found (λ l' now. as_joined j.before l' (same_Some (joined j.before) l' (sym j.joins.found ∙ now))) j.joins.others)
    (moves_calm x t rest)
moves_calm s t (moves_opened {t = x} name o rest) = calm_then s x t (opened_calm s x name o) (moves_calm x t rest)
moves_calm s t (moves_left {t = x} name l found turns rest) =
    calm_then s x t (one_turned s x name l found (λ l' now. as_parted l l' (kept_is (parted l) l' (sym turns.found ∙ now))) turns.others)
    (moves_calm x t rest)

settled_calm : (by : ℕ) (s t : LanesState Effect) → t ≡ settled by s → IsCalm s t
settled_calm by s t is = same_lanes s t (λ n. ap (λ (x : LanesState Effect). lane x n) is)

rests_calm : (s t : LanesState Effect) → Rests s t → IsCalm s t
rests_calm s t rests_none = same_lanes s t (λ n. refl)
rests_calm s t (rests_kept {t = x} before k) = calm_then s x t (rests_calm s x before) (same_lanes x t k.lanes)
rests_calm s t (rests_settled {t = x} {u = y} {v = z} by before moves k is) =
    calm_then s x t (rests_calm s x before)
    (calm_then x y t (moves_calm x y moves) (calm_then y z t (same_lanes y z k.lanes) (settled_calm by z t is)))

-- what is delivered ----------------------------------------------------------------------------------

-- what is left behind it was left, or got something; what got something is so still
record Brings (s t : LanesState Effect) : Type 0 where
  left : (n : LaneName) → IsLeft t n → IsLeft s n ⊎ (is_in n.place t.fresh ≡ true)
  served : (n : LaneName) (by : ℕ) → IsServedBy t n by → IsServedBy s n by
  fresh : (place : ℕ) → is_in place s.fresh ≡ true → is_in place t.fresh ≡ true

put_server : (by : ℕ) (e : Effect) (l : Lane Effect) → (delivered by e l).server ≡ l.server
put_server by e l = by_last (is_last e.what) where
  by_serving : (b : Bool) → (cond b (record l { front = l.front ++ e ∷ [] }) (put e l)).server ≡ l.server
  by_serving true = refl
  by_serving false = refl

  by_release : (b : Bool) → (if b then freed by e l else put e l).server ≡ l.server
  by_release true = by_serving (serves by l)
  by_release false = refl

  by_last : (b : Bool) → (if b then parted (put_by by e l) else put_by by e l).server ≡ l.server
  by_last true = by_release (is_release e.what)
  by_last false = by_release (is_release e.what)

-- one effect
one_brings : (by : ℕ) (e : Effect) (l : Lane Effect) (s t : LanesState Effect) → lane s e.lane ≡ Some l → Gets s t e.lane (delivered by e l) → Brings s t
one_brings by e l s t found gets = record {
  left = λ n is. by_left n (is_name e.lane n) refl is;
  served = λ n word is. by_served n word (is_name e.lane n) refl is;
  fresh = λ place is. ap (is_in place) gets.fresh_is ∙ touched_keeps e.lane.place place s.fresh is;
} where
  by_left : (n : LaneName) (b : Bool) → is_name e.lane n ≡ b → IsLeft t n → IsLeft s n ⊎ (is_in n.place t.fresh ≡ true)
  by_left n true same is =
      inr (subst (λ (a : LaneName). is_in a.place t.fresh ≡ true) (same_name e.lane n same)
      (ap (is_in e.lane.place) gets.fresh_is ∙ touched_own e.lane.place s.fresh))
  by_left n false differs is = inl (is.0, sym (gets.others n (other_name e.lane n differs)) ∙ is.1, is.2)

  by_served : (n : LaneName) (word : ℕ) (b : Bool) → is_name e.lane n ≡ b → IsServedBy t n word → IsServedBy s n word
  by_served n word true same is =
      let at = same_name e.lane n same in
      let now : delivered by e l ≡ is.0 = same_Some (delivered by e l) is.0 (sym gets.found ∙ ap (lane t) at ∙ is.1) in
      subst (λ (a : LaneName). IsServedBy s a word) at (l, found, sym (put_server by e l) ∙ ap (λ (m : Lane Effect). m.server) now ∙ is.2)
  by_served n word false differs is = (is.0, sym (gets.others n (other_name e.lane n differs)) ∙ is.1, is.2)

brings_then : (s t u : LanesState Effect) → Brings s t → Brings t u → Brings s u
brings_then s t u p q = record {
  left = λ n is. by_left n (q.left n is);
  served = λ n by is. p.served n by (q.served n by is);
  fresh = λ place is. q.fresh place (p.fresh place is);
} where
  by_left : (n : LaneName) → IsLeft t n ⊎ (is_in n.place u.fresh ≡ true) → IsLeft s n ⊎ (is_in n.place u.fresh ≡ true)
  by_left n (inr is) = inr is
  by_left n (inl is) = elim (p.left n is) [ inl before ↦ inl before | inr fresh ↦ inr (q.fresh n.place fresh) ]

delivers_brings : (by : ℕ) (s t : LanesState Effect) (es : List Effect) → Delivers by s es t → Brings s t
delivers_brings by s t es (none_delivered k) = record {
  left = λ n is. inl (is.0, sym (k.lanes n) ∙ is.1, is.2);
  served = λ n by is. (is.0, sym (k.lanes n) ∙ is.1, is.2);
  fresh = λ place is. ap (is_in place) k.fresh_is ∙ is;
}
delivers_brings by s t es (one_delivered {t = x} {es = fs} e l found arrives rest) =
    brings_then s x t (one_brings by e l s x found (arrives_gets s x by e l arrives)) (delivers_brings by x t fs rest)

-- commands -------------------------------------------------------------------------------------------

runs_left : (by : ℕ) (s t : LanesState Effect) (es : List Effect) (due : List Due) → Runs by s es due t → (n : LaneName) → IsLeft t n →
    IsLeft s n ⊎ (is_named n due ≡ true)
runs_left by s t es due (runs_resting rests) n is = inl ((rests_calm s t rests).left n is)
runs_left by s t es due (runs_settled {t = x} {u = y} moves delivers same) n is =
    by_brought ((delivers_brings by x y es delivers).left n was) where
      was : IsLeft y n
      was = (settled_calm by y t same).left n is

      by_brought : IsLeft x n ⊎ (is_in n.place y.fresh ≡ true) → IsLeft s n ⊎ (is_named n t.due ≡ true)
      by_brought (inl before) = inl ((moves_calm s x moves).left n before)
      by_brought (inr fresh) =
          inr (ap (λ (z : LanesState Effect). is_named n z.due) same
          ∙ fresh_named by y n was.0 was.1 (is_named n) (named_append n) (is_due by n was.0 (left_free was.0 was.2)) y.fresh fresh)

runs_served : (by : ℕ) (s t : LanesState Effect) (es : List Effect) (due : List Due) → Runs by s es due t → (n : LaneName) (word : ℕ) → IsServedBy t n word →
    IsServedBy s n word
runs_served by s t es due (runs_resting rests) n word is = (rests_calm s t rests).served n word is
runs_served by s t es due (runs_settled {t = x} {u = y} moves delivers same) n word is =
    (moves_calm s x moves).served n word ((delivers_brings by x y es delivers).served n word ((settled_calm by y t same).served n word is))

-- what is named -------------------------------------------------------------------------------------

there_then : (s : LanesState Effect) (xs ys : List Due) → AreThere s xs → AreThere s ys → AreThere s (xs ++ ys)
there_then s [] ys p q = q
there_then s (x ∷ xs) ys p q = (p.0, there_then s xs ys p.1 q)

due_there : (by : ℕ) (s : LanesState Effect) (place : ℕ) (o : Option (Opened Effect)) → opened_at s place ≡ o → AreThere s (due_at by place o)
due_there by s place None is = tt
due_there by s place (Some o) is = by_server (is_served o.lane) refl where
  found : lane s (record { place = place; turn = o.turn }) ≡ Some o.lane
  found = ap (with_turn o.turn) is ∙ ap (λ (b : Bool). cond b (Some o.lane) None) (eq-eqb o.turn o.turn refl)

  by_free : (b : Bool) → is_served o.lane ≡ true → AreThere s (cond b (record { lane = record { place = place; turn = o.turn }; inside = true } ∷ []) [])
  by_free true served = ((o.lane, found, sym served), tt)
  by_free false served = tt

  by_server : (b : Bool) → is_served o.lane ≡ b →
      AreThere s (cond b (cond (serves by o.lane && not (is_empty o.lane.front)) (record { lane = record { place = place; turn = o.turn }; inside = true } ∷ []) [])
      (record { lane = record { place = place; turn = o.turn }; inside = false } ∷ []))
  by_server true served = by_free (serves by o.lane && not (is_empty o.lane.front)) served
  by_server false free = ((o.lane, found, sym free), tt)

all_there : (by : ℕ) (s : LanesState Effect) (fresh : List ℕ) → AreThere s (due_of by s.places fresh)
all_there by s [] = tt
all_there by s (place ∷ more) =
    there_then s (due_at by place (opened_at s place)) (due_of by s.places more) (due_there by s place (opened_at s place) refl) (all_there by s more)

there_still : (s t : LanesState Effect) (ds : List Due) → ((n : LaneName) → lane t n ≡ lane s n) → AreThere s ds → AreThere t ds
there_still s t [] same p = tt
there_still s t (d ∷ ds) same p = ((p.0.0, same d.lane ∙ p.0.1, p.0.2), there_still s t ds same p.1)

runs_there : (by : ℕ) (s t : LanesState Effect) (es : List Effect) (due : List Due) → Runs by s es due t → AreThere t due
runs_there by s t es due (runs_resting rests) = tt
runs_there by s t es due (runs_settled {u = y} moves delivers same) =
    subst (AreThere t) (sym (ap (λ (z : LanesState Effect). z.due) same))
    (there_still y t (due_of by y.places y.fresh) (λ n. ap (λ (z : LanesState Effect). lane z n) same) (all_there by y y.fresh))

pub names_what_is_left : (g : Ghosts Token) → CommandsNameWhatIsLeft g
names_what_is_left g s t kept_all none c =
    let runs = command_runs g s t kept_all c in
    record {
      left = runs_left (maker c) s.parts.lanes t.parts.lanes (effects_of c) (answered c) runs;
      served = runs_served (maker c) s.parts.lanes t.parts.lanes (effects_of c) (answered c) runs;
      named = runs_there (maker c) s.parts.lanes t.parts.lanes (effects_of c) (answered c) runs;
      settled = runs_fresh (maker c) s.parts.lanes t.parts.lanes (effects_of c) (answered c) runs none;
    }
