-- The lanes of an engine have a course of lanes, so that what rx_lanes proves of those holds of them.
use Rattle.std.proofs.Common.{◌≡◌, ℕ, ◌≤◌, ◌&&◌, ◌||◌, ◌⊎◌, inl, inr, not, Bool, true, false, cond, List, [], ◌∷◌, ◌++◌, Option, Some, None, is_some, IsSome, slice_index_or, refl, sym, ap, ◌∙◌, arith, subst, if◌then◌else◌, append-nil}
use Rattle.std.proofs.lemmas.Bool.{false≢true, eq-eqb}
use Rattle.std.specs.Option.{option_to_list}
use Rattle.rx_resource.specs.declared.Resource.{Ghosts}
use Rattle.rx_resource.specs.declared.token.Token.{Token}
use Rattle.rx_event.proofs.Laws.Common.{and_true, and_false}
use Rattle.rx_slots.specs.Lists.{is_in, take_out}
use Rattle.rx_lanes.specs.declared.names.LaneName.{LaneName}
use Rattle.rx_lanes.specs.declared.names.Due.{Due}
use Rattle.rx_lanes.specs.Courses.{Log, LaneCall, putting, freeing, taking, giving_up, joining, parting, IsLaneCall, IsHonest as IsHonestCall, logged, with_log, is_name, is_named, is_named_inside, is_true, all_but_last, no_log, settled as log_settled}
use Rattle.rx_lanes.specs.Courses.{Course as LanesCourse, begins as begins_lanes, lane_call, opening, settling, keeping}
use Rattle.rx_lanes.specs.Lane.{Lane, put, freed, kept, parted, serves, is_served, is_empty, given_up, left_by, has_any, taken, listed}
use Rattle.rx_lanes.specs.State.{State as LanesState, Opened, lane, opened_at, Turns, KeepsLanes, Gets, due_of, fresh_with, IsPromised as AreLanesPromised}
use Rattle.rx_roles.specs.declared.effect.Effect.{Effect}
use Rattle.rx_roles.specs.Effects.{is_last, is_release}
use Rattle.rx_engine.specs.Deliveries.{put_by, PartsIf, Arrives, Delivers, none_delivered, one_delivered, settled}
use Rattle.rx_engine.specs.Servings.{IsTake, IsGiveUp}
use Rattle.rx_engine.specs.States.{State, IsPromised}
use Rattle.rx_courses.specs.Courses.{Course, begins, commands, takes, gives_up, effects_of}
use Rattle.rx_courses.specs.Serving.{maker, answered, gets_any, IsAtOnce, nobody_serves, another_serves, maker_serves, NamesAtOnce, named_there, NothingIsStuck}
use Rattle.rx_courses.specs.Tellings.{told_there, IsHonest}
use Rattle.rx_courses.specs.Runs.{LanesRun}
use Rattle.rx_lanes.proofs.Laws.LaneSteps.{Named}
use Rattle.rx_lanes.proofs.Laws.Courses.{nothing_stuck, named_at_once}
use Rattle.rx_engine.proofs.Laws.EffectsInLanes.{same_name, is_itself, other_name, delivered, arrives_gets}
use Rattle.rx_courses.proofs.MovesOfLanes.{Moves, moves_none, moves_kept, moves_joined, moves_opened, moves_left, Rests, rests_none, rests_kept, rests_settled, Runs, runs_resting, runs_settled}
use Rattle.rx_courses.proofs.RunsOfCommands.{command_runs}

-- what is said of each lane: what was told of it, whether it got something since the last settling, and whether an answer may have named it
-- since somebody was last given something of it
pub record Marks : Type 0 where
  pub told : LaneName → List Effect
  pub got : LaneName → Bool
  pub named : LaneName → Bool

pub record Says (m : Marks) (name : LaneName) (log : Log Effect) : Type 0 where
  pub told_is : log.told ≡ m.told name
  pub got_is : log.got ≡ m.got name
  pub named_is : log.named ≡ true → m.named name ≡ true

-- a course of lanes that says that; and of a lane that is still to come it told nothing
pub record Ran (m : Marks) (s : LanesState Effect) : Type 0 where
  pub logs : LaneName → Log Effect
  pub run : LanesCourse logs s
  pub says : (name : LaneName) → Says m name (logs name)
  pub later : (name : LaneName) → s.next_turn ≤ name.turn → m.told name ≡ []

-- where no lane got something since
abbrev pub quiet : (LaneName → List Effect) → (LaneName → Bool) → Marks
quiet told named = record { told = told; got = λ name. false; named = named }

-- one log is written
written : (m : Marks) (logs : LaneName → Log Effect) (name : LaneName) (log : Log Effect) → Says m name log →
    ((n : LaneName) → is_name name n ≡ false → Says m n (logs n)) → (other : LaneName) → Says m other (with_log name log logs other)
written m logs name log own others other = by_name (is_name name other) refl where
  by_name : (b : Bool) → is_name name other ≡ b → Says m other (cond b log (logs other))
  by_name true same = subst (λ (n : LaneName). Says m n log) (same_name name other same) own
  by_name false differs = others other differs

-- a call on a lane
ran_call : (m m' : Marks) (s t : LanesState Effect) (call : LaneCall Effect) (name : LaneName) (l : Lane Effect) (r : Ran m s) → lane s name ≡ Some l →
    IsHonestCall call l (r.logs name) → IsLaneCall call s t name l → Says m' name (logged call l (r.logs name)) →
    ((n : LaneName) → is_name name n ≡ false → Says m' n (r.logs n)) →
    ((n : LaneName) → t.next_turn ≤ n.turn → m'.told n ≡ []) → Ran m' t
ran_call m m' s t call name l r found honest is own others late = record {
  logs = with_log name (logged call l (r.logs name)) r.logs;
  run = lane_call call name l r.run found honest is;
  says = written m' r.logs name (logged call l (r.logs name)) own others;
  later = late;
}

-- that writes nothing
ran_silent : (m : Marks) (s t : LanesState Effect) (call : LaneCall Effect) (name : LaneName) (l : Lane Effect) (r : Ran m s) → lane s name ≡ Some l →
    IsHonestCall call l (r.logs name) → IsLaneCall call s t name l → logged call l (r.logs name) ≡ r.logs name → t.next_turn ≡ s.next_turn → Ran m t
ran_silent m s t call name l r found honest is same turn =
    ran_call m m s t call name l r found honest is (subst (λ (log : Log Effect). Says m name log) (sym same) (r.says name)) (λ n differs. r.says n)
    (λ n late. r.later n (omega (arith, turn, late)))

ran_kept : (m : Marks) (s t : LanesState Effect) → Ran m s → KeepsLanes s t → Ran m t
ran_kept m s t r k = record {
  logs = r.logs;
  run = keeping r.run k;
  says = r.says;
  later = λ n late. (let same = k.next_turn in r.later n (omega (arith, same, late)));
}

-- more may be said to be named
ran_as : (m m' : Marks) (s : LanesState Effect) → ((n : LaneName) → m'.told n ≡ m.told n) → ((n : LaneName) → m'.got n ≡ m.got n) →
    ((n : LaneName) → m.named n ≡ true → m'.named n ≡ true) → Ran m s → Ran m' s
ran_as m m' s told got named r = record {
  logs = r.logs;
  run = r.run;
  says = λ n.
      (let was = r.says n in
      record { told_is = was.told_is ∙ sym (told n); got_is = was.got_is ∙ sym (got n); named_is = λ is. named n (was.named_is is) });
  later = λ n late. told n ∙ r.later n late;
}

or_first : (a b c : Bool) → (a ≡ true → c ≡ true) → (a || b) ≡ true → (c || b) ≡ true
or_first a b true more is = refl
or_first true b false more is = absurd (false≢true (more refl))
or_first false b false more is = is

or_none : (a b : Bool) → a ≡ true → (a || b) ≡ true
or_none true b is = refl
or_none false b is = absurd (false≢true is)

-- commands -------------------------------------------------------------------------------------------

ran_moves : (m : Marks) (s t : LanesState Effect) → ((n : LaneName) → m.got n ≡ false) → Ran m s → Moves s t → Ran m t
ran_moves m s t none r moves_none = r
ran_moves m s t none r (moves_kept {t = x} k rest) = ran_moves m x t none (ran_kept m s x r k) rest
ran_moves m s t none r (moves_joined {t = x} name j rest) =
    ran_moves m x t none (ran_silent m s x joining name j.before r j.found tt j.joins refl j.joins.next_turn) rest
ran_moves m s t none r (moves_opened {t = x} name o rest) =
    ran_moves m x t none
    (record {
      logs = with_log name no_log r.logs;
      run = opening name r.run o;
      says = written m r.logs name no_log
          (record {
            told_is = sym (r.later name (let turn = o.turn in omega (arith, turn)));
            got_is = sym (none name);
            named_is = λ is. absurd (false≢true is);
          })
          (λ n differs. r.says n);
      later = λ n late. r.later n (let next = o.next_turn in omega (arith, next, late));
    }) rest
ran_moves m s t none r (moves_left {t = x} name l found turns rest) =
    ran_moves m x t none (ran_silent m s x parting name l r found tt turns refl turns.next_turn) rest

-- this lane got something, too
abbrev gotten : LaneName → Marks → Marks
gotten name m = record m { got = λ n. is_name name n || m.got n }

ran_put : (m : Marks) (s t : LanesState Effect) (by : ℕ) (e : Effect) (l : Lane Effect) → Ran m s → lane s e.lane ≡ Some l →
    Gets s t e.lane (put_by by e l) → Ran (gotten e.lane m) t
ran_put m s t by e l r found gets = by_release (is_release e.what) gets where
  own : (log : Log Effect) → log.told ≡ (r.logs e.lane).told → log.got ≡ true → log.named ≡ (r.logs e.lane).named → Says (gotten e.lane m) e.lane log
  own log told got named = record {
    told_is = told ∙ (r.says e.lane).told_is;
    got_is = got ∙ sym (ap (λ (b : Bool). b || m.got e.lane) (is_itself e.lane));
    named_is = λ is. (r.says e.lane).named_is (sym named ∙ is);
  }

  others : (n : LaneName) → is_name e.lane n ≡ false → Says (gotten e.lane m) n (r.logs n)
  others n differs = record {
    told_is = (r.says n).told_is;
    got_is = (r.says n).got_is ∙ sym (ap (λ (b : Bool). b || m.got n) differs);
    named_is = (r.says n).named_is;
  }

  late : (n : LaneName) → t.next_turn ≤ n.turn → m.told n ≡ []
  late n is = r.later n (let same = gets.next_turn in omega (arith, same, is))

  freed_own : (b : Bool) → Says (gotten e.lane m) e.lane
      (cond b (record (r.logs e.lane) { ahead = (r.logs e.lane).ahead ++ e ∷ []; got = true })
      (record (r.logs e.lane) { behind = (r.logs e.lane).behind ++ e ∷ []; got = true }))
  freed_own true = own (record (r.logs e.lane) { ahead = (r.logs e.lane).ahead ++ e ∷ []; got = true }) refl refl refl
  freed_own false = own (record (r.logs e.lane) { behind = (r.logs e.lane).behind ++ e ∷ []; got = true }) refl refl refl

  by_release : (b : Bool) → Gets s t e.lane (if b then freed by e l else put e l) → Ran (gotten e.lane m) t
  by_release true is = ran_call m (gotten e.lane m) s t (freeing by e) e.lane l r found tt is (freed_own (serves by l)) others late
  by_release false is = ran_call m (gotten e.lane m) s t (putting e) e.lane l r found tt is
      (own (record (r.logs e.lane) { behind = (r.logs e.lane).behind ++ e ∷ []; got = true }) refl refl refl) others late

ran_arrives : (m : Marks) (s t : LanesState Effect) (by : ℕ) (e : Effect) (l : Lane Effect) → Ran m s → lane s e.lane ≡ Some l →
    Arrives by e l s t → Ran (gotten e.lane m) t
ran_arrives m s t by e l r found a = by_last (is_last e.what) a.parts where
  between : Ran (gotten e.lane m) a.between
  between = ran_put m s a.between by e l r found a.gets

  by_last : (b : Bool) → PartsIf b e.lane (put_by by e l) a.between t → Ran (gotten e.lane m) t
  by_last true parts = ran_silent (gotten e.lane m) a.between t parting e.lane (put_by by e l) between a.gets.found tt parts refl parts.next_turn
  by_last false same = subst (Ran (gotten e.lane m)) (sym same) between

-- those of these effects got something, too
abbrev all_gotten : List Effect → Marks → Marks
all_gotten es m = record m { got = λ n. gets_any n es || m.got n }

ran_delivers : (by : ℕ) (m : Marks) (s t : LanesState Effect) (es : List Effect) → Ran m s → Delivers by s es t → Ran (all_gotten es m) t
ran_delivers by m s t es r (none_delivered k) = ran_kept m s t r k
ran_delivers by m s t es r (one_delivered {t = x} {es = fs} e l found arrives rest) =
    ran_as (all_gotten fs (gotten e.lane m)) (all_gotten (e ∷ fs) m) t (λ n. refl) (λ n. shape (is_name e.lane n) (gets_any n fs) (m.got n)) (λ n is. is)
    (ran_delivers by (gotten e.lane m) x t fs (ran_arrives m s x by e l r found arrives) rest) where
      shape : (a b c : Bool) → ((a || b) || c) ≡ (b || (a || c))
      shape true true c = refl
      shape true false c = refl
      shape false b c = refl

-- the answer names what got something
abbrev settled_marks : List Due → Marks → Marks
settled_marks due m = record { told = m.told; got = λ name. false; named = λ name. m.named name || is_named name due }

ran_settled : (m : Marks) (by : ℕ) (s t : LanesState Effect) → Ran m s → t ≡ settled by s → Ran (settled_marks t.due m) t
ran_settled m by s t r is = record {
  logs = λ name. log_settled by s name (r.logs name);
  run = settling by r.run is;
  says = λ name.
      (record {
        told_is = (r.says name).told_is;
        got_is = refl;
        named_is = λ named.
            ap (λ (x : LanesState Effect). m.named name || is_named name x.due) is
            ∙ or_first (r.logs name).named (is_named name (due_of by s.places s.fresh)) (m.named name) (r.says name).named_is named;
      });
  later = λ n late. r.later n (let same = ap (λ (x : LanesState Effect). x.next_turn) is in omega (arith, same, late));
}

-- what is fresh between commands ---------------------------------------------------------------------

fresh_kept : (place : ℕ) (o : Option (Lane Effect)) (fresh : List ℕ) → fresh ≡ [] → fresh_with place o fresh ≡ []
fresh_kept place None fresh none = ap (take_out place) none
fresh_kept place (Some l) fresh none = none

moves_fresh : (s t : LanesState Effect) → Moves s t → s.fresh ≡ [] → t.fresh ≡ []
moves_fresh s t moves_none none = none
moves_fresh s t (moves_kept {t = x} k rest) none = moves_fresh x t rest (k.fresh_is ∙ none)
moves_fresh s t (moves_joined {t = x} name j rest) none = moves_fresh x t rest (j.joins.fresh_is ∙ none)
moves_fresh s t (moves_opened {t = x} name o rest) none = moves_fresh x t rest (o.fresh_is ∙ none)
moves_fresh s t (moves_left {t = x} name l found turns rest) none =
    moves_fresh x t rest (turns.fresh_is ∙ fresh_kept name.place (kept (parted l)) s.fresh none)

rests_fresh : (s t : LanesState Effect) → Rests s t → s.fresh ≡ [] → t.fresh ≡ []
rests_fresh s t rests_none none = none
rests_fresh s t (rests_kept {t = x} before k) none = k.fresh_is ∙ rests_fresh s x before none
rests_fresh s t (rests_settled by before moves k is) none = ap (λ (x : LanesState Effect). x.fresh) is

pub runs_fresh : (by : ℕ) (s t : LanesState Effect) (es : List Effect) (due : List Due) → Runs by s es due t → s.fresh ≡ [] → t.fresh ≡ []
runs_fresh by s t es due (runs_resting rests) none = rests_fresh s t rests none
runs_fresh by s t es due (runs_settled moves delivers is) none = ap (λ (x : LanesState Effect). x.fresh) is

-- where no lane is open none is fresh
none_fresh : (s : LanesState Effect) → AreLanesPromised s → s.places ≡ [] → s.fresh ≡ []
none_fresh s kept empty = by_list s.fresh refl where
  by_list : (xs : List ℕ) → s.fresh ≡ xs → xs ≡ []
  by_list [] is = refl
  by_list (x ∷ xs) is =
      let fresh : is_in x s.fresh ≡ true = ap (is_in x) is ∙ ap (λ (b : Bool). b || is_in x xs) (eq-eqb x x refl) in
      let none : is_some (opened_at s x) ≡ false = ap (λ (ps : List (Option (Opened Effect))). is_some (slice_index_or ps x None)) empty in
      absurd (false≢true (sym none ∙ is_there (opened_at s x) (kept.open_still x fresh))) where
        is_there : (o : Option (Opened Effect)) → IsSome o → is_some o ≡ true
        is_there None is = absurd (cc)
        is_there (Some o) is = refl

turns_fresh : (s t : LanesState Effect) (name : LaneName) (o : Option (Lane Effect)) → Turns s t name o → s.fresh ≡ [] → t.fresh ≡ []
turns_fresh s t name o turns none = turns.fresh_is ∙ fresh_kept name.place o s.fresh none

-- what an answer says --------------------------------------------------------------------------------

-- where nothing is fresh, no command that rests names a lane
ran_rests : (told : LaneName → List Effect) (named : LaneName → Bool) (s t : LanesState Effect) → Ran (quiet told named) s → s.fresh ≡ [] → Rests s t →
    Ran (quiet told named) t
ran_rests told named s t r none rests_none = r
ran_rests told named s t r none (rests_kept {t = x} before k) = ran_kept (quiet told named) x t (ran_rests told named s x r none before) k
ran_rests told named s t r none (rests_settled {t = x} {u = y} {v = z} by before moves k is) =
    let still = ran_moves (quiet told named) x y (λ n. refl) (ran_rests told named s x r none before) moves in
    let nothing : z.fresh ≡ [] = k.fresh_is ∙ moves_fresh x y moves (rests_fresh s x before none) in
    ran_as (settled_marks t.due (quiet told named)) (quiet told named) t (λ n. refl) (λ n. refl)
    (λ n was. or_neither (named n) (is_named n t.due)
    (ap (λ (w : LanesState Effect). is_named n w.due) is ∙ ap (λ (fresh : List ℕ). is_named n (due_of by z.places fresh)) nothing) was)
    (ran_settled (quiet told named) by z t (ran_kept (quiet told named) y z still k) is) where
      or_neither : (a b : Bool) → b ≡ false → (a || b) ≡ true → a ≡ true
      or_neither true b none is = refl
      or_neither false b none is = absurd (false≢true (sym none ∙ is))

ran_runs : (told : LaneName → List Effect) (named : LaneName → Bool) (by : ℕ) (s t : LanesState Effect) (es : List Effect) (due : List Due) →
    Ran (quiet told named) s → s.fresh ≡ [] → Runs by s es due t → Ran (quiet told (λ n. named n || is_named n due)) t
ran_runs told named by s t es due r none (runs_resting rests) =
    ran_as (quiet told named) (quiet told (λ n. named n || is_named n [])) t (λ n. refl) (λ n. refl) (λ n is. or_none (named n) false is)
    (ran_rests told named s t r none rests)
ran_runs told named by s t es due r none (runs_settled {t = x} {u = y} moves delivers is) =
    ran_settled (all_gotten es (quiet told named)) by y t
    (ran_delivers by (quiet told named) x y es (ran_moves (quiet told named) s x (λ n. refl) r moves) delivers) is

-- at once --------------------------------------------------------------------------------------------

some_there : (o : Option (Lane Effect)) → is_some o ≡ true → (l : Lane Effect) × (o ≡ Some l)
some_there None is = absurd (false≢true is)
some_there (Some l) is = (l, refl)

-- a lane that gets something, or was there, is there behind it
delivers_there : (name : LaneName) (by : ℕ) (s t : LanesState Effect) (es : List Effect) → (gets_any name es || is_some (lane s name)) ≡ true →
    Delivers by s es t → is_some (lane t name) ≡ true
delivers_there name by s t es there (none_delivered k) = ap (λ (o : Option (Lane Effect)). is_some o) (k.lanes name) ∙ there
delivers_there name by s t es there (one_delivered {t = x} {es = fs} e l found arrives rest) =
    let gets = arrives_gets s x by e l arrives in
    delivers_there name by x t fs
    (one (is_name e.lane name) refl there gets.found (λ differs. gets.others name (other_name e.lane name differs))) rest where
      either : (a b : Bool) → b ≡ true → (a || b) ≡ true
      either true b is = refl
      either false b is = is

      one : (b : Bool) → is_name e.lane name ≡ b → ((b || gets_any name fs) || is_some (lane s name)) ≡ true → lane x e.lane ≡ Some (delivered by e l) →
          (is_name e.lane name ≡ false → lane x name ≡ lane s name) → (gets_any name fs || is_some (lane x name)) ≡ true
      one true same is has others =
          either (gets_any name fs) (is_some (lane x name))
          (subst (λ (n : LaneName). is_some (lane x n) ≡ true) (same_name e.lane name same) (ap (λ (o : Option (Lane Effect)). is_some o) has))
      one false differs is has others = ap (λ (o : Option (Lane Effect)). gets_any name fs || is_some o) (others differs) ∙ is

-- what a lane is that got something
record GotAtOnce (by : ℕ) (due : List Due) (name : LaneName) (t : LanesState Effect) : Type 0 where
  now_is : Lane Effect
  found : lane t name ≡ Some now_is
  at_once : IsAtOnce by due name now_is

ran_at_once : (told : LaneName → List Effect) (named : LaneName → Bool) (by : ℕ) (s t : LanesState Effect) (es : List Effect) (due : List Due) →
    Ran (quiet told named) s → (name : LaneName) → gets_any name es ≡ true → Runs by s es due t → GotAtOnce by due name t
ran_at_once told named by s t es due r name gets (runs_resting rests) = absurd (false≢true gets)
ran_at_once told named by s t es due r name gets (runs_settled {t = x} {u = y} moves delivers is) =
    let put = ran_delivers by (quiet told named) x y es (ran_moves (quiet told named) s x (λ n. refl) r moves) delivers in
    let there = some_there (lane y name) (delivers_there name by x y es (or_none (gets_any name es) (is_some (lane x name)) gets) delivers) in
    let got = (put.says name).got_is ∙ or_none (gets_any name es) false gets in
    let same : due_of by y.places y.fresh ≡ t.due = sym (ap (λ (z : LanesState Effect). z.due) is) in
    record {
      now_is = there.0;
      found = ap (λ (z : LanesState Effect). lane z name) is ∙ there.1;
      at_once = subst (λ (due : List Due). IsAtOnce by due name there.0) same
          (by_law there.0 (due_of by y.places y.fresh) (named_at_once put.logs y put.run name there.0 there.1 got by));
    } where
      by_law : (l : Lane Effect) (due : List Due) → ((is_served l ≡ false) × (is_named name due ≡ true)) ⊎ ((is_served l ≡ true) × (serves by l ≡ false)) ⊎
          ((serves by l ≡ true) × (is_empty l.front ≡ false → is_named_inside name due ≡ true)) → IsAtOnce by due name l
      by_law l due (inl nobody) = nobody_serves nobody.0 nobody.1
      by_law l due (inr (inl another)) = another_serves another.0 another.1
      by_law l due (inr (inr maker)) = maker_serves maker.0 maker.1

-- who serves -----------------------------------------------------------------------------------------

-- a lane that is still to come is not one that was found
not_later : (s : State) (name other : LaneName) (l : Lane Effect) → IsPromised s → lane s.parts.lanes name ≡ Some l → s.parts.lanes.next_turn ≤ other.turn →
    is_name name other ≡ false
not_later s name other l kept_all found late = by_name (is_name name other) refl where
  by_name : (b : Bool) → is_name name other ≡ b → b ≡ false
  by_name true same =
      let turn = kept_all.lanes.turns name l found in
      let is = ap (λ (n : LaneName). n.turn) (same_name name other same) in
      absurd (omega (arith, turn, is, late))
  by_name false differs = refl

-- a call on a lane that tells something, or takes something back
ran_telling : (m m' : Marks) (s : State) (t : LanesState Effect) (call : LaneCall Effect) (name : LaneName) (l : Lane Effect) (r : Ran m s.parts.lanes) →
    IsPromised s → lane s.parts.lanes name ≡ Some l → IsHonestCall call l (r.logs name) → IsLaneCall call s.parts.lanes t name l →
    Says m' name (logged call l (r.logs name)) → ((n : LaneName) → is_name name n ≡ false → Says m' n (r.logs n)) →
    ((n : LaneName) → is_name name n ≡ false → m'.told n ≡ m.told n) → t.next_turn ≡ s.parts.lanes.next_turn → Ran m' t
ran_telling m m' s t call name l r kept_all found honest is own others told turn =
    ran_call m m' s.parts.lanes t call name l r found honest is own others
    (λ n late.
    (let late_was : s.parts.lanes.next_turn ≤ n.turn = omega (arith, turn, late) in
    told n (not_later s name n l kept_all found late_was) ∙ r.later n late_was))

-- with what was taken
abbrev with_answer : LaneName → Option Effect → (LaneName → List Effect) → (LaneName → Bool) → Marks
with_answer name answer told named =
    quiet (λ n. told n ++ (if is_name name n then option_to_list answer else [])) (λ n. not (is_name name n && is_some answer) && named n)

nothing_told : (b : Bool) → ◌≡◌ {A = List Effect} (if b then [] else []) []
nothing_told true = refl
nothing_told false = refl

listed_same : (o : Option Effect) → listed o ≡ option_to_list o
listed_same None = refl
listed_same (Some e) = refl

ran_take : (told : LaneName → List Effect) (named : LaneName → Bool) (s t : State) (name : LaneName) (inside : Bool) (by : ℕ) (answer : Option Effect) →
    IsPromised s → Ran (quiet told named) s.parts.lanes → IsTake name inside by s t answer →
    Ran (with_answer name answer told named) t.parts.lanes
ran_take told named s t name inside by answer kept_all r take = by_lane (lane s.parts.lanes name) refl where
  now : Marks
  now = with_answer name answer told named

  taken_named : (a o log mark : Bool) → a ≡ true → (log ≡ true → mark ≡ true) → cond o false log ≡ true → (not (a && o) && mark) ≡ true
  taken_named true true log mark own more is = absurd (false≢true is)
  taken_named true false log mark own more is = more is
  taken_named false o log mark own more is = absurd (false≢true own)

  by_lane : (o : Option (Lane Effect)) → lane s.parts.lanes name ≡ o → Ran now t.parts.lanes
  by_lane None is =
      ran_as (quiet told named) now t.parts.lanes
      (λ n. ap (λ (o : Option Effect). told n ++ (if is_name name n then option_to_list o else [])) (take.absent is)
      ∙ ap (λ (zs : List Effect). told n ++ zs) (nothing_told (is_name name n)) ∙ append-nil (told n))
      (λ n. refl)
      (λ n named_was. ap (λ (o : Option Effect). not (is_name name n && is_some o) && named n) (take.absent is)
      ∙ ap (λ (b : Bool). not b && named n) (and_false (is_name name n)) ∙ named_was)
      (subst (λ (x : State). Ran (quiet told named) x.parts.lanes) (sym (take.gone is)) r)
  by_lane (Some l) is =
      let turns = take.takes l is in
      ran_telling (quiet told named) now s t.parts.lanes (taking by inside) name l r kept_all is tt turns
      (record {
        told_is = (λ i. (r.says name).told_is i ++ listed (taken by inside l).effect)
            ∙ ap (λ (zs : List Effect). told name ++ zs) (listed_same (taken by inside l).effect ∙ ap (λ (o : Option Effect). option_to_list o)
            (sym (take.result l is)))
            ∙ sym (ap (λ (b : Bool). told name ++ (if b then option_to_list answer else [])) (is_itself name));
        got_is = (r.says name).got_is;
        named_is = λ named_was.
            ap (λ (o : Option Effect). not (is_name name name && is_some o) && named name) (take.result l is)
            ∙ taken_named (is_name name name) (is_some (taken by inside l).effect) (r.logs name).named (named name) (is_itself name) (r.says name).named_is
            named_was;
      })
      (λ n differs.
      (record {
        told_is = (r.says n).told_is ∙ sym (ap (λ (b : Bool). told n ++ (if b then option_to_list answer else [])) differs ∙ append-nil (told n));
        got_is = (r.says n).got_is;
        named_is = λ named_was. ap (λ (b : Bool). not (b && is_some answer) && named n) differs ∙ (r.says n).named_is named_was;
      }))
      (λ n differs. ap (λ (b : Bool). told n ++ (if b then option_to_list answer else [])) differs ∙ append-nil (told n))
      turns.next_turn

-- without what was given back
abbrev without_last : LaneName → Option Bool → Option Effect → (LaneName → List Effect) → (LaneName → Bool) → Marks
without_last name answer undone told named =
    quiet (λ n. if (is_name name n && (is_some answer && is_some undone)) then all_but_last (told n) else told n)
    (λ n. named n || (is_name name n && is_true answer))

ran_give_up : (told : LaneName → List Effect) (named : LaneName → Bool) (s t : State) (name : LaneName) (by : ℕ) (undone : Option Effect)
    (answer : Option Bool) →
    IsPromised s → Ran (quiet told named) s.parts.lanes →
    IsGiveUp name by undone s t answer → ((e : Effect) → is_some answer ≡ true → undone ≡ Some e → (es : List Effect) × (told name ≡ es ++ e ∷ [])) →
    Ran (without_last name answer undone told named) t.parts.lanes
ran_give_up told named s t name by undone answer kept_all r give honest = by_lane (lane s.parts.lanes name) refl where
  now : Marks
  now = without_last name answer undone told named

  answered_so : (l : Lane Effect) (b : Bool) (u : Option Effect) → is_some (cond b (Some (has_any (given_up by u l))) None) ≡ b
  answered_so l true u = refl
  answered_so l false u = refl

  none_back : (n : LaneName) → (is_some answer && is_some undone) ≡ false →
      (if (is_name name n && (is_some answer && is_some undone)) then all_but_last (told n) else told n) ≡ told n
  none_back n none = ap (λ (b : Bool). if b then all_but_last (told n) else told n)
      (ap (λ (b : Bool). is_name name n && b) none ∙ and_false (is_name name n))

  as_if : (b : Bool) (es : List Effect) → cond b (all_but_last es) es ≡ (if b then all_but_last es else es)
  as_if true es = refl
  as_if false es = refl

  others : (n : LaneName) → is_name name n ≡ false → Says now n (r.logs n)
  others n differs = record {
    told_is = (r.says n).told_is ∙ sym (ap (λ (b : Bool). if (b && (is_some answer && is_some undone)) then all_but_last (told n) else told n) differs);
    got_is = (r.says n).got_is;
    named_is = λ is. or_none (named n) (is_name name n && is_true answer) ((r.says n).named_is is);
  }

  told_others : (n : LaneName) → is_name name n ≡ false →
      (if (is_name name n && (is_some answer && is_some undone)) then all_but_last (told n) else told n) ≡ told n
  told_others n differs = ap (λ (b : Bool). if (b && (is_some answer && is_some undone)) then all_but_last (told n) else told n) differs

  more_named : (l : Lane Effect) → lane s.parts.lanes name ≡ Some l → ((r.logs name).named || is_true (left_by by undone l)) ≡ true →
      (named name || (is_name name name && is_true answer)) ≡ true
  more_named l is named_was =
      (λ i. named name || (is_itself name i && is_true (give.result l is i)))
      ∙ or_first (r.logs name).named (is_true (left_by by undone l)) (named name) (r.says name).named_is named_was

  by_back : (l : Lane Effect) → lane s.parts.lanes name ≡ Some l → (u : Option Effect) → undone ≡ u →
      Turns s.parts.lanes t.parts.lanes name (kept (given_up by u l)) → Ran now t.parts.lanes
  by_back l is None back turns =
      ran_telling (quiet told named) now s t.parts.lanes (giving_up by None) name l r kept_all is tt turns
      (record {
        told_is = (r.says name).told_is
            ∙ sym (none_back name (ap (λ (o : Option Effect). is_some answer && is_some o) back ∙ and_false (is_some answer)));
        got_is = (r.says name).got_is;
        named_is = λ named_was. more_named l is (ap (λ (o : Option Effect). (r.logs name).named || is_true (left_by by o l)) back ∙ named_was);
      })
      others told_others turns.next_turn
  by_back l is (Some e) back turns =
      let says : is_some answer ≡ serves by l = ap (λ (o : Option Bool). is_some o) (give.result l is) ∙ answered_so l (serves by l) undone in
      ran_telling (quiet told named) now s t.parts.lanes (giving_up by (Some e)) name l r kept_all is
      (λ serving. (let last = honest e (says ∙ serving) back in (last.0, (r.says name).told_is ∙ last.1)))
      turns
      (record {
        told_is = (λ i. cond (serves by l) (all_but_last ((r.says name).told_is i)) ((r.says name).told_is i))
            ∙ as_if (serves by l) (told name)
            ∙ sym (ap (λ (b : Bool). if b then all_but_last (told name) else told name)
            ((λ i. is_itself name i && (says i && is_some (back i))) ∙ and_true (serves by l)));
        got_is = (r.says name).got_is;
        named_is = λ named_was. more_named l is (ap (λ (o : Option Effect). (r.logs name).named || is_true (left_by by o l)) back ∙ named_was);
      })
      others told_others turns.next_turn

  by_lane : (o : Option (Lane Effect)) → lane s.parts.lanes name ≡ o → Ran now t.parts.lanes
  by_lane None is =
      ran_as (quiet told named) now t.parts.lanes
      (λ n. none_back n (ap (λ (o : Option Bool). is_some o && is_some undone) (give.absent is))) (λ n. refl)
      (λ n named_was. or_none (named n) (is_name name n && is_true answer) named_was)
      (subst (λ (x : State). Ran (quiet told named) x.parts.lanes) (sym (give.gone is)) r)
  by_lane (Some l) is = by_back l is undone refl (give.gives_up l is)

-- courses --------------------------------------------------------------------------------------------

-- where a command begins no lane is fresh
take_fresh : (s t : State) (name : LaneName) (inside : Bool) (by : ℕ) (answer : Option Effect) → IsTake name inside by s t answer → s.parts.lanes.fresh ≡ [] →
    t.parts.lanes.fresh ≡ []
take_fresh s t name inside by answer take none = by_lane (lane s.parts.lanes name) refl where
  by_lane : (o : Option (Lane Effect)) → lane s.parts.lanes name ≡ o → t.parts.lanes.fresh ≡ []
  by_lane None is = ap (λ (x : State). x.parts.lanes.fresh) (take.gone is) ∙ none
  by_lane (Some l) is = turns_fresh s.parts.lanes t.parts.lanes name (kept (taken by inside l).lane) (take.takes l is) none

give_up_fresh : (s t : State) (name : LaneName) (by : ℕ) (undone : Option Effect) (answer : Option Bool) → IsGiveUp name by undone s t answer →
    s.parts.lanes.fresh ≡ [] → t.parts.lanes.fresh ≡ []
give_up_fresh s t name by undone answer give none = by_lane (lane s.parts.lanes name) refl where
  by_lane : (o : Option (Lane Effect)) → lane s.parts.lanes name ≡ o → t.parts.lanes.fresh ≡ []
  by_lane None is = ap (λ (x : State). x.parts.lanes.fresh) (give.gone is) ∙ none
  by_lane (Some l) is = turns_fresh s.parts.lanes t.parts.lanes name (kept (given_up by undone l)) (give.gives_up l is) none

course_fresh : (g : Ghosts Token) (s t : State) (course : Course g s t) → s.parts.lanes.places ≡ [] → IsPromised t → t.parts.lanes.fresh ≡ []
course_fresh g s t begins empty now = none_fresh s.parts.lanes now.lanes empty
course_fresh g s t (commands {t = m} before kept_all c) empty now =
    runs_fresh (maker c) m.parts.lanes t.parts.lanes (effects_of c) (answered c) (command_runs g m t kept_all c) (course_fresh g s m before empty kept_all)
course_fresh g s t (takes {t = m} {answer = answer} from inside by before kept_all take) empty now =
    take_fresh m t from inside by answer take (course_fresh g s m before empty kept_all)
course_fresh g s t (gives_up {t = m} {answer = answer} from by undone before kept_all give) empty now =
    give_up_fresh m t from by undone answer give (course_fresh g s m before empty kept_all)

abbrev marks_of : {g : Ghosts Token} {s t : State} → Course g s t → Marks
marks_of course = quiet (λ name. told_there name course) (λ name. named_there name course)

ran_course : (g : Ghosts Token) (s t : State) (course : Course g s t) → IsHonest course → s.parts.lanes.places ≡ [] → Ran (marks_of course) t.parts.lanes
ran_course g s t begins honest empty = record {
  logs = λ name. no_log;
  run = begins_lanes empty;
  says = λ name. (record { told_is = refl; got_is = refl; named_is = λ is. is });
  later = λ name l. refl;
}
ran_course g s t (commands {t = m} before kept_all c) honest empty =
    ran_runs (λ name. told_there name before) (λ name. named_there name before) (maker c) m.parts.lanes t.parts.lanes (effects_of c) (answered c)
    (ran_course g s m before honest empty) (course_fresh g s m before empty kept_all) (command_runs g m t kept_all c)
ran_course g s t (takes {t = m} {answer = answer} from inside by before kept_all take) honest empty =
    ran_take (λ name. told_there name before) (λ name. named_there name before) m t from inside by answer kept_all (ran_course g s m before honest empty) take
ran_course g s t (gives_up {t = m} {answer = answer} from by undone before kept_all give) honest empty =
    ran_give_up (λ name. told_there name before) (λ name. named_there name before) m t from by undone answer kept_all
    (ran_course g s m before honest.0 empty) give honest.1

-- the laws -------------------------------------------------------------------------------------------

-- what an answer named, where it cannot have got something since
named_of : (log : Log Effect) → log.got ≡ false → Named log → log.named ≡ true
named_of log none (inl got) = absurd (false≢true (sym none ∙ got))
named_of log none (inr named) = named

pub lanes_run : (g : Ghosts Token) → LanesRun g
lanes_run g s t empty course honest =
    let r = ran_course g s t course honest empty in
    record {
      logs = r.logs;
      run = r.run;
      told_is = λ name. (r.says name).told_is;
      left_named = λ name l found left. named_of (r.logs name) (r.says name).got_is (nothing_stuck r.logs t.parts.lanes r.run name l found left);
    }

pub nothing_is_stuck : (g : Ghosts Token) → NothingIsStuck g
nothing_is_stuck g s t empty course honest name l found left =
    let r = ran_course g s t course honest empty in
    (r.says name).named_is (named_of (r.logs name) (r.says name).got_is (nothing_stuck r.logs t.parts.lanes r.run name l found left))

pub names_at_once : (g : Ghosts Token) → NamesAtOnce g
names_at_once g s t u empty course honest kept_all c name gets =
    let once = ran_at_once (λ n. told_there n course) (λ n. named_there n course) (maker c) t.parts.lanes u.parts.lanes (effects_of c) (answered c)
    (ran_course g s t course honest empty) name gets (command_runs g t u kept_all c) in
    (once.now_is, once.found, once.at_once)
