-- Of each lane, all but releases is told in the order in which it was put there.
use Rattle.std.proofs.Common.{◌≡◌, ℕ, ◌&&◌, ◌||◌, not, Bool, true, false, cond, List, [], ◌∷◌, ◌++◌, Option, Some, None, is_some, slice_index_or, refl, sym, ap, ◌∙◌, subst, if◌then◌else◌, append_assoc, append-nil}
use Rattle.std.proofs.Common.{ltb as nat_lt}
use Rattle.std.proofs.lemmas.Bool.{false≢true, and_parts}
use Rattle.std.specs.Option.{option_to_list}
use Rattle.rx_resource.specs.declared.Resource.{Ghosts}
use Rattle.rx_resource.specs.declared.token.Token.{Token}
use Rattle.rx_lanes.specs.declared.names.LaneName.{LaneName}
use Rattle.rx_lanes.specs.declared.names.Due.{Due}
use Rattle.rx_lanes.specs.Courses.{is_name, all_but_last}
use Rattle.rx_lanes.specs.Lane.{Lane, line, listed, kept, serves, is_word, is_empty, is_served, has_any, is_needed, may_take, first_of_lane, served_by, served, taken, given_up, left_by, put, freed, parted}
use Rattle.rx_lanes.specs.State.{State as LanesState, Opened, with_turn, lane, Turns}
use Rattle.rx_roles.specs.declared.effect.Effect.{Effect}
use Rattle.rx_roles.specs.Effects.{is_last, is_release}
use Rattle.rx_engine.specs.Deliveries.{Joins, put_by, Delivers, none_delivered, one_delivered}
use Rattle.rx_engine.specs.Servings.{IsTake, IsGiveUp}
use Rattle.rx_engine.specs.States.{State, IsPromised}
use Rattle.rx_courses.specs.Courses.{IsCommand, Course, begins, commands, takes, gives_up, effects_of, all_effects}
use Rattle.rx_courses.specs.Serving.{maker, answered}
use Rattle.rx_courses.specs.Tellings.{those_there, but_releases, line_in, line_at, told_there, IsHonest, TellsInOrder}
use Rattle.rx_engine.proofs.Laws.EffectsInLanes.{same_name, other_name, delivered, arrives_gets}
use Rattle.rx_courses.proofs.MovesOfLanes.{Moves, moves_none, moves_kept, moves_joined, moves_opened, moves_left, Rests, rests_none, rests_kept, rests_settled, Runs, runs_resting, runs_settled}
use Rattle.rx_courses.proofs.RunsOfCommands.{command_runs}

-- lists ----------------------------------------------------------------------------------------------

pub those-append : (name : LaneName) (xs ys : List Effect) → those_there name (xs ++ ys) ≡ those_there name xs ++ those_there name ys
those-append name [] ys = refl
those-append name (x ∷ xs) ys = by_name (is_name x.lane name) (those-append name xs ys) where
  by_name : (b : Bool) → those_there name (xs ++ ys) ≡ those_there name xs ++ those_there name ys →
      (if b then x ∷ those_there name (xs ++ ys) else those_there name (xs ++ ys)) ≡ (if b then x ∷ those_there name xs else those_there name xs) ++ those_there
      name ys
  by_name true rest = ap (λ (zs : List Effect). x ∷ zs) rest
  by_name false rest = rest

but-append : (xs ys : List Effect) → but_releases (xs ++ ys) ≡ but_releases xs ++ but_releases ys
but-append [] ys = refl
but-append (x ∷ xs) ys = by_release (is_release x.what) (but-append xs ys) where
  by_release : (b : Bool) → but_releases (xs ++ ys) ≡ but_releases xs ++ but_releases ys →
      (if b then but_releases (xs ++ ys) else x ∷ but_releases (xs ++ ys)) ≡ (if b then but_releases xs else x ∷ but_releases xs) ++ but_releases ys
  by_release true rest = rest
  by_release false rest = ap (λ (zs : List Effect). x ∷ zs) rest

pub but_last : (es : List Effect) (e : Effect) → all_but_last (es ++ e ∷ []) ≡ es
but_last [] e = refl
but_last (x ∷ []) e = refl
but_last (x ∷ (y ∷ es)) e = ap (λ (zs : List Effect). x ∷ zs) (but_last (y ∷ es) e)

-- one lane -------------------------------------------------------------------------------------------

kept_line : (l : Lane Effect) → line_in (kept l) ≡ line l
kept_line l = by_needed (is_needed l) refl where
  first : (a b : Bool) → (a || b) ≡ false → a ≡ false
  first true b is = is
  first false b is = refl

  second : (a b : Bool) → (a || b) ≡ false → b ≡ false
  second true b is = absurd (false≢true (sym is))
  second false b is = is

  empty : (o : Option Effect) (front back : List Effect) → is_some o ≡ false → (not (is_empty front) || not (is_empty back)) ≡ false →
      [] ≡ listed o ++ (front ++ back)
  empty (Some e) front back absent none = absurd (false≢true (sym absent))
  empty None (e ∷ front) back absent none = absurd (false≢true (sym none))
  empty None [] (e ∷ back) absent none = absurd (false≢true (sym none))
  empty None [] [] absent none = refl

  by_needed : (b : Bool) → is_needed l ≡ b → line_in (cond b (Some l) None) ≡ line l
  by_needed true is = refl
  by_needed false is =
      let none = second (nat_lt 0 l.many) (has_any l) (second (is_served l) (nat_lt 0 l.many || has_any l) is) in
      empty l.returned l.front l.back (first (is_some l.returned) (not (is_empty l.front) || not (is_empty l.back)) none)
      (second (is_some l.returned) (not (is_empty l.front) || not (is_empty l.back)) none)

first_line : (inside : Bool) (returned : Option Effect) (front back : List Effect) (server : Option ℕ) (many : ℕ) →
    option_to_list (first_of_lane inside (record { returned = returned; front = front; back = back; server = server; many = many })).effect ++
    line (first_of_lane inside (record { returned = returned; front = front; back = back; server = server; many = many })).lane ≡ listed returned ++
    (front ++ back)
first_line inside (Some e) front back server many = refl
first_line inside None (e ∷ front) back server many = refl
first_line true None [] back server many = refl
first_line false None [] (e ∷ back) server many = refl
first_line false None [] [] server many = refl

taken_line : (by : ℕ) (inside : Bool) (l : Lane Effect) → option_to_list (taken by inside l).effect ++ line (taken by inside l).lane ≡ line l
taken_line by inside l = by_leave (may_take by inside l) where
  same_line : (o : Option Effect) (b : Bool) (x : Lane Effect) → line (served_by by b o x) ≡ line x
  same_line None true x = refl
  same_line None false x = refl
  same_line (Some e) b x = refl

  by_leave : (b : Bool) → option_to_list (cond b (served by inside (first_of_lane inside l)) (record { effect = None; lane = l })).effect ++
      line (cond b (served by inside (first_of_lane inside l)) (record { effect = None; lane = l })).lane ≡ line l
  by_leave true =
      ap (λ (zs : List Effect). option_to_list (first_of_lane inside l).effect ++ zs)
      (same_line (first_of_lane inside l).effect inside (first_of_lane inside l).lane)
      ∙ first_line inside l.returned l.front l.back l.server l.many
  by_leave false = refl

given_up_line : (by : ℕ) (undone : Option Effect) (l : Lane Effect) → (is_served l ≡ true → l.returned ≡ None) →
    line (given_up by undone l) ≡ (if is_some (left_by by undone l) then option_to_list undone else []) ++ line l
given_up_line by undone l none = by_server l.server refl where
  rest : List Effect
  rest = l.front ++ l.back

  listed_first : (o : Option Effect) → listed o ++ rest ≡ option_to_list o ++ rest
  listed_first None = refl
  listed_first (Some e) = refl

  by_serves : (b : Bool) → (b ≡ true → l.returned ≡ None) →
      line (cond b (record l { returned = undone; server = None }) l) ≡
      (if is_some (cond b (Some (has_any (given_up by undone l))) None) then option_to_list undone else []) ++ line l
  by_serves true empty = listed_first undone ∙ sym (ap (λ (o : Option Effect). option_to_list undone ++ (listed o ++ rest)) (empty refl))
  by_serves false empty = refl

  by_server : (o : Option ℕ) → l.server ≡ o → line (given_up by undone l) ≡ (if is_some (left_by by undone l) then option_to_list undone else []) ++ line l
  by_server None is = by_serves (serves by l) (λ serving. absurd (false≢true (sym (ap (is_word by) is) ∙ serving)))
  by_server (Some word) is = by_serves (serves by l) (λ serving. none (ap (λ (s : Option ℕ). is_some s) is))

delivered_line : (by : ℕ) (e : Effect) (l : Lane Effect) → but_releases (line (delivered by e l)) ≡ but_releases (line l) ++ but_releases (e ∷ [])
delivered_line by e l = by_last (is_last e.what) where
  behind : line (put e l) ≡ line l ++ e ∷ []
  behind = ap (λ (zs : List Effect). listed l.returned ++ zs) (sym (append_assoc l.front l.back (e ∷ []))) ∙
      sym (append_assoc (listed l.returned) (l.front ++ l.back) (e ∷ []))

  -- a release goes before others, and the others stay in order
  before : is_release e.what ≡ true → but_releases (line (record l { front = l.front ++ e ∷ [] })) ≡ but_releases (line l) ++ but_releases (e ∷ [])
  before is =
      let none : but_releases (e ∷ []) ≡ [] = ap (λ (b : Bool). if b then [] else e ∷ []) is in
      but-append (listed l.returned) ((l.front ++ e ∷ []) ++ l.back)
      ∙ ap (λ (zs : List Effect). but_releases (listed l.returned) ++ zs)
      (but-append (l.front ++ e ∷ []) l.back ∙ ap (λ (zs : List Effect). zs ++ but_releases l.back)
      (but-append l.front (e ∷ []) ∙ ap (λ (zs : List Effect). but_releases l.front ++ zs) none ∙ append-nil (but_releases l.front))
      ∙ sym (but-append l.front l.back))
      ∙ sym (but-append (listed l.returned) (l.front ++ l.back))
      ∙ sym (append-nil (but_releases (line l))) ∙ sym (ap (λ (zs : List Effect). but_releases (line l) ++ zs) none)

  last : but_releases (line (put e l)) ≡ but_releases (line l) ++ but_releases (e ∷ [])
  last = ap but_releases behind ∙ but-append (line l) (e ∷ [])

  by_server : (b : Bool) → is_release e.what ≡ true → but_releases (line (cond b (record l { front = l.front ++ e ∷ [] }) (put e l))) ≡ but_releases (line l) ++
      but_releases (e ∷ [])
  by_server true is = before is
  by_server false is = last

  by_release : (b : Bool) → is_release e.what ≡ b → but_releases (line (if b then freed by e l else put e l)) ≡ but_releases (line l) ++ but_releases (e ∷ [])
  by_release true is = by_server (serves by l) is
  by_release false is = last

  by_last : (b : Bool) → but_releases (line (if b then parted (put_by by e l) else put_by by e l)) ≡ but_releases (line l) ++ but_releases (e ∷ [])
  by_last true = by_release (is_release e.what) refl
  by_last false = by_release (is_release e.what) refl

-- all lanes ------------------------------------------------------------------------------------------

-- where the line of one lane becomes another, and all others stay
line_kept : (s t : LanesState Effect) (name other : LaneName) → line_in (lane t name) ≡ line_in (lane s name) →
    ((n : LaneName) → is_name name n ≡ false → lane t n ≡ lane s n) →
    line_at other t ≡ line_at other s
line_kept s t name other here others = by_name (is_name name other) refl where
  by_name : (b : Bool) → is_name name other ≡ b → line_at other t ≡ line_at other s
  by_name true is = subst (λ (n : LaneName). line_at n t ≡ line_at n s) (same_name name other is) here
  by_name false is = ap line_in (others other is)

joins_line : (other : LaneName) (s t : LanesState Effect) (name : LaneName) → Joins s t name → line_at other t ≡ line_at other s
joins_line other s t name j = line_kept s t name other (ap line_in j.joins.found ∙ sym (ap line_in j.found))
    (λ n differs. j.joins.others n (other_name name n differs))

-- where nothing is put, no line changes
pub moves_line : (other : LaneName) (s t : LanesState Effect) → Moves s t → line_at other t ≡ line_at other s
moves_line other s t moves_none = refl
moves_line other s t (moves_kept {t = m} k rest) = moves_line other m t rest ∙ ap line_in (k.lanes other)
moves_line other s t (moves_joined {t = m} name j rest) = moves_line other m t rest ∙ joins_line other s m name j
moves_line other s t (moves_opened {t = m} name o rest) =
    moves_line other m t rest
    ∙ line_kept s m name other (ap line_in o.found ∙ sym (ap line_in o.was_free)) (λ n differs. o.others n (other_name name n differs))
moves_line other s t (moves_left {t = m} name l found turns rest) =
    moves_line other m t rest
    ∙ line_kept s m name other (ap line_in turns.found ∙ kept_line (parted l) ∙ sym (ap line_in found))
    (λ n differs. turns.others n (other_name name n differs))

pub rests_line : (other : LaneName) (s t : LanesState Effect) → Rests s t → line_at other t ≡ line_at other s
rests_line other s t rests_none = refl
rests_line other s t (rests_kept {t = m} before k) = ap line_in (k.lanes other) ∙ rests_line other s m before
rests_line other s t (rests_settled {t = m} {u = n} {v = p} by before moves k is) =
    ap (line_at other) is ∙ ap line_in (k.lanes other) ∙ moves_line other m n moves ∙ rests_line other s m before

delivers_line : (other : LaneName) (by : ℕ) (s t : LanesState Effect) (es : List Effect) → Delivers by s es t →
    but_releases (line_at other t) ≡ but_releases (line_at other s) ++ but_releases (those_there other es)
delivers_line other by s t es (none_delivered k) = ap (λ (o : Option (Lane Effect)). but_releases (line_in o)) (k.lanes other) ∙
    sym (append-nil (but_releases (line_at other s)))
delivers_line other by s t es (one_delivered {t = m} {es = fs} e l found arrives rest) =
    let gets = arrives_gets s m by e l arrives in
    delivers_line other by m t fs rest ∙ ap (λ (zs : List Effect). zs ++ but_releases (those_there other fs))
    (one (is_name e.lane other) refl gets.found (λ differs. gets.others other (other_name e.lane other differs)))
    ∙ append_assoc (but_releases (line_at other s)) (but_releases (if is_name e.lane other then e ∷ [] else [])) (but_releases (those_there other fs))
    ∙ ap (λ (zs : List Effect). but_releases (line_at other s) ++ zs) (both (is_name e.lane other)) where
      one : (b : Bool) → is_name e.lane other ≡ b → lane m e.lane ≡ Some (delivered by e l) → (is_name e.lane other ≡ false → lane m other ≡ lane s other) →
          but_releases (line_at other m) ≡ but_releases (line_at other s) ++ but_releases (if b then e ∷ [] else [])
      one true is has others =
          subst (λ (n : LaneName). but_releases (line_at n m) ≡ but_releases (line_at n s) ++ but_releases (e ∷ [])) (same_name e.lane other is)
          (ap (λ (o : Option (Lane Effect)). but_releases (line_in o)) has ∙ delivered_line by e l
          ∙ ap (λ (o : Option (Lane Effect)). but_releases (line_in o) ++ but_releases (e ∷ [])) (sym found))
      one false is has others = ap (λ (o : Option (Lane Effect)). but_releases (line_in o)) (others is) ∙ sym (append-nil (but_releases (line_at other s)))

      both : (b : Bool) → but_releases (if b then e ∷ [] else []) ++ but_releases (those_there other fs) ≡ but_releases
          (if b then e ∷ those_there other fs else those_there other fs)
      both true = sym (but-append (e ∷ []) (those_there other fs))
      both false = refl

runs_line : (other : LaneName) (by : ℕ) (s t : LanesState Effect) (es : List Effect) (due : List Due) → Runs by s es due t →
    but_releases (line_at other t) ≡ but_releases (line_at other s) ++ but_releases (those_there other es)
runs_line other by s t es due (runs_resting rests) = ap but_releases (rests_line other s t rests) ∙ sym (append-nil (but_releases (line_at other s)))
runs_line other by s t es due (runs_settled {t = m} {u = p} moves delivers is) =
    ap (λ (x : LanesState Effect). but_releases (line_at other x)) is ∙ delivers_line other by m p es delivers
    ∙ ap (λ (zs : List Effect). but_releases zs ++ but_releases (those_there other es)) (moves_line other s m moves)

command_line : (other : LaneName) (g : Ghosts Token) (s t : State) → IsPromised s → (c : IsCommand g s t) →
    but_releases (line_at other t.parts.lanes) ≡ but_releases (line_at other s.parts.lanes) ++ but_releases (those_there other (effects_of c))
command_line other g s t kept c = runs_line other (maker c) s.parts.lanes t.parts.lanes (effects_of c) (answered c) (command_runs g s t kept c)

-- who serves -----------------------------------------------------------------------------------------

turned_line : (s t : LanesState Effect) (name other : LaneName) (o : Option (Lane Effect)) (first : List Effect) → Turns s t name o →
    line_in (lane s name) ≡ first ++ line_in o →
    line_at other s ≡ (if is_name name other then first else []) ++ line_at other t
turned_line s t name other o first turns is = by_name (is_name name other) refl where
  by_name : (b : Bool) → is_name name other ≡ b → line_at other s ≡ (if b then first else []) ++ line_at other t
  by_name true same =
      subst (λ (n : LaneName). line_at n s ≡ first ++ line_at n t) (same_name name other same)
      (is ∙ ap (λ (x : Option (Lane Effect)). first ++ line_in x) (sym turns.found))
  by_name false differs = ap line_in (sym (turns.others other (other_name name other differs)))

none_at : (b : Bool) → ◌≡◌ {A = List Effect} (if b then [] else []) []
none_at true = refl
none_at false = refl

pub take_line : (other : LaneName) (s t : State) (name : LaneName) (inside : Bool) (by : ℕ) (answer : Option Effect) → IsTake name inside by s t answer →
    line_at other s.parts.lanes ≡ (if is_name name other then option_to_list answer else []) ++ line_at other t.parts.lanes
take_line other s t name inside by answer take = by_lane (lane s.parts.lanes name) refl where
  by_lane : (o : Option (Lane Effect)) → lane s.parts.lanes name ≡ o → line_at other s.parts.lanes ≡ (if is_name name other then option_to_list answer else [])
      ++ line_at other t.parts.lanes
  by_lane None is =
      ap (λ (x : State). line_at other x.parts.lanes) (sym (take.gone is))
      ∙ ap (λ (zs : List Effect). zs ++ line_at other t.parts.lanes) (sym (ap (λ (o : Option Effect). if is_name name other then option_to_list o else [])
      (take.absent is) ∙ none_at (is_name name other)))
  by_lane (Some l) is =
      turned_line s.parts.lanes t.parts.lanes name other (kept (taken by inside l).lane) (option_to_list (taken by inside l).effect) (take.takes l is)
      (ap line_in is ∙ sym (taken_line by inside l) ∙ ap (λ (zs : List Effect). option_to_list (taken by inside l).effect ++ zs)
      (sym (kept_line (taken by inside l).lane)))
      ∙ ap (λ (o : Option Effect). (if is_name name other then option_to_list o else []) ++ line_at other t.parts.lanes) (sym (take.result l is))

pub give_up_line : (other : LaneName) (s t : State) (name : LaneName) (by : ℕ) (undone : Option Effect) (answer : Option Bool) → IsPromised s →
    IsGiveUp name by undone s t answer →
    line_at other t.parts.lanes ≡ (if (is_name name other && is_some answer) then option_to_list undone else []) ++ line_at other s.parts.lanes
give_up_line other s t name by undone answer kept_all give = by_lane (lane s.parts.lanes name) refl where
  Goal : Bool → Bool → Type 0
  Goal a b = line_at other t.parts.lanes ≡ (if (a && b) then option_to_list undone else []) ++ line_at other s.parts.lanes

  by_lane : (o : Option (Lane Effect)) → lane s.parts.lanes name ≡ o → Goal (is_name name other) (is_some answer)
  by_lane None is = subst (Goal (is_name name other)) (sym (ap (λ (o : Option Bool). is_some o) (give.absent is))) (no_answer (is_name name other)) where
    no_answer : (a : Bool) → Goal a false
    no_answer true = ap (λ (x : State). line_at other x.parts.lanes) (give.gone is)
    no_answer false = ap (λ (x : State). line_at other x.parts.lanes) (give.gone is)
  by_lane (Some l) is = subst (Goal (is_name name other)) (sym (ap (λ (o : Option Bool). is_some o) (give.result l is)))
      (by_name (is_name name other) refl) where
        turns : Turns s.parts.lanes t.parts.lanes name (kept (given_up by undone l))
        turns = give.gives_up l is

        by_name : (a : Bool) → is_name name other ≡ a → Goal a (is_some (left_by by undone l))
        by_name true same =
            subst (λ (n : LaneName). line_at n t.parts.lanes ≡ (if is_some (left_by by undone l) then option_to_list undone else []) ++ line_at n s.parts.lanes)
            (same_name name other same)
            (ap line_in turns.found ∙ kept_line (given_up by undone l) ∙ given_up_line by undone l (kept_all.lanes.returned name l is)
            ∙ ap (λ (o : Option (Lane Effect)). (if is_some (left_by by undone l) then option_to_list undone else []) ++ line_in o) (sym is))
        by_name false differs = ap line_in (turns.others other (other_name name other differs))

-- courses --------------------------------------------------------------------------------------------

-- what was told, and then what waits, behind a giving up by who gives back what was told last
returned_line : (a b : Bool) (undone : Option Effect) (told before after : List Effect) →
    ((e : Effect) → (a && b) ≡ true → undone ≡ Some e → (es : List Effect) × (told ≡ es ++ e ∷ [])) →
    after ≡ (if (a && b) then option_to_list undone else []) ++ before →
    (if (a && (b && is_some undone)) then all_but_last told else told) ++ after ≡ told ++ before
returned_line true true (Some e) told before after honest is =
    let last = honest e refl refl in
    ap (λ (zs : List Effect). all_but_last zs ++ after) last.1 ∙ ap (λ (zs : List Effect). zs ++ after) (but_last last.0 e)
    ∙ ap (λ (zs : List Effect). last.0 ++ zs) is ∙ sym (append_assoc last.0 (e ∷ []) before) ∙ ap (λ (zs : List Effect). zs ++ before) (sym last.1)
returned_line true true None told before after honest is = ap (λ (zs : List Effect). told ++ zs) is
returned_line true false _ told before after honest is = ap (λ (zs : List Effect). told ++ zs) is
returned_line false b _ told before after honest is = ap (λ (zs : List Effect). told ++ zs) is

course_line : (name : LaneName) (g : Ghosts Token) (s t : State) (course : Course g s t) → IsHonest course → line_at name s.parts.lanes ≡ [] →
    but_releases (told_there name course ++ line_at name t.parts.lanes) ≡ but_releases (those_there name (all_effects course))
course_line name g s t begins honest empty = ap but_releases empty
course_line name g s t (commands {t = m} before kept c) honest empty =
    but-append (told_there name before) (line_at name t.parts.lanes)
    ∙ ap (λ (zs : List Effect). but_releases (told_there name before) ++ zs) (command_line name g m t kept c)
    ∙ sym (append_assoc (but_releases (told_there name before)) (but_releases (line_at name m.parts.lanes)) (but_releases (those_there name (effects_of c))))
    ∙ ap (λ (zs : List Effect). zs ++ but_releases (those_there name (effects_of c)))
    (sym (but-append (told_there name before) (line_at name m.parts.lanes)) ∙ course_line name g s m before honest empty)
    ∙ sym (but-append (those_there name (all_effects before)) (those_there name (effects_of c)))
    ∙ sym (ap but_releases (those-append name (all_effects before) (effects_of c)))
course_line name g s t (takes {t = m} {answer = answer} from inside by before kept take) honest empty =
    ap but_releases (append_assoc (told_there name before) (if is_name from name then option_to_list answer else []) (line_at name t.parts.lanes)
    ∙ ap (λ (zs : List Effect). told_there name before ++ zs) (sym (take_line name m t from inside by answer take)))
    ∙ course_line name g s m before honest empty
course_line name g s t (gives_up {t = m} {answer = answer} from by undone before kept give) honest empty =
    ap but_releases (returned_line (is_name from name) (is_some answer) undone (told_there name before) (line_at name m.parts.lanes)
    (line_at name t.parts.lanes)
    (λ e both is.
    (let parts = and_parts (is_name from name) (is_some answer) both in
    subst (λ (n : LaneName). (es : List Effect) × (told_there n before ≡ es ++ e ∷ [])) (same_name from name parts.0) (honest.1 e parts.1 is)))
    (give_up_line name m t from by undone answer kept give))
    ∙ course_line name g s m before honest.0 empty

pub tells_in_order : (g : Ghosts Token) → TellsInOrder g
tells_in_order g name s t empty course honest =
    course_line name g s t course honest (ap (λ (ps : List (Option (Opened Effect))). line_in (with_turn name.turn (slice_index_or ps name.place None))) empty)
