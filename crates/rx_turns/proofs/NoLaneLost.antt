-- No lane is lost by what is served.
use Rattle.std.proofs.Common.{◌≡◌, ◌≢◌, ℕ, ◌==◌, ◌||◌, ◌⊎◌, inl, inr, not, Bool, true, false, cond, List, [], ◌∷◌, ◌++◌, Option, Some, None, IsSome, refl, sym, ap, subst, ◌∙◌, append-nil}
use Rattle.std.proofs.lemmas.Bool.{false≢true, and_parts, eqb-true, eq-eqb}
use Rattle.std.proofs.lemmas.Option.{same_Some}
use Rattle.rx_slots.specs.Lists.{is_in, take_out}
use Rattle.rx_lanes.specs.declared.names.LaneName.{LaneName}
use Rattle.rx_lanes.specs.Lane.{Lane}
use Rattle.rx_lanes.specs.State.{lane, IsLeft}
use Rattle.rx_roles.specs.declared.effect.Effect.{Effect as Sent}
use Rattle.rx_roles.specs.declared.effect.What.{What}
use Rattle.rx_engine.specs.States.{IsPromised}
use Rattle.rx_courses.specs.LeftNamed.{IsServedBy}
use Rattle.rx_cellar.specs.declared.cellar.Cellar.{Cellar}
use Rattle.rx_cellar.specs.declared.shapes.Effect.{Effect}
use Rattle.rx_cellar.specs.Crossings.{what_of}
use Rattle.rx_cellar.specs.Words.{is_inside, named, place_in, word_of, WordsFindTheirLanes}
use Rattle.rx_turns.specs.declared.agenda.Turn.{Turn}
use Rattle.rx_turns.specs.declared.agenda.Task.{Task}
use Rattle.rx_turns.specs.Rows.{is_same, begun_by}
use Rattle.rx_turns.specs.Agendas.{DueLists, due_to, in_hand, lane_word, LosesNothing, IsServing, Holds}
use Rattle.rx_turns.specs.States.{TurnState}
use Rattle.rx_turns.specs.Serving.{AsksLane, gives_one, gives_none, TakesOff, Drops, TakesDue, nothing_due, has_one, has_none}
use Rattle.rx_turns.specs.Serving.{Serves, hands_again, goes_on, ends_lane, serves_none, ServesDeeper, none_deeper, deeper_has_one, deeper_has_none}
use Rattle.rx_turns.specs.Calls.{HasNoted}
use Rattle.rx_turns.specs.Tended.{StandsDue, IsAstray, NoLaneIsLost}
use Rattle.rx_turns.proofs.Lines.{is_same-self}
use Rattle.rx_turns.proofs.LanesAsked.{lanes, own_word, IsAsked, is_asked}
use Rattle.rx_turns.proofs.TakenOut.{in_take_out}

-- lists ------------------------------------------------------------------------------------------------------

-- what was not taken out is there still, whatever comes behind
pub still_there : (m p : ℕ) (xs ys : List ℕ) → m ≢ p → is_in m xs ≡ true → is_in m (take_out p xs ++ ys) ≡ true
still_there m p [] ys differs is = absurd (false≢true is)
still_there m p (x ∷ xs) ys differs is = by_first (m == x) refl is (still_there m p xs ys differs) where
  kept : (b : Bool) → (p == x) ≡ b → m ≡ x → not b ≡ true
  kept true same at = absurd (differs (at ∙ sym (eqb-true p x same)))
  kept false other at = refl

  or_right : (a b : Bool) → b ≡ true → (a || b) ≡ true
  or_right true b so = refl
  or_right false b so = so

  by_kept : (b : Bool) → is_in m (take_out p xs ++ ys) ≡ true → is_in m (cond b (x ∷ take_out p xs) (take_out p xs) ++ ys) ≡ true
  by_kept true so = or_right (m == x) (is_in m (take_out p xs ++ ys)) so
  by_kept false so = so

  by_first : (b : Bool) → (m == x) ≡ b → (b || is_in m xs) ≡ true → (is_in m xs ≡ true → is_in m (take_out p xs ++ ys) ≡ true) →
      is_in m (cond (not (p == x)) (x ∷ take_out p xs) (take_out p xs) ++ ys) ≡ true
  by_first true same so again =
      ap (λ (b : Bool). is_in m (cond b (x ∷ take_out p xs) (take_out p xs) ++ ys)) (kept (p == x) refl (eqb-true m x same))
      ∙ ap (λ (b : Bool). b || is_in m (take_out p xs ++ ys)) same
  by_first false other so again = by_kept (not (p == x)) (again so)

pub last_there : (m : ℕ) (xs : List ℕ) → is_in m (xs ++ m ∷ []) ≡ true
last_there m [] = ap (λ (b : Bool). b || false) (eq-eqb m m refl)
last_there m (x ∷ xs) = ap (λ (b : Bool). (m == x) || b) (last_there m xs) ∙ or_true (m == x) where
  or_true : (b : Bool) → (b || true) ≡ true
  or_true true = refl
  or_true false = refl

-- what is there behind one that was taken out and put last was there, or is that one
pub was_there : (m p : ℕ) (xs : List ℕ) → m ≢ p → is_in m (take_out p xs ++ p ∷ []) ≡ true → is_in m xs ≡ true
was_there m p xs differs is = in_take_out m p xs (before (take_out p xs) is) where
  or_first : (a b c : Bool) → (b ≡ true → c ≡ true) → (a || b) ≡ true → (a || c) ≡ true
  or_first true b c more so = refl
  or_first false b c more so = more so

  before : (ys : List ℕ) → is_in m (ys ++ p ∷ []) ≡ true → is_in m ys ≡ true
  before [] so = by_own (m == p) refl so where
    by_own : (b : Bool) → (m == p) ≡ b → (b || false) ≡ true → false ≡ true
    by_own true same now = absurd (differs (eqb-true m p same))
    by_own false other now = now
  before (y ∷ ys) so = or_first (m == y) (is_in m (ys ++ p ∷ [])) (is_in m ys) (before ys) so

-- turns ------------------------------------------------------------------------------------------------------

pub turn_is : (t u : Turn) → is_same t u ≡ true → t ≡ u
turn_is t u same =
    let both = and_parts (t.by == u.by) (t.depth == u.depth) same in
    λ i. record { by = eqb-true t.by u.by both.0 i; depth = eqb-true t.depth u.depth both.1 i }

-- agendas ----------------------------------------------------------------------------------------------------

pub due_same : (a b : DueLists) (n : LaneName) → ((u : Turn) → due_to b u ≡ due_to a u) → ((p : ℕ) → lane_word b p ≡ lane_word a p) → StandsDue a n → StandsDue b n
due_same a b n dues words is =
    record { turn = is.turn; due = ap (is_in n.place) (dues is.turn) ∙ is.due; word = words n.place ∙ is.word }

pub serving_same : (a b : DueLists) (by word : ℕ) → ((u : Turn) → in_hand b u ≡ in_hand a u) → IsServing a by word → IsServing b by word
serving_same a b by word hands (u, h, same, held, is) = (u, h, same, hands u ∙ held, is)

-- another turn has what it had
pub serving_other : (turn : Turn) (hand : Option Task) (a b : DueLists) (by word : ℕ) → Holds turn hand a b → (x : IsServing a by word) →
    is_same turn x.0 ≡ false → IsServing b by word
serving_other turn hand a b by word holds (u, h, same, held, is) apart =
    (u, h, same, holds.hands u ∙ (ap (λ x. cond x hand (in_hand a u)) apart ∙ held), is)

pub own_hand : (turn : Turn) (hand : Option Task) (a b : DueLists) → Holds turn hand a b → in_hand b turn ≡ hand
own_hand turn hand a b holds = holds.hands turn ∙ ap (λ x. cond x hand (in_hand a turn)) (is_same-self turn)

-- of a kind that may come back
abbrev pub HasKind : Task → Type 0
HasKind h = (what : What) × (what_of h.effect.kind ≡ Some what)

pub kinds_held : (turn : Turn) (hand : Option Task) (a b : DueLists) → Holds turn hand a b → ((h : Task) → hand ≡ Some h → HasKind h) →
    ((u : Turn) (h : Task) → in_hand a u ≡ Some h → HasKind h) → (u : Turn) (h : Task) → in_hand b u ≡ Some h → HasKind h
kinds_held turn hand a b holds own others u h held = by_turn (is_same turn u) (sym (holds.hands u) ∙ held) where
  by_turn : (b : Bool) → cond b hand (in_hand a u) ≡ Some h → HasKind h
  by_turn true is = own h is
  by_turn false is = others u h is

-- whoever asks is told the same, and the engine and the walk are where they were
pub record IsAlike (s t : TurnState) : Type 0 where
  pub due : (u : Turn) → due_to t.agenda u ≡ due_to s.agenda u
  pub hands : (u : Turn) → in_hand t.agenda u ≡ in_hand s.agenda u
  pub words : (p : ℕ) → lane_word t.agenda p ≡ lane_word s.agenda p
  pub cellar : t.cellar ≡ s.cellar
  pub astray : t.astray ≡ s.astray

pub room_alike : (s t : TurnState) → LosesNothing s.agenda t.agenda → t ≡ record s { agenda = t.agenda } → IsAlike s t
room_alike s t loses only = record {
  due = loses.due;
  hands = loses.hands;
  words = loses.words;
  cellar = ap (λ (x : TurnState). x.cellar) only;
  astray = ap (λ (x : TurnState). x.astray) only;
}

pub covered_same : (s t : TurnState) (n : LaneName) → ((u : Turn) → due_to t.agenda u ≡ due_to s.agenda u) →
    ((p : ℕ) → lane_word t.agenda p ≡ lane_word s.agenda p) → t.astray ≡ s.astray → StandsDue s.agenda n ⊎ IsAstray s.astray n →
    StandsDue t.agenda n ⊎ IsAstray t.astray n
covered_same s t n dues words astray (inl is) = inl (due_same s.agenda t.agenda n dues words is)
covered_same s t n dues words astray (inr is) = inr (subst (λ (o : Option ℕ). IsAstray o n) (sym astray) is)

placed_same : (a b : DueLists) → ((u : Turn) → due_to b u ≡ due_to a u) → ((p : ℕ) → lane_word b p ≡ lane_word a p) →
    ((u : Turn) (p : ℕ) → is_in p (due_to a u) ≡ true → place_in (lane_word a p) ≡ p) → (u : Turn) (p : ℕ) → is_in p (due_to b u) ≡ true →
    place_in (lane_word b p) ≡ p
placed_same a b dues words placed u p is = ap place_in (words p) ∙ placed u p (ap (is_in p) (sym (dues u)) ∙ is)

pub alike_kept : (s t : TurnState) → IsAlike s t → NoLaneIsLost s → NoLaneIsLost t
alike_kept s t p k = record {
  left = λ n is. covered_same s t n p.due p.words p.astray (k.left n (subst (λ (x : Cellar). IsLeft (lanes x) n) p.cellar is));
  served = λ n by is. serving_same s.agenda t.agenda by (word_of n) p.hands (k.served n by (subst (λ (x : Cellar). IsServedBy (lanes x) n by) p.cellar is));
  settled = ap (λ (x : Cellar). (lanes x).fresh) p.cellar ∙ k.settled;
  placed = placed_same s.agenda t.agenda p.due p.words k.placed;
  kinds = λ u h held. k.kinds u h (sym (p.hands u) ∙ held);
}

-- what was begun is noted ------------------------------------------------------------------------------------

pub noted_kept : (by ticket : ℕ) (s t : TurnState) → HasNoted by ticket s t → NoLaneIsLost s → NoLaneIsLost t
noted_kept by ticket s t noted k = record {
  left = λ n is. covered_same s t n noted.marks.due noted.marks.words (ap (λ (x : TurnState). x.astray) noted.only)
      (k.left n (subst (λ (x : Cellar). IsLeft (lanes x) n) cellar is));
  served = λ n word is. serving (k.served n word (subst (λ (x : Cellar). IsServedBy (lanes x) n word) cellar is));
  settled = ap (λ (x : Cellar). (lanes x).fresh) cellar ∙ k.settled;
  placed = placed_same s.agenda t.agenda noted.marks.due noted.marks.words k.placed;
  kinds = λ u h held. kind u h (u.by == by) (in_hand s.agenda u) refl (sym (noted.marks.hands u) ∙ held);
} where
  cellar : t.cellar ≡ s.cellar
  cellar = ap (λ (x : TurnState). x.cellar) noted.only

  serving : {word own : ℕ} → IsServing s.agenda word own → IsServing t.agenda word own
  serving {word} {own} (u, h, same, held, is) = by_stack (u.by == by) (noted.marks.hands u) where
    by_stack : (b : Bool) → in_hand t.agenda u ≡ cond b (begun_by ticket (in_hand s.agenda u)) (in_hand s.agenda u) → IsServing t.agenda word own
    by_stack true now = (u, record h { is_begun = h.is_begun || h.ticket == ticket }, same, now ∙ ap (begun_by ticket) held, is)
    by_stack false now = (u, h, same, now ∙ held, is)

  kind : (u : Turn) (h : Task) (b : Bool) (o : Option Task) → in_hand s.agenda u ≡ o → cond b (begun_by ticket o) o ≡ Some h → HasKind h
  kind u h false o at held = k.kinds u h (at ∙ held)
  kind u h true None at held = absurd (cc)
  kind u h true (Some g) at held =
      subst HasKind (same_Some (record g { is_begun = g.is_begun || g.ticket == ticket }) h held) (k.kinds u g at)

-- asking -----------------------------------------------------------------------------------------------------

-- what a turn asked, and has in hand then
pub record HasAsked (turn : Turn) (word : ℕ) (s t : TurnState) (answer : Option Task) : Type 0 where
  given : Option Effect
  pub kept : IsPromised s.cellar.engine
  asked : IsAsked word turn.by s.cellar t.cellar given
  gave : IsSome given → IsSome answer
  due : (u : Turn) → due_to t.agenda u ≡ due_to s.agenda u
  words : (p : ℕ) → lane_word t.agenda p ≡ lane_word s.agenda p
  astray : t.astray ≡ s.astray
  hands : (u : Turn) → is_same turn u ≡ false → in_hand t.agenda u ≡ in_hand s.agenda u
  own : (h : Task) → answer ≡ Some h → (in_hand t.agenda turn ≡ Some h) × (h.word ≡ word) × HasKind h
  none : answer ≡ None → (u : Turn) → in_hand t.agenda u ≡ in_hand s.agenda u
  nothing : answer ≡ None → given ≡ None

pub has_asked : (turn : Turn) (word : ℕ) (s t : TurnState) (answer : Option Task) → AsksLane turn word s t answer → HasAsked turn word s t answer
has_asked turn word s t _ (gives_one v e h kept taken out) =
    let cellar : v ≡ t.cellar = sym (ap (λ (x : TurnState). x.cellar) out.only) in
    let asked = subst (λ (x : Cellar). IsAsked word turn.by s.cellar x (Some e)) cellar (is_asked word turn.by s.cellar v (Some e) taken) in
    record {
      given = Some e;
      kept = kept;
      asked = asked;
      gave = λ some. refl;
      due = out.holds.due;
      words = out.holds.words;
      astray = ap (λ (x : TurnState). x.astray) out.only;
      hands = λ u apart. out.holds.hands u ∙ ap (λ x. cond x (Some h) (in_hand s.agenda u)) apart;
      own = λ g same.
          let is : h ≡ g = same_Some h g same in
          subst (λ (x : Task). (in_hand t.agenda turn ≡ Some x) × (x.word ≡ word) × HasKind x) is (
            own_hand turn (Some h) s.agenda t.agenda out.holds,
            ap (λ (x : Task). x.word) out.is_new,
            subst HasKind (sym out.is_new) (asked.kind e refl),
          );
      none = λ nay. absurd (cc);
      nothing = λ nay. absurd (cc);
    }
has_asked turn word s t _ (gives_none v kept taken same) =
    let cellar : v ≡ t.cellar = sym (ap (λ (x : TurnState). x.cellar) same) in
    record {
      given = None;
      kept = kept;
      asked = subst (λ (x : Cellar). IsAsked word turn.by s.cellar x None) cellar (is_asked word turn.by s.cellar v None taken);
      gave = λ some. some;
      due = λ u. ap (λ (x : TurnState). due_to x.agenda u) same;
      words = λ p. ap (λ (x : TurnState). lane_word x.agenda p) same;
      astray = ap (λ (x : TurnState). x.astray) same;
      hands = λ u apart. ap (λ (x : TurnState). in_hand x.agenda u) same;
      own = λ h nay. absurd (cc);
      none = λ nay u. ap (λ (x : TurnState). in_hand x.agenda u) same;
      nothing = λ nay. refl;
    }

still_in : (m p : ℕ) (xs : List ℕ) → m ≢ p → is_in m xs ≡ true → is_in m (take_out p xs) ≡ true
still_in m p xs differs is = ap (is_in m) (sym (append-nil (take_out p xs))) ∙ still_there m p xs [] differs is

asked_kinds : (turn : Turn) (word : ℕ) (s t : TurnState) (answer : Option Task) → HasAsked turn word s t answer →
    ((u : Turn) (h : Task) → in_hand s.agenda u ≡ Some h → HasKind h) → (u : Turn) (h : Task) → in_hand t.agenda u ≡ Some h → HasKind h
asked_kinds turn word s t answer q kinds u h held = by_answer answer refl where
  by_turn : (g : Task) → answer ≡ Some g → (b : Bool) → is_same turn u ≡ b → HasKind h
  by_turn g is true same =
      let own = q.own g is in
      subst HasKind (same_Some g h (sym own.0 ∙ ap (λ (v : Turn). in_hand t.agenda v) (turn_is turn u same) ∙ held)) own.2
  by_turn g is false apart = kinds u h (sym (q.hands u apart) ∙ held)

  by_answer : (o : Option Task) → answer ≡ o → HasKind h
  by_answer None is = kinds u h (sym (q.none is u) ∙ held)
  by_answer (Some g) is = by_turn g is (is_same turn u) refl

-- who serves a lane has it in hand: what the turn itself had is told apart
asked_serving : (turn : Turn) (word : ℕ) (s t : TurnState) (answer : Option Task) → HasAsked turn word s t answer →
    ((n : LaneName) (by : ℕ) → IsServedBy (lanes s.cellar) n by → IsServing s.agenda by (word_of n)) →
    ((n : LaneName) (by : ℕ) (x : IsServing s.agenda by (word_of n)) → is_same turn x.0 ≡ true → IsServing t.agenda by (word_of n)) →
    (n : LaneName) (by : ℕ) → IsServedBy (lanes t.cellar) n by → IsServing t.agenda by (word_of n)
asked_serving turn word s t answer q serves replaced n by is = elim (q.asked.served n by is) [
  | inl was ↦ before was
  | inr now ↦ taken now.0 now.1 now.2 (is_inside word) refl
] where
  by_turn : (x : IsServing s.agenda by (word_of n)) (b : Bool) → is_same turn x.0 ≡ b → IsServing t.agenda by (word_of n)
  by_turn x true same = replaced n by x same
  by_turn (u, h, same, held, at) false apart = (u, h, same, q.hands u apart ∙ held, at)

  before : IsServedBy (lanes s.cellar) n by → IsServing t.agenda by (word_of n)
  before was = let x = serves n by was in by_turn x (is_same turn x.0) refl

  own : word ≡ word_of n → turn.by ≡ by → (o : Option Task) → answer ≡ o → IsSome o → IsServing t.agenda by (word_of n)
  own at same None none some = absurd (false≢true some)
  own at same (Some h) given some = let mine = q.own h given in (turn, h, same, mine.0, mine.1 ∙ at)

  taken : named (lanes s.cellar) word ≡ Some n → by ≡ turn.by → IsSome q.given → (b : Bool) → is_inside word ≡ b → IsServing t.agenda by (word_of n)
  taken found same some true inside =
      before (subst (λ (server : ℕ). IsServedBy (lanes s.cellar) n server) (sym same) (q.asked.within n inside some found))
  taken found same some false out = own (own_word (lanes s.cellar) word n found out) (sym same) answer refl (q.gave some)

module _ (find : WordsFindTheirLanes Sent) where
  -- the word of a lane finds it
  pub found_by : (c : Cellar) → IsPromised c.engine → (n : LaneName) (l : Lane Sent) (word : ℕ) → lane (lanes c) n ≡ Some l → word ≡ word_of n →
      (named (lanes c) word ≡ Some n) × (is_inside word ≡ false)
  found_by c kept n l word found is =
      let both = find (lanes c) kept.lanes n l false found in (ap (named (lanes c)) is ∙ both.0, ap is_inside is ∙ both.1)

  due_asked : (turn : Turn) (place : ℕ) (a c d : TurnState) (answer : Option Task) → NoLaneIsLost a → in_hand a.agenda turn ≡ None → TakesOff place a c →
      AsksLane turn (lane_word a.agenda place) c d answer → NoLaneIsLost d
  due_asked turn place a c d answer k idle gone asks = record {
    left = λ n is. by_cover n is (k.left n (subst (λ (x : Cellar). IsLeft (lanes x) n) cellar (q.asked.left n is)));
    served = asked_serving turn word c d answer q
        (λ n by is. serving_same a.agenda c.agenda by (word_of n) gone.gone.hands (k.served n by (subst (λ (x : Cellar). IsServedBy (lanes x) n by) cellar is)))
        (λ n by x same. absurd (not_idle n by x same));
    settled = q.asked.settled (ap (λ (x : Cellar). (lanes x).fresh) cellar ∙ k.settled);
    placed = λ u p is. ap place_in (q.words p ∙ gone.gone.words p) ∙
        k.placed u p (in_take_out p place (due_to a.agenda u) (ap (is_in p) (sym (q.due u ∙ gone.gone.due u)) ∙ is));
    kinds = asked_kinds turn word c d answer q (λ u h held. k.kinds u h (sym (gone.gone.hands u) ∙ held));
  } where
    word : ℕ
    word = lane_word a.agenda place

    q : HasAsked turn word c d answer
    q = has_asked turn word c d answer asks

    cellar : c.cellar ≡ a.cellar
    cellar = ap (λ (x : TurnState). x.cellar) gone.only

    not_idle : (n : LaneName) (by : ℕ) (x : IsServing c.agenda by (word_of n)) → is_same turn x.0 ≡ true → ⊥
    not_idle n by (u, h, stack, held, at) same =
        let both : None ≡ Some h = sym idle ∙ ap (λ (v : Turn). in_hand a.agenda v) (turn_is turn u same) ∙ sym (gone.gone.hands u) ∙ held in absurd (cc)

    by_place : (n : LaneName) → IsLeft (lanes d.cellar) n → (x : StandsDue a.agenda n) (b : Bool) → (n.place == place) ≡ b → StandsDue d.agenda n ⊎ IsAstray d.astray n
    by_place n is x true same =
        let was = q.asked.left n is in
        let own : word ≡ word_of n = ap (λ (p : ℕ). lane_word a.agenda p) (sym (eqb-true n.place place same)) ∙ x.word in
        let both = found_by c.cellar q.kept n was.0 word was.1 own in
        absurd (q.asked.clears n both.1 both.0 is)
    by_place n is x false other =
        inl (record {
          turn = x.turn;
          due = ap (is_in n.place) (q.due x.turn ∙ gone.gone.due x.turn)
              ∙ still_in n.place place (due_to a.agenda x.turn) (λ same. false≢true (sym other ∙ eq-eqb n.place place same)) x.due;
          word = q.words n.place ∙ gone.gone.words n.place ∙ x.word;
        })

    by_cover : (n : LaneName) → IsLeft (lanes d.cellar) n → StandsDue a.agenda n ⊎ IsAstray a.astray n → StandsDue d.agenda n ⊎ IsAstray d.astray n
    by_cover n is (inl x) = by_place n is x (n.place == place) refl
    by_cover n is (inr x) = inr (subst (λ (o : Option ℕ). IsAstray o n) (sym (q.astray ∙ ap (λ (s : TurnState). s.astray) gone.only)) x)

  -- what is due to a turn that has nothing in hand
  pub due_kept : (turn : Turn) (b a : TurnState) (answer : Option Task) → NoLaneIsLost a → in_hand a.agenda turn ≡ None → TakesDue turn b a answer → NoLaneIsLost b
  due_kept turn b _ _ k idle (nothing_due none) = k
  due_kept turn b _ _ k idle (has_one a c place places h due gone asks) = due_asked turn place a c b (Some h) k idle gone asks
  due_kept turn b _ _ k idle (has_none a c d place places answer due gone asks rest) =
      let q = has_asked turn (lane_word a.agenda place) c d None asks in
      due_kept turn b d answer (due_asked turn place a c d None k idle gone asks) (q.none refl turn ∙ gone.gone.hands turn ∙ idle) rest

  -- more of the lane in hand
  more_asked : (turn : Turn) (a b : TurnState) (h g : Task) → NoLaneIsLost a → in_hand a.agenda turn ≡ Some h → AsksLane turn h.word a b (Some g) → NoLaneIsLost b
  more_asked turn a b h g k hand asks = record {
    left = λ n is. covered_same a b n q.due q.words q.astray (k.left n (q.asked.left n is));
    served = asked_serving turn h.word a b (Some g) q k.served replaced;
    settled = q.asked.settled k.settled;
    placed = placed_same a.agenda b.agenda q.due q.words k.placed;
    kinds = asked_kinds turn h.word a b (Some g) q k.kinds;
  } where
    q : HasAsked turn h.word a b (Some g)
    q = has_asked turn h.word a b (Some g) asks

    replaced : (n : LaneName) (by : ℕ) (x : IsServing a.agenda by (word_of n)) → is_same turn x.0 ≡ true → IsServing b.agenda by (word_of n)
    replaced n by (u, f, stack, held, at) same =
        let is = turn_is turn u same in
        let mine = q.own g refl in
        let one : h ≡ f = same_Some h f (sym hand ∙ ap (λ (v : Turn). in_hand a.agenda v) is ∙ held) in
        (turn, g, ap (λ (v : Turn). v.by) is ∙ stack, mine.0, mine.1 ∙ ap (λ (x : Task). x.word) one ∙ at)

  -- nothing more of it, and it is in hand no more
  lane_ended : (turn : Turn) (a c d : TurnState) (h : Task) → NoLaneIsLost a → in_hand a.agenda turn ≡ Some h → AsksLane turn h.word a c None → Drops turn c d →
      NoLaneIsLost d
  lane_ended turn a c d h k hand asks drops = record {
    left = λ n is. covered_same a d n (λ u. drops.holds.due u ∙ q.due u) (λ p. drops.holds.words p ∙ q.words p) (astray ∙ q.astray)
        (k.left n (q.asked.left n (subst (λ (x : Cellar). IsLeft (lanes x) n) cellar is)));
    served = λ n by is. serving n by (subst (λ (x : Cellar). IsServedBy (lanes x) n by) cellar is);
    settled = ap (λ (x : Cellar). (lanes x).fresh) cellar ∙ q.asked.settled k.settled;
    placed = placed_same a.agenda d.agenda (λ u. drops.holds.due u ∙ q.due u) (λ p. drops.holds.words p ∙ q.words p) k.placed;
    kinds = kinds_held turn None c.agenda d.agenda drops.holds (λ g nay. absurd (cc)) (asked_kinds turn h.word a c None q k.kinds);
  } where
    q : HasAsked turn h.word a c None
    q = has_asked turn h.word a c None asks

    cellar : d.cellar ≡ c.cellar
    cellar = ap (λ (x : TurnState). x.cellar) drops.only

    astray : d.astray ≡ c.astray
    astray = ap (λ (x : TurnState). x.astray) drops.only

    ended : (n : LaneName) (by : ℕ) → IsServedBy (lanes c.cellar) n by → IsServedBy (lanes a.cellar) n by → (x : IsServing a.agenda by (word_of n)) →
        is_same turn x.0 ≡ true → ⊥
    ended n by is was (u, f, stack, held, at) same =
        let mine = turn_is turn u same in
        let one : h ≡ f = same_Some h f (sym hand ∙ ap (λ (v : Turn). in_hand a.agenda v) mine ∙ held) in
        let both = found_by a.cellar q.kept n was.0 h.word was.1 (ap (λ (x : Task). x.word) one ∙ at) in
        q.asked.ends n both.1 (q.nothing refl) both.0
        (subst (λ (server : ℕ). IsServedBy (lanes c.cellar) n server) (sym (ap (λ (v : Turn). v.by) mine ∙ stack)) is)

    by_turn : (n : LaneName) (by : ℕ) → IsServedBy (lanes c.cellar) n by → IsServedBy (lanes a.cellar) n by → (x : IsServing a.agenda by (word_of n)) (b : Bool) →
        is_same turn x.0 ≡ b → IsServing d.agenda by (word_of n)
    by_turn n by is was x true same = absurd (ended n by is was x same)
    by_turn n by is was (u, f, stack, held, at) false apart =
        (u, f, stack, drops.holds.hands u ∙ (ap (λ x. cond x None (in_hand c.agenda u)) apart ∙ (q.hands u apart ∙ held)), at)

    serving : (n : LaneName) (by : ℕ) → IsServedBy (lanes c.cellar) n by → IsServing d.agenda by (word_of n)
    serving n by is = elim (q.asked.served n by is) [
      | inl was ↦ (let x = k.served n by was in by_turn n by is was x (is_same turn x.0) refl)
      | inr now ↦ absurd (false≢true (subst (λ (o : Option Effect). IsSome o) (q.nothing refl) now.2))
    ]

  -- serving --------------------------------------------------------------------------------------------------

  pub served_kept : (turn : Turn) (b a : TurnState) (answer : Option Task) → NoLaneIsLost a → Serves turn b a answer → NoLaneIsLost b
  served_kept turn b _ _ k (hands_again h hand fresh) = k
  served_kept turn b _ _ k (goes_on a h g hand begun asks) = more_asked turn a b h g k hand asks
  served_kept turn b _ _ k (ends_lane a c d h answer hand begun asks drops rest) =
      due_kept turn b d answer (lane_ended turn a c d h k hand asks drops) (own_hand turn None c.agenda d.agenda drops.holds) rest
  served_kept turn b _ _ k (serves_none a answer hand rest) = due_kept turn b a answer k hand rest

  pub deeper_kept : (turn : Turn) (b a : TurnState) (answer : Option Task) → NoLaneIsLost a → ServesDeeper turn b a answer → NoLaneIsLost b
  deeper_kept turn b _ _ k (none_deeper none) = k
  deeper_kept turn b _ _ k (deeper_has_one a u h deep serves) = served_kept u b a (Some h) k serves
  deeper_kept turn b _ _ k (deeper_has_none a c u answer deep serves rest) = deeper_kept turn b c answer (served_kept u c a None k serves) rest
