-- What a turn is handed, by whether there is something.
use Rattle.std.proofs.Common.{◌≡◌, ◌≢◌, ℕ, Bool, true, false, Option, Some, None, is_some, refl, ap, sym, subst}
use Rattle.std.specs.Prelude.{is_none}
use Rattle.rx_turns.specs.declared.agenda.Turn.{Turn}
use Rattle.rx_turns.specs.declared.agenda.Task.{Task}
use Rattle.rx_slots.specs.Lists.{head_of}
use Rattle.rx_turns.specs.Rows.{IsToldOf, tells_none, tells_fresh, tells_told, is_deeper, own_line, row_on}
use Rattle.rx_turns.specs.Finding.{IsFoundAs, found_one, found_none}
use Rattle.rx_turns.specs.Agendas.{due_to, in_hand, hand_at, lane_word}
use Rattle.rx_turns.specs.States.{TurnState}
use Rattle.rx_turns.specs.Serving.{AsksLane, TakesOff, Drops, TakesDue, Serves, hands_again, goes_on, ends_lane, serves_none, ServesDeeper, deeper_has_one}
use Rattle.rx_turns.proofs.Asked.{asked_one}
use Rattle.rx_turns.specs.Calls.{PicksUp, GoesDeeper, serves_inner, has_no_more, looks_around, TurnGoesOn, serves_own, serves_no_more}

record IsToldTask (hand : Option Task) (word : ℕ) : Type 0 where
  pub task : Task
  pub is : hand ≡ Some task
  pub begun : task.is_begun ≡ true
  pub word_is : task.word ≡ word

told_task : (hand : Option Task) (word : ℕ) → IsToldOf hand (Some word) → IsToldTask hand word
told_task _ _ (tells_told h begun) = record { task = h; is = refl; begun = begun; word_is = refl }

abbrev is_begun_in : Option Task → Bool
is_begun_in None = false
is_begun_in (Some h) = h.is_begun

fresh_in : (hand : Option Task) → IsToldOf hand None → is_begun_in hand ≡ false
fresh_in _ tells_none = refl
fresh_in _ (tells_fresh h fresh) = fresh

-- what was found ---------------------------------------------------------------------------------------------

pub found_as : (is was : Option Task → Type 0) (t : TurnState) (r : Option ℕ) → ((o : Option Task) → is o → was o) → IsFoundAs is t r → IsFoundAs was t r
found_as is was t _ goes (found_one line h at so) = found_one line h at (goes (Some h) so)
found_as is was t _ goes (found_none so) = found_none (goes None so)

-- it is in hand on the line that is told
pub found_holds : (is : Option Task → Type 0) (t : TurnState) (r : Option ℕ) → IsFoundAs is t r → is (hand_at t.agenda r)
found_holds is t _ (found_one line h at so) = subst is (sym at) so
found_holds is t _ (found_none so) = so

pub found_nothing : (is : Option Task → Type 0) (t : TurnState) (r : Option ℕ) → is_some r ≡ false → IsFoundAs is t r → is None
found_nothing is t _ none (found_one line h at so) = absurd (cc)
found_nothing is t _ none (found_none so) = so

-- of what holds of each that is some
pub found_some : (is was : Option Task → Type 0) (t : TurnState) (r : Option ℕ) → is_some r ≡ true → ((h : Task) → is (Some h) → was (Some h)) →
    IsFoundAs is t r → IsFoundAs was t r
found_some is was t _ some goes (found_one line h at so) = found_one line h at (goes h so)
found_some is was t _ some goes (found_none so) = absurd (cc)

-- the lane in hand gives something more
pub served_on : (turn : Turn) (b a : TurnState) (word : ℕ) (r : Option ℕ) → is_some r ≡ true → IsToldOf (in_hand a.agenda turn) (Some word) →
    IsFoundAs (AsksLane turn word a b) b r → IsFoundAs (Serves turn b a) b r
served_on turn b a word r some told asks =
    let t = told_task (in_hand a.agenda turn) word told in
    found_some (AsksLane turn word a b) (Serves turn b a) b r some
    (λ g so. goes_on a t.task g t.is t.begun (subst (λ (w : ℕ). AsksLane turn w a b (Some g)) (sym t.word_is) so)) asks

-- or nothing more
pub served_behind : (turn : Turn) (b a c d : TurnState) (word : ℕ) (r q : Option ℕ) → is_some r ≡ false →
    IsToldOf (in_hand a.agenda turn) (Some word) → IsFoundAs (AsksLane turn word a c) c r → Drops turn c d → IsFoundAs (TakesDue turn b d) b q →
    IsFoundAs (Serves turn b a) b q
served_behind turn b a c d word r q none told asks drops rest =
    let t = told_task (in_hand a.agenda turn) word told in
    let asked = found_nothing (AsksLane turn word a c) c r none asks in
    found_as (TakesDue turn b d) (Serves turn b a) b q
    (λ answer so. ends_lane a c d t.task answer t.is t.begun (subst (λ (w : ℕ). AsksLane turn w a c None) (sym t.word_is) asked) drops so) rest

-- what was not begun is handed out again
again_by : (turn : Turn) (a : TurnState) (line : ℕ) (o : Option Task) → in_hand a.agenda turn ≡ o → hand_at a.agenda (Some line) ≡ o → is_none o ≡ false →
    is_begun_in o ≡ false → IsFoundAs (Serves turn a a) a (Some line)
again_by turn a line None is at some fresh = absurd (cc)
again_by turn a line (Some h) is at some fresh = found_one line h at (hands_again h is fresh)

pub served_again : (turn : Turn) (a : TurnState) (line : ℕ) → line ≡ own_line turn a.agenda.rows → is_none (in_hand a.agenda turn) ≡ false →
    IsToldOf (in_hand a.agenda turn) None → IsFoundAs (Serves turn a a) a (Some line)
served_again turn a line own some fresh =
    again_by turn a line (in_hand a.agenda turn) refl (ap (λ (k : ℕ). (row_on a.agenda.rows k).in_hand) own) some (fresh_in (in_hand a.agenda turn) fresh)

none_in : (o : Option Task) → is_none o ≡ true → o ≡ None
none_in None none = refl
none_in (Some h) none = absurd (cc)

pub served_bare : (turn : Turn) (b a : TurnState) (q : Option ℕ) → is_none (in_hand a.agenda turn) ≡ true → IsFoundAs (TakesDue turn b a) b q →
    IsFoundAs (Serves turn b a) b q
served_bare turn b a q none rest =
    found_as (TakesDue turn b a) (Serves turn b a) b q (λ answer so. serves_none a answer (none_in (in_hand a.agenda turn) none) so) rest

-- of the turn, of deeper calls, of what is astray
pub gone_on_own : (turn : Turn) (b a : TurnState) (r : Option ℕ) → is_some r ≡ true → IsFoundAs (Serves turn b a) b r → IsFoundAs (TurnGoesOn turn b a) b r
gone_on_own turn b a r some serves = found_some (Serves turn b a) (TurnGoesOn turn b a) b r some (λ h so. serves_own a h so) serves

pub gone_on_further : (turn : Turn) (b a c : TurnState) (r q : Option ℕ) → is_some r ≡ false → IsFoundAs (Serves turn c a) c r →
    IsFoundAs (GoesDeeper turn b c) b q → IsFoundAs (TurnGoesOn turn b a) b q
gone_on_further turn b a c r q none serves rest =
    let own = found_nothing (Serves turn c a) c r none serves in
    found_as (GoesDeeper turn b c) (TurnGoesOn turn b a) b q (λ answer so. serves_no_more a c answer own so) rest

pub gone_inner : (turn : Turn) (b a : TurnState) (r : Option ℕ) → is_some r ≡ true → IsFoundAs (ServesDeeper turn b a) b r → IsFoundAs (GoesDeeper turn b a) b r
gone_inner turn b a r some serves = found_some (ServesDeeper turn b a) (GoesDeeper turn b a) b r some (λ h so. serves_inner a h so) serves

pub gone_around : (turn : Turn) (b a c : TurnState) (r q : Option ℕ) → is_some r ≡ false → IsFoundAs (ServesDeeper turn c a) c r → turn.depth ≡ 1 →
    IsFoundAs (PicksUp turn b c) b q → IsFoundAs (GoesDeeper turn b a) b q
gone_around turn b a c r q none serves outermost picks =
    let inner = found_nothing (ServesDeeper turn c a) c r none serves in
    found_as (PicksUp turn b c) (GoesDeeper turn b a) b q (λ answer so. looks_around a c answer inner outermost so) picks

pub gone_nowhere : (turn : Turn) (b a : TurnState) (r : Option ℕ) → is_some r ≡ false → IsFoundAs (ServesDeeper turn b a) b r → turn.depth ≢ 1 →
    IsFoundAs (GoesDeeper turn b a) b None
gone_nowhere turn b a r none serves inner = found_none (has_no_more a (found_nothing (ServesDeeper turn b a) b r none serves) inner)

-- a deeper call is handed something
pub inner_given : (turn : Turn) (b a first : TurnState) (u : Turn) (r : Option ℕ) → is_deeper turn u ≡ true → is_some r ≡ true → IsFoundAs (Serves u b a) b r →
    ((answer : Option Task) → ServesDeeper turn b a answer → ServesDeeper turn b first answer) → IsFoundAs (ServesDeeper turn b first) b r
inner_given turn b a first u r deep some serves before =
    found_some (Serves u b a) (ServesDeeper turn b first) b r some (λ h so. before (Some h) (deeper_has_one a u h deep so)) serves

-- a lane that is due gives something
pub due_given : (turn : Turn) (a c b first : TurnState) (place : ℕ) (r : Option ℕ) → is_some r ≡ true → Some place ≡ head_of (due_to a.agenda turn) →
    TakesOff place a c → IsFoundAs (AsksLane turn (lane_word a.agenda place) c b) b r →
    ((answer : Option Task) → TakesDue turn b a answer → TakesDue turn b first answer) → IsFoundAs (TakesDue turn b first) b r
due_given turn a c b first place r some is gone asks before =
    found_some (AsksLane turn (lane_word a.agenda place) c b) (TakesDue turn b first) b r some
    (λ h so. before (Some h) (asked_one turn a c b place h is gone so)) asks
