-- Where the outermost step hands out nothing, nothing is astray: a lane that is left gives something.
use Rattle.std.proofs.Common.{◌≡◌, ◌≢◌, ℕ, ◌++◌, ◌⊎◌, inl, inr, Bool, true, false, cond, List, [], ◌∷◌, Option, Some, None, option_map, refl, ap, sym}
use Rattle.std.proofs.Common.{◌∙◌, subst}
use Rattle.std.proofs.lemmas.Bool.{false≢true, eq-eqb}
use Rattle.rx_slots.specs.Lists.{take_out}
use Rattle.rx_lanes.specs.declared.names.LaneName.{LaneName}
use Rattle.rx_lanes.specs.Lane.{Lane, is_left, taken}
use Rattle.rx_lanes.specs.State.{lane}
use Rattle.rx_roles.specs.declared.effect.Effect.{Effect as Sent}
use Rattle.rx_engine.specs.States.{IsPromised}
use Rattle.rx_cellar.specs.declared.cellar.Cellar.{Cellar}
use Rattle.rx_cellar.specs.Crossings.{effect_of}
use Rattle.rx_cellar.specs.Serving.{Takes, IsTakenIf, IsTaken, IsLeftTold, one_left, none_left}
use Rattle.rx_cellar.specs.Words.{is_inside, word_of, place_in, WordsFindTheirLanes}
use Rattle.rx_turns.specs.declared.agenda.Turn.{Turn}
use Rattle.rx_turns.specs.declared.agenda.Task.{Task}
use Rattle.rx_turns.specs.Agendas.{due_to, lane_word, HasNothing}
use Rattle.rx_turns.specs.States.{TurnState}
use Rattle.rx_turns.specs.Serving.{AsksLane, gives_one, gives_none, TakesDue, nothing_due, has_one, has_none}
use Rattle.rx_turns.specs.Calls.{PicksUp, none_astray, ends_walk, finds_no_room, finds_one, GoesDeeper, serves_inner, has_no_more, looks_around}
use Rattle.rx_turns.specs.Calls.{TurnGoesOn, serves_own, serves_no_more}
use Rattle.rx_turns.specs.Promises.{NothingIsAstray, LackedRoom}
use Rattle.rx_turns.proofs.Lines.{is_same-self}
use Rattle.rx_turns.proofs.NothingLeft.{deeper_ended}
use Rattle.rx_turns.proofs.Promised.{nothing_left}

-- a lane that is left gives something to whoever asks
gives_by : {E : Type 0} (by : ℕ) (returned : Option E) (front back : List E) (server : Option ℕ) (many : ℕ) →
    is_left (record { returned = returned; front = front; back = back; server = server; many = many }) ≡ true →
    (taken by false (record { returned = returned; front = front; back = back; server = server; many = many })).effect ≡ None → ⊥
gives_by by returned front back (Some word) many left none = false≢true left
gives_by by (Some e) front back None many left none = absurd (cc)
gives_by by None (e ∷ es) back None many left none = absurd (cc)
gives_by by None [] (e ∷ es) None many left none = absurd (cc)
gives_by by None [] [] None many left none = false≢true left

gives : {E : Type 0} (by : ℕ) (l : Lane E) → is_left l ≡ true → (taken by false l).effect ≡ None → ⊥
gives by l left none = gives_by by l.returned l.front l.back l.server l.many left none

none_given : (o : Option Sent) → None ≡ option_map effect_of o → o ≡ None
none_given None is = refl
none_given (Some sent) is = absurd (cc)

taken_some : (name : LaneName) (l : Lane Sent) (by : ℕ) (s t : Cellar) → lane s.engine.parts.lanes name ≡ Some l → is_left l ≡ true →
    Takes name false by s t None → ⊥
taken_some name l by s t found left k = gives by l left (sym (k.take.result l found) ∙ none_given k.given k.is_shown)

-- and so to whoever has its word
word_gives : WordsFindTheirLanes Sent → (name : LaneName) (l : Lane Sent) (by : ℕ) (s t : Cellar) → IsPromised s.engine →
    lane s.engine.parts.lanes name ≡ Some l → is_left l ≡ true → IsTaken (word_of name) by s t None → ⊥
word_gives find name l by s t kept found left is =
    let both = find s.engine.parts.lanes kept.lanes name l false found in
    taken_some name l by s t found left
    (subst (λ (b : Bool). IsTakenIf (Some name) b by s t None) both.1
    (subst (λ (o : Option LaneName). IsTakenIf o (is_inside (word_of name)) by s t None) both.0 is))

left_gives : WordsFindTheirLanes Sent → (from word next by : ℕ) (s t : Cellar) → IsLeftTold from s word next → word ≢ 18446744073709551615 →
    IsPromised s.engine →
    IsTaken word by s t None → ⊥
left_gives find from _ _ by s t (one_left name (l, found, left) within first) some kept is = word_gives find name l by s t kept found left is
left_gives find from _ _ by s t (none_left none) some kept is = absurd (some refl)

-- the first that is due was asked, and had nothing
pub record HadNothing (turn : Turn) (place : ℕ) (a : TurnState) : Type 0 where
  pub after : Cellar
  pub kept : IsPromised a.cellar.engine
  pub asked : IsTaken (lane_word a.agenda place) turn.by a.cellar after None

same_head : (p q : ℕ) (ps qs : List ℕ) → p ∷ ps ≡ q ∷ qs → p ≡ q
same_head p q ps qs same = ap (λ (xs : List ℕ). first xs) same
  where
    first : List ℕ → ℕ
    first [] = p
    first (x ∷ xs) = x

asked_in_vain : (turn : Turn) (word : ℕ) (s t : TurnState) (answer : Option Task) → answer ≡ None → AsksLane turn word s t answer →
    (v : Cellar) × IsPromised s.cellar.engine × IsTaken word turn.by s.cellar v None
asked_in_vain turn word s t _ is (gives_one v e h kept taken out) = absurd (cc)
asked_in_vain turn word s t _ is (gives_none v kept taken same) = (v, kept, taken)

had_nothing : (turn : Turn) (b a : TurnState) (answer : Option Task) (place : ℕ) → answer ≡ None → due_to a.agenda turn ≡ place ∷ [] →
    TakesDue turn b a answer →
    HadNothing turn place a
had_nothing turn b _ _ place is due (nothing_due none) = let both : [] ≡ place ∷ [] = sym none ∙ due in absurd (cc)
had_nothing turn b _ _ place is due (has_one a c first places h firsts gone asks) = absurd (cc)
had_nothing turn b _ _ place is due (has_none a c d first places answer firsts gone asks rest) =
    let at : first ≡ place = same_head first place places [] (sym firsts ∙ due) in
    let vain = asked_in_vain turn (lane_word a.agenda first) c d None refl asks in
    let same : c.cellar ≡ a.cellar = ap (λ (x : TurnState). x.cellar) gone.only in
    record {
      after = vain.0;
      kept = subst (λ (x : Cellar). IsPromised x.engine) same vain.1;
      asked = subst (λ (p : ℕ). IsTaken (lane_word a.agenda p) turn.by a.cellar vain.0 None) at
          (subst (λ (x : Cellar). IsTaken (lane_word a.agenda first) turn.by x vain.0 None) same vain.2);
    }

picked : WordsFindTheirLanes Sent → (turn : Turn) (b a : TurnState) (answer : Option Task) → answer ≡ None → HasNothing a.agenda turn →
    PicksUp turn b a answer →
    (b.astray ≡ None) ⊎ LackedRoom turn b
picked find turn b _ _ is none (none_astray ended) = inl ended
picked find turn b _ _ is none (ends_walk a from next astray found same) = inl (ap (λ (x : TurnState). x.astray) same)
picked find turn b _ _ is none (finds_no_room a from word next astray found some full loses same) =
    inr (record {
      from = from;
      word = word;
      next = next;
      before = a.agenda;
      stays = ap (λ (x : TurnState). x.astray) same ∙ astray;
      left = subst (λ (x : Cellar). IsLeftTold from x word next) (sym (ap (λ (x : TurnState). x.cellar) same)) found;
      some = some;
      full = full;
      loses = loses;
    })
picked find turn b _ _ is none (finds_one a c from word next answer astray found some claims only rest) =
    let due : due_to c.agenda turn ≡ place_in word ∷ [] =
    claims.due turn
    ∙ (ap (λ x. cond x (take_out (place_in word) (due_to a.agenda turn) ++ place_in word ∷ []) (take_out (place_in word) (due_to a.agenda turn)))
    (is_same-self turn) ∙ ap (λ (xs : List ℕ). take_out (place_in word) xs ++ place_in word ∷ []) none.0) in
    let had = had_nothing turn b c answer (place_in word) is due rest in
    let under : lane_word c.agenda (place_in word) ≡ word =
    claims.words (place_in word) ∙ ap (λ x. cond x word (lane_word a.agenda (place_in word))) (eq-eqb (place_in word) (place_in word) refl) in
    let same : c.cellar ≡ a.cellar = ap (λ (x : TurnState). x.cellar) only in
    absurd (left_gives find from word next turn.by a.cellar had.after found some (subst (λ (x : Cellar). IsPromised x.engine) same had.kept)
    (subst (λ (x : Cellar). IsTaken word turn.by x had.after None) same (subst (λ (w : ℕ). IsTaken w turn.by c.cellar had.after None) under had.asked)))

gone_deeper : WordsFindTheirLanes Sent → (turn : Turn) (b a : TurnState) (answer : Option Task) → answer ≡ None → turn.depth ≡ 1 → HasNothing a.agenda turn →
    GoesDeeper turn b a answer → (b.astray ≡ None) ⊎ LackedRoom turn b
gone_deeper find turn b _ _ is outermost none (serves_inner a h serves) = absurd (cc)
gone_deeper find turn b _ _ is outermost none (has_no_more a serves inner) = absurd (inner outermost)
gone_deeper find turn b _ _ is outermost none (looks_around a c answer serves at picks) =
    picked find turn b c answer is (deeper_ended turn c a None refl none serves).own picks

gone_on : WordsFindTheirLanes Sent → (turn : Turn) (b a : TurnState) (answer : Option Task) → answer ≡ None → turn.depth ≡ 1 → TurnGoesOn turn b a answer →
    (b.astray ≡ None) ⊎ LackedRoom turn b
gone_on find turn b _ _ is outermost (serves_own a h serves) = absurd (cc)
gone_on find turn b _ _ is outermost (serves_no_more a c answer serves rest) = gone_deeper find turn b c answer is outermost (nothing_left turn a c serves) rest

pub nothing_is_astray : WordsFindTheirLanes Sent → NothingIsAstray
nothing_is_astray find turn s t outermost goes = gone_on find turn t s None refl outermost goes
