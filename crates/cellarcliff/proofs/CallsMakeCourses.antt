-- The calls on a handle that keeps an engine are a course of the engine.
use Rattle.std.proofs.Common.{◌≡◌, ℕ, ◌+◌, ◌<◌, ◌≤◌, ◌==◌, ◌⊎◌, inl, inr, min, nat_lt, Bool, true, false, List, [], ◌∷◌, ◌++◌, Option, Some, None, refl, sym, ap}
use Rattle.std.proofs.Common.{subst, ◌∙◌, arith, if◌then◌else◌}
use Rattle.std.proofs.Math.Bool.{not}
use Rattle.std.proofs.lemmas.Bool.{false≢true, false_from_ne_true, lt-ltb, ltb-true}
use Rattle.std.proofs.lemmas.Option.{same_Some}
use Rattle.rx_resource.specs.declared.Resource.{Ghosts}
use Rattle.rx_resource.specs.declared.token.Token.{Token}
use Rattle.rx_engine.specs.States.{IsPromised}
use Rattle.rx_cellar.specs.declared.shapes.Command.{Command}
use Rattle.rx_cellar.specs.declared.shapes.Answer.{Answer}
use Rattle.rx_cellar.specs.declared.shapes.Effect.{Effect}
use Rattle.rx_cellar.specs.declared.asked.Asked.{Asked}
use Rattle.rx_cellar.specs.declared.asked.Asked.TheVariants.{Open, Subscribe, Using, Hold, Next, Complete, Error, Fail, Decline, Dispose, Connect, Disconnect}
use Rattle.rx_cellar.specs.declared.asked.Asked.TheVariants.{Put, Shut, Abort, Apply, Remove, Lease, GiveBack}
use Rattle.rx_cellar.specs.declared.cellar.Cellar.{Cellar}
use Rattle.rx_cellar.specs.Asking.{asked_of}
use Rattle.rx_cellar.specs.Cellars.{most}
use Rattle.rx_turns.specs.declared.agenda.Turn.{Turn}
use Rattle.rx_turns.specs.declared.agenda.Task.{Task}
use Rattle.rx_turns.specs.declared.turns.Turns.{Turns}
use Rattle.rx_turns.specs.Agendas.{in_hand}
use Rattle.rx_turns.specs.States.{TurnState, turn_state}
use Rattle.rx_turns.specs.Courses.{Seen, handed_in, was_told, came_back, IsEngineCourse, tag_asked, tag_done, WasInHand, IsHandedOf, hands_none}
use Rattle.rx_turns.specs.Courses.{hands_new, hands_old, IsStepCourse, AreBack, none_back, one_back, IsEndCourse}
use Rattle.rx_turns.proofs.Laws.CallsAreCourses.{calls_are_courses}
use Rattle.rx_turns.proofs.Laws.CoursesTold.{unchanged, and_then}
use Rattle.cellarcliff.specs.declared.stepping.Stack.{Stack}
use Rattle.cellarcliff.specs.Calls.{IsLooked, looks, looks_at_none, IsNew, IsMade, makes, is_starved, is_held, IsFinished, finishes, is_untaken, is_absent}
use Rattle.rx_turns.specs.Telling.{handed_told}
use Rattle.cellarcliff.specs.Steps.{turn_of, turns, turns_none, IsStepTold}
use Rattle.cellarcliff.specs.Courses.{Shown, gave_tag, was_handed, let_go, lets_none_go, tag_given, shown_made, shown_handed, OnTurns, IsCellarCall, cellar_step}
use Rattle.cellarcliff.specs.Courses.{cellar_next, cellar_pass, cellar_stop, cellar_closings, cellar_totals, cellar_event, cellar_dump, cellar_new, cellar_finish}
use Rattle.cellarcliff.specs.Courses.{CellarCourse, no_call, calls_on, tags_shown, told_from, all_tags, those_told, all_back, IsShownCourse, AreCallsCourses}

-- lists --------------------------------------------------------------------------------------------------

tags-append : (xs ys : List Seen) → all_tags (xs ++ ys) ≡ all_tags xs ++ all_tags ys
tags-append [] ys = refl
tags-append (handed_in tag ∷ xs) ys = ap (λ (ns : List ℕ). tag ∷ ns) (tags-append xs ys)
tags-append (was_told lane e ∷ xs) ys = tags-append xs ys
tags-append (came_back lane e ∷ xs) ys = tags-append xs ys

told-append : (xs ys : List Seen) → those_told (xs ++ ys) ≡ those_told xs ++ those_told ys
told-append [] ys = refl
told-append (handed_in tag ∷ xs) ys = told-append xs ys
told-append (was_told lane e ∷ xs) ys = ap (λ (es : List Effect). e ∷ es) (told-append xs ys)
told-append (came_back lane e ∷ xs) ys = told-append xs ys

shown_tags-append : (xs ys : List Shown) → tags_shown (xs ++ ys) ≡ tags_shown xs ++ tags_shown ys
shown_tags-append [] ys = refl
shown_tags-append (gave_tag tag ∷ xs) ys = ap (λ (ns : List ℕ). tag ∷ ns) (shown_tags-append xs ys)
shown_tags-append (was_handed ticket e ∷ xs) ys = shown_tags-append xs ys
shown_tags-append (let_go ∷ xs) ys = shown_tags-append xs ys

back-append : (xs ys : List Seen) → all_back (xs ++ ys) ≡ all_back xs ++ all_back ys
back-append [] ys = refl
back-append (handed_in tag ∷ xs) ys = back-append xs ys
back-append (was_told lane e ∷ xs) ys = back-append xs ys
back-append (came_back lane e ∷ xs) ys = ap (λ (es : List Effect). e ∷ es) (back-append xs ys)

none_in_first : (xs ys : List Shown) → lets_none_go (xs ++ ys) ≡ true → lets_none_go xs ≡ true
none_in_first [] ys none = refl
none_in_first (gave_tag tag ∷ xs) ys none = none_in_first xs ys none
none_in_first (was_handed ticket e ∷ xs) ys none = none_in_first xs ys none
none_in_first (let_go ∷ xs) ys none = none

none_in_last : (xs ys : List Shown) → lets_none_go (xs ++ ys) ≡ true → lets_none_go ys ≡ true
none_in_last [] ys none = none
none_in_last (gave_tag tag ∷ xs) ys none = none_in_last xs ys none
none_in_last (was_handed ticket e ∷ xs) ys none = none_in_last xs ys none
none_in_last (let_go ∷ xs) ys none = absurd (false≢true none)

-- the highest ticket
abbrev top : (last : ℕ) → List Shown → ℕ
top last [] = last
top last (gave_tag tag ∷ shown) = top last shown
top last (was_handed ticket e ∷ shown) = if nat_lt last ticket then top ticket shown else top last shown
top last (let_go ∷ shown) = top last shown

from-append : (last : ℕ) (xs ys : List Shown) → told_from last (xs ++ ys) ≡ told_from last xs ++ told_from (top last xs) ys
from-append last [] ys = refl
from-append last (gave_tag tag ∷ xs) ys = from-append last xs ys
from-append last (let_go ∷ xs) ys = from-append last xs ys
from-append last (was_handed ticket e ∷ xs) ys = by_test (nat_lt last ticket) (from-append ticket xs ys) (from-append last xs ys) where
  by_test : (b : Bool) → told_from ticket (xs ++ ys) ≡ told_from ticket xs ++ told_from (top ticket xs) ys →
      told_from last (xs ++ ys) ≡ told_from last xs ++ told_from (top last xs) ys →
      (if b then e ∷ told_from ticket (xs ++ ys) else told_from last (xs ++ ys)) ≡
      (if b then e ∷ told_from ticket xs else told_from last xs) ++ told_from (if b then top ticket xs else top last xs) ys
  by_test true new old = ap (λ (es : List Effect). e ∷ es) new
  by_test false new old = old

top-append : (last : ℕ) (xs ys : List Shown) → top last (xs ++ ys) ≡ top (top last xs) ys
top-append last [] ys = refl
top-append last (gave_tag tag ∷ xs) ys = top-append last xs ys
top-append last (let_go ∷ xs) ys = top-append last xs ys
top-append last (was_handed ticket e ∷ xs) ys = by_test (nat_lt last ticket) (top-append ticket xs ys) (top-append last xs ys) where
  by_test : (b : Bool) → top ticket (xs ++ ys) ≡ top (top ticket xs) ys → top last (xs ++ ys) ≡ top (top last xs) ys →
      (if b then top ticket (xs ++ ys) else top last (xs ++ ys)) ≡ top (if b then top ticket xs else top last xs) ys
  by_test true new old = new
  by_test false new old = old

-- tickets ------------------------------------------------------------------------------------------------

-- no ticket in hand is above the last
abbrev Below : TurnState → Type 0
Below s = (turn : Turn) (h : Task) → in_hand s.agenda turn ≡ Some h → h.ticket ≤ s.tickets

abbrev pub handed_shown : Option Task → List Shown
handed_shown None = []
handed_shown (Some h) = was_handed h.ticket h.effect ∷ []

record HandsAlike (s t : TurnState) (handed : Option Task) (told : List Seen) : Type 0 where
  tags : all_tags told ≡ []
  none_back : all_back told ≡ []
  no_tags : tags_shown (handed_shown handed) ≡ []
  grows : t.tickets < most → s.tickets ≤ t.tickets
  told_so : t.tickets < most → Below s → those_told told ≡ told_from s.tickets (handed_shown handed)
  top_so : t.tickets < most → Below s → top s.tickets (handed_shown handed) ≡ t.tickets
  is_below : t.tickets < most → Below s → (h : Task) → handed ≡ Some h → h.ticket ≤ t.tickets

pub next_above : (m n k l : ℕ) → k ≡ min (n + 1) m → l ≡ k → l < m → n < k
next_above m n k l is same less = omega (arith, is, same, less)

above : (n k : ℕ) → n < k → nat_lt n k ≡ true
above n k less = lt-ltb n k less

not_above : (n k : ℕ) → k ≤ n → nat_lt n k ≡ false
not_above n k within = false_from_ne_true (nat_lt n k) (λ less. let so = ltb-true n k less in absurd (omega (arith, so, within)))

within_as : (k l n : ℕ) → k ≡ l → k ≤ n → l ≤ n
within_as k l n same within = omega (arith, same, within)

on_to : (k l m n : ℕ) → k ≡ l → k ≤ m → m ≤ n → l ≤ n
on_to k l m n same first more = omega (arith, same, first, more)

at_last : (k l n : ℕ) → n ≡ k → k ≡ l → l ≤ n
at_last k l n is same = omega (arith, is, same)

same_number : (n m : ℕ) → n ≡ m → m ≤ n
same_number n m same = omega (arith, same)

alike_handed : (s t : TurnState) (handed : Option Task) (told : List Seen) → IsHandedOf s t handed told → HandsAlike s t handed told
alike_handed s t _ _ (hands_none same) = record {
  tags = refl;
  none_back = refl;
  no_tags = refl;
  grows = λ less. same_number t.tickets s.tickets same;
  told_so = λ less below. refl;
  top_so = λ less below. sym same;
  is_below = λ less below h is. absurd (cc);
}
alike_handed s t _ _ (hands_new lane h next now_is) = record {
  tags = refl;
  none_back = refl;
  no_tags = refl;
  grows = λ less. let so = next_above most s.tickets h.ticket t.tickets next now_is less in omega (arith, so, now_is);
  told_so = λ less below.
      sym (ap (λ (b : Bool). if b then h.effect ∷ [] else []) (above s.tickets h.ticket (next_above most s.tickets h.ticket t.tickets next now_is less)));
  top_so = λ less below.
      ap (λ (b : Bool). if b then h.ticket else s.tickets) (above s.tickets h.ticket (next_above most s.tickets h.ticket t.tickets next now_is less))
      ∙ sym now_is;
  is_below = λ less below k is. at_last h.ticket k.ticket t.tickets now_is (ap (λ (x : Task). x.ticket) (same_Some h k is));
}
alike_handed s t _ _ (hands_old turn h held unbegun same) = record {
  tags = refl;
  none_back = refl;
  no_tags = refl;
  grows = λ less. same_number t.tickets s.tickets same;
  told_so = λ less below. sym (ap (λ (b : Bool). if b then h.effect ∷ [] else []) (not_above s.tickets h.ticket (below turn h held)));
  top_so = λ less below. ap (λ (b : Bool). if b then h.ticket else s.tickets) (not_above s.tickets h.ticket (below turn h held)) ∙ sym same;
  is_below = λ less below k is.
      on_to h.ticket k.ticket s.tickets t.tickets (ap (λ (x : Task). x.ticket) (same_Some h k is)) (below turn h held) (same_number t.tickets s.tickets same);
}

still_below : (s t : TurnState) (handed : Option Task) → s.tickets ≤ t.tickets → Below s → ((h : Task) → handed ≡ Some h → h.ticket ≤ t.tickets) →
    (turn : Turn) (h : Task) → WasInHand s turn h ⊎ (handed ≡ Some h) → h.ticket ≤ t.tickets
still_below s t handed grows below last turn h (inl was) =
    on_to was.before.ticket h.ticket s.tickets t.tickets was.ticket (below turn was.before was.was) grows
still_below s t handed grows below last turn h (inr is) = last h is

-- one call after another ---------------------------------------------------------------------------------

pub record CallGoes (g : Ghosts Token) (s t : Turns) (shown : List Shown) : Type 0 where
  pub seen : List Seen
  pub course : IsEngineCourse g s.cellar.engine t.cellar.engine seen
  pub promised : IsPromised t.cellar.engine
  tags : all_tags seen ≡ tags_shown shown
  back : lets_none_go shown ≡ true → all_back seen ≡ []
  grows : t.tickets < most → s.tickets ≤ t.tickets
  told : t.tickets < most → Below (turn_state s) → those_told seen ≡ told_from s.tickets shown
  top_is : t.tickets < most → Below (turn_state s) → top s.tickets shown ≡ t.tickets
  below : t.tickets < most → Below (turn_state s) → Below (turn_state t)

fewer : (n k m : ℕ) → n ≤ k → k < m → n < m
fewer n k m within less = omega (arith, within, less)

through : (n k m : ℕ) → n ≤ k → k ≤ m → n ≤ m
through n k m first more = omega (arith, first, more)

goes_then : {g : Ghosts Token} {s t u : Turns} {xs ys : List Shown} → CallGoes g s t xs → CallGoes g t u ys → CallGoes g s u (xs ++ ys)
goes_then {s = s} {t = t} {u = u} {xs = xs} {ys = ys} p q =
    let less_so = λ (less : u.tickets < most). fewer t.tickets u.tickets most (q.grows less) less in
    record {
      seen = p.seen ++ q.seen;
      course = and_then p.course q.course;
      promised = q.promised;
      tags = tags-append p.seen q.seen ∙ (λ i. p.tags i ++ q.tags i) ∙ sym (shown_tags-append xs ys);
      back = λ none. back-append p.seen q.seen ∙ (λ i. p.back (none_in_first xs ys none) i ++ q.back (none_in_last xs ys none) i);
      grows = λ less. through s.tickets t.tickets u.tickets (p.grows (less_so less)) (q.grows less);
      told = λ less below.
          told-append p.seen q.seen
          ∙ (λ i. p.told (less_so less) below i ++ q.told less (p.below (less_so less) below) i)
          ∙ (λ i. told_from s.tickets xs ++ told_from ((sym (p.top_is (less_so less) below)) i) ys)
          ∙ sym (from-append s.tickets xs ys);
      top_is = λ less below.
          top-append s.tickets xs ys ∙ ap (λ (n : ℕ). top n ys) (p.top_is (less_so less) below) ∙ q.top_is less (p.below (less_so less) below);
      below = λ less below. q.below less (p.below (less_so less) below);
    }

nothing_goes : (g : Ghosts Token) (s : Turns) → IsPromised s.cellar.engine → CallGoes g s s []
nothing_goes g s kept = record {
  seen = [];
  course = unchanged g s.cellar.engine s.cellar.engine refl;
  promised = kept;
  tags = refl;
  back = λ none. refl;
  grows = λ less. same_number s.tickets s.tickets refl;
  told = λ less below. refl;
  top_is = λ less below. refl;
  below = λ less below. below;
}

-- a call that looks, and one that is refused
pub same_turns : {Says : Cellar → ℕ → Type 0} {IsBlank : Type 0} (s t : Turns) (status : ℕ) → IsLooked Says IsBlank (Some s) (Some t) status → Some t ≡ Some s
same_turns s t status (looks was is says) = is ∙ sym was
same_turns s t status (looks_at_none was is blank done) = absurd (cc)

pub not_made : (max_events : ℕ) (s t : Turns) (status : ℕ) → IsMade max_events (Some s) (Some t) status → Some t ≡ Some s
not_made max_events s t status (makes was is new stands done) = absurd (cc)
not_made max_events s t status (is_starved was is done) = absurd (cc)
not_made max_events s t status (is_held was same done) = same

pub not_finished : (s t : Turns) (status : ℕ) → IsFinished (Some s) (Some t) status → Some t ≡ Some s
not_finished s t status (finishes was is over done) = absurd (cc)
not_finished s t status (is_untaken was same over done) = same
not_finished s t status (is_absent was is done) = absurd (cc)

stays : (g : Ghosts Token) (s t : Turns) → IsPromised s.cellar.engine → Some t ≡ Some s → CallGoes g s t []
stays g s t kept same = subst (λ (x : Turns). CallGoes g s x []) (sym (same_Some t s same)) (nothing_goes g s kept)

-- steps --------------------------------------------------------------------------------------------------

-- what is seen of a command's tag, and what its caller sees
record TagsAlike (seen : List Seen) (shown : List Shown) : Type 0 where
  tags : all_tags seen ≡ tags_shown shown
  told : those_told seen ≡ []
  none_back : all_back seen ≡ []
  from : (n : ℕ) → told_from n shown ≡ []
  same_top : (n : ℕ) → top n shown ≡ n

no_tag : TagsAlike [] []
no_tag = record { tags = refl; told = refl; none_back = refl; from = λ n. refl; same_top = λ n. refl }

one_tag : (tag : ℕ) → TagsAlike (handed_in tag ∷ []) (gave_tag tag ∷ [])
one_tag tag = record { tags = refl; told = refl; none_back = refl; from = λ n. refl; same_top = λ n. refl }

asked_alike : (asked : Option Asked) → TagsAlike (tag_asked asked) (tag_given asked)
asked_alike None = no_tag
asked_alike (Some (Open at kind user)) = no_tag
asked_alike (Some (Subscribe at share hint user)) = no_tag
asked_alike (Some (Using at user tag)) = one_tag tag
asked_alike (Some (Hold node tag)) = one_tag tag
asked_alike (Some (Next leaf value may_hand)) = no_tag
asked_alike (Some (Complete leaf)) = no_tag
asked_alike (Some (Error leaf value)) = no_tag
asked_alike (Some (Fail merging value)) = no_tag
asked_alike (Some (Decline merging)) = no_tag
asked_alike (Some (Dispose root)) = no_tag
asked_alike (Some (Connect share hint user)) = no_tag
asked_alike (Some (Disconnect word hint)) = no_tag
asked_alike (Some (Put to user value)) = no_tag
asked_alike (Some Shut) = no_tag
asked_alike (Some (Abort node value)) = no_tag
asked_alike (Some (Apply res)) = no_tag
asked_alike (Some (Remove res)) = no_tag
asked_alike (Some (Lease res)) = no_tag
asked_alike (Some (GiveBack lease)) = no_tag

made_alike : (done : Bool) (asked : Option Asked) → TagsAlike (if done then tag_asked asked else []) (if done then tag_given asked else [])
made_alike true asked = asked_alike asked
made_alike false asked = no_tag

pub shown_as : (handed : Option Task) (is_own : Bool) (made : Answer) → shown_handed (handed_told handed is_own made) ≡ handed_shown handed
shown_as None is_own made = refl
shown_as (Some h) is_own made = refl

step_goes : (g : Ghosts Token) (s t : Turns) (handed : Option Task) (acts : List Seen) (tags : List Shown) → TagsAlike acts tags → IsPromised t.cellar.engine →
    IsStepCourse g acts (turn_state s) (turn_state t) handed → CallGoes g s t (tags ++ handed_shown handed)
step_goes g s t handed acts tags alike kept k =
    let hands = alike_handed (turn_state s) (turn_state t) handed k.told k.handed_so in
    record {
      seen = acts ++ k.told;
      course = k.course;
      promised = kept;
      tags = tags-append acts k.told ∙ (λ i. alike.tags i ++ (hands.tags ∙ sym hands.no_tags) i) ∙ sym (shown_tags-append tags (handed_shown handed));
      back = λ none. back-append acts k.told ∙ (λ i. alike.none_back i ++ hands.none_back i);
      grows = hands.grows;
      told = λ less below.
          told-append acts k.told ∙ (λ i. alike.told i ++ hands.told_so less below i)
          ∙ (λ i. (sym (alike.from s.tickets)) i ++ told_from ((sym (alike.same_top s.tickets)) i) (handed_shown handed))
          ∙ sym (from-append s.tickets tags (handed_shown handed));
      top_is = λ less below.
          top-append s.tickets tags (handed_shown handed) ∙ ap (λ (n : ℕ). top n (handed_shown handed)) (alike.same_top s.tickets) ∙ hands.top_so less below;
      below = λ less below turn h held.
          still_below (turn_state s) (turn_state t) handed (hands.grows less) below (hands.is_below less below) turn h (k.hands turn h held);
    }

step_course : (g : Ghosts Token) (stack : Stack) (c : Option Command) (s t : Turns) (a b : Answer) (status : ℕ) (tags : List Shown) →
    TagsAlike (tag_done c status) tags → IsPromised t.cellar.engine → IsStepTold g stack c (turn_state s) (turn_state t) a b status →
    CallGoes g s t (tags ++ shown_handed b)
step_course g stack c s t a b status tags alike kept k =
    let went = (calls_are_courses g).steps (turn_of stack) stack.begun c (turn_state s) (turn_state t) a k.made k.step k.steps in
    let shown_so = ap shown_handed k.told ∙ shown_as k.step.handed k.step.is_own k.made in
    subst (λ (xs : List Shown). CallGoes g s t (tags ++ xs)) (sym shown_so)
    (step_goes g s t k.step.handed (tag_done c status) tags alike kept
    (subst (λ (n : ℕ). IsStepCourse g (tag_done c n) (turn_state s) (turn_state t) k.step.handed) (sym k.status_is) went))

-- calls that end -----------------------------------------------------------------------------------------

back_tags : (s : TurnState) (acts : List Seen) → AreBack s acts → all_tags acts ≡ []
back_tags s _ none_back = refl
back_tags s _ (one_back lane turn h what acts held unbegun kind rest) = back_tags s acts rest

back_told : (s : TurnState) (acts : List Seen) → AreBack s acts → those_told acts ≡ []
back_told s _ none_back = refl
back_told s _ (one_back lane turn h what acts held unbegun kind rest) = back_told s acts rest

end_goes : (g : Ghosts Token) (s t : Turns) → IsPromised t.cellar.engine → IsEndCourse g (turn_state s) (turn_state t) → CallGoes g s t (let_go ∷ [])
end_goes g s t kept k = record {
  seen = k.back;
  course = k.course;
  promised = kept;
  tags = back_tags (turn_state s) k.back k.back_so;
  back = λ none. absurd (false≢true none);
  grows = λ less. same_number t.tickets s.tickets k.tickets;
  told = λ less below. back_told (turn_state s) k.back k.back_so;
  top_is = λ less below. sym k.tickets;
  below = λ less below turn h held.
      still_below (turn_state s) (turn_state t) None (same_number t.tickets s.tickets k.tickets) below (λ other none. absurd (cc)) turn h (k.hands turn h held);
}

-- exports ------------------------------------------------------------------------------------------------

-- what a call said of what the handle keeps
pub said : {Says : TurnState → TurnState → ℕ → Type 0} {IsBlank : Type 0} (s t : Turns) (status : ℕ) → OnTurns Says IsBlank s t status →
    Says (turn_state s) (turn_state t) status × IsPromised t.cellar.engine
said {Says} s t status (turns {s = a} {t = b} was is kept says) =
    let from : s ≡ a = same_Some s a was in
    let to : t ≡ b = same_Some t b is in (
      subst (λ (x : Turns). Says (turn_state x) (turn_state t) status) (sym from)
          (subst (λ (y : Turns). Says (turn_state a) (turn_state y) status) (sym to) says),
      subst (λ (x : Turns). IsPromised x.cellar.engine) (sym to) kept,
    )
said s t status (turns_none was is blank done) = absurd (cc)

by_call : {g : Ghosts Token} {s t : Turns} {shown : List Shown} → IsPromised s.cellar.engine → IsCellarCall g s shown t → CallGoes g s t shown
by_call {g} {s} {t} kept (cellar_step {status = status} stack command a b c) =
    let p = said s t status c in
    step_course g stack (Some command) s t a b status (shown_made (asked_of command) status) (made_alike (status == 0) (asked_of command)) p.1 p.0
by_call {g} {s} {t} kept (cellar_next {status = status} stack a b c) =
    let p = said s t status c in step_course g stack None s t a b status [] no_tag p.1 p.0
by_call {g} {s} {t} kept (cellar_pass {status = status} stack from now_code c) =
    let p = said s t status c in
    end_goes g s t p.1 ((calls_are_courses g).passes (turn_of stack) stack.begun from (not (now_code == 0)) (turn_state s) (turn_state t) p.0.0)
by_call {g} {s} {t} kept (cellar_stop {status = status} stack c) =
    let p = said s t status c in end_goes g s t p.1 ((calls_are_courses g).stops (turn_of stack) stack.begun (turn_state s) (turn_state t) p.0.0)
by_call {g} {s} {t} kept (cellar_closings {status = status} from c) = stays g s t kept (same_turns s t status c)
by_call {g} {s} {t} kept (cellar_totals {status = status} c) = stays g s t kept (same_turns s t status c)
by_call {g} {s} {t} kept (cellar_event {status = status} place c) = stays g s t kept (same_turns s t status c)
by_call {g} {s} {t} kept (cellar_dump {status = status} c) = stays g s t kept (same_turns s t status c)
by_call {g} {s} {t} kept (cellar_new {status = status} max_events c) = stays g s t kept (not_made max_events s t status c)
by_call {g} {s} {t} kept (cellar_finish {status = status} c) = stays g s t kept (not_finished s t status c)

-- calls, one after another
pub by_calls : {g : Ghosts Token} {s t : Turns} {shown : List Shown} → IsPromised s.cellar.engine → CellarCourse g s shown t → CallGoes g s t shown
by_calls {g} {s} kept no_call = nothing_goes g s kept
by_calls kept (calls_on before call) =
    let p = by_calls kept before in
    goes_then p (by_call p.promised call)

-- from the beginning -------------------------------------------------------------------------------------

pub record BeginsSo (max_events : ℕ) (first : Turns) : Type 0 where
  pub promised : IsPromised first.cellar.engine
  pub new : IsNew max_events first

pub begins_so : (max_events made : ℕ) (first : Turns) → IsMade max_events None (Some first) made → BeginsSo max_events first
begins_so max_events made first (makes {s = s} was is fresh stands done) =
    subst (λ (x : Turns). BeginsSo max_events x) (sym (same_Some first s is)) (record { promised = stands; new = fresh })
begins_so max_events made first (is_starved was is done) = absurd (cc)
begins_so max_events made first (is_held was is done) = absurd (cc)

none_held : (max_events : ℕ) (first : Turns) → IsNew max_events first → Below (turn_state first)
none_held max_events first new turn h held = let both : None ≡ Some h = sym (new.nothing turn).1 ∙ held in absurd (cc)

-- with the engine's promise at the end
pub record ShowsCourse (g : Ghosts Token) (first last : Turns) (shown : List Shown) : Type 0 where
  pub is_shown : IsShownCourse g first.cellar.engine last.cellar.engine shown
  pub promised : IsPromised last.cellar.engine

pub shows_course : (g : Ghosts Token) (max_events made : ℕ) (first last : Turns) (shown : List Shown) → IsMade max_events None (Some first) made →
    CellarCourse g first shown last → last.tickets < most → ShowsCourse g first last shown
shows_course g max_events made first last shown new course less =
    let begins = begins_so max_events made first new in
    let goes = by_calls begins.promised course in
    record {
      is_shown = record {
        seen = goes.seen;
        is_course = goes.course;
        tags = goes.tags;
        back = goes.back;
        told = goes.told less (none_held max_events first begins.new) ∙ ap (λ (n : ℕ). told_from n shown) begins.new.tickets;
      };
      promised = goes.promised;
    }

pub all_calls_are_courses : (g : Ghosts Token) → AreCallsCourses g
all_calls_are_courses g max_events made first last shown new course less = (shows_course g max_events made first last shown new course less).is_shown
