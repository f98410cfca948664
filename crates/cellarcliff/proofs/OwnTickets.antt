-- No ticket is given to two effects.
use Rattle.std.proofs.Common.{◌≡◌, ℕ, ◌<◌, ◌≤◌, ◌==◌, ◌⊎◌, inl, inr, Bool, true, false, List, [], ◌∷◌, ◌++◌, Option, Some, None, refl, sym, ap, subst, ◌∙◌}
use Rattle.std.proofs.Common.{arith, if◌then◌else◌}
use Rattle.std.proofs.Math.Bool.{not}
use Rattle.std.proofs.lemmas.Option.{same_Some}
use Rattle.rx_resource.specs.declared.Resource.{Ghosts}
use Rattle.rx_resource.specs.declared.token.Token.{Token}
use Rattle.rx_cellar.specs.declared.shapes.Command.{Command}
use Rattle.rx_cellar.specs.declared.shapes.Effect.{Effect}
use Rattle.rx_cellar.specs.declared.asked.Asked.{Asked}
use Rattle.rx_cellar.specs.declared.asked.Asked.TheVariants.{Open, Subscribe, Using, Hold, Next, Complete, Error, Fail, Decline, Dispose, Connect, Disconnect}
use Rattle.rx_cellar.specs.declared.asked.Asked.TheVariants.{Put, Shut, Abort, Apply, Remove, Lease, GiveBack}
use Rattle.rx_cellar.specs.Asking.{asked_of}
use Rattle.rx_cellar.specs.Cellars.{most}
use Rattle.rx_turns.specs.declared.agenda.Turn.{Turn}
use Rattle.rx_turns.specs.declared.agenda.Task.{Task}
use Rattle.rx_turns.specs.declared.turns.Turns.{Turns}
use Rattle.rx_turns.specs.Agendas.{in_hand}
use Rattle.rx_turns.specs.States.{TurnState, turn_state}
use Rattle.rx_turns.specs.Courses.{Seen, WasInHand, HandsFrom, IsHandedOf, hands_none, hands_new, hands_old}
use Rattle.rx_turns.proofs.Laws.CallsAreCourses.{calls_are_courses}
use Rattle.rx_turns.proofs.Laws.HandsKept.{all_stay}
use Rattle.cellarcliff.specs.declared.stepping.Stack.{Stack}
use Rattle.rx_cellar.specs.declared.shapes.Answer.{Answer}
use Rattle.cellarcliff.specs.Calls.{IsNew}
use Rattle.cellarcliff.specs.Steps.{turn_of, IsStepTold}
use Rattle.cellarcliff.specs.Courses.{Shown, gave_tag, was_handed, let_go, tag_given, shown_made, shown_handed, IsCellarCall, cellar_step, cellar_next, cellar_pass}
use Rattle.cellarcliff.specs.Courses.{cellar_stop, cellar_closings, cellar_totals, cellar_event, cellar_dump, cellar_new, cellar_finish, CellarCourse, no_call}
use Rattle.cellarcliff.specs.Courses.{calls_on, WasHanded, AreTicketsOwn}
use Rattle.cellarcliff.proofs.CallsMakeCourses.{handed_shown, shown_as, said, same_turns, not_made, not_finished, begins_so, next_above}

-- lists --------------------------------------------------------------------------------------------------

in_either : (ticket : ℕ) (e : Effect) (xs ys : List Shown) → WasHanded ticket e (xs ++ ys) → WasHanded ticket e xs ⊎ WasHanded ticket e ys
in_either ticket e [] ys is = inr is
in_either ticket e (gave_tag tag ∷ xs) ys is = in_either ticket e xs ys is
in_either ticket e (let_go ∷ xs) ys is = in_either ticket e xs ys is
in_either ticket e (was_handed other f ∷ xs) ys (inl here) = inl (inl here)
in_either ticket e (was_handed other f ∷ xs) ys (inr later) = by_rest (in_either ticket e xs ys later) where
  by_rest : WasHanded ticket e xs ⊎ WasHanded ticket e ys → (((other ≡ ticket) × (f ≡ e)) ⊎ WasHanded ticket e xs) ⊎ WasHanded ticket e ys
  by_rest (inl there) = inl (inr there)
  by_rest (inr there) = inr there

in_first : (ticket : ℕ) (e : Effect) (xs ys : List Shown) → WasHanded ticket e xs → WasHanded ticket e (xs ++ ys)
in_first ticket e [] ys is = absurd is
in_first ticket e (gave_tag tag ∷ xs) ys is = in_first ticket e xs ys is
in_first ticket e (let_go ∷ xs) ys is = in_first ticket e xs ys is
in_first ticket e (was_handed other f ∷ xs) ys (inl here) = inl here
in_first ticket e (was_handed other f ∷ xs) ys (inr later) = inr (in_first ticket e xs ys later)

only_last : (ticket : ℕ) (e : Effect) (xs ys : List Shown) → (WasHanded ticket e xs → ⊥) → WasHanded ticket e (xs ++ ys) → WasHanded ticket e ys
only_last ticket e xs ys none is = by_either (in_either ticket e xs ys is) where
  by_either : WasHanded ticket e xs ⊎ WasHanded ticket e ys → WasHanded ticket e ys
  by_either (inl there) = absurd (none there)
  by_either (inr there) = there

in_last : (ticket : ℕ) (e : Effect) (xs ys : List Shown) → WasHanded ticket e ys → WasHanded ticket e (xs ++ ys)
in_last ticket e [] ys is = is
in_last ticket e (gave_tag tag ∷ xs) ys is = in_last ticket e xs ys is
in_last ticket e (let_go ∷ xs) ys is = in_last ticket e xs ys is
in_last ticket e (was_handed other f ∷ xs) ys is = inr (in_last ticket e xs ys is)

-- of a call ----------------------------------------------------------------------------------------------

-- what it hands out is all that it shows beside tags, and all else in hand was there
record CallHands (s t : TurnState) (more : List Shown) : Type 0 where
  handed : Option Task
  told : List Seen
  handed_so : IsHandedOf s t handed told
  hands : HandsFrom s t handed
  shown : (ticket : ℕ) (e : Effect) → WasHanded ticket e more → WasHanded ticket e (handed_shown handed)
  shows : (ticket : ℕ) (e : Effect) → WasHanded ticket e (handed_shown handed) → WasHanded ticket e more

no_tag_handed : (ticket : ℕ) (e : Effect) (asked : Option Asked) → WasHanded ticket e (tag_given asked) → ⊥
no_tag_handed ticket e None is = is
no_tag_handed ticket e (Some (Open at kind user)) is = is
no_tag_handed ticket e (Some (Subscribe at share hint user)) is = is
no_tag_handed ticket e (Some (Using at user tag)) is = is
no_tag_handed ticket e (Some (Hold node tag)) is = is
no_tag_handed ticket e (Some (Next leaf value may_hand)) is = is
no_tag_handed ticket e (Some (Complete leaf)) is = is
no_tag_handed ticket e (Some (Error leaf value)) is = is
no_tag_handed ticket e (Some (Fail merging value)) is = is
no_tag_handed ticket e (Some (Decline merging)) is = is
no_tag_handed ticket e (Some (Dispose root)) is = is
no_tag_handed ticket e (Some (Connect share hint user)) is = is
no_tag_handed ticket e (Some (Disconnect word hint)) is = is
no_tag_handed ticket e (Some (Put to user value)) is = is
no_tag_handed ticket e (Some Shut) is = is
no_tag_handed ticket e (Some (Abort node value)) is = is
no_tag_handed ticket e (Some (Apply res)) is = is
no_tag_handed ticket e (Some (Remove res)) is = is
no_tag_handed ticket e (Some (Lease res)) is = is
no_tag_handed ticket e (Some (GiveBack lease)) is = is

none_made : (done : Bool) (asked : Option Asked) (ticket : ℕ) (e : Effect) → WasHanded ticket e (if done then tag_given asked else []) → ⊥
none_made true asked ticket e is = no_tag_handed ticket e asked is
none_made false asked ticket e is = is

step_hands : (g : Ghosts Token) (stack : Stack) (c : Option Command) (s t : Turns) (a b : Answer) (status : ℕ) (tags : List Shown) →
    ((ticket : ℕ) (e : Effect) → WasHanded ticket e tags → ⊥) → IsStepTold g stack c (turn_state s) (turn_state t) a b status →
    CallHands (turn_state s) (turn_state t) (tags ++ shown_handed b)
step_hands g stack c s t a b status tags none k =
    let went = (calls_are_courses g).steps (turn_of stack) stack.begun c (turn_state s) (turn_state t) a k.made k.step k.steps in
    let shown_so = ap shown_handed k.told ∙ shown_as k.step.handed k.step.is_own k.made in
    record {
      handed = k.step.handed;
      told = went.told;
      handed_so = went.handed_so;
      hands = went.hands;
      shown = λ ticket e is. only_last ticket e tags (handed_shown k.step.handed) (none ticket e)
          (subst (λ (xs : List Shown). WasHanded ticket e (tags ++ xs)) shown_so is);
      shows = λ ticket e is. subst (λ (xs : List Shown). WasHanded ticket e (tags ++ xs)) (sym shown_so) (in_last ticket e tags (handed_shown k.step.handed) is);
    }

ends_hands : (s t : Turns) (more : List Shown) → ((ticket : ℕ) (e : Effect) → WasHanded ticket e more → ⊥) → t.tickets ≡ s.tickets →
    HandsFrom (turn_state s) (turn_state t) None → CallHands (turn_state s) (turn_state t) more
ends_hands s t more none tickets hands = record {
  handed = None;
  told = [];
  handed_so = hands_none tickets;
  hands = hands;
  shown = λ ticket e is. none ticket e is;
  shows = λ ticket e is. absurd is;
}

stays_hands : (s t : Turns) → Some t ≡ Some s → CallHands (turn_state s) (turn_state t) []
stays_hands s t same =
    let is = same_Some t s same in
    ends_hands s t [] (λ ticket e none. none) (ap (λ (x : Turns). x.tickets) is) (all_stay (turn_state s) (turn_state t) None (λ u. ap (λ (x : Turns). in_hand (turn_state x).agenda u) is))

by_call : {g : Ghosts Token} {s t : Turns} {more : List Shown} → IsCellarCall g s more t → CallHands (turn_state s) (turn_state t) more
by_call {g} {s} {t} (cellar_step {status = status} stack command a b c) =
    step_hands g stack (Some command) s t a b status (shown_made (asked_of command) status) (none_made (status == 0) (asked_of command)) (said s t status c).0
by_call {g} {s} {t} (cellar_next {status = status} stack a b c) = step_hands g stack None s t a b status [] (λ ticket e is. is) (said s t status c).0
by_call {g} {s} {t} (cellar_pass {status = status} stack from now_code c) =
    let k = (calls_are_courses g).passes (turn_of stack) stack.begun from (not (now_code == 0)) (turn_state s) (turn_state t) (said s t status c).0.0 in
    ends_hands s t (let_go ∷ []) (λ ticket e none. none) k.tickets k.hands
by_call {g} {s} {t} (cellar_stop {status = status} stack c) =
    let k = (calls_are_courses g).stops (turn_of stack) stack.begun (turn_state s) (turn_state t) (said s t status c).0.0 in
    ends_hands s t (let_go ∷ []) (λ ticket e none. none) k.tickets k.hands
by_call {g} {s} {t} (cellar_closings {status = status} from c) = stays_hands s t (same_turns s t status c)
by_call {g} {s} {t} (cellar_totals {status = status} c) = stays_hands s t (same_turns s t status c)
by_call {g} {s} {t} (cellar_event {status = status} place c) = stays_hands s t (same_turns s t status c)
by_call {g} {s} {t} (cellar_dump {status = status} c) = stays_hands s t (same_turns s t status c)
by_call {g} {s} {t} (cellar_new {status = status} max_events c) = stays_hands s t (not_made max_events s t status c)
by_call {g} {s} {t} (cellar_finish {status = status} c) = stays_hands s t (not_finished s t status c)

-- of calls, one after another ----------------------------------------------------------------------------

record Owns (t : TurnState) (shown : List Shown) : Type 0 where
  within : (ticket : ℕ) (e : Effect) → WasHanded ticket e shown → (1 ≤ ticket) × (ticket ≤ t.tickets)
  own : (ticket : ℕ) (e f : Effect) → WasHanded ticket e shown → WasHanded ticket f shown → e ≡ f
  held : (turn : Turn) (h : Task) → in_hand t.agenda turn ≡ Some h → WasHanded h.ticket h.effect shown

handed_as : (ticket other : ℕ) (e f : Effect) (shown : List Shown) → ticket ≡ other → e ≡ f → WasHanded ticket e shown → WasHanded other f shown
handed_as ticket other e f shown same alike is =
    subst (λ (n : ℕ). WasHanded n f shown) same (subst (λ (x : Effect). WasHanded ticket x shown) alike is)

-- where nothing new is shown
module _ (s t : TurnState) (xs more : List Shown) (before : Owns s xs) (same : t.tickets ≡ s.tickets)
    (old : (ticket : ℕ) (e : Effect) → WasHanded ticket e (xs ++ more) → WasHanded ticket e xs) where
  still_held : (handed : Option Task) → ((h : Task) → handed ≡ Some h → WasHanded h.ticket h.effect xs) → (turn : Turn) (h : Task) →
      WasInHand s turn h ⊎ (handed ≡ Some h) → WasHanded h.ticket h.effect (xs ++ more)
  still_held handed last turn h (inl was) =
      in_first h.ticket h.effect xs more (handed_as was.before.ticket h.ticket was.before.effect h.effect xs was.ticket was.effect (before.held turn was.before was.was))
  still_held handed last turn h (inr is) = in_first h.ticket h.effect xs more (last h is)

  owns_still : (handed : Option Task) → HandsFrom s t handed → ((h : Task) → handed ≡ Some h → WasHanded h.ticket h.effect xs) → Owns t (xs ++ more)
  owns_still handed hands last = record {
    within = λ ticket e is. let so = before.within ticket e (old ticket e is) in (so.0, omega (arith, so, same));
    own = λ ticket e f is also. before.own ticket e f (old ticket e is) (old ticket f also);
    held = λ turn h held. still_held handed last turn h (hands turn h held);
  }

-- where one effect is new
module _ (s t : TurnState) (xs more : List Shown) (before : Owns s xs) (h : Task) (above : s.tickets < h.ticket) (last : t.tickets ≡ h.ticket)
    (shown : (ticket : ℕ) (e : Effect) → WasHanded ticket e more → (h.ticket ≡ ticket) × (h.effect ≡ e)) (shows : WasHanded h.ticket h.effect more) where
  new_within : (ticket : ℕ) (e : Effect) → WasHanded ticket e xs ⊎ WasHanded ticket e more → (1 ≤ ticket) × (ticket ≤ t.tickets)
  new_within ticket e (inl is) = let so = before.within ticket e is in (so.0, omega (arith, so, above, last))
  new_within ticket e (inr is) = let so = (shown ticket e is).0 in (omega (arith, so, above), omega (arith, so, last))

  new_own : (ticket : ℕ) (e f : Effect) → WasHanded ticket e xs ⊎ WasHanded ticket e more → WasHanded ticket f xs ⊎ WasHanded ticket f more → e ≡ f
  new_own ticket e f (inl is) (inl also) = before.own ticket e f is also
  new_own ticket e f (inl is) (inr also) =
      let so = before.within ticket e is in let here = (shown ticket f also).0 in absurd (omega (arith, so, here, above))
  new_own ticket e f (inr is) (inl also) =
      let so = before.within ticket f also in let here = (shown ticket e is).0 in absurd (omega (arith, so, here, above))
  new_own ticket e f (inr is) (inr also) = sym (shown ticket e is).1 ∙ (shown ticket f also).1

  new_held : (turn : Turn) (k : Task) → WasInHand s turn k ⊎ (Some h ≡ Some k) → WasHanded k.ticket k.effect (xs ++ more)
  new_held turn k (inl was) =
      in_first k.ticket k.effect xs more (handed_as was.before.ticket k.ticket was.before.effect k.effect xs was.ticket was.effect (before.held turn was.before was.was))
  new_held turn k (inr is) =
      in_last k.ticket k.effect xs more (subst (λ (x : Task). WasHanded x.ticket x.effect more) (same_Some h k is) shows)

  owns_new : HandsFrom s t (Some h) → Owns t (xs ++ more)
  owns_new hands = record {
    within = λ ticket e is. new_within ticket e (in_either ticket e xs more is);
    own = λ ticket e f is also. new_own ticket e f (in_either ticket e xs more is) (in_either ticket f xs more also);
    held = λ turn k held. new_held turn k (hands turn k held);
  }

only_first : (ticket : ℕ) (e : Effect) (xs ys : List Shown) → (WasHanded ticket e ys → WasHanded ticket e xs) → WasHanded ticket e (xs ++ ys) →
    WasHanded ticket e xs
only_first ticket e xs ys back is = by_either (in_either ticket e xs ys is) where
  by_either : WasHanded ticket e xs ⊎ WasHanded ticket e ys → WasHanded ticket e xs
  by_either (inl there) = there
  by_either (inr there) = back there

one_shown : (h : Task) (ticket : ℕ) (e : Effect) → WasHanded ticket e (handed_shown (Some h)) → (h.ticket ≡ ticket) × (h.effect ≡ e)
one_shown h ticket e (inl here) = here
one_shown h ticket e (inr there) = absurd there

owns_on : (s t : TurnState) (xs more : List Shown) → Owns s xs → t.tickets < most → (handed : Option Task) (told : List Seen) → IsHandedOf s t handed told →
    HandsFrom s t handed → ((ticket : ℕ) (e : Effect) → WasHanded ticket e more → WasHanded ticket e (handed_shown handed)) →
    ((ticket : ℕ) (e : Effect) → WasHanded ticket e (handed_shown handed) → WasHanded ticket e more) → Owns t (xs ++ more)
owns_on s t xs more before less _ _ (hands_none same) hands shown shows =
    owns_still s t xs more before same (λ ticket e is. only_first ticket e xs more (λ there. absurd (shown ticket e there)) is) None hands (λ h none. absurd (cc))
owns_on s t xs more before less _ _ (hands_new lane h next now_is) hands shown shows =
    owns_new s t xs more before h (next_above most s.tickets h.ticket t.tickets next now_is less) now_is
    (λ ticket e is. one_shown h ticket e (shown ticket e is)) (shows h.ticket h.effect (inl (refl, refl))) hands
owns_on s t xs more before less _ _ (hands_old turn h held unbegun same) hands shown shows =
    let was = before.held turn h held in
    owns_still s t xs more before same (λ ticket e is. only_first ticket e xs more (λ there.
    let one = one_shown h ticket e (shown ticket e there) in handed_as h.ticket ticket h.effect e xs one.0 one.1 was) is)
    (Some h) hands (λ k is. subst (λ (x : Task). WasHanded x.ticket x.effect xs) (same_Some h k is) was)

grows : (s t : TurnState) (handed : Option Task) (told : List Seen) → IsHandedOf s t handed told → t.tickets < most → s.tickets < most
grows s t _ _ (hands_none same) less = omega (arith, same, less)
grows s t _ _ (hands_new lane h next now_is) less =
    let so = next_above most s.tickets h.ticket t.tickets next now_is less in omega (arith, so, now_is, less)
grows s t _ _ (hands_old turn h held unbegun same) less = omega (arith, same, less)

owns_all : {g : Ghosts Token} {s t : Turns} {shown : List Shown} → Owns (turn_state s) [] → CellarCourse g s shown t → t.tickets < most →
    Owns (turn_state t) shown
owns_all first no_call less = first
owns_all first (calls_on {shown = xs} {more = more} {t = t} {u = u} before call) less =
    let k = by_call call in
    owns_on (turn_state t) (turn_state u) xs more
    (owns_all first before (grows (turn_state t) (turn_state u) k.handed k.told k.handed_so less)) less k.handed k.told k.handed_so k.hands k.shown k.shows

nothing_owned : (max_events : ℕ) (first : Turns) → IsNew max_events first → Owns (turn_state first) []
nothing_owned max_events first new = record {
  within = λ ticket e is. absurd is;
  own = λ ticket e f is also. absurd is;
  held = λ turn h held. let both : None ≡ Some h = sym (new.nothing turn).1 ∙ held in absurd (cc);
}

pub tickets_are_own : (g : Ghosts Token) → AreTicketsOwn g
tickets_are_own g max_events made first last shown new course less =
    let all = owns_all (nothing_owned max_events first (begins_so max_events made first new).new) course less in
    record { positive = λ ticket e is. (all.within ticket e is).0; own = all.own }
