-- Worked examples of the order: what comes of small scenarios, and that what a wrong machine would make of them is in no order.
use Rattle.rx_agenda.proofs.Common.{◌≡◌, ℕ, zero, suc, List, [], ◌∷◌, ◌++◌, map, option_map, refl, sym, ap, subst, ◌∙◌, Option, Some, None, slice_get, item_of}
use Rattle.rx_agenda.proofs.Common.{Name, Command, Action, command, cancel, Step, list_of, bound, Answer, Accepted, Refused, NoStep, Agenda, empty_agenda}
use Rattle.rx_agenda.proofs.Common.{with_steps, followed_by, next_step, taken_off, none_waits, without_ticket, Acts, does_command, does_cancel, HaveCome}
use Rattle.rx_agenda.proofs.Common.{none_yet, one_more, Executed, done_in}
use Rattle.std.proofs.Common.{append_assoc, append-nil, rules}
use Rattle.std.specs.Prelude.{negsuc, pos, codes}
use Rattle.std.specs.Option.{option_map_or}
use Rattle.std.proofs.lemmas.Option.{slice_get-map}
use Rattle.rx_event.specs.declared.event.Mode.TheVariants.{Auto}
use Rattle.rx_event.specs.declared.refusal.Refusal.TheVariants.{Gone}
use Rattle.rx_scenario.specs.Scenario.{root, source, leaf, sub, open_node, remove, next, dispose, make_hub, drain, steps_of}
use Rattle.rx_agenda.specs.declared.answer.Cause.TheVariants.{Book}
use Rattle.rx_agenda.specs.Claims.{AreStepsInOrder}
use Rattle.rx_agenda.proofs.RunsInOrder.{runs_in_order}
use Rattle.rx_agenda.proofs.OneOrder.{determined}

-- a run that computes: commands are answered as these answers say, cancels by the agenda ------------

abbrev cancelled_at : Agenda → ℕ → Option Step → Answer × Agenda
cancelled_at a ticket None = (Refused NoStep, a)
cancelled_at a ticket (Some s) = (Accepted, without_ticket ticket a)

abbrev cancelled : Agenda → Option ℕ → Answer × Agenda
cancelled a None = (Refused NoStep, a)
cancelled a (Some ticket) = cancelled_at a ticket (item_of ticket a.timeline.work)

abbrev act : Answer → Action → Agenda → Answer × Agenda
act answer (command c) a = (answer, a)
act answer (cancel label) a = cancelled a (bound a.labels label)

abbrev done_from : ℕ → List Answer → Agenda → List (Step × Answer)
done_from until [] a = []
done_from until (answer ∷ answers) a =
    option_map_or (λ (p : Step × Agenda). (p.0, (act answer p.0.action p.1).0)
    ∷ done_from until answers (followed_by (act answer p.0.action p.1).0 (list_of p.0.followers) (act answer p.0.action p.1).1)) (next_step until a) []

abbrev left_from : ℕ → List Answer → Agenda → Agenda
left_from until [] a = a
left_from until (answer ∷ answers) a =
    option_map_or (λ (p : Step × Agenda). left_from until answers
    (followed_by (act answer p.0.action p.1).0 (list_of p.0.followers) (act answer p.0.action p.1).1)) (next_step until a) a

cancelled_acts : (a : Agenda) (label : Name) (o : Option ℕ) → bound a.labels label ≡ o → Acts a (cancel label) (cancelled a o).0 (cancelled a o).1
cancelled_acts a label x2 is = search (rules, does_cancel, none_waits, cancel, taken_off)

acts : (answer : Answer) (action : Action) (a : Agenda) → Acts a action (act answer action a).0 (act answer action a).1
acts answer x1 a = search (rules, does_command, cancelled_acts)

computed : (until : ℕ) (first : Agenda) (answers : List Answer) (before : List (Step × Answer)) (a : Agenda) → HaveCome until first before a
    → HaveCome until first (before ++ done_from until answers a) (left_from until answers a)
computed until first [] before a run = subst (λ (l : List (Step × Answer)). HaveCome until first l a) (sym (append-nil before)) run
computed until first (answer ∷ answers) before a run = go (next_step until a) refl
    (λ p. computed until first answers (before ++ (p.0, (act answer p.0.action p.1).0) ∷ [])
    (followed_by (act answer p.0.action p.1).0 (list_of p.0.followers) (act answer p.0.action p.1).1)) where
      go : (o : Option (Step × Agenda)) → next_step until a ≡ o
          → ((p : Step × Agenda) → HaveCome until first (before ++ (p.0, (act answer p.0.action p.1).0) ∷ [])
          (followed_by (act answer p.0.action p.1).0 (list_of p.0.followers) (act answer p.0.action p.1).1)
          → HaveCome until first ((before ++ (p.0, (act answer p.0.action p.1).0) ∷ []) ++ done_from until answers
          (followed_by (act answer p.0.action p.1).0 (list_of p.0.followers) (act answer p.0.action p.1).1))
          (left_from until answers (followed_by (act answer p.0.action p.1).0 (list_of p.0.followers) (act answer p.0.action p.1).1)))
          → HaveCome until first
          (before ++ option_map_or (λ (p : Step × Agenda). (p.0, (act answer p.0.action p.1).0)
          ∷ done_from until answers (followed_by (act answer p.0.action p.1).0 (list_of p.0.followers) (act answer p.0.action p.1).1)) o [])
          (option_map_or (λ (p : Step × Agenda). left_from until answers
          (followed_by (act answer p.0.action p.1).0 (list_of p.0.followers) (act answer p.0.action p.1).1)) o a)
      go None is rest = subst (λ (l : List (Step × Answer)). HaveCome until first l a) (sym (append-nil before)) run
      go (Some p) is rest =
          subst (λ (l : List (Step × Answer)). HaveCome until first l
          (left_from until answers (followed_by (act answer p.0.action p.1).0 (list_of p.0.followers) (act answer p.0.action p.1).1)))
          (rw append_assoc refl) (rest p (one_more run is (acts answer p.0.action p.1)))

worked : (steps : List Step) (until : ℕ) (answers : List Answer) → next_step until (left_from until answers (with_steps steps empty_agenda)) ≡ None
    → AreStepsInOrder steps until (done_from until answers (with_steps steps empty_agenda))
worked steps until answers over = runs_in_order steps until _ _
    (computed until (with_steps steps empty_agenda) answers [] (with_steps steps empty_agenda) none_yet) over

-- of two lists with the same answers, as far as both go, one alone can be in order -------------------

abbrev AgreesWith : List (Step × Answer) → List (Step × Answer) → Type 0
AgreesWith [] ys = Unit {0}
AgreesWith (x ∷ xs) [] = Unit {0}
AgreesWith (x ∷ xs) (y ∷ ys) = (x.1 ≡ y.1) × AgreesWith xs ys

agreed : (xs ys : List (Step × Answer)) → AgreesWith xs ys → (k : ℕ) (x y : Step × Answer) → slice_get xs k ≡ Some x → slice_get ys k ≡ Some y → x.1 ≡ y.1
agreed [] ys same k x y at_x at_y = absurd (cc)
agreed (a ∷ xs) [] same k x y at_x at_y = absurd (cc)
agreed (a ∷ xs) (b ∷ ys) same zero x y at_x at_y = search (rules, Answer)
agreed (a ∷ xs) (b ∷ ys) same (suc k) x y at_x at_y = agreed xs ys same.1 k x y at_x at_y

only_one : (steps : List Step) (until : ℕ) (one other : List (Step × Answer)) → AreStepsInOrder steps until one → AgreesWith one other
    → AreStepsInOrder steps until other → one ≡ other
only_one steps until one other right same wrong =
    let at : (es : List Executed) (done : List (Step × Answer)) → map done_in es ≡ done → (k : ℕ) (x : Executed) → slice_get es k ≡ Some x
    → slice_get done k ≡ Some (done_in x) =
    λ es done told k x there. ap (λ (l : List (Step × Answer)). slice_get l k) (sym told) ∙ slice_get-map done_in es k ∙ ap (option_map done_in) there in
    let lists : right.executed ≡ wrong.executed =
    determined steps until right.executed wrong.executed right.in_order wrong.in_order
    (λ k x y at_x at_y. agreed one other same k (done_in x) (done_in y) (at right.executed one right.told k x at_x)
    (at wrong.executed other wrong.told k y at_y)) in
    sym right.told ∙ ap (map done_in) lists ∙ wrong.told

-- the scenarios -----------------------------------------------------------------------------------

abbrev doing : Command → Option ℕ → List Step → Step
doing c delay followers = record { label = None; delay = delay; action = command c; followers = steps_of followers }

abbrev action_in : Step × Answer → Action
action_in done = done.0.action

-- steps that are told apart by what they do
abbrev a_at : ℕ → List Step → Step
a_at moment followers = doing drain (Some moment) followers

abbrev b_at : ℕ → List Step → Step
b_at moment followers = doing (remove []) (Some moment) followers

abbrev c_at : ℕ → List Step → Step
c_at moment followers = doing (dispose []) (Some moment) followers

abbrev b_then : List Step → Step
b_then followers = doing (remove []) None followers

abbrev c_then : List Step → Step
c_then followers = doing (dispose []) None followers

abbrev d_then : List Step → Step
d_then followers = doing (next [] (pos 1)) None followers

-- ties go in the order of the text
abbrev ties : List Step
ties = a_at 5 [] ∷ b_at 5 [] ∷ c_at 3 [] ∷ []

abbrev ties_come : List (Step × Answer)
ties_come = (c_at 3 [], Accepted) ∷ (a_at 5 [], Accepted) ∷ (b_at 5 [], Accepted) ∷ []

ties_in_order : AreStepsInOrder ties 100 ties_come
ties_in_order = worked ties 100 (Accepted ∷ Accepted ∷ Accepted ∷ []) refl

ties_in_reverse : ¬ AreStepsInOrder ties 100 ((c_at 3 [], Accepted) ∷ (b_at 5 [], Accepted) ∷ (a_at 5 [], Accepted) ∷ [])
ties_in_reverse wrong = let same = ap (map action_in) (only_one ties 100 ties_come _ ties_in_order (refl, (refl, (refl, tt))) wrong) in absurd (cc)

-- a step with `after` 0 comes behind one of the scenario's at that moment, and one without before it
abbrev at_once : List Step
at_once = a_at 5 (c_at 0 [] ∷ d_then [] ∷ []) ∷ b_at 5 [] ∷ []

abbrev at_once_come : List (Step × Answer)
at_once_come = (a_at 5 (c_at 0 [] ∷ d_then [] ∷ []), Accepted) ∷ (d_then [], Accepted) ∷ (b_at 5 [], Accepted) ∷ (c_at 0 [], Accepted) ∷ []

at_once_in_order : AreStepsInOrder at_once 100 at_once_come
at_once_in_order = worked at_once 100 (Accepted ∷ Accepted ∷ Accepted ∷ Accepted ∷ []) refl

after_0_overtakes : ¬ AreStepsInOrder at_once 100 ((a_at 5 (c_at 0 [] ∷ d_then [] ∷ []), Accepted) ∷ (d_then [], Accepted) ∷ (c_at 0 [], Accepted) ∷
    (b_at 5 [], Accepted) ∷ [])
after_0_overtakes wrong = let same = ap (map action_in) (only_one at_once 100 at_once_come _ at_once_in_order (refl, (refl, (refl, (refl, tt)))) wrong) in
    absurd (cc)

-- of a turn the step that was pushed first comes first
abbrev pushed : List Step
pushed = a_at 0 (b_then (d_then [] ∷ []) ∷ c_then [] ∷ []) ∷ []

abbrev pushed_come : List (Step × Answer)
pushed_come = (a_at 0 (b_then (d_then [] ∷ []) ∷ c_then [] ∷ []), Accepted) ∷ (b_then (d_then [] ∷ []), Accepted) ∷ (c_then [], Accepted) ∷
    (d_then [], Accepted) ∷ []

pushed_in_order : AreStepsInOrder pushed 100 pushed_come
pushed_in_order = worked pushed 100 (Accepted ∷ Accepted ∷ Accepted ∷ Accepted ∷ []) refl

last_pushed_overtakes : ¬ AreStepsInOrder pushed 100
    ((a_at 0 (b_then (d_then [] ∷ []) ∷ c_then [] ∷ []), Accepted) ∷ (b_then (d_then [] ∷ []), Accepted) ∷ (d_then [], Accepted) ∷ (c_then [], Accepted) ∷ [])
last_pushed_overtakes wrong = let same = ap (map action_in) (only_one pushed 100 pushed_come _ pushed_in_order (refl, (refl, (refl, (refl, tt)))) wrong) in
    absurd (cc)

-- a delay counts from now: one that counted from 0 would be past, and overtake
abbrev delayed : List Step
delayed = a_at 10 (c_at 2 [] ∷ []) ∷ b_at 11 [] ∷ []

abbrev delayed_come : List (Step × Answer)
delayed_come = (a_at 10 (c_at 2 [] ∷ []), Accepted) ∷ (b_at 11 [], Accepted) ∷ (c_at 2 [], Accepted) ∷ []

delayed_in_order : AreStepsInOrder delayed 100 delayed_come
delayed_in_order = worked delayed 100 (Accepted ∷ Accepted ∷ Accepted ∷ []) refl

past_overtakes : ¬ AreStepsInOrder delayed 100 ((a_at 10 (c_at 2 [] ∷ []), Accepted) ∷ (c_at 2 [], Accepted) ∷ (b_at 11 [], Accepted) ∷ [])
past_overtakes wrong = let same = ap (map action_in) (only_one delayed 100 delayed_come _ delayed_in_order (refl, (refl, (refl, tt))) wrong) in absurd (cc)

-- what would follow a refused step does not come
abbrev refused : List Step
refused = a_at 0 (b_then [] ∷ []) ∷ []

abbrev refused_come : List (Step × Answer)
refused_come = (a_at 0 (b_then [] ∷ []), Refused (Book Gone)) ∷ []

refused_in_order : AreStepsInOrder refused 100 refused_come
refused_in_order = worked refused 100 (Refused (Book Gone) ∷ []) refl

refused_is_followed : ¬ AreStepsInOrder refused 100 ((a_at 0 (b_then [] ∷ []), Refused (Book Gone)) ∷ (b_then [], Accepted) ∷ [])
refused_is_followed wrong = let same = only_one refused 100 refused_come _ refused_in_order (refl, tt) wrong in absurd (cc)

-- nor does a step after the end, and one at the end comes
abbrev late : List Step
late = a_at 5 [] ∷ b_at 6 [] ∷ []

abbrev late_come : List (Step × Answer)
late_come = (a_at 5 [], Accepted) ∷ []

late_in_order : AreStepsInOrder late 5 late_come
late_in_order = worked late 5 (Accepted ∷ []) refl

late_comes : ¬ AreStepsInOrder late 5 ((a_at 5 [], Accepted) ∷ (b_at 6 [], Accepted) ∷ [])
late_comes wrong = let same = only_one late 5 late_come _ late_in_order (refl, tt) wrong in absurd (cc)

last_is_missed : ¬ AreStepsInOrder late 5 []
last_is_missed wrong = let same = only_one late 5 late_come _ late_in_order tt wrong in absurd (cc)

-- a cancel of a step of its own moment: it is in time where it stands before, and not where it stands behind
abbrev cancels_x : Step
cancels_x = record { label = None; delay = Some 5; action = cancel (codes "x"); followers = steps_of [] }

abbrev x_at_5 : Step
x_at_5 = record { label = Some (codes "x"); delay = Some 5; action = command drain; followers = steps_of [] }

cancel_in_time : AreStepsInOrder (cancels_x ∷ x_at_5 ∷ []) 100 ((cancels_x, Accepted) ∷ [])
unfolding bound
cancel_in_time = worked (cancels_x ∷ x_at_5 ∷ []) 100 (Accepted ∷ []) refl

cancelled_step_comes : ¬ AreStepsInOrder (cancels_x ∷ x_at_5 ∷ []) 100 ((cancels_x, Accepted) ∷ (x_at_5, Accepted) ∷ [])
cancelled_step_comes wrong = let same = only_one (cancels_x ∷ x_at_5 ∷ []) 100 ((cancels_x, Accepted) ∷ []) _ cancel_in_time (refl, tt) wrong in absurd (cc)

cancel_too_late : AreStepsInOrder (x_at_5 ∷ cancels_x ∷ []) 100 ((x_at_5, Accepted) ∷ (cancels_x, Refused NoStep) ∷ [])
unfolding bound
cancel_too_late = worked (x_at_5 ∷ cancels_x ∷ []) 100 (Accepted ∷ Accepted ∷ []) refl

-- two larger ones: a subscriber's source that gives an item after its opening, and an item that is cancelled, once
abbrev disposal : Step
disposal = doing (dispose (codes "s")) (Some 10) []

abbrev hub : Step
hub = doing (make_hub (codes "h") Auto) (Some 5) []

abbrev opens_leaf : Step
opens_leaf = doing (open_node (codes "l") (source (codes "c")) leaf) None []

abbrev gives_first : Step
gives_first = doing (next (codes "l") (negsuc 0)) (Some 2) []

abbrev subscribes : Step
subscribes = doing (open_node (codes "s") root (sub (codes "h") (Some (codes "c")))) (Some 5) (opens_leaf ∷ gives_first ∷ [])

abbrev gives_late : Step
gives_late = doing (next (codes "l") (pos 8)) (Some 10) []

subscribed_in_order : AreStepsInOrder (disposal ∷ hub ∷ subscribes ∷ gives_late ∷ []) 1000000000000000
    ((hub, Accepted) ∷ (subscribes, Accepted) ∷ (opens_leaf, Accepted) ∷ (gives_first, Accepted) ∷ (disposal, Accepted) ∷
    (gives_late, Refused (Book Gone)) ∷ [])
subscribed_in_order = worked (disposal ∷ hub ∷ subscribes ∷ gives_late ∷ []) 1000000000000000
    (Accepted ∷ Accepted ∷ Accepted ∷ Accepted ∷ Accepted ∷ Refused (Book Gone) ∷ []) refl

abbrev item_x : Step
item_x = record { label = Some (codes "x"); delay = Some 5; action = command (next (codes "a") (pos 1)); followers = steps_of [] }

abbrev item_2 : Step
item_2 = doing (next (codes "a") (pos 2)) None []

abbrev cancel_x : Step
cancel_x = record { label = None; delay = None; action = cancel (codes "x"); followers = steps_of [] }

abbrev opens_a : Step
opens_a = doing (open_node (codes "a") root leaf) (Some 0) (item_x ∷ item_2 ∷ cancel_x ∷ cancel_x ∷ [])

cancelled_once_in_order : AreStepsInOrder (opens_a ∷ []) 1000000000000000
    ((opens_a, Accepted) ∷ (item_2, Accepted) ∷ (cancel_x, Accepted) ∷ (cancel_x, Refused NoStep) ∷ [])
unfolding bound
cancelled_once_in_order = worked (opens_a ∷ []) 1000000000000000 (Accepted ∷ Accepted ∷ Accepted ∷ Accepted ∷ []) refl
