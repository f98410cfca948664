-- What a line tells is what its step did; and one more line.
use Rattle.rx_script.specs.Running.{has_refused}
use Rattle.std.specs.Prelude.{Bool}
use Rattle.rx_trace.proofs.Common.{◌≡◌, ◌-◌, ◌∙◌, sym, ◌++◌, ap, refl, List, Some, None, [], ℕ, ◌∷◌, ◌+◌, ◌≤◌, ◌⊎◌, inl, inr, subst, length, take, drop, arith, map}
use Rattle.rx_trace.proofs.Common.{append_assoc, append-nil, length-append, drop_all, drop-append-add, drop-append_seam, take-append_seam, take-append-le, ◌&&◌, not}
use Rattle.rx_trace.proofs.Common.{codes, filter_map, next_step, agenda_of, AgendaInCode, Answer, Event, notes, shown}
use Rattle.rx_trace.proofs.Common.{StepInCode, out-Step, Action, action_of, step_of, step_of-parts, Engine, limited}
use Rattle.rx_trace.proofs.Common.{IsSound, StaysAt, HandsOutNone, IsHistoryOf, Followed, stage_of, PerformsStep, Advances, history_agrees, history_lawful}
use Rattle.rx_trace.proofs.Common.{kept_length, shown_length, stored_untold, all_told, node_binding, res_binding}
use Rattle.rx_trace.proofs.Common.{name_text, member_text, names_where, told_note, resource_told, taken_by, waits_after}
use Rattle.rx_trace.proofs.Common.{step_told, trace_line, step_text, outcome_text, Traces, nothing_done, one_more}
use Rattle.rx_trace.proofs.Common.{HandedOut, AreHandedOut, Rise, Knows, waits_by, told_in_code, HasToldAll, TakesTold, HasRunOut}
use Rattle.rx_trace.proofs.StepsGoOn.{HasGoneOn, AreInOrder, performed_on, performed_in_order}
use Rattle.rx_trace.proofs.TakenOne.{taken_is}

-- what a step does
pub action_in : (s : StepInCode) → action_of (out-Step s).action ≡ (step_of s).action
action_in s = ap (λ t. t.action) (sym (step_of-parts s))

-- lists ----------------------------------------------------------------------------------------------

-- past fronts of one length, what is left is the same
past_fronts : {X : Type 0} (a b c : List X) (n : ℕ) → length a ≤ n → length b ≡ length a → drop n (a ++ c) ≡ drop n (b ++ c)
past_fronts a b c n past same = ap (λ k. drop k (a ++ c)) at_a ∙ drop-append-add a c m ∙ sym (ap (λ k. drop k (b ++ c)) at_b ∙ drop-append-add b c m) where
  m : ℕ
  m = n - length a

  at_a : n ≡ length a + m
  at_a = omega arith

  at_b : n ≡ length b + m
  at_b = omega arith

-- a front that stands before both makes no difference
past_front : {X : Type 0} (a b c : List X) → drop (length (a ++ b)) (a ++ c) ≡ drop (length b) c
past_front a b c = ap (λ k. drop k (a ++ c)) (length-append a b) ∙ drop-append-add a c (length b)

longer_front : {X : Type 0} (a b : List X) → length a ≤ length (a ++ b)
longer_front a b = let l = length-append a b in omega arith

-- one step -------------------------------------------------------------------------------------------

module _ {R : Type 0} (old e : Engine R) (h j : List Event) (w : IsHistoryOf h old.tallies old.book) (v : IsHistoryOf j e.tallies e.book)
    (sound : IsSound old) (after : IsSound e) (all : HasToldAll old) (none : HandsOutNone old e) (on : HasGoneOn (stage_of old h) (stage_of e j)) where
  w_front : old.book.base.at_length ≡ length w.front
  w_front = kept_length w.front w.lawful w.settled old.book.base w.base

  v_front : e.book.base.at_length ≡ length v.front
  v_front = kept_length v.front v.lawful v.settled e.book.base v.base

  v_shown : length (shown e.book.base) ≡ length v.front
  v_shown = shown_length v.front v.lawful v.settled e.book.base v.base

  front_within : length w.front ≤ length h
  front_within = subst (λ l. length w.front ≤ length l) (sym w.whole) (longer_front w.front w.since)

  pub base_within : e.book.base.at_length ≤ length h
  base_within = by_checked on.checked where
    by_checked : (e.book.base.at_length ≡ old.book.base.at_length) ⊎ ((e.book.base.at_length ≡ length h) × (j ≡ h)) → e.book.base.at_length ≤ length h
    by_checked (inl same) = let f = front_within in let l = w_front in omega arith
    by_checked (inr (here, same)) = omega arith

  -- events
  later : drop (length h) j ≡ drop (length h) e.book.history
  later = ap (drop (length h)) v.whole ∙ past_fronts v.front (shown e.book.base) v.since (length h) (let b = base_within in let l = v_front in omega arith) v_shown
      ∙ ap (drop (length h)) (sym v.history)

  pub all_events : h ++ drop (length h) e.book.history ≡ j
  all_events = ap (λ l. h ++ l) (sym later ∙ ap (drop (length h)) on.history ∙ drop-append_seam h on.events) ∙ sym on.history

  -- notes
  w_notes : notes w.front ++ notes old.book.history ≡ notes h
  w_notes = all_told w sound.kept

  v_notes : notes v.front ++ notes e.book.history ≡ notes j
  v_notes = all_told v after.kept

  untold : notes (shown e.book.base) ≡ []
  untold = stored_untold v.front v.lawful v.settled e.book.base v.base

  abbrev IsToldSince : Type 0
  IsToldSince = drop e.book.given (notes e.book.history) ≡ drop (length (notes h)) (notes j)

  -- nothing is left, and nothing was told
  nothing_told : notes e.book.history ≡ [] → length (notes j) ≤ length (notes h) → IsToldSince
  nothing_told bare few = ap (drop e.book.given) bare ∙ drop_all e.book.given [] (omega arith) ∙ sym (drop_all (length (notes h)) (notes j) few)

  at_checkpoint : e.book.base.at_length ≡ length h → j ≡ h → IsToldSince
  at_checkpoint here same = nothing_told (ap notes (v.history ∙ ap (λ l. shown e.book.base ++ l) no_more ∙ append-nil (shown e.book.base)) ∙ untold)
      (let l = ap (λ k. length (notes k)) same in omega arith) where
        no_more : v.since ≡ []
        no_more = sym (drop-append_seam v.front v.since) ∙ drop_all (length v.front) (v.front ++ v.since)
            (let a = ap length v.whole in let b = ap length same in let c = v_front in omega arith)

  same_front : e.book.base.at_length ≡ old.book.base.at_length → v.front ≡ w.front
  same_front same = sym (take-append_seam v.front v.since) ∙ ap (take (length v.front)) (sym v.whole ∙ on.history)
      ∙ take-append-le (length v.front) h on.events (let f = front_within in let a = v_front in let b = w_front in omega arith)
      ∙ ap (λ n. take n h) long ∙ ap (take (length w.front)) w.whole ∙ take-append_seam w.front w.since where
        long : length v.front ≡ length w.front
        long = let a = v_front in let b = w_front in omega arith

  since_then : e.book.base.at_length ≡ old.book.base.at_length → (e.book.given ≡ old.book.given) ⊎ (e.book.history ≡ shown e.book.base) → IsToldSince
  since_then same (inl kept) = ap (λ n. drop n (notes e.book.history)) (kept ∙ all)
      ∙ sym (past_front (notes w.front) (notes old.book.history) (notes e.book.history))
      ∙ ap (λ l. drop (length l) (notes w.front ++ notes e.book.history)) w_notes
      ∙ ap (drop (length (notes h))) (ap (λ l. notes l ++ notes e.book.history) (sym (same_front same)) ∙ v_notes)
  since_then same (inr bare) = nothing_told (ap notes bare ∙ untold) (let a = ap length parts in let b = ap length w_notes in
      let c = length-append (notes w.front) (notes old.book.history) in omega arith) where
        parts : notes j ≡ notes w.front
        parts = sym v_notes ∙ ap (λ l. notes v.front ++ l) (ap notes bare ∙ untold) ∙ append-nil (notes v.front) ∙ ap notes (same_front same)

  told_since : IsToldSince
  told_since = by_checked on.checked where
    by_checked : (e.book.base.at_length ≡ old.book.base.at_length) ⊎ ((e.book.base.at_length ≡ length h) × (j ≡ h)) → IsToldSince
    by_checked (inl same) = since_then same none
    by_checked (inr (here, same)) = at_checkpoint here same

  -- what waits
  module _ (t : HandedOut) (taken : AreHandedOut t j) where
    waits_same : (r : ℕ) → waits_by e.book t r ≡ waits_after j r
    waits_same r = λ i. not (sym ((history_agrees v after.kept).held r) i) && not ((taken r ∙ sym (taken_is j (history_lawful v after.kept) r)) i)

    pub told_is : told_in_code e t (length h) ≡ step_told (stage_of old h) (stage_of e j)
    told_is = λ i.
        member_text (codes "notes") (map (told_note (map node_binding e.nodes)) (told_since i))
        ++ member_text (codes "waits") (map name_text (names_where (λ r. waits_same r i) (map res_binding e.resources)))
        ++ member_text (codes "release") (map (resource_told (map res_binding e.resources)) (filter_map taken_by (sym later i)))

-- what is told behind a text, in its parts
pub told_behind : (old a b c : List ℕ) (n w l n' w' l' : List (List ℕ)) → a ≡ old ++ member_text (codes "notes") n
    → b ≡ a ++ member_text (codes "waits") w → c ≡ b ++ member_text (codes "release") l → n ≡ n' → w ≡ w' → l ≡ l'
    → c ≡ old ++ (member_text (codes "notes") n' ++ member_text (codes "waits") w' ++ member_text (codes "release") l')
told_behind old a b c n w l n' w' l' is_a is_b is_c same_n same_w same_l =
    is_c ∙ ap (λ (t : List ℕ). t ++ member_text (codes "release") l) (is_b ∙ ap (λ (t : List ℕ). t ++ member_text (codes "waits") w) is_a
    ∙ append_assoc old (member_text (codes "notes") n) (member_text (codes "waits") w))
    ∙ append_assoc old (member_text (codes "notes") n ++ member_text (codes "waits") w) (member_text (codes "release") l)
    ∙ (λ i. old ++ (member_text (codes "notes") (same_n i) ++ member_text (codes "waits") (same_w i) ++ member_text (codes "release") (same_l i)))

-- the line behind a text, in its parts
pub line_behind : (k at : ℕ) (action : Action) (answer : Answer) (place : ℕ) (told old a b c new : List ℕ) → a ≡ old ++ step_text k at action
    → b ≡ a ++ outcome_text answer place → c ≡ b ++ told → new ≡ c ++ codes "}\n"
    → new ≡ old ++ (step_text k at action ++ outcome_text answer place ++ told ++ codes "}\n")
line_behind k at action answer place told old a b c new is_a is_b is_c is_new =
    is_new ∙ ap (λ (l : List ℕ). l ++ codes "}\n") (is_c ∙ ap (λ (l : List ℕ). l ++ told)
    (is_b ∙ ap (λ (l : List ℕ). l ++ o) is_a ∙ append_assoc old f o) ∙ append_assoc old (f ++ o) told) ∙ append_assoc old (f ++ o ++ told) (codes "}\n") where
      f : List ℕ
      f = step_text k at action

      o : List ℕ
      o = outcome_text answer place

-- a step that was taken, and what was written of it
module _ {R : Type 0} (old mid new : Engine R) (before now : AgendaInCode) (s : StepInCode) (answer : Answer) (handed handed' : HandedOut)
    (k place : ℕ) (text longer : List ℕ) (sound : IsSound old) (all : HasToldAll old) (is_place : place ≡ length old.book.history)
    (f : Followed old before s answer mid now) (stays : StaysAt mid new) (told : HasToldAll new)
    (taken : mid.book.base.at_length ≤ place → (h : List Event) → AreHandedOut handed h → AreHandedOut handed' (h ++ drop place mid.book.history))
    (written : mid.book.base.at_length ≤ place → Rise (map node_binding mid.nodes) → longer ≡ text ++ (step_text k before.timeline.clock (step_of s).action ++ outcome_text answer place
    ++ told_in_code mid handed' place ++ codes "}\n")) where
  module _ (h : List Event) (w : IsHistoryOf h old.tallies old.book) (known : Knows handed (stage_of old h)) where
    abbrev to : (j : List Event)
        × PerformsStep (limited old.book.limit) (record { stage = stage_of old h; agenda = agenda_of before }) (step_of s).action answer
        (record { stage = stage_of mid j; agenda = f.left }) × IsHistoryOf j mid.tallies mid.book
    to = f.performs h w

    on : HasGoneOn (stage_of old h) (stage_of mid to.0)
    on = performed_on to.1

    here : place ≡ length h
    here = is_place ∙ sym (history_agrees w sound.kept).same_length

    within : mid.book.base.at_length ≤ place
    within = subst (λ n. mid.book.base.at_length ≤ n) (sym here) (base_within old mid h to.0 w to.2 sound f.sound all f.given on)

    then : AreHandedOut handed' to.0
    then = subst (AreHandedOut handed') (ap (λ n. h ++ drop n mid.book.history) here ∙ all_events old mid h to.0 w to.2 sound f.sound all f.given on)
        (taken within h known.handed)

    in_order : AreInOrder (stage_of mid to.0)
    in_order = performed_in_order to.1 (record { rise = known.rise; within = known.within })

    line : longer ≡ text ++ trace_line k before.timeline.clock (step_of s).action answer (stage_of old h) (stage_of new to.0)
    line = written within in_order.rise
        ∙ ap (λ n. text ++ (step_text k before.timeline.clock (step_of s).action ++ outcome_text answer n ++ told_in_code mid handed' n ++ codes "}\n")) here
        ∙ ap (λ l. text ++ (step_text k before.timeline.clock (step_of s).action ++ outcome_text answer (length h) ++ l ++ codes "}\n"))
        (told_is old mid h to.0 w to.2 sound f.sound all f.given on handed' then)
        ∙ ap (λ t. text ++ trace_line k before.timeline.clock (step_of s).action answer (stage_of old h) t) (sym (stays.stage to.0))

    done : (j : List Event) × PerformsStep (limited old.book.limit) (record { stage = stage_of old h; agenda = agenda_of before }) (step_of s).action answer
        (record { stage = stage_of new j; agenda = f.left })
        × (longer ≡ text ++ trace_line k before.timeline.clock (step_of s).action answer (stage_of old h) (stage_of new j))
        × Knows handed' (stage_of new j) × IsHistoryOf j new.tallies new.book
    done = (
      to.0,
      subst (λ t. PerformsStep (limited old.book.limit) (record { stage = stage_of old h; agenda = agenda_of before }) (step_of s).action answer
          (record { stage = t; agenda = f.left })) (sym (stays.stage to.0)) to.1,
      line,
      subst (Knows handed') (sym (stays.stage to.0)) (record { handed = then; rise = in_order.rise; within = in_order.within }),
      stays.history to.0 to.2,
    )

  pub told_step : TakesTold old before handed text k s answer new now handed' longer
  told_step = record {
    left = f.left;
    performs = done;
    follows = f.follows;
    sound = stays.sound;
    told = told;
    limit = stays.limit ∙ f.limit;
    size = f.size;
    clock = f.clock;
  }

-- the steps so far -----------------------------------------------------------------------------------

module _ {R : Type 0} where
  -- what a run has led to, with its lines
  abbrev pub HasTraced : ℕ → ℕ → Engine R → AgendaInCode → HandedOut → List Answer → List ℕ → Engine R → AgendaInCode → HandedOut → Type 0
  HasTraced limit until first begun handed answers text e now t = (h : List Event) → IsHistoryOf h first.tallies first.book → Knows handed (stage_of first h)
      → (j : List Event) × Traces (limited limit) until (record { stage = stage_of first h; agenda = agenda_of begun }) answers text
      (record { stage = stage_of e j; agenda = agenda_of now })
      × Knows t (stage_of e j) × IsHistoryOf j e.tallies e.book

  pub not_traced : (limit until : ℕ) (first : Engine R) (begun : AgendaInCode) (handed : HandedOut) (answers : List Answer) (text : List ℕ)
      → answers ≡ [] → text ≡ [] → HasTraced limit until first begun handed answers text first begun handed
  not_traced limit until first begun handed answers text none blank = λ h w known. (
    h,
    subst (λ l. Traces (limited limit) until (record { stage = stage_of first h; agenda = agenda_of begun }) l text
        (record { stage = stage_of first h; agenda = agenda_of begun })) (sym none)
        (subst (λ l. Traces (limited limit) until (record { stage = stage_of first h; agenda = agenda_of begun }) [] l
        (record { stage = stage_of first h; agenda = agenda_of begun })) (sym blank) nothing_done),
    known,
    w,
  )

  module _ (limit until : ℕ) (first e new : Engine R) (begun before between now : AgendaInCode) (handed t t' : HandedOut) (s : StepInCode)
      (answers pushed : List Answer) (answer : Answer) (text longer : List ℕ) (same : e.book.limit ≡ limit)
      (comes : next_step until (agenda_of before) ≡ Some (step_of s, agenda_of between))
      (told : TakesTold e between t text (length answers) s answer new now t' longer) (is_pushed : pushed ≡ answers ++ answer ∷ []) where
    abbrev advances : (h k : List Event)
        → PerformsStep (limited e.book.limit) (record { stage = stage_of e h; agenda = agenda_of between }) (step_of s).action answer
        (record { stage = stage_of new k; agenda = told.left })
        → Advances (limited limit) until (record { stage = stage_of e h; agenda = agenda_of before }) answer
        (record { stage = stage_of new k; agenda = agenda_of now })
    advances h k performs = record {
      step = step_of s;
      rest = agenda_of between;
      comes = comes;
      done = record { stage = stage_of new k; agenda = told.left };
      performs = subst (λ n. PerformsStep (limited n) (record { stage = stage_of e h; agenda = agenda_of between }) (step_of s).action answer
          (record { stage = stage_of new k; agenda = told.left })) same performs;
      stage = refl;
      follows = told.follows;
    }

    pub traces_more : HasTraced limit until first begun handed answers text e before t → HasTraced limit until first begun handed pushed longer new now t'
    traces_more led h w known =
        let to = led h w known in
        let on = told.performs to.0 to.3 to.2 in (
          on.0,
          subst (λ l. Traces (limited limit) until (record { stage = stage_of first h; agenda = agenda_of begun }) l longer
              (record { stage = stage_of new on.0; agenda = agenda_of now })) (sym is_pushed)
              (subst (λ l. Traces (limited limit) until (record { stage = stage_of first h; agenda = agenda_of begun }) (answers ++ answer ∷ []) l
              (record { stage = stage_of new on.0; agenda = agenda_of now })) (sym on.2) (one_more to.1 (advances to.0 on.0 on.1))),
          on.3,
          on.4,
        )

  -- it has led to its end
  pub has_ended : {limit : ℕ} (until : ℕ) (first e : Engine R) (begun now : AgendaInCode) (handed t : HandedOut) (answers : List Answer) (text : List ℕ)
      → HasTraced limit until first begun handed answers text e now t → next_step until (agenda_of now) ≡ None
      → (refused : Bool) → refused ≡ has_refused answers
      → (h : List Event) → IsHistoryOf h first.tallies first.book → Knows handed (stage_of first h)
      → HasRunOut limit until (stage_of first h) (agenda_of begun) text refused e t
  has_ended until first e begun now handed t answers text led none refused strict = λ h w known.
      let to = led h w known in (to.0, record { answers = answers; left = agenda_of now; traces = to.1; over = none }, to.2.handed, to.3, strict)
