-- How many steps an agenda has to come, with all that may follow them: each step that comes next takes itself off, and brings no more
-- than those that follow it.
use Rattle.rx_script.proofs.Common.{◌≡◌, ℕ, suc, ◌+◌, ◌<◌, ◌≤◌, Bool, true, false, List, [], ◌∷◌, ◌++◌, Option, Some, None, cond, refl, ap, subst, arith}
use Rattle.rx_script.proofs.Common.{nat_lt, nat_eq, option_map, AllByRecursion, false_from_ne_true, eqb-true, eq-eqb, ltb-true, same_Some, none-some}
use Rattle.rx_script.proofs.Common.{AllByRecursion-both, Name, StepList, no_steps, Step, list_of, Answer, Agenda, empty_agenda, with_steps, followed_by}
use Rattle.rx_script.proofs.Common.{next_step}
use Rattle.rx_script.proofs.Common.{Cancels, taken_off, none_waits}
use Rattle.std.proofs.Common.{nat_le, rules}
use Rattle.std.proofs.lemmas.Bool.{lt-ltb}
use Rattle.rx_time.specs.declared.work.Work.{Work}
use Rattle.rx_time.specs.Schedule.{earlier, next_of, if_due, next_due, without}
use Rattle.rx_scenario.specs.Scenario.{one_more}
use Rattle.rx_agenda.specs.Agenda.{with_step_after, with_step, first_of_turn, next_of_turn}

-- a step and those that follow it
abbrev count_in : StepList → ℕ
count_in no_steps = 0
count_in (one_more label delay action followers others) = suc (count_in followers + count_in others)

abbrev size : Step → ℕ
size s = suc (count_in s.followers)

abbrev total : List Step → ℕ
total [] = 0
total (s ∷ ss) = size s + total ss

abbrev waiting_total : List (ℕ × Work Step) → ℕ
waiting_total [] = 0
waiting_total (e ∷ es) = size e.1.item + waiting_total es

abbrev pub to_come : Agenda → ℕ
to_come a = waiting_total a.timeline.work + total a.turn

-- no two entries have one ticket, and each ticket was given
abbrev AllApart : List (ℕ × Work Step) → Type 0
AllApart [] = Unit {0}
AllApart (e ∷ es) = AllByRecursion (λ f. nat_eq f.0 e.0 ≡ false) es × AllApart es

pub record IsOrderly (a : Agenda) : Type 0 where
  pub given : AllByRecursion (λ (e : ℕ × Work Step). nat_lt e.0 a.timeline.tickets ≡ true) a.timeline.work
  pub apart : AllApart a.timeline.work

-- totals -----------------------------------------------------------------------------------------------------------------------------

total-list_of : (ss : StepList) → total (list_of ss) ≡ count_in ss
total-list_of no_steps = refl
total-list_of (one_more label delay action followers others) = let rest = total-list_of others in omega arith

total-push : (ss : List Step) (s : Step) → total (ss ++ s ∷ []) ≡ total ss + size s
total-push [] s = omega arith
total-push (x ∷ ss) s = let rest = total-push ss s in omega arith

waiting_total-push : (es : List (ℕ × Work Step)) (e : ℕ × Work Step) → waiting_total (es ++ e ∷ []) ≡ waiting_total es + size e.1.item
waiting_total-push [] e = omega arith
waiting_total-push (x ∷ es) e = let rest = waiting_total-push es e in omega arith

step_after-total : (o : Option ℕ) (s : Step) (a : Agenda) → to_come (with_step_after o s a) ≡ to_come a + size s
step_after-total x0 s a = search (rules, total-push, waiting_total-push)

with_step-total : (s : Step) (a : Agenda) → to_come (with_step s a) ≡ to_come a + size s
with_step-total s a = step_after-total s.delay s a

with_steps-total : (ss : List Step) (a : Agenda) → to_come (with_steps ss a) ≡ to_come a + total ss
with_steps-total [] a = omega arith
with_steps-total (s ∷ ss) a = let rest = with_steps-total ss (with_step s a) in let one = with_step-total s a in omega arith

pub followed-total : (answer : Answer) (s : Step) (a : Agenda) → to_come (followed_by answer (list_of s.followers) a) < to_come a + size s
followed-total x0 s a = search (rules, with_steps-total, total-list_of)

without-total : (ticket : ℕ) (es : List (ℕ × Work Step)) → waiting_total (without ticket es) ≤ waiting_total es
without-total ticket [] = omega arith
without-total ticket (e ∷ es) = by_test (nat_eq ticket e.0) (without-total ticket es) where
  by_test : (t : Bool) → waiting_total (without ticket es) ≤ waiting_total es → waiting_total (cond t es (e ∷ without ticket es)) ≤ waiting_total (e ∷ es)
  by_test true rest = omega arith
  by_test false rest = omega arith

-- what comes next stands among those that wait
next_holds : (P : ℕ × Work Step → Type 0) (es : List (ℕ × Work Step)) (e : ℕ × Work Step) → AllByRecursion P es → next_of es ≡ Some e → P e
next_holds P [] e all found = absurd (none-some e found)
next_holds P (x ∷ es) e all found = by_next (next_of es) refl found (λ f at_f. next_holds P es f all.1 at_f) where
  by_next : (o : Option (ℕ × Work Step)) → next_of es ≡ o → earlier x o ≡ Some e → ((f : ℕ × Work Step) → next_of es ≡ Some f → P f) → P e
  by_next None none found rest = subst P (same_Some x e found) all.0
  by_next (Some f) some found rest = by_test (nat_le x.1.due f.1.due) found where
    by_test : (t : Bool) → cond t (Some x) (Some f) ≡ Some e → P e
    by_test true found = subst P (same_Some x e found) all.0
    by_test false found = subst P (same_Some f e found) (rest f some)

next-total : (es : List (ℕ × Work Step)) (e : ℕ × Work Step) → AllApart es → next_of es ≡ Some e
    → waiting_total (without e.0 es) + size e.1.item ≡ waiting_total es
next-total [] e apart found = absurd (none-some e found)
next-total (x ∷ es) e apart found = by_next (next_of es) refl found (λ f at_f. next-total es f apart.1 at_f) where
  at_front : (f : ℕ × Work Step) → x ≡ f → waiting_total (without f.0 (x ∷ es)) + size f.1.item ≡ waiting_total (x ∷ es)
  at_front f same = subst (λ (z : ℕ × Work Step). waiting_total (without z.0 (x ∷ es)) + size z.1.item ≡ waiting_total (x ∷ es)) same
      (rw (eq-eqb x.0 x.0 refl) (omega arith))

  later : (f : ℕ × Work Step) → next_of es ≡ Some f → waiting_total (without f.0 es) + size f.1.item ≡ waiting_total es
      → waiting_total (without f.0 (x ∷ es)) + size f.1.item ≡ waiting_total (x ∷ es)
  later f some rest =
      let other : nat_eq f.0 x.0 ≡ false = next_holds (λ (g : ℕ × Work Step). nat_eq g.0 x.0 ≡ false) es f apart.0 some in rw other (omega arith)

  by_next : (o : Option (ℕ × Work Step)) → next_of es ≡ o → earlier x o ≡ Some e
      → ((f : ℕ × Work Step) → next_of es ≡ Some f → waiting_total (without f.0 es) + size f.1.item ≡ waiting_total es)
      → waiting_total (without e.0 (x ∷ es)) + size e.1.item ≡ waiting_total (x ∷ es)
  by_next None none found rest = at_front e (same_Some x e found)
  by_next (Some f) some found rest = by_test (nat_le x.1.due f.1.due) found where
    by_test : (t : Bool) → cond t (Some x) (Some f) ≡ Some e → waiting_total (without e.0 (x ∷ es)) + size e.1.item ≡ waiting_total (x ∷ es)
    by_test true found = at_front e (same_Some x e found)
    by_test false found = subst (λ (z : ℕ × Work Step). waiting_total (without z.0 (x ∷ es)) + size z.1.item ≡ waiting_total (x ∷ es)) (same_Some f e found)
        (later f some (rest f some))

-- order ------------------------------------------------------------------------------------------------------------------------------

without-all : (P : ℕ × Work Step → Type 0) (ticket : ℕ) (es : List (ℕ × Work Step)) → AllByRecursion P es → AllByRecursion P (without ticket es)
without-all P ticket [] all = tt
without-all P ticket (e ∷ es) all = by_test (nat_eq ticket e.0) (without-all P ticket es all.1) where
  by_test : (t : Bool) → AllByRecursion P (without ticket es) → AllByRecursion P (cond t es (e ∷ without ticket es))
  by_test true rest = all.1
  by_test false rest = (all.0, rest)

without-apart : (ticket : ℕ) (es : List (ℕ × Work Step)) → AllApart es → AllApart (without ticket es)
without-apart ticket [] apart = tt
without-apart ticket (e ∷ es) apart = by_test (nat_eq ticket e.0) (without-apart ticket es apart.1) where
  by_test : (t : Bool) → AllApart (without ticket es) → AllApart (cond t es (e ∷ without ticket es))
  by_test true rest = apart.1
  by_test false rest = (without-all (λ f. nat_eq f.0 e.0 ≡ false) ticket es apart.0, rest)

not_given : (n m : ℕ) → nat_lt n m ≡ true → nat_eq m n ≡ false
not_given n m given = search (rules, false_from_ne_true, nat_eq, ltb-true, given, eqb-true)

push-apart : (es : List (ℕ × Work Step)) (e : ℕ × Work Step) → AllApart es → AllByRecursion (λ (f : ℕ × Work Step). nat_lt f.0 e.0 ≡ true) es
    → AllApart (es ++ e ∷ [])
push-apart [] e apart given = (tt, tt)
push-apart (x ∷ es) e apart given =
    (AllByRecursion-both (λ (f : ℕ × Work Step). nat_eq f.0 x.0 ≡ false) es (e ∷ []) apart.0 (not_given x.0 e.0 given.0, tt), push-apart es e apart.1 given.1)

more_given : (es : List (ℕ × Work Step)) (n : ℕ) → AllByRecursion (λ (f : ℕ × Work Step). nat_lt f.0 n ≡ true) es
    → AllByRecursion (λ (f : ℕ × Work Step). nat_lt f.0 (n + 1) ≡ true) es
more_given [] n all = tt
more_given (e ∷ es) n all = (lt-ltb e.0 (n + 1) (let l = ltb-true e.0 n all.0 in omega arith), more_given es n all.1)

step_after-orderly : (d : Option ℕ) (s : Step) (a : Agenda) → IsOrderly a → IsOrderly (with_step_after d s a)
step_after-orderly None s a o = record { given = o.given; apart = o.apart }
step_after-orderly (Some d) s a o = record {
  given = AllByRecursion-both (λ (f : ℕ × Work Step). nat_lt f.0 (a.timeline.tickets + 1) ≡ true) a.timeline.work _
      (more_given a.timeline.work a.timeline.tickets o.given) (lt-ltb a.timeline.tickets (a.timeline.tickets + 1) (omega arith), tt);
  apart = push-apart a.timeline.work _ o.apart o.given;
}

with_step-orderly : (s : Step) (a : Agenda) → IsOrderly a → IsOrderly (with_step s a)
with_step-orderly s a o = step_after-orderly s.delay s a o

pub with_steps-orderly : (ss : List Step) (a : Agenda) → IsOrderly a → IsOrderly (with_steps ss a)
with_steps-orderly [] a o = o
with_steps-orderly (s ∷ ss) a o = with_steps-orderly ss (with_step s a) (with_step-orderly s a o)

pub empty-orderly : IsOrderly empty_agenda
empty-orderly = record { given = tt; apart = tt }

pub followed-orderly : (answer : Answer) (ss : List Step) (a : Agenda) → IsOrderly a → IsOrderly (followed_by answer ss a)
followed-orderly x0 ss a o = search (rules, with_steps-orderly)

-- what comes next, and what is taken off ---------------------------------------------------------------------------------------------

-- what is left when a step has come
pub record IsLeft (a : Agenda) (s : Step) (rest : Agenda) : Type 0 where
  pub less : to_come rest + size s ≡ to_come a
  pub orderly : IsOrderly rest

due_now : (until : ℕ) (o : Option (ℕ × Work Step)) (e : ℕ × Work Step) → if_due until o ≡ Some e → o ≡ Some e
due_now until x1 e found = search (rules, none-some, nat_le, cond)

pub next_left : (until : ℕ) (a : Agenda) (s : Step) (rest : Agenda) → IsOrderly a → next_step until a ≡ Some (s, rest) → IsLeft a s rest
next_left until a s rest o comes = by_turn a.turn refl comes where
  left_of : (z : Step × Agenda) → z ≡ (s, rest) → IsLeft a z.0 z.1 → IsLeft a s rest
  left_of z same left = subst (λ (p : Step × Agenda). IsLeft a p.0 p.1) same left

  by_due : (d : Option (ℕ × Work Step)) → next_due until a.timeline.work ≡ d → a.turn ≡ [] → option_map (first_of_turn a) d ≡ Some (s, rest) → IsLeft a s rest
  by_due None due over comes = absurd (none-some _ comes)
  by_due (Some e) due over comes =
      let found : next_of a.timeline.work ≡ Some e = due_now until (next_of a.timeline.work) e due in
      left_of (first_of_turn a e) (same_Some _ _ comes) (record {
        less = let gone = next-total a.timeline.work e o.apart found in let none = ap total over in omega arith;
        orderly = record {
          given = without-all (λ (f : ℕ × Work Step). nat_lt f.0 a.timeline.tickets ≡ true) e.0 a.timeline.work o.given;
          apart = without-apart e.0 a.timeline.work o.apart;
        };
      })

  by_turn : (turn : List Step) → a.turn ≡ turn → next_of_turn until a turn ≡ Some (s, rest) → IsLeft a s rest
  by_turn [] over comes = by_due (next_due until a.timeline.work) refl over comes
  by_turn (x ∷ turn) has comes = left_of (x, record { timeline = a.timeline; turn = turn; labels = a.labels }) (same_Some _ _ comes) (record {
    less = let all = ap total has in omega arith;
    orderly = record { given = o.given; apart = o.apart };
  })

pub record IsNoMore (a rest : Agenda) : Type 0 where
  pub few : to_come rest ≤ to_come a
  pub orderly : IsOrderly rest

pub cancelled_left : {a rest : Agenda} {label : Name} {answer : Answer} → IsOrderly a → Cancels a label answer rest → IsNoMore a rest
cancelled_left {a = a} o (taken_off {ticket = ticket} named waits) = record {
  few = let fewer = without-total ticket a.timeline.work in omega arith;
  orderly = record {
    given = without-all (λ (f : ℕ × Work Step). nat_lt f.0 a.timeline.tickets ≡ true) ticket a.timeline.work o.given;
    apart = without-apart ticket a.timeline.work o.apart;
  };
}
cancelled_left {a = a} o (none_waits none) = record { few = omega arith; orderly = o }
