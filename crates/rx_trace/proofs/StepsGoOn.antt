-- A step takes the history on, and lets nothing of it go.
use Rattle.rx_trace.proofs.Common.{◌≡◌, ◌∙◌, sym, ◌++◌, ap, refl, List, [], ℕ, ◌∷◌, ◌⊎◌, inl, inr, length, append_assoc, append-nil, nothing_kept, rules}
use Rattle.rx_trace.proofs.Common.{none-some, Event, IsForcedOn, stays, more, Call, outside_of, IsStepOf, Taking, Takes, none_taken, next_taken}
use Rattle.rx_trace.proofs.Common.{Action, Answer, Command, checkpoint, Stage, call_of, after, Executes, limited, refused, refused_by_book, accepted, drained}
use Rattle.rx_trace.proofs.Common.{checkpointed, Progress, PerformsStep, executes, cancels}
use Rattle.rx_trace.proofs.Common.{◌+◌, ◌-◌, ◌≤◌, Option, Some, None, true, false, cases_Bool, arith, length-append, at, at_within, if◌then◌else◌}
use Rattle.rx_trace.proofs.Common.{Binding, Rise}
use Rattle.rx_agenda.specs.Bindings.{with_binding}
use Rattle.rx_book.specs.Answers.{connection_made, makes_connection}
use Rattle.rx_event.proofs.Laws.Common.{same_Some}
use Rattle.rx_scenario.specs.Scenario.{Name, using, open_node, connect, drain}
use Rattle.rx_script.specs.Stage.{with_connection_bound, connection_name}
use Rattle.std.proofs.lemmas.List.Elements.{All-push}
use Rattle.std.proofs.lemmas.List.Sorted.{IsNonDecreasingBy-push}
use Rattle.std.specs.List.{All}

abbrev Longer : List Event → List Event → Type 0
Longer h k = (events : List Event) × (k ≡ h ++ events)

forced_on : {h k : List Event} → IsForcedOn nothing_kept h k → Longer h k
forced_on {h} stays = ([], sym (append-nil h))
forced_on {h} (more {e = e} before forced) =
    let to = forced_on before in (to.0 ++ e ∷ [], ap (λ l. l ++ e ∷ []) to.1 ∙ append_assoc h to.0 (e ∷ []))

step_on : (h k : List Event) (call : Call) → IsStepOf nothing_kept h call k → Longer h k
step_on h k call step = let to = forced_on step.forced in (outside_of h call ++ to.0, to.1 ∙ append_assoc h (outside_of h call) to.0)

takes_on : {h k : List Event} → Takes nothing_kept h k → Longer h k
takes_on {h} none_taken = ([], sym (append-nil h))
takes_on {h} (next_taken {m = m} {k = k} {r = r} before step) =
    let to = takes_on before in
    let one = step_on m k (Taking r) step in (to.0 ++ one.0, one.1 ∙ ap (λ l. l ++ one.0) to.1 ∙ append_assoc h to.0 one.0)

-- the history went on, and the last checkpoint is as it was, or is made here, where nothing happens
pub record HasGoneOn (old new : Stage) : Type 0 where
  pub events : List Event
  pub history : new.history ≡ old.history ++ events
  pub checked : (new.checked ≡ old.checked) ⊎ ((new.checked ≡ length old.history) × (new.history ≡ old.history))

stood : (s : Stage) → HasGoneOn s s
stood s = record { events = []; history = sym (append-nil s.history); checked = inl refl }

after_is : (s : Stage) (c : Command) (k : List Event) → (c ≡ checkpoint → ⊥) → ((after s c k).history ≡ k) × ((after s c k).checked ≡ s.checked)
after_is s x1 k plain = search rules

went : (s : Stage) (c : Command) (k : List Event) → (c ≡ checkpoint → ⊥) → Longer s.history k → HasGoneOn s (after s c k)
went s c k plain longer =
    let is = after_is s c k plain in record { events = longer.0; history = is.0 ∙ longer.1; checked = inl is.1 }

executed_on : {limit : ℕ} {s t : Stage} {c : Command} {answer : Answer} → Executes (limited limit) s c answer t → HasGoneOn s t
executed_on {s = s} (refused own) = stood s
executed_on {s = s} (refused_by_book own called stands) = stood s
executed_on {s = s} (accepted {step = c} {call = call} k own called free steps) =
    went s c k (λ is. none-some call (sym (ap (call_of s) is) ∙ called)) (step_on s.history k call steps)
executed_on {s = s} (drained {k = k} drains) =
    let longer = takes_on drains.takes in record { events = longer.0; history = longer.1; checked = inl refl }
executed_on {s = s} checkpointed = record { events = []; history = sym (append-nil s.history); checked = inr (refl, refl) }

pub performed_on : {limit : ℕ} {p q : Progress} {action : Action} {answer : Answer} → PerformsStep (limited limit) p action answer q
    → HasGoneOn p.stage q.stage
performed_on (executes done) = executed_on done
performed_on {p = p} (cancels done) = stood p.stage

-- names stand in the order in which their nodes were made, none for a place behind the end of the history
pub record Ordered (bindings : List Binding) (end : ℕ) : Type 0 where
  pub rise : Rise bindings
  pub within : All (λ b. b.number ≤ end) bindings

abbrev pub AreInOrder : Stage → Type 0
AreInOrder s = Ordered s.nodes (length s.history)

further : {bindings : List Binding} {m n : ℕ} → Ordered bindings m → m ≤ n → Ordered bindings n
further o longer = record { rise = o.rise; within = λ i d lt. let w = o.within i d lt in omega arith }

-- one name more, of a node that is not made before the others
named : {bindings : List Binding} (name : Name) {n end : ℕ} → Ordered bindings n → n ≤ end → Ordered (with_binding bindings name n) end
named {bindings} name {n} {end} o before = record {
  rise = IsNonDecreasingBy-push (λ (b : Binding). b.number) bindings (record { name = name; number = n }) o.rise
      (λ d some. o.within (length bindings - 1) d (omega arith));
  within = All-push (λ (b : Binding). b.number ≤ end) bindings (record { name = name; number = n }) (further o before).within before;
}

connected : {bindings : List Binding} {m end : ℕ} (name : Option Name) (number : Option ℕ) → Ordered bindings m
    → ((n : ℕ) → number ≡ Some n → (m ≤ n) × (n ≤ end)) → m ≤ end → Ordered (with_connection_bound bindings name number) end
connected None number o between longer = further o longer
connected (Some name) None o between longer = further o longer
connected (Some name) (Some n) o between longer = let b = between n refl in named name (further o b.0) b.1

made_within : (h k : List Event) (n : ℕ) → connection_made h k ≡ Some n → (length h ≤ n) × (n ≤ length k)
made_within h k n is = by_test (cases_Bool (at makes_connection k (length h + 1))) where
  by_test : (at makes_connection k (length h + 1) ≡ true) ⊎ (at makes_connection k (length h + 1) ≡ false) → (length h ≤ n) × (n ≤ length k)
  by_test (inl made) =
      let same = same_Some (length h + 1) n (sym (ap (λ b. if b then Some (length h + 1) else None) made) ∙ is) in
      let within = at_within makes_connection k (length h + 1) made in (omega arith, omega arith)
  by_test (inr none) = absurd (none-some n (sym (ap (λ b. if b then Some (length h + 1) else None) none) ∙ is))

after_in_order : (s : Stage) (c : Command) (k : List Event) → length s.history ≤ length k → AreInOrder s → AreInOrder (after s c k)
after_in_order s (using name site res) k longer o = named name o longer
after_in_order s (open_node name site sort) k longer o =
    connected (connection_name sort) (connection_made s.history k) (named name o (omega arith)) (made_within s.history k) longer
after_in_order s (connect hub name) k longer o =
    connected name (Some (length s.history)) o (λ n is. let same = same_Some (length s.history) n is in (omega arith, omega arith)) longer
after_in_order s _ k longer o = further o longer

longer_by : (h k : List Event) → Longer h k → length h ≤ length k
longer_by h k to = let long = ap length to.1 in let parts = length-append h to.0 in omega arith

executed_in_order : {limit : ℕ} {s t : Stage} {c : Command} {answer : Answer} → Executes (limited limit) s c answer t → AreInOrder s → AreInOrder t
executed_in_order (refused own) o = o
executed_in_order (refused_by_book own called stands) o = o
executed_in_order {s = s} (accepted {step = c} {call = call} k own called free steps) o =
    after_in_order s c k (longer_by s.history k (step_on s.history k call steps)) o
executed_in_order {s = s} (drained {k = k} drains) o = after_in_order s drain k (longer_by s.history k (takes_on drains.takes)) o
executed_in_order {s = s} checkpointed o = after_in_order s checkpoint s.history (omega arith) o

pub performed_in_order : {limit : ℕ} {p q : Progress} {action : Action} {answer : Answer} → PerformsStep (limited limit) p action answer q
    → AreInOrder p.stage → AreInOrder q.stage
performed_in_order (executes done) o = executed_in_order done o
performed_in_order (cancels done) o = o
