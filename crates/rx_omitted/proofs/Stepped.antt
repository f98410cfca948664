-- A step of a call without what is left out.
use Rattle.rx_event.proofs.Laws.Common.{◌<◌, map-append, ◌≡◌, ℕ, suc, ◌+◌, ◌≤◌, Bool, true, false, List, [], ◌∷◌, ◌++◌, length, cond, map}
use Rattle.rx_event.proofs.Laws.Common.{refl, sym, ap, ◌∙◌, subst, arith, Kept, shown, length-append, append-nil, append_assoc, open_connections}
use Rattle.rx_event.proofs.Laws.Common.{IsForcedOn, stays, more, IsLawful, event_by}
use Rattle.rx_event.specs.Lawful.{IsStep}
use Rattle.rx_event.specs.Renumbered.{call_by}
use Rattle.rx_event.specs.Calls.{Call, IsStepOf, outside_of, OpeningUsing}
use Rattle.rx_event.specs.Calls.{Disconnecting}
use Rattle.rx_omitted.specs.Imports.{Event, Open, Accept, Close, Pass}
use Rattle.rx_omitted.specs.Named.{named_in_call, Stay_all}
use Rattle.rx_omitted.specs.Omitted.{number, staying, what_stays, MayOmit, HasOwnPlaces}
use Rattle.rx_event.proofs.Laws.Lawful.{shown_within}
use Rattle.rx_event.proofs.Laws.Places.{slice_get_last}
use Rattle.rx_event.proofs.Laws.Starts.{lawful_front}
use Rattle.rx_omitted.proofs.Numbers.{length-what_stays, staying-append}
use Rattle.rx_omitted.specs.Claims.{RunsTo, runs_none, call_stays, call_goes}
use Rattle.rx_omitted.proofs.Naming.{omits}
use Rattle.rx_omitted.proofs.Omits.{Omits}
use Rattle.rx_omitted.proofs.Staying.{what_stays-kept, omit_before}
use Rattle.rx_omitted.proofs.Fared.{connections_by}
use Rattle.rx_omitted.proofs.Due.{forced_there, settled_there}
use Rattle.rx_omitted.proofs.May.{lawful_what_stays}

-- what is added by events that all stay
staying_each : (omit : ℕ → Bool) (place : ℕ) (xs : List Event) → ((i : ℕ) → place ≤ i → i < place + length xs → omit i ≡ false) →
    staying omit place xs ≡ map (event_by (number omit)) xs
staying_each omit place [] stay = refl
staying_each omit place (x ∷ xs) stay =
    ap (λ b. cond b (staying omit (suc place) xs) (event_by (number omit) x ∷ staying omit (suc place) xs)) (stay place (omega arith) (omega arith)) ∙
    ap (λ ys. event_by (number omit) x ∷ ys) (staying_each omit (suc place) xs (λ i l k. stay i (omega arith) (omega arith)))

-- and by events that all go
staying_none : (omit : ℕ → Bool) (place : ℕ) (xs : List Event) → ((i : ℕ) → place ≤ i → i < place + length xs → omit i ≡ true) → staying omit place xs ≡ []
staying_none omit place [] gone = refl
staying_none omit place (x ∷ xs) gone =
    ap (λ b. cond b (staying omit (suc place) xs) (event_by (number omit) x ∷ staying omit (suc place) xs)) (gone place (omega arith) (omega arith)) ∙
    staying_none omit (suc place) xs (λ i l k. gone i (omega arith) (omega arith))

what_stays-append : (omit : ℕ → Bool) (h xs : List Event) → what_stays omit (h ++ xs) ≡ what_stays omit h ++ staying omit (length h) xs
what_stays-append omit h xs =
    let same : 0 + length h ≡ length h = omega arith in staying-append omit 0 h xs ∙ ap (λ n. what_stays omit h ++ staying omit n xs) same

-- a course goes on from where it began
goes_on : {base : Kept} {b k : List Event} → IsForcedOn base b k → (more_events : List Event) × (k ≡ b ++ more_events)
goes_on {b = b} stays = ([], sym (append-nil b))
goes_on {b = b} (more {k = k} {e = e} on f) = let w = goes_on on in (w.0 ++ e ∷ [], ap (λ xs. xs ++ e ∷ []) w.1 ∙ append_assoc b w.0 (e ∷ []))

longer : {base : Kept} {b k : List Event} → IsForcedOn base b k → length b ≤ length k
longer {b = b} on = let w = goes_on on in let e = ap length w.1 in let s = length-append b w.0 in omega arith

forced_on_there : (base : Kept) (omit : ℕ → Bool) {b k : List Event} → IsForcedOn base b k → length (shown base) ≤ length b → IsLawful base k →
    Omits base omit k →
    ((i : ℕ) → length b ≤ i → i < length k → omit i ≡ false) → IsForcedOn base (what_stays omit b) (what_stays omit k)
forced_on_there base omit stays long law a stay = stays
forced_on_there base omit (more {h = b} {k = k} {e = e} on f) long law a stay =
    let far = longer on in
    let long_by : length (k ++ e ∷ []) ≡ length k + 1 = length-append k (e ∷ []) in
    let before : Omits base omit k = omit_before base omit k (e ∷ []) a in
    let here : IsLawful base k = lawful_front base k e (omega arith) law in
    let last : omit (length k) ≡ false = stay (length k) far (omega arith) in
    subst (λ (j : List Event). IsForcedOn base (what_stays omit b) j) (sym (what_stays-kept omit k e last))
    (more (forced_on_there base omit on long here before (λ i l m. stay i l (omega arith)))
    (forced_there base omit k before here (a.apart (length k) e (slice_get_last k e) last) f))

module _ (base : Kept) (omit : ℕ → Bool) (h : List Event) (a : Omits base omit h) where
  closes_by : (cs : List ℕ) → map (event_by (number omit)) (map (λ c. Close c) cs) ≡ map (λ c. Close c) (map (number omit) cs)
  closes_by [] = refl
  closes_by (c ∷ cs) = ap (λ xs. Close (number omit c) ∷ xs) (closes_by cs)

  outside_by : (call : Call) → Stay_all omit (named_in_call call) →
      map (event_by (number omit)) (outside_of h call) ≡ outside_of (what_stays omit h) (call_by (number omit) call)
  outside_by (OpeningUsing place tag) all =
      ap (λ n. Open (Rattle.rx_event.specs.Renumbered.place_by (number omit) place) Pass ∷ Accept n tag ∷ []) (sym (length-what_stays omit h))
  outside_by (Disconnecting g) all =
      closes_by (open_connections h g) ∙ ap (map (λ c. Close c)) (sym (connections_by base omit h a g all.0))
  outside_by _ all = refl

step_there : (base : Kept) (omit : ℕ → Bool) (h k : List Event) (call : Call) → IsLawful base h → Omits base omit k → Omits base omit h →
    IsStepOf base h call k → Stay_all omit (named_in_call call) → ((i : ℕ) → length h ≤ i → i < length k → omit i ≡ false) →
    IsStepOf base (what_stays omit h) (call_by (number omit) call) (what_stays omit k)
step_there base omit h k call law a before step all stay = record {
  forced = subst (λ (b : List Event). IsForcedOn base b (what_stays omit k)) start
      (forced_on_there base omit step.forced (let l = shown_within base h law in let s = both in omega arith) step.lawful a
      (λ i l m. stay i (let s = both in omega arith) m));
  lawful = lawful_what_stays base omit k step.lawful a;
  settled = settled_there base omit k a step.lawful step.settled;
} where
  both : length (h ++ outside_of h call) ≡ length h + length (outside_of h call)
  both = length-append h (outside_of h call)

  far : length (h ++ outside_of h call) ≤ length k
  far = longer step.forced

  start : what_stays omit (h ++ outside_of h call) ≡ what_stays omit h ++ outside_of (what_stays omit h) (call_by (number omit) call)
  start = what_stays-append omit h (outside_of h call) ∙ ap (λ xs. what_stays omit h ++ xs) (staying_each omit (length h) (outside_of h call)
      (λ i l m. stay i l (let s = both in let t = far in omega arith))) ∙
      ap (λ xs. what_stays omit h ++ xs) (outside_by base omit h before call all)

-- a step goes on from its history
step_goes_on : {base : Kept} {h outside k : List Event} → IsStep base h outside k → (more_events : List Event) × (k ≡ h ++ more_events)
step_goes_on {h = h} {outside = outside} step = let w = goes_on step.forced in (outside ++ w.0, w.1 ∙ append_assoc h outside w.0)

-- a step that is left out as a whole leaves what stays as it was
step_gone : (base : Kept) (omit : ℕ → Bool) (h outside k : List Event) → IsStep base h outside k → ((i : ℕ) → length h ≤ i → i < length k → omit i ≡ true) →
    what_stays omit k ≡ what_stays omit h
step_gone base omit h outside k step gone =
    let w = step_goes_on step in
    let long : length k ≡ length h + length w.0 = ap length w.1 ∙ length-append h w.0 in
    ap (what_stays omit) w.1 ∙ what_stays-append omit h w.0 ∙
    ap (λ xs. what_stays omit h ++ xs) (staying_none omit (length h) w.0 (λ i l m. gone i l (omega arith))) ∙ append-nil (what_stays omit h)

runs_law : {base : Kept} {omit : ℕ → Bool} {h k : List Event} {calls : List Call} → RunsTo base omit h calls k → IsLawful base h → IsLawful base k
runs_law runs_none law = law
runs_law (call_stays call on step all stay) law = step.lawful
runs_law (call_goes call on step gone) law = step.lawful

-- none of these is left out where none is
none_omitted : (ns : List ℕ) → Stay_all (λ n. false) ns
none_omitted [] = tt
none_omitted (n ∷ ns) = (refl, none_omitted ns)

runs_there : (base : Kept) (omit : ℕ → Bool) {h k : List Event} {calls : List Call} → IsLawful base h → Omits base omit k → RunsTo base omit h calls k →
    RunsTo base (λ n. false) (what_stays omit h) (map (call_by (number omit)) calls) (what_stays omit k)
runs_there base omit law a runs_none = runs_none
runs_there base omit {h = h} law a (call_stays {calls = calls} {k = k} {j = j} call on step all stay) =
    let w = step_goes_on step in
    let before : Omits base omit k = omit_before base omit k w.0 (subst (λ (i : List Event). Omits base omit i) w.1 a) in
    subst (λ (cs : List Call). RunsTo base (λ n. false) (what_stays omit h) cs (what_stays omit j)) (sym (map-append (call_by (number omit)) calls (call ∷ [])))
    (call_stays (call_by (number omit) call) (runs_there base omit law before on)
    (step_there base omit k j call (runs_law on law) a before step all stay) (none_omitted (named_in_call (call_by (number omit) call))) (λ i l m. refl))
runs_there base omit {h = h} law a (call_goes {calls = calls} {k = k} {j = j} call on step gone) =
    let w = step_goes_on step in
    let before : Omits base omit k = omit_before base omit k w.0 (subst (λ (i : List Event). Omits base omit i) w.1 a) in
    subst (λ (i : List Event). RunsTo base (λ n. false) (what_stays omit h) (map (call_by (number omit)) calls) i)
    (sym (step_gone base omit k (outside_of k call) j step gone)) (runs_there base omit law before on)

pub runs_what_stays : (base : Kept) (omit : ℕ → Bool) (h k : List Event) (calls : List Call) → HasOwnPlaces base → IsLawful base h → MayOmit base omit k →
    RunsTo base omit h calls k → RunsTo base (λ n. false) (what_stays omit h) (map (call_by (number omit)) calls) (what_stays omit k)
runs_what_stays base omit h k calls own law m runs = runs_there base omit law (omits base omit k (runs_law runs law) own m) runs
