-- A call tells nothing more to a node that was closed before it.
use Rattle.rx_event.proofs.Laws.Common.{◌≡◌, ℕ, ◌<◌, ◌≤◌, false, List, [], ◌∷◌, ◌++◌, length, refl, sym, ap, ◌∙◌, arith, subst, append_assoc}
use Rattle.rx_event.proofs.Laws.Common.{append-nil, length-append}
use Rattle.rx_event.specs.declared.event.Event.{Event}
use Rattle.rx_event.proofs.Laws.Common.{Kept, shown, is_open, notes_to, forced, IsLawful, IsForcedOn, stays, more}
use Rattle.rx_event.proofs.Laws.Lawful.{IsLawful-push, shown_within}
use Rattle.rx_event.proofs.Laws.Starts.{lawful_begun, lawful_front, lawful_last}
use Rattle.rx_event.proofs.Laws.Steps.{by_pushes}
use Rattle.rx_event.proofs.Laws.Openness.{stays_closed_after}
use Rattle.rx_event.proofs.Laws.Notes.{notes_silent}
use Rattle.rx_roles.specs.Told.{TellsWhoWasThere}
use Rattle.rx_roles.proofs.Laws.NodesAfterStep.{forced_grows}

-- events that a caller adds
by_outside : (base : Kept) (h : List Event) (n : ℕ) → length (shown base) ≤ length h → n < length h → is_open h n ≡ false → (es : List Event) →
    IsLawful base (h ++ es) → notes_to (h ++ es) n ≡ notes_to h n
by_outside base h n begun there closed es = by_pushes (λ (xs : List Event). IsLawful base (h ++ xs) → notes_to (h ++ xs) n ≡ notes_to h n)
    (λ law. ap (λ (k : List Event). notes_to k n) (append-nil h)) one es
  where
    one : (xs : List Event) (e : Event) → (IsLawful base (h ++ xs) → notes_to (h ++ xs) n ≡ notes_to h n) →
        IsLawful base (h ++ (xs ++ e ∷ [])) → notes_to (h ++ (xs ++ e ∷ [])) n ≡ notes_to h n
    one xs e before law =
        let same : (h ++ xs) ++ e ∷ [] ≡ h ++ (xs ++ e ∷ []) = append_assoc h xs (e ∷ []) in
        let law' : IsLawful base ((h ++ xs) ++ e ∷ []) = subst (λ (k : List Event). IsLawful base k) (sym same) law in
        let long : length (shown base) ≤ length (h ++ xs) = (let l = length-append h xs in omega arith) in
        let front = lawful_front base (h ++ xs) e long law' in
        let last = lawful_last base (h ++ xs) e long law' in
        ap (λ (k : List Event). notes_to k n) (sym same) ∙ notes_silent base (h ++ xs) e front last n (stays_closed_after h xs n there closed) ∙ before front

-- and events that are forced
by_forced : (base : Kept) {b k : List Event} (n : ℕ) → IsLawful base b → n < length b → is_open b n ≡ false → IsForcedOn base b k →
    IsLawful base k × (notes_to k n ≡ notes_to b n)
by_forced base n law there closed stays = (law, refl)
by_forced base {b} n law there closed (more {k} {e} before is_forced) =
    let rest = by_forced base n law there closed before in
    let goes = forced_grows base before in
    let still : is_open k n ≡ false = ap (λ (x : List Event). is_open x n) goes.grows ∙ stays_closed_after b goes.events n there closed in
    (IsLawful-push base k e rest.0 (forced is_forced), notes_silent base k e rest.0 (forced is_forced) n still ∙ rest.1)

pub who_was_there : TellsWhoWasThere
who_was_there base h outside k lawful step n there closed =
    let begun = shown_within base h lawful in
    let long : length (shown base) ≤ length (h ++ outside) = (let l = length-append h outside in omega arith) in
    let law = lawful_begun base step.forced long step.lawful in
    let there' : n < length (h ++ outside) = (let l = length-append h outside in omega arith) in
    (by_forced base n law there' (stays_closed_after h outside n there closed) step.forced).1 ∙
    by_outside base h n begun there closed outside law
