-- What flows up from a list of nodes is what is visited from them.
use Rattle.rx_audit.proofs.Common.{◌≡◌, ℕ, zero, suc, ◌+◌, ◌≤◌, List, [], ◌∷◌, ◌++◌, length, false, Some, slice_get, refl, ap, arith}
use Rattle.rx_audit.proofs.Common.{sum_by, sum_by-append, sum_by-cons, Event, is_some, option_map_or, false≢true, stop_at, visited, onward, flow}
use Rattle.rx_event.specs.Climb.{onward_from}
use Rattle.std.proofs.Common.{rules}

pub sum_by-mono : (f g : ℕ → ℕ) → ((n : ℕ) → f n ≤ g n) → (xs : List ℕ) → sum_by f xs ≤ sum_by g xs
sum_by-mono f g le [] = omega arith
sum_by-mono f g le (x ∷ xs) = search (rules, sum_by-cons, sum_by-mono f g le xs)

-- more steps lead to more
pub flow-more : (d : ℕ) (h : List Event) (number : ℕ → ℕ) (n : ℕ) → flow d h number n ≤ flow (suc d) h number n
flow-more zero h number n = omega arith
flow-more (suc d) h number n = search (rules, sum_by-mono, flow-more d h number)

pub flow-sum-more : (d : ℕ) (h : List Event) (number : ℕ → ℕ) (xs : List ℕ) → sum_by (flow d h number) xs ≤ sum_by (flow (suc d) h number) xs
flow-sum-more d h number xs = sum_by-mono (flow d h number) (flow (suc d) h number) (flow-more d h number) xs

-- where enough flows, so many visits are made
pub visits_many : (k d : ℕ) (h : List Event) (todo : List ℕ) → k ≤ sum_by (flow d h (λ n. 1)) todo → length (visited k h todo) ≡ k
visits_many zero d h todo l = refl
visits_many (suc k) d h [] l = absurd (omega arith)
visits_many (suc k) zero h (n ∷ todo) l = absurd (let e = sum_by-cons (flow 0 h (λ n. 1)) n todo in let z = no_flow h todo in omega arith) where
  no_flow : (h : List Event) (xs : List ℕ) → sum_by (flow 0 h (λ n. 1)) xs ≡ 0
  no_flow h [] = refl
  no_flow h (x ∷ xs) = let e = sum_by-cons (flow 0 h (λ n. 1)) x xs in let r = no_flow h xs in omega arith
visits_many (suc k) (suc d) h (n ∷ todo) l =
    let e = sum_by-cons (flow (suc d) h (λ n. 1)) n todo in
    let a = sum_by-append (flow (suc d) h (λ n. 1)) (onward h n) todo in
    let m = flow-sum-more d h (λ n. 1) (onward h n) in
    ap suc (visits_many k (suc d) h (onward h n ++ todo) (omega arith))

-- what flows from these nodes, with any number of steps from some on
pub record IsWhole (h : List Event) (todo : List ℕ) (steps : ℕ) (number : ℕ → ℕ) (amount : ℕ) : Type 0 where
  pub same : (d : ℕ) → steps ≤ d → sum_by (flow (suc d) h number) todo ≡ amount

whole-step : {h : List Event} (n : ℕ) (todo : List ℕ) (steps : ℕ) (number : ℕ → ℕ) (amount : ℕ) → IsWhole h (n ∷ todo) steps number amount
    → (d : ℕ) → steps ≤ d → number n + sum_by (flow (suc d) h number) (onward h n ++ todo) ≡ amount
whole-step {h} n todo steps number amount w d l =
    let here = w.same d l in
    let later = w.same (suc d) (omega arith) in
    let a = sum_by-append (flow (suc d) h number) (onward h n) todo in
    let e = sum_by-cons (flow (suc d) h number) n todo in
    let f = sum_by-cons (flow (suc (suc d)) h number) n todo in
    let m = flow-sum-more (suc d) h number todo in
    let o = flow-sum-more d h number (onward h n) in omega arith

pub visits_whole : (k : ℕ) (h : List Event) (todo : List ℕ) (steps : ℕ) (amount : (ℕ → ℕ) → ℕ)
    → ((number : ℕ → ℕ) → IsWhole h todo steps number (amount number)) → amount (λ n. 1) ≤ k
    → (number : ℕ → ℕ) → sum_by number (visited k h todo) ≡ amount number
visits_whole zero h [] steps amount w l number = (w number).same steps (omega arith)
visits_whole (suc k) h [] steps amount w l number = (w number).same steps (omega arith)
visits_whole zero h (n ∷ todo) steps amount w l number =
    absurd (let s = whole-step n todo steps (λ n. 1) (amount (λ n. 1)) (w (λ n. 1)) steps (omega arith) in omega arith)
visits_whole (suc k) h (n ∷ todo) steps amount w l number =
    let rest : (ℕ → ℕ) → ℕ = λ f. sum_by (flow (suc steps) h f) (onward h n ++ todo) in
    let here : (f : ℕ → ℕ) → f n + rest f ≡ amount f = λ f. whole-step n todo steps f (amount f) (w f) steps (omega arith) in
    let whole : (f : ℕ → ℕ) → IsWhole h (onward h n ++ todo) steps f (rest f) =
    λ f. record { same = λ d l. (let s = whole-step n todo steps f (amount f) (w f) d l in let t = here f in omega arith) } in
    let few : rest (λ n. 1) ≤ k = (let t = here (λ n. 1) in omega arith) in
    search (rules, sum_by-cons, visits_whole k h (onward h n ++ todo) steps rest whole few number)

-- where an item goes on ------------------------------------------------------------------------------------

pub onward_at : (h : List Event) (n : ℕ) (e : Event) → is_some (stop_at h n) ≡ false → slice_get h n ≡ Some e → onward h n ≡ onward_from h n e
onward_at h n e none at_n = search (rules, is_some, option_map_or, slice_get, false≢true)
