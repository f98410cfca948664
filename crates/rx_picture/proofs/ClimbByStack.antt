-- A climb by a list whose last number is visited next.
use Rattle.rx_picture.proofs.Common.{◌≡◌, ℕ, suc, ◌+◌, ◌-◌, ◌<◌, ◌≤◌, Bool, List, [], ◌∷◌, ◌++◌, length, take, get_or, refl, sym, ap, ◌∙◌, arith, nat_lt}
use Rattle.rx_picture.proofs.Common.{append-nil, not, lt-ltb, length-take-le, Event, most_visits, climb, AreLines}
use Rattle.std.proofs.Common.{reverse, rules}
use Rattle.std.proofs.lemmas.List.{reverse-append, reverse-reverse, append_assoc}
use Rattle.rx_event.specs.Climb.{visited, onward}
use Rattle.rx_picture.specs.Told.{AreEndsOf}
use Rattle.rx_event.proofs.Laws.Climbs.{visited_nothing}

-- what the table of the whole history says of a prefix
pub ends_of_prefix : (h : List Event) (ends : List ℕ) (k : ℕ) → AreLines h (length h) ends → k ≤ length h → AreEndsOf (take k h) ends
ends_of_prefix h ends k lines m = search (rules, length, take, length-take-le, Bool, not, nat_lt, get_or, lt-ltb, ℕ)

-- the visits so far, and those that are still to be made of so many
abbrev pub ClimbsOn : ℕ → List Event → ℕ → ℕ → List ℕ → List ℕ → Type 0
ClimbsOn most past leaf step visits todo = visits ++ visited (suc most - step) past (reverse todo) ≡ visited (suc most) past (leaf ∷ [])

pub climb_begins : (most : ℕ) (past : List Event) (leaf : ℕ) → ClimbsOn most past leaf 0 [] (leaf ∷ [])
climb_begins most past leaf = search (rules, ℕ)

pub climb_ends : (most : ℕ) (past : List Event) (leaf step : ℕ) (visits : List ℕ)
    → ClimbsOn most past leaf step visits [] → visits ≡ visited (suc most) past (leaf ∷ [])
climb_ends most past leaf step visits on = sym (append-nil visits) ∙ ap (λ (vs : List ℕ). visits ++ vs) (sym (visited_nothing (suc most - step) past)) ∙ on

pub climb_stops : (most : ℕ) (past : List Event) (leaf step : ℕ) (visits todo : List ℕ) → suc most ≤ step → ClimbsOn most past leaf step visits todo →
    visits ≡ visited (suc most) past (leaf ∷ [])
climb_stops most past leaf step visits todo whole on =
    search (rules, append-nil, ℕ, reverse)

pub climb_goes_on : {most : ℕ} (past : List Event) {leaf step : ℕ} (n : ℕ) (visits : List ℕ) {todo : List ℕ} (rest : List ℕ) {more : List ℕ} → step ≤ most →
    todo ≡ rest ++ n ∷ [] →
    more ≡ rest ++ reverse (onward past n) → ClimbsOn most past leaf step visits todo → ClimbsOn most past leaf (step + 1) (visits ++ n ∷ []) more
climb_goes_on {most} past {step} n visits {todo} rest {more} l was next on =
    let first : reverse todo ≡ n ∷ reverse rest = ap reverse was ∙ reverse-append rest (n ∷ []) in
    let then : reverse more ≡ onward past n ++ reverse rest =
    ap reverse next ∙ reverse-append rest (reverse (onward past n)) ∙ ap (λ (ns : List ℕ). ns ++ reverse rest) (reverse-reverse (onward past n)) in
    let left : suc most - step ≡ suc (most - step) = omega arith in
    let less : suc most - (step + 1) ≡ most - step = omega arith in
    append_assoc visits (n ∷ []) (visited (suc most - (step + 1)) past (reverse more))
    ∙ ap (λ (j : ℕ). visits ++ n ∷ visited j past (reverse more)) less
    ∙ ap (λ (ns : List ℕ). visits ++ n ∷ visited (most - step) past ns) then
    ∙ ap (λ (ns : List ℕ). visits ++ visited (suc (most - step)) past ns) (sym first)
    ∙ ap (λ (j : ℕ). visits ++ visited j past (reverse todo)) (sym left)
    ∙ on

pub limit_is : most_visits ≡ 1048576
unfolding most_visits
limit_is = refl

pub climb_is : (past : List Event) (leaf : ℕ) → climb past leaf ≡ visited (suc most_visits) past (leaf ∷ [])
unfolding climb
climb_is past leaf = refl

-- the same, as the loop has it
pub climb_ended : (past : List Event) (leaf step : ℕ) (visits todo : List ℕ) → todo ≡ []
    → ClimbsOn most_visits past leaf step visits todo → visits ≡ climb past leaf
climb_ended past leaf step visits todo none on = climb_ends most_visits past leaf step visits (rw none at on) ∙ sym (climb_is past leaf)

pub climb_stopped : (past : List Event) (leaf step : ℕ) (visits todo : List ℕ)
    → 1048577 ≤ step → ClimbsOn most_visits past leaf step visits todo → visits ≡ climb past leaf
climb_stopped past leaf step visits todo whole on =
    search (rules, limit_is, climb_stops, climb_is)

pub climb_popped : (past : List Event) {leaf step : ℕ} (n : ℕ) (visits : List ℕ) {todo : List ℕ} (rest : List ℕ) {more : List ℕ} → step < 1048577 →
    todo ≡ rest ++ n ∷ [] →
    more ≡ rest ++ reverse (onward past n) → ClimbsOn most_visits past leaf step visits todo → ClimbsOn most_visits past leaf (step + 1) (visits ++ n ∷ []) more
climb_popped past n visits rest l was next on =
    let limit = limit_is in
    climb_goes_on past n visits rest (omega arith) was next on
