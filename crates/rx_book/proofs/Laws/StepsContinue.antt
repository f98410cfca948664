-- What one more step of a history leaves as it was.
use Rattle.rx_book.proofs.Common.{◌≡◌, ◌≤◌, ◌+◌, ◌++◌, ◌∷◌, [], Bool, List, length, length-append, cond, arith, count_by, sum_by-append, Kept}
use Rattle.rx_book.proofs.Common.{Event, is_take, taken_count, IsForcedOn, stays, more, Call, outside_of, IsStepOf, State, Continues, Request, Accepts}
use Rattle.std.proofs.Common.{rules}

pub count_by-append : (p : Event → Bool) (xs ys : List Event) → count_by p (xs ++ ys) ≡ count_by p xs + count_by p ys
count_by-append p xs ys = sum_by-append (λ x. cond (p x) 1 0) xs ys

-- forced events come behind
forced_longer : (base : Kept) → {h k : List Event} → IsForcedOn base h k → length h ≤ length k
forced_longer base stays = omega arith
forced_longer base (more {h} {k} {e} before forced) = let rest = forced_longer base before in omega (arith, length-append k (e ∷ []))

forced_taken : (base : Kept) → {h k : List Event} → IsForcedOn base h k → taken_count base h ≤ taken_count base k
forced_taken base stays = omega arith
forced_taken base (more {h} {k} {e} before forced) = let rest = forced_taken base before in omega (arith, count_by-append is_take k (e ∷ []))

pub step_longer : (base : Kept) → (h k : List Event) (call : Call) → IsStepOf base h call k → length h + length (outside_of h call) ≤ length k
step_longer base h k call step = omega (arith, forced_longer base step.forced, length-append h (outside_of h call))

pub step_taken : (base : Kept) → (h k : List Event) (call : Call) → IsStepOf base h call k →
    taken_count base h + count_by is_take (outside_of h call) ≤ taken_count base k
step_taken base h k call step = omega (arith, forced_taken base step.forced, count_by-append is_take h (outside_of h call))

pub accepted_continues : (old new : State) (asked : Request) → Accepts old asked new → Continues old new
accepted_continues old new asked accepted = search (rules, step_longer)

pub continues_none : (s : State) → Continues s s
continues_none s = search rules

pub continues_more : (a b c : State) → Continues a b → Continues b c → Continues a c
continues_more a b c p q = search rules
