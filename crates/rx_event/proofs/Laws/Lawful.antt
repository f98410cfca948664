-- Lawful histories, event by event.
use Rattle.rx_event.proofs.Laws.Common.{◌≡◌, ℕ, zero, suc, ◌<◌, ◌≤◌, inl, inr, ◌⊎◌, length, true, List, [], ◌∷◌, ◌++◌, take, Some, refl, sym, ap, subst, ◌∙◌}
use Rattle.rx_event.proofs.Laws.Common.{arith, slice_get, append_assoc, append-nil, length-append, AllByRecursion, slice_get_within, same_Some, none-some}
use Rattle.rx_event.proofs.Laws.Common.{Terminal, Kept, shown, Event, End, is_open, Moment, moments, moments_after, due, IsDue, Started}
use Rattle.rx_event.proofs.Laws.Common.{MayFollow, IsLawful, false≢true, common_steps}
use Rattle.rx_event.proofs.Laws.Openness.{is_open_within}
use Rattle.std.proofs.Common.{rules}

-- moments -----------------------------------------------------------------------------------------

pub moments_after-push : (b h : List Event) (e : Event) → moments_after b (h ++ e ∷ []) ≡ moments_after b h ++ (record { before = b ++ h; event = e }) ∷ []
moments_after-push b [] e = ap (λ c. (record { before = c; event = e }) ∷ []) (sym (append-nil b))
moments_after-push b (x ∷ h) e = search (rules, append_assoc, moments_after-push (b ++ x ∷ []) h e)

-- the last moment
pub moments-push : (h : List Event) (e : Event) → moments (h ++ e ∷ []) ≡ moments h ++ (record { before = h; event = e }) ∷ []
unfolding moments
moments-push h e = moments_after-push [] h e

AllByRecursion-push : {X : Type 0} (P : X → Type 0) (xs : List X) (x : X) → AllByRecursion P xs → P x → AllByRecursion P (xs ++ x ∷ [])
AllByRecursion-push P [] x a p = (p, tt)
AllByRecursion-push P (y ∷ xs) x a p = (a.0, AllByRecursion-push P xs x a.1 p)

-- a lawful history goes on by an event that may follow
pub IsLawful-push : (base : Kept) → (h : List Event) (e : Event) → IsLawful base h → MayFollow base h e → IsLawful base (h ++ e ∷ [])
IsLawful-push base h e law next = search (rules, append_assoc, moments_after-push, AllByRecursion-push)

pub IsLawful_empty : (base : Kept) → Started base → IsLawful base (shown base)
IsLawful_empty base started = record { started = started; since = []; reads = sym (append-nil (shown base)); each = tt }

lawful_after : (base : Kept) → (b h : List Event) → AllByRecursion (λ (m : Moment). MayFollow base m.before m.event) (moments_after b h) → (i : ℕ) (e : Event) →
    slice_get h i ≡ Some e → MayFollow base (b ++ take i h) e
lawful_after base b [] each i e at_i = absurd (none-some e at_i)
lawful_after base b (x ∷ h) each zero e at_i = rw (append-nil b, ← same_Some x e at_i) each.0
lawful_after base b (x ∷ h) each (suc i) e at_i = rw (← append_assoc b (x ∷ []) (take i h)) (lawful_after base (b ++ x ∷ []) h each.1 i e at_i)

pub shown_within : (base : Kept) → (h : List Event) → IsLawful base h → length (shown base) ≤ length h
shown_within base h law = let r = ap length law.reads in let s = length-append (shown base) law.since in omega arith

-- an event stands in what the base shows, or may follow what is before it
pub data FoundAt (base : Kept) (h : List Event) (i : ℕ) (e : Event) : Type 0 where
  in_base : slice_get (shown base) i ≡ Some e → take i h ≡ take i (shown base) → FoundAt base h i e
  since_base : MayFollow base (take i h) e → FoundAt base h i e

take-front : (xs ys : List Event) (i : ℕ) → i ≤ length xs → take i (xs ++ ys) ≡ take i xs
take-front [] ys (suc i) l = absurd (omega arith)
take-front (x ∷ xs) ys (suc i) l = ap (λ k. x ∷ k) (take-front xs ys i (omega arith))
take-front _ ys zero l = refl

-- past the front, what is taken goes on after it
split_at : {base : Kept} → (front b h : List Event) → ((k : List Event) (e : Event) → MayFollow base (b ++ k) e → MayFollow base (b ++ k) e) →
    AllByRecursion (λ (m : Moment). MayFollow base m.before m.event) (moments_after (b ++ front) h) →
    (i : ℕ) (e : Event) → slice_get (front ++ h) i ≡ Some e → ((slice_get front i ≡ Some e) × (i < length front)) ⊎ MayFollow base (b ++ take i (front ++ h)) e
split_at {base} [] b h same each i e at_i = inr (lawful_after base b h (rw (append-nil b) at each) i e at_i)
split_at (x ∷ front) b h same each zero e at_i = inl (at_i, omega arith)
split_at {base} (x ∷ front) b h same each (suc i) e at_i =
    by_case (split_at front (b ++ x ∷ []) h (λ k e f. f) (rw (append_assoc b (x ∷ []) front) each) i e at_i)
  where
    by_case : ((slice_get front i ≡ Some e) × (i < length front)) ⊎ MayFollow base ((b ++ x ∷ []) ++ take i (front ++ h)) e →
        ((slice_get front i ≡ Some e) × (suc i < length (x ∷ front))) ⊎ MayFollow base (b ++ x ∷ take i (front ++ h)) e
    by_case (inl found) = inl (found.0, (let l = found.1 in omega arith))
    by_case (inr next) = inr (subst (λ k. MayFollow base k e) (append_assoc b (x ∷ []) (take i (front ++ h))) next)

pub found_at : (base : Kept) → (h : List Event) → IsLawful base h → (i : ℕ) (e : Event) → slice_get h i ≡ Some e → FoundAt base h i e
found_at base h law i e at_i = by_case (split_at (shown base) [] law.since (λ k e f. f) law.each i e (ap (λ k. slice_get k i) (sym law.reads) ∙ at_i)) where
  by_case : ((slice_get (shown base) i ≡ Some e) × (i < length (shown base))) ⊎ MayFollow base (take i (shown base ++ law.since)) e → FoundAt base h i e
  by_case (inl found) = in_base found.0 (ap (take i) law.reads ∙ take-front (shown base) law.since i (let l = found.1 in omega arith))
  by_case (inr next) = since_base (subst (λ k. MayFollow base (take i k) e) (sym law.reads) next)

-- ends --------------------------------------------------------------------------------------------

pub due_open : (base : Kept) → {h : List Event} {c : ℕ} {t : Terminal} → IsDue base h (End c t) → is_open h c ≡ true
due_open base given = grind arith

-- what is ended is open before
pub may_end : (base : Kept) → {h : List Event} {c : ℕ} {t : Terminal} → MayFollow base h (End c t) → is_open h c ≡ true
may_end base x1 = search (rules, due, due_open)

-- an end stands after its node
pub ended_after : (base : Kept) → (h : List Event) → IsLawful base h → (i c : ℕ) (t : Terminal) → slice_get h i ≡ Some (End c t) → c < i
ended_after base h law i c t at_i = elim (found_at base h law i (End c t) at_i) [
  | in_base found same ↦ absurd (false≢true (law.started.making i (End c t) found))
  | since_base next ↦ let o = is_open_within (take i h) c (may_end base next) in let l = slice_get_within h i (End c t) at_i in grind (arith, common_steps)
]
