-- The marks of a FlatMap or Switch after the opening of an inner.
use Rattle.rx_event.proofs.Laws.Common.{◌≡◌, ℕ, ◌+◌, ◌-◌, ◌<◌, Bool, true, false, List, [], ◌∷◌, ◌++◌, length, Option, Some, cond, refl, sym, ap, ◌∙◌}
use Rattle.rx_event.proofs.Laws.Common.{arith, inl, inr, ◌⊎◌, ◌==◌, nat_lt, slice_get, not, ◌&&◌, count_by, option_map_or, both_ways, false≢true}
use Rattle.rx_event.proofs.Laws.Common.{and_parts, and_from, or_cases, eq-eqb, eqb-true, lt-ltb, same_Some, Kept, Inner, Kind, Event}
use Rattle.rx_event.proofs.Laws.Common.{Open, is_inner_of, is_switch, at, parent, is_open, is_open_child_of, shuts, owed, is_child_of}
use Rattle.rx_event.proofs.Laws.Common.{open_children, marks_of, MayFollow, IsLawful, or_false, is_switched_inner, not-true as not_false}
use Rattle.rx_event.proofs.Laws.Parents.{ancestors_step, parent-lt}
use Rattle.rx_event.proofs.Laws.Openness.{is_open_within, is_open_cut, is_cut, is_cut_inner, is_cut_inner_flat}
use Rattle.rx_event.proofs.Laws.Steps.{may_open, parent-named}
use Rattle.rx_event.proofs.Laws.Sums.{sum_by_none, sum_by-same, count_by_one}
use Rattle.rx_event.proofs.Laws.Switches.{one_inner}
use Rattle.rx_event.proofs.Laws.Searches.{or_nothing}
use Rattle.rx_event.proofs.Laws.MarksFound.{is_child_parent, parent_is_child}
use Rattle.rx_event.proofs.Laws.MarksAfter.{cut_children, same_marks, marks-push, cut_children_none}
use Rattle.std.proofs.Common.{rules}

-- an inner ------------------------------------------------------------------------------------------

pub switched_parent : (base : Kept) → (h : List Event) → IsLawful base h → (f k : ℕ) → at (is_inner_of f) h k ≡ true → parent h k ≡ Some f
switched_parent base h law f k inner = by_event (slice_get h k) refl inner where
  by_event : (x : Option Event) → slice_get h k ≡ x → option_map_or (is_inner_of f) x false ≡ true → parent h k ≡ Some f
  by_event (Some (Open (Inner q) kind)) at_k inner = parent-named base h law k f (Open (Inner q) kind) at_k (ap Some (eqb-true q f inner))
  by_event _ at_k inner = absurd (false≢true inner)

-- the opening of an inner closes children of its own Switch alone
inner_cut_none : (base : Kept) → (h : List Event) (f : ℕ) (kind : Kind) → IsLawful base h → (n : ℕ) → is_cut h (Open (Inner f) kind) n ≡ false →
    (f == n) ≡ false → cut_children h (Open (Inner f) kind) n ≡ 0
inner_cut_none base h f kind law n whole other = sum_by_none (λ k. cond (is_open_child_of h n k && is_cut h (Open (Inner f) kind) k) 1 0) (length h)
    (λ k l. by_test k (is_child_of h n k) refl (is_cut h (Open (Inner f) kind) k) refl (is_open h k))
  where
    shut_named : (k : ℕ) → shuts h k (Open (Inner f) kind) ≡ true → at (is_inner_of f) h k ≡ true
    shut_named k shut = (and_parts (nat_lt f k && at is_switch h f) (at (is_inner_of f) h k) shut).1

    clash : (k : ℕ) → parent h k ≡ Some n → (shuts h k (Open (Inner f) kind) ≡ true) ⊎ (is_cut h (Open (Inner f) kind) n ≡ true) → ⊥
    clash k below (inr cut_above) = both_ways (is_cut h (Open (Inner f) kind) n) whole cut_above
    clash k below (inl shut) =
        let same : f ≡ n = same_Some f n (sym (switched_parent base h law f k (shut_named k shut)) ∙ below) in both_ways (f == n) other (eq-eqb f n same)

    by_test : (k : ℕ) → (b : Bool) → is_child_of h n k ≡ b → (w : Bool) → is_cut h (Open (Inner f) kind) k ≡ w → (p : Bool) →
        cond {A = ℕ} ((p && b) && w) 1 0 ≡ 0
    by_test k x1 below x3 gone x5 = search (rules, clash, is_child_parent, or_cases, ancestors_step)

marks_inner : (base : Kept) → (h : List Event) (f : ℕ) (kind : Kind) → IsLawful base h → MayFollow base h (Open (Inner f) kind) → (n : ℕ) → n < length h →
    marks_of base (h ++ Open (Inner f) kind ∷ []) n ≡
    record (marks_of base h n) {
      owed = owed base h n - cond (f == n) 1 0;
      open_children = open_children h n + cond (f == n) 1 0 - cut_children h (Open (Inner f) kind) n;
    }
marks_inner base h f kind law next n l = search (rules, count_by, marks-push, same_marks, or_false, or_nothing)

-- no other node that stays open changes
pub marks-inner_other : {base : Kept} → {h : List Event} (f : ℕ) (kind : Kind) → IsLawful base h → MayFollow base h (Open (Inner f) kind) → (n : ℕ) →
    n < length h → is_open (h ++ Open (Inner f) kind ∷ []) n ≡ true → (f == n) ≡ false → marks_of base (h ++ Open (Inner f) kind ∷ []) n ≡ marks_of base h n
marks-inner_other {base} {h} f kind law next n l o other =
    search (rules, and_parts, not, is_open_cut, inner_cut_none, not_false, cond, marks_inner, same_marks)

-- a FlatMap has one more child, and owes one less
pub marks-inner_flat : (base : Kept) → (h : List Event) (f : ℕ) (kind : Kind) → IsLawful base h → MayFollow base h (Open (Inner f) kind) →
    at is_switch h f ≡ false →
    marks_of base (h ++ Open (Inner f) kind ∷ []) f ≡ record (marks_of base h f) { owed = owed base h f - 1; open_children = open_children h f + 1 }
marks-inner_flat base h f kind law next flat =
    let z = cut_children_none h (Open (Inner f) kind) f (is_cut_inner_flat h f kind flat) in
    let w : cond {A = ℕ} (f == f) 1 0 ≡ 1 = ap (λ b. cond {A = ℕ} b 1 0) (eq-eqb f f refl) in
    marks_inner base h f kind law next f (is_open_within h f (may_open base next).0) ∙ same_marks base refl refl refl refl refl (omega arith) (omega arith)

-- what the opening of an inner of a Switch shuts among its children
switch_cut : (h : List Event) (f : ℕ) (kind : Kind) (k : ℕ) → parent h k ≡ Some f → is_cut h (Open (Inner f) kind) k ≡ is_switched_inner h f k
switch_cut h f kind k below = search (rules, ancestors_step, is_cut_inner, or_false)

cut_child_is_inner : (h : List Event) (f : ℕ) (kind : Kind) (k : ℕ) → (is_open_child_of h f k && is_cut h (Open (Inner f) kind) k) ≡ true →
    (is_open h k ≡ true) × (at (is_inner_of f) h k ≡ true)
cut_child_is_inner h f kind k both = search (rules, and_parts, switch_cut, is_child_parent, nat_lt)

-- a Switch that had no open inner has one more child
pub marks-inner_first : (base : Kept) → (h : List Event) (f : ℕ) (kind : Kind) → IsLawful base h → MayFollow base h (Open (Inner f) kind) →
    ((k : ℕ) → at (is_inner_of f) h k ≡ true → is_open h k ≡ false) →
    marks_of base (h ++ Open (Inner f) kind ∷ []) f ≡ record (marks_of base h f) { owed = owed base h f - 1; open_children = open_children h f + 1 }
marks-inner_first base h f kind law next closed =
    search (rules, cut_children, sum_by_none, cond, length, eq-eqb, marks_inner, is_open_within, may_open, same_marks, cut_child_is_inner, both_ways)

-- of one that had an open inner another takes the place
pub marks-inner_next : {base : Kept} → {h : List Event} (f old : ℕ) (kind : Kind) → IsLawful base h → MayFollow base h (Open (Inner f) kind) →
    at is_switch h f ≡ true → at (is_inner_of f) h old ≡ true → is_open h old ≡ true →
    marks_of base (h ++ Open (Inner f) kind ∷ []) f ≡ record (marks_of base h f) { owed = owed base h f - 1 }
marks-inner_next {base} {h} f old kind law next switch inner o =
    let z : cut_children h (Open (Inner f) kind) f ≡ 1 =
    sum_by-same (λ k. cond (old == k) 1 0) (λ k. cond (is_open_child_of h f k && is_cut h (Open (Inner f) kind) k) 1 0) (length h)
    (λ k l. each k (old == k) refl) ∙ count_by_one old (length h) (is_open_within h old o) in
    let w : cond {A = ℕ} (f == f) 1 0 ≡ 1 = ap (λ b. cond {A = ℕ} b 1 0) (eq-eqb f f refl) in
    marks_inner base h f kind law next f (is_open_within h f (may_open base next).0) ∙ same_marks base refl refl refl refl refl (omega arith) (omega arith)
  where
    below : parent h old ≡ Some f
    below = switched_parent base h law f old inner

    gone : (is_open_child_of h f old && is_cut h (Open (Inner f) kind) old) ≡ true
    gone = and_from (is_open_child_of h f old) (is_cut h (Open (Inner f) kind) old)
        (and_from (is_open h old) (is_child_of h f old) o (parent_is_child h f old below)) (switch_cut h f kind old below ∙
        and_from (nat_lt f old && at is_switch h f) (at (is_inner_of f) h old) (and_from (nat_lt f old) (at is_switch h f) (lt-ltb f old
        (parent-lt h old f below)) switch) inner)

    apart : (k : ℕ) → (old == k) ≡ false → (b : Bool) → (is_open_child_of h f k && is_cut h (Open (Inner f) kind) k) ≡ b → cond {A = ℕ} b 1 0 ≡ 0
    apart k other false out = refl
    apart k other true both =
        let w = cut_child_is_inner h f kind k both in
        absurd (both_ways (old == k) other
        (eq-eqb old k (one_inner base h law f old k (record { switch = switch; one = inner; one_open = o; other = w.1; other_open = w.0 }))))

    each : (k : ℕ) (b : Bool) → (old == k) ≡ b → cond {A = ℕ} (is_open_child_of h f k && is_cut h (Open (Inner f) kind) k) 1 0 ≡ cond b 1 0
    each k true same = ap (λ b. cond {A = ℕ} b 1 0) (ap (λ q. is_open_child_of h f q && is_cut h (Open (Inner f) kind) q) (sym (eqb-true old k same)) ∙ gone)
    each k false other = apart k other (is_open_child_of h f k && is_cut h (Open (Inner f) kind) k) refl
