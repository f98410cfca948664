-- What one event adds to what was found.
use Rattle.rx_audit.proofs.Common.{◌≡◌, ℕ, zero, suc, ◌+◌, ◌*◌, nat_lt, Bool, true, false, List, [], ◌∷◌, ◌++◌, length, Option, Some, None}
use Rattle.rx_audit.proofs.Common.{refl, sym, ap, ◌∙◌, arith, get_or, cond, count_by, replicate, take, drop, ◌||◌, list_any, sum_by, option_and_then}
use Rattle.rx_audit.proofs.Common.{sum_by-cons, Event, Stop, climb, is_firing_of, is_projection_to, is_open, leases_of, is_open_past, IsMarked, marks_with}
use Rattle.rx_audit.proofs.Common.{mark_count, names_number, Visit, times, IsReached, lt-ltb, or_false, ⊎_elim, cases_lt, ◌<◌, slice_get}
use Rattle.std.proofs.Common.{zero-add, rules}
use Rattle.std.proofs.Math.Seq.{take-append_seam}
use Rattle.std.specs.List.{filter_map, cons_option}
use Rattle.std.proofs.lemmas.List.Folds.{list_any-append}
use Rattle.rx_event.specs.Climb.{Delivery, Projection, Firing}
use Rattle.rx_audit.specs.Flow.{IsOfMarking}
use Rattle.rx_audit.specs.Tables.{IsTable}
use Rattle.rx_audit.specs.Rules.{fired_by, projecting_node}
use Rattle.rx_audit.proofs.Keys.{length-marks_with, marks_with_at}

-- firings and projections --------------------------------------------------------------------------

firing_cons : (u : ℕ) (o : Option Stop) (rest : List Stop) → list_any (is_firing_of u)
    (cons_option o rest) ≡ (names_number (option_and_then fired_by o) u || list_any (is_firing_of u) rest)
firing_cons u x1 rest = search rules

pub firing_stops : (s : ℕ → Option Stop) (u : ℕ) (nodes : List ℕ)
    → list_any (is_firing_of u) (filter_map s nodes) ≡ list_any (λ n. names_number (option_and_then fired_by (s n)) u) nodes
firing_stops s u [] = refl
firing_stops s u (n ∷ nodes) = search (rules, firing_cons, option_and_then, firing_stops s u nodes)

projection_cons : (f : ℕ) (o : Option Stop) (rest : List Stop) → count_by (is_projection_to f) (cons_option o rest)
    ≡ cond (names_number (option_and_then projecting_node o) f) 1 0 + count_by (is_projection_to f) rest
projection_cons f None rest = omega arith
projection_cons f (Some (Delivery n)) rest = sum_by-cons (λ x. cond (is_projection_to f x) 1 0) (Delivery n) rest
projection_cons f (Some (Projection g)) rest = sum_by-cons (λ x. cond (is_projection_to f x) 1 0) (Projection g) rest
projection_cons f (Some (Firing v)) rest = sum_by-cons (λ x. cond (is_projection_to f x) 1 0) (Firing v) rest

pub projection_stops : (s : ℕ → Option Stop) (f : ℕ) (nodes : List ℕ)
    → count_by (is_projection_to f) (filter_map s nodes) ≡ count_by (λ n. names_number (option_and_then projecting_node (s n)) f) nodes
projection_stops s f [] = refl
projection_stops s f (n ∷ nodes) = search (rules, projection_cons, cond, option_and_then, sum_by-cons, projection_stops s f nodes)

-- visits, counted and listed
positive : (a b : ℕ) → (nat_lt 0 a || nat_lt 0 b) ≡ nat_lt 0 (a + b)
positive a b = ⊎_elim (λ l. rw (lt-ltb 0 a l, lt-ltb 0 (a + b) (omega arith)) refl)
    (λ l. let z : a ≡ 0 = omega arith in rw z (ap (nat_lt 0) (sym (zero-add b)))) (cases_lt 0 a)

-- a test that is a positive number, of some entry
any_sum : {X : Type 0} (q : X → Bool) (f : X → ℕ) (xs : List X) → ((i : ℕ) (x : X) → slice_get xs i ≡ Some x → q x ≡ nat_lt 0 (f x))
    → list_any q xs ≡ nat_lt 0 (sum_by f xs)
any_sum q f [] same = refl
any_sum q f (x ∷ xs) same = rw (same 0 x refl, any_sum q f xs (λ i y e. same (suc i) y e), sum_by-cons f x xs) (positive (f x) (sum_by f xs))

one_test : (b : Bool) → b ≡ nat_lt 0 (cond {A = ℕ} b 1 0)
one_test x0 = search rules

often_test : (b : Bool) (c : ℕ) → 0 < c → b ≡ nat_lt 0 (c * cond {A = ℕ} b 1 0)
often_test true c l = sym (lt-ltb 0 (c * 1) (omega arith))
often_test false c l = let z : c * 0 ≡ 0 = omega arith in rw z refl

pub any_counted : {X : Type 0} (q : X → Bool) (xs : List X) → list_any q xs ≡ nat_lt 0 (count_by q xs)
any_counted q xs = any_sum q (λ x. cond {A = ℕ} (q x) 1 0) xs (λ i x e. one_test (q x))

pub same_any : (h : List Event) (leaf : ℕ) (log : List Visit) (q : ℕ → Bool) → IsOfMarking h (λ n. cond {A = ℕ} (q n) 1 0) → IsReached h leaf log
    → list_any (λ v. q v.node) log ≡ list_any q (climb h leaf)
same_any h leaf log q marking r = any_sum (λ v. q v.node) (times (λ n. cond {A = ℕ} (q n) 1 0)) log (λ i v e. often_test (q v.node) v.count (r.often i v e))
    ∙ ap (nat_lt 0) (r.sums (λ n. cond {A = ℕ} (q n) 1 0) marking) ∙ sym (any_counted q (climb h leaf))

cond_times : (b : Bool) (c : ℕ) → cond b c 0 ≡ c * cond b 1 0
cond_times x0 c = search rules

pub times_cond : (q : ℕ → Bool) (log : List Visit) → sum_by (λ v. cond (q v.node) v.count 0) log ≡ sum_by (times (λ n. cond (q n) 1 0)) log
times_cond q [] = refl
times_cond q (v ∷ log) = search (rules, sum_by-cons, cond, sum_by, cond_times, times_cond q log)

pub table_more : (key : Event → Option ℕ) (ms : List Bool) (h : List Event) (e : Event) → IsTable ms (λ n. list_any (λ x. names_number (key x) n) h)
    → IsTable (marks_with ms (key e)) (λ n. list_any (λ x. names_number (key x) n) (h ++ e ∷ []))
table_more key ms h e tied n l = search (rules, length, length-marks_with, marks_with_at, list_any-append, list_any, or_false)

-- the list of a vector, after a slice of the same length was written back
pub back : {X : Type 0} (len : ℕ) (new old : List X) → len ≡ length old → length new ≡ length old → take len (new ++ drop (length new) old) ≡ new
back len new old e same = let k : len ≡ length new = omega arith in rw (k, take-append_seam new (drop (length new) old)) refl

-- a vector of marks, after that of the key of the event was set in its slice
pub table_field : (key : Event → Option ℕ) (h : List Event) (e : Event) {len size : ℕ} (old : List Bool) {new : List Bool}
    → len ≡ length old → length old ≡ size → new ≡ marks_with old (key e) → IsTable old (λ n. list_any (λ x. names_number (key x) n) h)
    → IsTable (take len (new ++ drop (length new) old)) (λ n. list_any (λ x. names_number (key x) n) (h ++ e ∷ []))
    × (length (take len (new ++ drop (length new) old)) ≡ size)
table_field key h e {len} old {new} is_len is_size is tied = search (rules, length, length-marks_with, back, table_more)

pub no_table : (size : ℕ) (f : ℕ → Bool) → ((n : ℕ) → f n ≡ false) → IsMarked (replicate size false) f
no_table zero f none n = sym (none n)
no_table (suc size) f none zero = sym (none zero)
no_table (suc size) f none (suc n) = no_table size (λ k. f (suc k)) (λ k. none (suc k)) n

pub none_marked : (size : ℕ) → 0 ≡ mark_count (replicate size false)
none_marked zero = refl
none_marked (suc size) = search (rules, sum_by-cons, cond, replicate, none_marked size)

pub nothing_live : (n : ℕ) → is_open [] n ≡ false
nothing_live n = is_open_past [] n (omega arith)

pub no_tally : (size n : ℕ) → ◌≡◌ {A = ℕ} (get_or (replicate {A = ℕ} size 0) n 0) 0
no_tally zero n = refl
no_tally (suc size) zero = refl
no_tally (suc size) (suc n) = no_tally size n

pub nothing_leased : (r : ℕ) → leases_of [] r ≡ 0
unfolding leases_of
nothing_leased r = refl
