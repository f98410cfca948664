-- What one more event does to the debt.
use Rattle.rx_event.proofs.Laws.Common.{◌≡◌, ℕ, ℤ, ◌+◌, ◌<◌, ◌≤◌, Bool, true, false, List, [], ◌∷◌, ◌++◌, length, Option, Some, None, cond, refl, ap, ◌∙◌}
use Rattle.rx_event.proofs.Laws.Common.{arith, ◌==◌, not, ◌&&◌, ◌||◌, sum_by, count_by, option_map_or, eq-eqb, eqb-true, Terminal}
use Rattle.rx_event.proofs.Laws.Common.{Kept, Root, Source, Inner, Notifier, Kind, Mode, Event, Open, Hub, Connect, Accept, Use, Remove, Lease, Return, Item}
use Rattle.rx_event.proofs.Laws.Common.{Decline, End, Close, Take, makes_node, makes_resource, makes_lease, is_merging, is_switch, is_remove_of, pays, at}
use Rattle.rx_event.proofs.Laws.Common.{places, is_open, is_owned, is_out, is_held, is_waiting, stops, owed, stops_of, open_count}
use Rattle.rx_event.proofs.Laws.Common.{MayFollow, IsLawful, zero_or_zero, none_counted, ◌*◌, is_take, is_return, held_count, waiting_count, debt}
use Rattle.rx_event.specs.Moments.{is_projection}
use Rattle.rx_event.specs.Totals.{owned_count, lease_count, owed_open, owed_count, kept_debt}
use Rattle.rx_event.proofs.Laws.Lawful.{may_end}
use Rattle.rx_event.proofs.Laws.Places.{at-append}
use Rattle.rx_event.proofs.Laws.Openness.{is_cut, is_cut_none, is_cut_inner, is_cut_inner_flat, is_open_cut, is_open_within, shuts_none}
use Rattle.rx_event.proofs.Laws.Steps.{may_open, may_remove, may_close, may_emit, may_decline}
use Rattle.rx_event.proofs.Laws.Sums.{sum_by-places-push, sums_balance, sum_by-same, sum_by-plus, sum_by_no_rise, sum_by_falls, sum_by_none, count_by_one}
use Rattle.rx_event.proofs.Laws.Leases.{lease_count-push}
use Rattle.rx_event.proofs.Laws.Resources.{node_of, owned_held, waiting_parts}
use Rattle.rx_event.proofs.Laws.Totals.{unowned_count, cut_count, owned_count-push, held_waiting_count-push, open_count-push, is_open_new, accepts_open}
use Rattle.rx_event.proofs.Laws.Totals.{within_some, unowned_one, unowned_none, one_if}
use Rattle.rx_event.proofs.Laws.Projections.{owed-push, owed_new, projected_open, projected_count, stops_open}
use Rattle.std.proofs.Common.{rules}

-- the debt as a sum of totals -----------------------------------------------------------------------

-- two for an owned resource, one for a held or a waiting one: one for what is owned, one for what is held, one for what waits
kept_parts : (h : List Event) (r : ℕ) → kept_debt h r ≡ cond (is_owned h r) 1 0 + cond (is_held h r) 1 0 + cond (is_waiting h r) 1 0
kept_parts h r = shape (is_owned h r) (is_held h r) (is_waiting h r) (owned_held h r) (λ w. (waiting_parts h r w).1) where
  shape : (o b w : Bool) → (o ≡ true → b ≡ true) → (w ≡ true → b ≡ false) → cond {A = ℕ} o 2 (cond b 1 (cond w 1 0)) ≡ cond o 1 0 + cond b 1 0 + cond w 1 0
  shape o b w up apart = grind arith

-- one for each open node, one for each owned resource, for each held and for each that waits, one for each lease out, and what is owed
pub debt-counts : (base : Kept) → (h : List Event) → debt base h ≡ open_count h + owned_count h + held_count h + waiting_count h + lease_count h +
    owed_count base h
unfolding debt
debt-counts base h =
    let a = sum_by-plus (λ n. cond (is_open h n) 1 0) (kept_debt h) (length h) in
    let b = sum_by-plus (λ n. cond (is_open h n) 1 0 + kept_debt h n) (λ n. cond (is_out h n) 1 0) (length h) in
    let c = sum_by-plus (λ n. cond (is_open h n) 1 0 + kept_debt h n + cond (is_out h n) 1 0) (owed_open base h) (length h) in
    let k = sum_by-same (λ r. cond (is_owned h r) 1 0 + cond (is_held h r) 1 0 + cond (is_waiting h r) 1 0) (kept_debt h) (length h) (λ r l. kept_parts h r) in
    let d = sum_by-plus (λ r. cond (is_owned h r) 1 0 + cond (is_held h r) 1 0) (λ r. cond (is_waiting h r) 1 0) (length h) in
    let e = sum_by-plus (λ r. cond (is_owned h r) 1 0) (λ r. cond (is_held h r) 1 0) (length h) in omega arith

-- owed --------------------------------------------------------------------------------------------

owed_count_older : (base : Kept) → (h : List Event) → IsLawful base h → (e : Event) →
    owed_count base (h ++ e ∷ []) ≡ sum_by (owed_open base (h ++ e ∷ [])) (places h)
owed_count_older base h law e = search (rules, sum_by-places-push, owed_new, zero_or_zero)

-- how many open FlatMaps and Switches the event pays: one or none
abbrev pub paid_count : List Event → Event → ℕ
paid_count h e = count_by (λ n. (is_open h n && at is_merging h n) && pays n e) (places h)

-- what is owed after an event that cuts nothing, and what it pays, was owed before, or is projected by it
pub owed_count-push : (base : Kept) → (h : List Event) (e : Event) → IsLawful base h → MayFollow base h e → ((n : ℕ) → is_cut h e n ≡ false) →
    owed_count base (h ++ e ∷ []) + paid_count h e ≡ owed_count base h + sum_by (projected_open h (stops_of h e)) (places h)
owed_count-push base h e law next whole =
    let older = owed_count_older base h law e in
    let balance = sums_balance (owed_open base (h ++ e ∷ [])) (λ n. cond ((is_open h n && at is_merging h n) && pays n e) 1 0) (owed_open base h)
    (projected_open h (stops_of h e)) (length h) (λ n l.
    rw (is_open_cut h e n l, whole n, at-append is_merging h (e ∷ []) n l) (shape (is_open h n) (at is_merging h n) (pays n e) _ _ _
    (owed-push base h e law next n))) in
    omega arith
  where
    shape : (o m p : Bool) (x y z : ℕ) → x + cond p 1 0 ≡ y + z →
        cond ((o && not false) && m) x 0 + cond ((o && m) && p) 1 0 ≡ cond (o && m) y 0 + cond (o && m) z 0
    shape o m p x y z same = grind arith

owed_open_no_rise : (base : Kept) → (h : List Event) (e : Event) → IsLawful base h → MayFollow base h e → stops_of h e ≡ [] → (n : ℕ) → n < length h →
    owed_open base (h ++ e ∷ []) n ≤ owed_open base h n
owed_open_no_rise base h e law next no_stops n l = search (rules, owed-push, count_by, is_open_cut, at-append, cond, not)

-- an event that projects nothing raises nothing that is owed
pub owed_count_no_rise : (base : Kept) → (h : List Event) (e : Event) → IsLawful base h → MayFollow base h e → stops_of h e ≡ [] →
    owed_count base (h ++ e ∷ []) ≤ owed_count base h
owed_count_no_rise base h e law next no_stops = search (rules, owed_count_older, sum_by_no_rise, length, owed_open_no_rise)

-- the opening of an inner pays one
pub owed_count_falls-inner : (base : Kept) → (h : List Event) (f : ℕ) (kind : Kind) → IsLawful base h → MayFollow base h (Open (Inner f) kind) →
    owed_count base (h ++ Open (Inner f) kind ∷ []) + 1 ≤ owed_count base h
owed_count_falls-inner base h f kind law next =
    let l : f < length h = is_open_within h f (may_open base next).0 in
    let at_f : owed_open base (h ++ Open (Inner f) kind ∷ []) f + 1 ≤ owed_open base h f =
    let b : owed base (h ++ Open (Inner f) kind ∷ []) f + cond (f == f) 1 0 ≡ owed base h f + 0 = owed-push base h (Open (Inner f) kind) law next f in
    let c : cond {A = ℕ} (f == f) 1 0 ≡ 1 = one_if (eq-eqb f f refl) in
    rw (
      is_open_cut h (Open (Inner f) kind) f l,
      is_cut_inner h f kind f (omega arith),
      at-append is_merging h (Open (Inner f) kind ∷ []) f l,
      (may_open base next).0,
      (may_open base next).1,
    ) (omega arith) in
    let older = owed_count_older base h law (Open (Inner f) kind) in
    let falls = sum_by_falls (owed_open base h) (owed_open base (h ++ Open (Inner f) kind ∷ [])) (length h) f l
    (owed_open_no_rise base h (Open (Inner f) kind) law next refl) at_f in omega arith

paid_none : (h : List Event) (e : Event) → ((n : ℕ) → pays n e ≡ false) → paid_count h e ≡ 0
paid_none h e never = sum_by_none _ (length h) (λ n l. rw (never n) (none_counted (is_open h n && at is_merging h n)))

paid_one : (h : List Event) (e : Event) (f : ℕ) → is_open h f ≡ true → at is_merging h f ≡ true → ((n : ℕ) → pays n e ≡ (f == n)) → paid_count h e ≡ 1
paid_one h e f o m just = sum_by-same (λ n. cond (f == n) 1 0) (λ n. cond ((is_open h n && at is_merging h n) && pays n e) 1 0) (length h)
    (λ n l. rw (just n) (by_number n (f == n) refl)) ∙ count_by_one f (length h) (is_open_within h f o)
  where
    by_number : (n : ℕ) (b : Bool) → (f == n) ≡ b → cond {A = ℕ} ((is_open h n && at is_merging h n) && b) 1 0 ≡ cond b 1 0
    by_number n x1 x2 = search (rules, eqb-true, none_counted)

projects_nothing : (h : List Event) → sum_by (projected_open h []) (places h) ≡ 0
projects_nothing h = sum_by_none (projected_open h []) (length h) (λ n l. zero_or_zero (is_open h n && at is_merging h n))

-- the debt after one more event -------------------------------------------------------------------

-- the debt with all that the event takes away, against the debt with all that it adds
pub debt-push : (base : Kept) → (h : List Event) (e : Event) → IsLawful base h → MayFollow base h e →
    debt base (h ++ e ∷ []) + cut_count h e + unowned_count h e + cond (is_take e) 1 0 + cond (is_return e) 1 0 + owed_count base h ≡ debt base h + cond
    (makes_node e) 1 0 + 2 * cond (makes_resource e) 1 0 + cond (makes_lease e) 1 0 + owed_count base (h ++ e ∷ [])
debt-push base h e law next =
    search (rules, debt-counts, open_count-push, one_if, is_open_new, owned_count-push, accepts_open, held_waiting_count-push, lease_count-push)

no_cut_count : (h : List Event) (e : Event) → ((n : ℕ) → is_cut h e n ≡ false) → cut_count h e ≡ 0
no_cut_count h e whole = sum_by_none _ (length h) (λ n l. rw (whole n) (none_counted (is_open h n)))

no_loss : (h : List Event) (e : Event) → ((n : ℕ) → is_cut h e n ≡ false) → ((r : ℕ) → is_remove_of r e ≡ false) → unowned_count h e ≡ 0
no_loss h e whole keeps = unowned_none h e (λ r. by_node (node_of h r) (keeps r)) where
  by_node : {b : Bool} (o : Option ℕ) → b ≡ false → (option_map_or (is_cut h e) o false || b) ≡ false
  by_node None none = none
  by_node (Some n) none = rw (whole n) none

-- the debt after an event that shuts nothing: what it takes away and pays, against what it makes and projects
debt_whole : (base : Kept) → (h : List Event) (e : Event) → IsLawful base h → MayFollow base h e → ((n : ℕ) → is_cut h e n ≡ false) →
    debt base (h ++ e ∷ []) + unowned_count h e + cond (is_take e) 1 0 + cond (is_return e) 1 0 + paid_count h e ≡ debt base h + cond (makes_node e) 1 0 +
    2 * cond (makes_resource e) 1 0 + cond (makes_lease e) 1 0 + sum_by (projected_open h (stops_of h e)) (places h)
debt_whole base h e law next whole =
    let b = debt-push base h e law next in let c = no_cut_count h e whole in let w = owed_count-push base h e law next whole in omega arith

-- and after one that neither removes nor pays nor projects either
debt_made : (base : Kept) → (h : List Event) (e : Event) → IsLawful base h → MayFollow base h e → shuts_none e ≡ true →
    ((r : ℕ) → is_remove_of r e ≡ false) → ((n : ℕ) → pays n e ≡ false) → stops_of h e ≡ [] →
    debt base (h ++ e ∷ []) + cond (is_take e) 1 0 + cond (is_return e) 1 0 ≡
    debt base h + cond (makes_node e) 1 0 + 2 * cond (makes_resource e) 1 0 + cond (makes_lease e) 1 0
debt_made base h e law next shuts keeps unpaid still =
    let whole : (n : ℕ) → is_cut h e n ≡ false = λ n. is_cut_none h e n shuts in
    let b = debt_whole base h e law next whole in
    let d = no_loss h e whole keeps in
    let p = paid_none h e unpaid in
    let q : sum_by (projected_open h (stops_of h e)) (places h) ≡ 0 = ap (λ ss. sum_by (projected_open h ss) (places h)) still ∙ projects_nothing h in
    omega arith

-- one more open node
pub debt-root : (base : Kept) → (h : List Event) (kind : Kind) → IsLawful base h → MayFollow base h (Open Root kind) →
    debt base (h ++ Open Root kind ∷ []) ≡ debt base h + 1
debt-root base h kind law next = let b = debt_made base h (Open Root kind) law next refl (λ r. refl) (λ n. refl) refl in omega arith

pub debt-source : (base : Kept) → (h : List Event) (p : ℕ) (kind : Kind) → IsLawful base h → MayFollow base h (Open (Source p) kind) →
    debt base (h ++ Open (Source p) kind ∷ []) ≡ debt base h + 1
debt-source base h p kind law next = let b = debt_made base h (Open (Source p) kind) law next refl (λ r. refl) (λ n. refl) refl in omega arith

pub debt-notifier : (base : Kept) → (h : List Event) (p : ℕ) (kind : Kind) → IsLawful base h → MayFollow base h (Open (Notifier p) kind) →
    debt base (h ++ Open (Notifier p) kind ∷ []) ≡ debt base h + 1
debt-notifier base h p kind law next = let b = debt_made base h (Open (Notifier p) kind) law next refl (λ r. refl) (λ n. refl) refl in omega arith

pub debt-connect : (base : Kept) → (h : List Event) (g : ℕ) → IsLawful base h → MayFollow base h (Connect g) → debt base (h ++ Connect g ∷ []) ≡ debt base h + 1
debt-connect base h g law next = let b = debt_made base h (Connect g) law next refl (λ r. refl) (λ n. refl) refl in omega arith

-- a hub and a use cost nothing
pub debt-hub : (base : Kept) → (h : List Event) (mode : Mode) → IsLawful base h → MayFollow base h (Hub mode) → debt base (h ++ Hub mode ∷ []) ≡ debt base h
debt-hub base h mode law next = let b = debt_made base h (Hub mode) law next refl (λ r. refl) (λ n. refl) refl in omega arith

pub debt-use : (base : Kept) → (h : List Event) (r : ℕ) → IsLawful base h → MayFollow base h (Use r) → debt base (h ++ Use r ∷ []) ≡ debt base h
debt-use base h r law next = let b = debt_made base h (Use r) law next refl (λ q. refl) (λ n. refl) refl in omega arith

-- a lease costs one: its return
pub debt-lease : (base : Kept) → (h : List Event) (r : ℕ) → IsLawful base h → MayFollow base h (Lease r) → debt base (h ++ Lease r ∷ []) ≡ debt base h + 1
debt-lease base h r law next = let b = debt_made base h (Lease r) law next refl (λ q. refl) (λ n. refl) refl in omega arith

-- a resource costs two: its removal and its taking
pub debt-accept : (base : Kept) → (h : List Event) (n tag : ℕ) → IsLawful base h → MayFollow base h (Accept n tag) →
    debt base (h ++ Accept n tag ∷ []) ≡ debt base h + 2
debt-accept base h n tag law next = let b = debt_made base h (Accept n tag) law next refl (λ r. refl) (λ m. refl) refl in omega arith

-- the removal of a held resource pays one
pub debt-remove : (base : Kept) → (h : List Event) (q : ℕ) → IsLawful base h → MayFollow base h (Remove q) → debt base (h ++ Remove q ∷ []) + 1 ≡ debt base h
debt-remove base h q law next =
    let b = debt_whole base h (Remove q) law next (λ m. is_cut_none h (Remove q) m refl) in
    let d = unowned_one h q (may_remove base next) in
    let p = paid_none h (Remove q) (λ m. refl) in
    let z = projects_nothing h in omega arith

-- so does a taking
pub debt-take : (base : Kept) → (h : List Event) (q : ℕ) → IsLawful base h → MayFollow base h (Take q) → debt base (h ++ Take q ∷ []) + 1 ≡ debt base h
debt-take base h q law next = let b = debt_made base h (Take q) law next refl (λ r. refl) (λ m. refl) refl in omega arith

-- and a return
pub debt-return : (base : Kept) → (h : List Event) (l : ℕ) → IsLawful base h → MayFollow base h (Return l) → debt base (h ++ Return l ∷ []) + 1 ≡ debt base h
debt-return base h l law next = let b = debt_made base h (Return l) law next refl (λ r. refl) (λ m. refl) refl in omega arith

-- an item costs one for each of its projections
pub debt-item : (base : Kept) → (h : List Event) (l : ℕ) (v : ℤ) → IsLawful base h → MayFollow base h (Item l v) →
    debt base (h ++ Item l v ∷ []) ≡ debt base h + count_by is_projection (stops h l)
debt-item base h l v law next =
    let whole : (m : ℕ) → is_cut h (Item l v) m ≡ false = λ m. is_cut_none h (Item l v) m refl in
    let b = debt_whole base h (Item l v) law next whole in
    let d = no_loss h (Item l v) whole (λ r. refl) in
    let p = paid_none h (Item l v) (λ m. refl) in
    let z = projected_count h (stops h l) (stops_open base h l law (may_emit base next)) in omega arith

-- a declined projection pays one
pub debt-decline : (base : Kept) → (h : List Event) (f : ℕ) → IsLawful base h → MayFollow base h (Decline f) → debt base (h ++ Decline f ∷ []) + 1 ≡ debt base h
debt-decline base h f law next =
    let whole : (m : ℕ) → is_cut h (Decline f) m ≡ false = λ m. is_cut_none h (Decline f) m refl in
    let b = debt_whole base h (Decline f) law next whole in
    let d = no_loss h (Decline f) whole (λ r. refl) in
    let p = paid_one h (Decline f) f (may_decline base next).0 (may_decline base next).1 (λ n. refl) in
    let z = projects_nothing h in omega arith

-- an inner of a FlatMap costs what the projection cost that it pays
pub debt-inner_flat : (base : Kept) → (h : List Event) (f : ℕ) (kind : Kind) → IsLawful base h → MayFollow base h (Open (Inner f) kind) →
    at is_switch h f ≡ false → debt base (h ++ Open (Inner f) kind ∷ []) ≡ debt base h
debt-inner_flat base h f kind law next flat =
    let whole : (m : ℕ) → is_cut h (Open (Inner f) kind) m ≡ false = is_cut_inner_flat h f kind flat in
    let b = debt_whole base h (Open (Inner f) kind) law next whole in
    let d = no_loss h (Open (Inner f) kind) whole (λ r. refl) in
    let p = paid_one h (Open (Inner f) kind) f (may_open base next).0 (may_open base next).1 (λ n. refl) in
    let z = projects_nothing h in omega arith

-- an inner of a Switch costs no more
pub debt_no_rise-inner : (base : Kept) → (h : List Event) (f : ℕ) (kind : Kind) → IsLawful base h → MayFollow base h (Open (Inner f) kind) →
    debt base (h ++ Open (Inner f) kind ∷ []) ≤ debt base h
debt_no_rise-inner base h f kind law next = search (rules, debt-push, owed_count_falls-inner)

-- an end and a closing pay at least one
pub debt_falls-end : (base : Kept) → (h : List Event) (c : ℕ) (t : Terminal) → IsLawful base h → MayFollow base h (End c t) →
    debt base (h ++ End c t ∷ []) + 1 ≤ debt base h
debt_falls-end base h c t law next = search (rules, debt-push, within_some, may_end, owed_count_no_rise)

pub debt_falls-close : (base : Kept) → (h : List Event) (c : ℕ) → IsLawful base h → MayFollow base h (Close c) → debt base (h ++ Close c ∷ []) + 1 ≤ debt base h
debt_falls-close base h c law next = search (rules, debt-push, within_some, may_close, owed_count_no_rise)
