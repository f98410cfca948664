-- What one more event adds to the totals.
use Rattle.rx_event.proofs.Laws.Common.{◌≡◌, ℕ, ◌+◌, ◌<◌, ◌≤◌, Bool, true, false, List, [], ◌∷◌, ◌++◌, length, Option, Some, None, cond, refl, sym, ap, ◌∙◌}
use Rattle.rx_event.proofs.Laws.Common.{arith, inl, inr, ◌⊎◌, ◌==◌, length-append, not, ◌&&◌, ◌||◌, sum_by, count_by, option_map_or, cases_Bool, false≢true}
use Rattle.rx_event.proofs.Laws.Common.{eq-eqb, eqb-true, ne_eqb, sum_by_push, Terminal, Kept, Source, Inner, Notifier, Kind, Event, Open, Accept, Use, Remove}
use Rattle.rx_event.proofs.Laws.Common.{End, Close, Take, makes_node, makes_resource, node_of_accept, parent_named, is_use_of, is_take_of, places, is_open}
use Rattle.rx_event.proofs.Laws.Common.{is_within, is_owned, is_held, is_waiting, uses, open_count, MayFollow, IsLawful, and_false, counted_in_parts}
use Rattle.rx_event.proofs.Laws.Common.{counted_once, none_counted, is_take, is_leased, accepted_count, taken_count, held_count, waiting_count}
use Rattle.rx_event.specs.Events.{is_item}
use Rattle.rx_event.specs.Totals.{item_count, owned_count}
use Rattle.rx_event.specs.Claims.Nodes.{IsOpenInner}
use Rattle.rx_event.proofs.Laws.Parents.{ancestors_step}
use Rattle.rx_event.proofs.Laws.Openness.{is_cut, is_cut_none, is_cut_inner, is_open_cut, is_open_last, is_open_made, is_open_within, is_open_last_none}
use Rattle.rx_event.proofs.Laws.Openness.{shuts_none}
use Rattle.rx_event.proofs.Laws.Steps.{by_events, may_name, may_accept, may_use, may_remove, may_take}
use Rattle.rx_event.proofs.Laws.Sums.{sum_by-places-push, sums_balance, sum_by-same, sum_by_no_rise, sum_by_falls, sum_by_none, sum_by_one, count_by_one}
use Rattle.rx_event.proofs.Laws.Switches.{is_cut-inner_switch}
use Rattle.rx_event.proofs.Laws.Resources.{loses, node_of, is_owned-push, is_owned_last, is_owned-remove, held_is, owned_held, is_held_last, is_held_within}
use Rattle.rx_event.proofs.Laws.Resources.{is_held_kept, held_old, is_waiting-unheld, is_waiting_new, is_waiting_within, waiting_parts}
use Rattle.rx_event.proofs.Laws.Leases.{is_owned_within, is_leased_kept}
use Rattle.std.proofs.Common.{rules}

pub one_if : {a b : Bool} → a ≡ b → cond {A = ℕ} a 1 0 ≡ cond {A = ℕ} b 1 0
one_if same = ap (λ (b : Bool). cond {A = ℕ} b 1 0) same

-- events counted ----------------------------------------------------------------------------------

pub item_count-push : (base : Kept) → (h : List Event) (e : Event) → item_count base (h ++ e ∷ []) ≡ item_count base h + cond (is_item e) 1 0
item_count-push base h e = let s = sum_by_push (λ (x : Event). cond (is_item x) 1 0) h e in omega arith

pub accepted_count-push : (base : Kept) → (h : List Event) (e : Event) → accepted_count base (h ++ e ∷ []) ≡ accepted_count base h + cond (makes_resource e) 1 0
accepted_count-push base h e = let s = sum_by_push (λ (x : Event). cond (makes_resource x) 1 0) h e in omega arith

pub taken_count-push : (base : Kept) → (h : List Event) (e : Event) → taken_count base (h ++ e ∷ []) ≡ taken_count base h + cond (is_take e) 1 0
taken_count-push base h e = let s = sum_by_push (λ (x : Event). cond (is_take x) 1 0) h e in omega arith

pub uses-push : (base : Kept) → (h : List Event) (e : Event) (r : ℕ) → uses base (h ++ e ∷ []) r ≡ uses base h r + cond (is_use_of r e) 1 0
unfolding uses
uses-push base h e r = search (rules, option_map_or, count_by, cond, sum_by_push)

uses_none : (base : Kept) → (h : List Event) (e : Event) → MayFollow base h e → (r : ℕ) → length h ≤ r → is_use_of r e ≡ false
uses_none base h (Use q) next r l = let b = is_held_within h q (may_use base next) in ne_eqb q r (omega arith)
uses_none base h _ next r l = refl

-- only older resources were used
pub uses_past : (base : Kept) → (h : List Event) → IsLawful base h → (r : ℕ) → length h ≤ r → uses base h r ≡ 0
unfolding uses
uses_past base = by_events base (λ h. (r : ℕ) → length h ≤ r → uses base h r ≡ 0) (λ s r l. s.unused r l) (λ h e law next before r l.
    let b : length h ≤ r = omega (arith, length-append h (e ∷ [])) in
    uses-push base h e r ∙ rw (before r b, uses_none base h e next r b) refl)

-- so a new resource was not used
pub uses_new : (base : Kept) → (h : List Event) (e : Event) → IsLawful base h → makes_resource e ≡ true → uses base (h ++ e ∷ []) (length h) ≡ 0
uses_new base h e law made = search (rules, uses-push, length, uses_past, cond, false≢true)

-- resources counted -------------------------------------------------------------------------------

-- how many resources the event takes from their nodes
abbrev pub unowned_count : List Event → Event → ℕ
unowned_count h e = count_by (λ r. is_owned h r && loses h e r) (places h)

-- what is owned after the event, and what it took, was owned before, or is new
pub owned_count-push : (base : Kept) → (h : List Event) (e : Event) → IsLawful base h →
    owned_count (h ++ e ∷ []) + unowned_count h e ≡ owned_count h + cond (option_map_or (is_open h) (node_of_accept e) false) 1 0
owned_count-push base h e law =
    let older : count_by (is_owned (h ++ e ∷ [])) (places h) + unowned_count h e ≡ owned_count h + sum_by (λ (r : ℕ). 0) (places h) =
    sums_balance (λ r. cond (is_owned (h ++ e ∷ []) r) 1 0) (λ r. cond (is_owned h r && loses h e r) 1 0) (λ r. cond (is_owned h r) 1 0) (λ r. 0) (length h)
    (λ r l. rw (is_owned-push base h e law r l) (counted_in_parts (is_owned h r) (loses h e r))) in
    let none = sum_by_none (λ r. 0) (length h) (λ r l. refl) in
    let last = sum_by-places-push (λ r. cond (is_owned (h ++ e ∷ []) r) 1 0) h e in
    let new = one_if (is_owned_last base h e law) in omega arith

-- what is owned is held
pub owned_count_within : (h : List Event) → owned_count h ≤ held_count h
owned_count_within h = search (rules, sum_by_no_rise, cond, length, counted_once, owned_held)

-- how many resources are held no more after the event
abbrev pub lost_count : List Event → Event → ℕ
lost_count h e = count_by (λ r. is_held h r && not (is_held (h ++ e ∷ []) r)) (places h)

-- what is held after the event, and what is held no more, was held before, or is new
pub held_count-push : (base : Kept) → (h : List Event) (e : Event) → IsLawful base h → MayFollow base h e →
    held_count (h ++ e ∷ []) + lost_count h e ≡ held_count h + cond (option_map_or (is_open h) (node_of_accept e) false) 1 0
held_count-push base h e law next =
    let older : count_by (is_held (h ++ e ∷ [])) (places h) + lost_count h e ≡ held_count h + sum_by (λ (r : ℕ). 0) (places h) =
    sums_balance (λ r. cond (is_held (h ++ e ∷ []) r) 1 0) (λ r. cond (is_held h r && not (is_held (h ++ e ∷ []) r)) 1 0) (λ r. cond (is_held h r) 1 0)
    (λ r. 0) (length h) (λ r l. shape (is_held (h ++ e ∷ []) r) (is_held h r) (held_old base h e law next r l)) in
    let none = sum_by_none (λ r. 0) (length h) (λ r l. refl) in
    let last = sum_by-places-push (λ r. cond (is_held (h ++ e ∷ []) r) 1 0) h e in
    let new = one_if (is_held_last base h e law) in
    omega arith
  where
    shape : (after held : Bool) → (after ≡ true → held ≡ true) → cond {A = ℕ} after 1 0 + cond {A = ℕ} (held && not after) 1 0 ≡ cond {A = ℕ} held 1 0 + 0
    shape after held old = grind arith

takes_once : (base : Kept) → (h : List Event) (e : Event) → MayFollow base h e → count_by (λ r. is_take_of r e) (places h) ≡ cond (is_take e) 1 0
takes_once base h (Take q) next = count_by_one q (length h) (is_waiting_within h q (may_take base next))
takes_once base h _ next = sum_by_none (λ r. 0) (length h) (λ r l. refl)

taken_waited : (base : Kept) → (h : List Event) (e : Event) → MayFollow base h e → (r : ℕ) → is_take_of r e ≡ true → is_waiting h r ≡ true
taken_waited base h x2 next r same = search (rules, eqb-true, may_take, false≢true)

-- what waits after the event, and what it takes, waited before, or is held no more
pub waiting_count-push : (base : Kept) → (h : List Event) (e : Event) → IsLawful base h → MayFollow base h e →
    waiting_count (h ++ e ∷ []) + cond (is_take e) 1 0 ≡ waiting_count h + lost_count h e
waiting_count-push base h e law next =
    let older : count_by (is_waiting (h ++ e ∷ [])) (places h) + count_by (λ r. is_take_of r e) (places h) ≡ waiting_count h + lost_count h e =
    sums_balance (λ r. cond (is_waiting (h ++ e ∷ []) r) 1 0) (λ r. cond (is_take_of r e) 1 0) (λ r. cond (is_waiting h r) 1 0)
    (λ r. cond (is_held h r && not (is_held (h ++ e ∷ []) r)) 1 0) (length h) (λ r l. rw (is_waiting-unheld base h e law next r l)
    (shape (is_waiting h r) (is_held h r) (not (is_held (h ++ e ∷ []) r)) (is_take_of r e) (λ w. (waiting_parts h r w).1) (taken_waited base h e next r))) in
    let once = takes_once base h e next in
    let last = sum_by-places-push (λ r. cond (is_waiting (h ++ e ∷ []) r) 1 0) h e in
    let new = one_if (is_waiting_new base h e law next) in
    omega arith
  where
    shape : (w b k t : Bool) → (w ≡ true → b ≡ false) → (t ≡ true → w ≡ true) →
        cond ((w || (b && k)) && not t) 1 0 + cond t 1 0 ≡ cond w 1 0 + cond (b && k) 1 0
    shape w b k t apart waited = grind arith

pub accepts_open : (base : Kept) → (h : List Event) (e : Event) → MayFollow base h e → option_map_or (is_open h) (node_of_accept e) false ≡ makes_resource e
accepts_open base h x2 next = search (rules, may_accept)

-- each accepted resource is held, waits, or was taken, and once
pub accepted_count-parts : (base : Kept) → (h : List Event) → IsLawful base h → accepted_count base h ≡ held_count h + waiting_count h + taken_count base h
accepted_count-parts base =
    by_events base (λ h. accepted_count base h ≡ held_count h + waiting_count h + taken_count base h) (λ s. s.parts) (λ h e law next before.
    let a = accepted_count-push base h e in
    let b = held_count-push base h e law next in
    let c = waiting_count-push base h e law next in
    let d = taken_count-push base h e in
    let n = one_if (accepts_open base h e next) in omega arith)

pub lost_none : (h : List Event) (e : Event) → ((r : ℕ) → r < length h → is_held (h ++ e ∷ []) r ≡ is_held h r) → lost_count h e ≡ 0
lost_none h e keeps = search (rules, sum_by_none, cond, not, length)

pub unowned_none : (h : List Event) (e : Event) → ((r : ℕ) → loses h e r ≡ false) → unowned_count h e ≡ 0
unowned_none h e keeps = search (rules, sum_by_none, cond, loses, length, none_counted)

no_accept : (h : List Event) (e : Event) → makes_resource e ≡ false → option_map_or (is_open h) (node_of_accept e) false ≡ false
no_accept h e none = grind arith

-- no event but an acceptance raises what is held, or what is owned
pub held_count_no_rise : (base : Kept) → (h : List Event) (e : Event) → IsLawful base h → MayFollow base h e → makes_resource e ≡ false → held_count
    (h ++ e ∷ []) ≤ held_count h
held_count_no_rise base h e law next none = let b = held_count-push base h e law next in let n = one_if (no_accept h e none) in omega arith

pub owned_count_no_rise : (base : Kept) → (h : List Event) (e : Event) → IsLawful base h → makes_resource e ≡ false → owned_count (h ++ e ∷ []) ≤ owned_count h
owned_count_no_rise base h e law none = let b = owned_count-push base h e law in let n = one_if (no_accept h e none) in omega arith

-- what is held and what waits go over into each other, but for an acceptance and a taking
pub held_waiting_count-push : (base : Kept) → (h : List Event) (e : Event) → IsLawful base h → MayFollow base h e →
    held_count (h ++ e ∷ []) + waiting_count (h ++ e ∷ []) + cond (is_take e) 1 0 ≡ held_count h + waiting_count h + cond (makes_resource e) 1 0
held_waiting_count-push base h e law next = search (rules, held_count-push, waiting_count-push, one_if, accepts_open)

-- an acceptance at an open node
accept_keeps : (h : List Event) (n tag r : ℕ) → loses h (Accept n tag) r ≡ false
accept_keeps h n tag r = search (rules, option_map_or, Accept, is_cut_none)

pub owned_count-accept : (base : Kept) → (h : List Event) (n tag : ℕ) → IsLawful base h → is_open h n ≡ true → owned_count (h ++ Accept n tag ∷ []) ≡
    owned_count h + 1
owned_count-accept base h n tag law o =
    let b = owned_count-push base h (Accept n tag) law in
    let k = unowned_none h (Accept n tag) (accept_keeps h n tag) in
    let c = one_if o in omega arith

-- what an event leaves held that is not of its own making
held_count-kept : (base : Kept) → (h : List Event) (e : Event) → IsLawful base h → ((r : ℕ) → r < length h → is_held (h ++ e ∷ []) r ≡ is_held h r) →
    held_count (h ++ e ∷ []) ≡ held_count h + cond (option_map_or (is_open h) (node_of_accept e) false) 1 0
held_count-kept base h e law keeps =
    let older = sum_by-same (λ r. cond (is_held h r) 1 0) (λ r. cond (is_held (h ++ e ∷ []) r) 1 0) (length h) (λ r l. one_if (keeps r l)) in
    let last = sum_by-places-push (λ r. cond (is_held (h ++ e ∷ []) r) 1 0) h e in
    let new = one_if (is_held_last base h e law) in omega arith

pub held_count-accept : (base : Kept) → (h : List Event) (n tag : ℕ) → IsLawful base h → is_open h n ≡ true →
    held_count (h ++ Accept n tag ∷ []) ≡ held_count h + 1
held_count-accept base h n tag law o =
    let b = held_count-kept base h (Accept n tag) law (λ r l. is_held_kept (Accept n tag) law r l refl refl refl refl) in
    let c = one_if o in omega arith

pub waiting_count-take : (base : Kept) → (h : List Event) (q : ℕ) → IsLawful base h → MayFollow base h (Take q) →
    waiting_count (h ++ Take q ∷ []) + 1 ≡ waiting_count h
waiting_count-take base h q law next =
    let b = waiting_count-push base h (Take q) law next in
    let k = lost_none h (Take q) (λ r l. is_held_kept (Take q) law r l refl refl refl refl) in omega arith

-- a removal of what is owned
pub unowned_one : (h : List Event) (q : ℕ) → is_owned h q ≡ true → unowned_count h (Remove q) ≡ 1
unowned_one h q owned = sum_by-same (λ r. cond (q == r) 1 0) (λ r. cond (is_owned h r && loses h (Remove q) r) 1 0) (length h)
    (λ r l. one_if (just_that r (node_of h r) (cases_Bool (q == r)))) ∙ count_by_one q (length h) (is_owned_within h q owned) where
      no_cut : (o : Option ℕ) (b : Bool) → (option_map_or (is_cut h (Remove q)) o false || b) ≡ b
      no_cut None b = refl
      no_cut (Some m) b = rw (is_cut_none h (Remove q) m refl) refl

      just_that : (r : ℕ) (o : Option ℕ) → ((q == r) ≡ true) ⊎ ((q == r) ≡ false) →
          (is_owned h r && (option_map_or (is_cut h (Remove q)) o false || q == r)) ≡ (q == r)
      just_that r o (inl same) = let there : is_owned h r ≡ true = rw (← eqb-true q r same) owned in rw (no_cut o (q == r), there) refl
      just_that r o (inr apart) = rw (no_cut o (q == r), apart) (and_false (is_owned h r))

pub owned_count-remove : (base : Kept) → (h : List Event) (q : ℕ) → IsLawful base h → is_owned h q ≡ true → owned_count (h ++ Remove q ∷ []) + 1 ≡ owned_count h
owned_count-remove base h q law owned = let b = owned_count-push base h (Remove q) law in let k = unowned_one h q owned in omega arith

-- what has no lease out is held no more
lost_one : (base : Kept) → (h : List Event) (q : ℕ) → IsLawful base h → is_owned h q ≡ true → lost_count h (Remove q) ≡ cond (is_leased h q) 0 1
lost_one base h q law owned =
    sum_by-same (λ r. cond (q == r) (cond (is_leased h r) 0 1) 0) (λ r. cond (is_held h r && not (is_held (h ++ Remove q ∷ []) r)) 1 0) (length h)
    (λ r l. (ap (λ b. cond {A = ℕ} b 1 0) (λ i. held_is h r i && not ((held_is (h ++ Remove q ∷ []) r ∙
    (λ j. is_owned-remove base h q law r l j || is_leased_kept base h (Remove q) law r l refl refl j)) i)) ∙
    shape (is_owned h r) (is_leased h r) (q == r) (there r))) ∙ sum_by_one (λ r. cond (is_leased h r) 0 1) q (length h) (is_owned_within h q owned)
  where
    shape : (o s same : Bool) → (same ≡ true → o ≡ true) → cond {A = ℕ} ((o || s) && not ((o && not same) || s)) 1 0 ≡ cond same (cond s 0 1) 0
    shape o s same there = grind arith

    there : (r : ℕ) → (q == r) ≡ true → is_owned h r ≡ true
    there r same = ap (is_owned h) (sym (eqb-true q r same)) ∙ owned

pub held_count-remove : (base : Kept) → (h : List Event) (q : ℕ) → IsLawful base h → MayFollow base h (Remove q) → held_count (h ++ Remove q ∷ []) + cond
    (is_leased h q) 0 1 ≡ held_count h
held_count-remove base h q law next = search (rules, held_count-push, lost_one, may_remove)

pub waiting_count-remove : (base : Kept) → (h : List Event) (q : ℕ) → IsLawful base h → MayFollow base h (Remove q) → waiting_count (h ++ Remove q ∷ []) ≡
    waiting_count h + cond (is_leased h q) 0 1
waiting_count-remove base h q law next = search (rules, waiting_count-push, lost_one, may_remove)

-- open nodes counted ------------------------------------------------------------------------------

-- how many open nodes the event cuts
abbrev pub cut_count : List Event → Event → ℕ
cut_count h e = count_by (λ n. is_open h n && is_cut h e n) (places h)

-- what is open after the event, and what it cut, was open before, or is new
pub open_count-push : (h : List Event) (e : Event) → open_count (h ++ e ∷ []) + cut_count h e ≡ open_count h + cond (is_open (h ++ e ∷ []) (length h)) 1 0
open_count-push h e =
    let older : count_by (is_open (h ++ e ∷ [])) (places h) + cut_count h e ≡ open_count h + sum_by (λ (n : ℕ). 0) (places h) =
    sums_balance (λ n. cond (is_open (h ++ e ∷ []) n) 1 0) (λ n. cond (is_open h n && is_cut h e n) 1 0) (λ n. cond (is_open h n) 1 0) (λ n. 0) (length h)
    (λ n l. rw (is_open_cut h e n l) (counted_in_parts (is_open h n) (is_cut h e n))) in
    let none = sum_by_none (λ n. 0) (length h) (λ n l. refl) in
    let last = sum_by-places-push (λ n. cond (is_open (h ++ e ∷ []) n) 1 0) h e in omega arith

-- what is made is open, where it names an open node
pub is_open_named : (h : List Event) (e : Event) → ((p : ℕ) → parent_named e ≡ Some p → is_open h p ≡ true) → is_open (h ++ e ∷ []) (length h) ≡ makes_node e
is_open_named h (Open (Source p) kind) names = is_open_made h (Open (Source p) kind) p refl refl (names p refl) (is_cut_none h (Open (Source p) kind) p refl)
is_open_named h (Open (Inner p) kind) names = is_open_made h (Open (Inner p) kind) p refl refl (names p refl) (is_cut_inner h p kind p (omega arith))
is_open_named h (Open (Notifier p) kind) names =
    is_open_made h (Open (Notifier p) kind) p refl refl (names p refl) (is_cut_none h (Open (Notifier p) kind) p refl)
is_open_named h (End n t) names = is_open_last_none h (End n t) refl
is_open_named h (Close n) names = is_open_last_none h (Close n) refl
is_open_named h e names = is_open_last h e refl

pub is_open_new : (base : Kept) → (h : List Event) (e : Event) → MayFollow base h e → is_open (h ++ e ∷ []) (length h) ≡ makes_node e
is_open_new base h e next = is_open_named h e (λ p named. may_name base next named)

-- an event that cuts no node
pub open_count_uncut : (base : Kept) → (h : List Event) (e : Event) → MayFollow base h e → ((n : ℕ) → is_cut h e n ≡ false) →
    open_count (h ++ e ∷ []) ≡ open_count h + cond (makes_node e) 1 0
open_count_uncut base h e next whole = search (rules, open_count-push, one_if, is_open_new, sum_by_none, cond, length, none_counted)

pub open_count_made : (base : Kept) → (h : List Event) (e : Event) → MayFollow base h e → shuts_none e ≡ true →
    open_count (h ++ e ∷ []) ≡ open_count h + cond (makes_node e) 1 0
open_count_made base h e next s = open_count_uncut base h e next (λ n. is_cut_none h e n s)

-- c is within itself
pub is_within_self : (h : List Event) (c : ℕ) → is_within h c c ≡ true
is_within_self h c = rw (ancestors_step h c, eq-eqb c c refl) refl

pub within_some : (h : List Event) (c : ℕ) → is_open h c ≡ true → 1 ≤ count_by (λ n. is_open h n && is_within h c n) (places h)
within_some h c o =
    let here : cond {A = ℕ} (is_open h c && is_within h c c) 1 0 ≡ 1 = rw (o, is_within_self h c) refl in
    let none = sum_by_none (λ n. 0) (length h) (λ n l. refl) in
    let falls = sum_by_falls (λ n. cond (is_open h n && is_within h c n) 1 0) (λ n. 0) (length h) c (is_open_within h c o) (λ n l. omega arith) (omega arith) in
    omega arith

-- the end or the closing of c closes c and what is open below it
pub open_count-end : (h : List Event) (c : ℕ) (t : Terminal) →
    open_count (h ++ End c t ∷ []) + count_by (λ n. is_open h n && is_within h c n) (places h) ≡ open_count h
open_count-end h c t = search (rules, open_count-push, one_if, is_open_last_none)

pub open_count-close : (h : List Event) (c : ℕ) → open_count (h ++ Close c ∷ []) + count_by (λ n. is_open h n && is_within h c n) (places h) ≡ open_count h
open_count-close h c = search (rules, open_count-push, one_if, is_open_last_none)

-- so there is at least one open node less
pub open_count_falls-end : (h : List Event) (c : ℕ) (t : Terminal) → is_open h c ≡ true → open_count (h ++ End c t ∷ []) + 1 ≤ open_count h
open_count_falls-end h c t o = let b = open_count-end h c t in let s = within_some h c o in omega arith

pub open_count_falls-close : (h : List Event) (c : ℕ) → is_open h c ≡ true → open_count (h ++ Close c ∷ []) + 1 ≤ open_count h
open_count_falls-close h c o = let b = open_count-close h c in let s = within_some h c o in omega arith

-- an inner of a Switch comes in place of the open inner c, and of what is open below it
pub open_count-inner_switch : {base : Kept} {h : List Event} {f c : ℕ} {kind : Kind} → IsLawful base h → MayFollow base h (Open (Inner f) kind) →
    IsOpenInner h f c → open_count (h ++ Open (Inner f) kind ∷ []) + count_by (λ n. is_open h n && is_within h c n) (places h) ≡ open_count h + 1
open_count-inner_switch {base} {h} {f} {c} {kind} law next i =
    let b = open_count-push h (Open (Inner f) kind) in
    let n = one_if (is_open_new base h (Open (Inner f) kind) next) in
    let k = sum_by-same (λ n. cond (is_open h n && is_within h c n) 1 0) (λ n. cond (is_open h n && is_cut h (Open (Inner f) kind) n) 1 0) (length h)
    (λ n l. one_if (is_cut-inner_switch f c kind law i.switch i.inner i.alive n)) in omega arith
