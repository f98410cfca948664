-- Histories, one event more at a time: proofs by their events, and what stands where an event may follow.
use Rattle.rx_event.proofs.Laws.Common.{◌≡◌, ℕ, ℤ, ◌<◌, Bool, true, false, List, [], ◌∷◌, ◌++◌, take, Some, refl, sym, ap, ◌∙◌, subst, arith, slice_get}
use Rattle.rx_event.proofs.Laws.Common.{append_assoc, append-nil, AllByRecursion, false≢true, lt-ltb, slice_get_within, same_Some, none-some, Kept, shown}
use Rattle.rx_event.proofs.Laws.Common.{Place, Kind, Event, Open, Connect, Accept, Use, Remove, Lease, Return, Item, Decline, End, Close, Take, is_merging}
use Rattle.rx_event.proofs.Laws.Common.{parent_named, at, parent, is_open, is_owned, is_out, is_held, is_waiting, Moment, moments_after, owed, left, due, IsDue}
use Rattle.rx_event.proofs.Laws.Common.{IsForced, IsAllowed, Started, MayFollow, IsLawful, common_steps}
use Rattle.rx_event.specs.Allowed.{IsFree}
use Rattle.rx_event.proofs.Laws.Openness.{is_open_within}
use Rattle.rx_event.proofs.Laws.Lawful.{IsLawful-push, IsLawful_empty, in_base, since_base, FoundAt, found_at}
use Rattle.std.proofs.Common.{rules}

by_pushes_after : (P : List Event → Type 0) → ((h : List Event) (e : Event) → P h → P (h ++ e ∷ [])) → (b h : List Event) → P b → P (b ++ h)
by_pushes_after P step b [] p = rw (append-nil b) p
by_pushes_after P step b (x ∷ h) p = rw (← append_assoc b (x ∷ []) h) (by_pushes_after P step (b ++ x ∷ []) h (step b x p))

-- what holds of the empty history, and after each event, holds of each history
pub by_pushes : (P : List Event → Type 0) → P [] → ((h : List Event) (e : Event) → P h → P (h ++ e ∷ [])) → (h : List Event) → P h
by_pushes P start step h = by_pushes_after P step [] h start

by_events_after : (base : Kept) → (P : List Event → Type 0) → ((h : List Event) (e : Event) → IsLawful base h → MayFollow base h e → P h → P (h ++ e ∷ [])) →
    (b h : List Event) → IsLawful base b → P b → AllByRecursion (λ (m : Moment). MayFollow base m.before m.event) (moments_after b h) → P (b ++ h)
by_events_after base P step b [] law p each = rw (append-nil b) p
by_events_after base P step b (x ∷ h) law p each =
    rw (← append_assoc b (x ∷ []) h) (by_events_after base P step (b ++ x ∷ []) h (IsLawful-push base b x law each.0) (step b x law each.0 p) each.1)

-- what holds of what the base shows, and after each event that may follow, holds of each lawful history
pub by_events : (base : Kept) → (P : List Event → Type 0) → (Started base → P (shown base)) →
    ((h : List Event) (e : Event) → IsLawful base h → MayFollow base h e → P h → P (h ++ e ∷ [])) → (h : List Event) → IsLawful base h → P h
by_events base P start step h law =
    subst P (sym law.reads) (by_events_after base P step (shown base) law.since (IsLawful_empty base law.started) (start law.started) law.each)

-- what operators may have to do: a connection, an end or a closing
abbrev pub may_be_forced : Event → Bool
may_be_forced (Connect g) = true
may_be_forced (End n t) = true
may_be_forced (Close n) = true
may_be_forced _ = false

pub forced_kind : (base : Kept) → {h : List Event} {e : Event} → IsForced base h e → may_be_forced e ≡ true
forced_kind base x1 = search (rules)

-- what is accepted is accepted at an open node
pub may_accept : (base : Kept) → {h : List Event} {n tag : ℕ} → MayFollow base h (Accept n tag) → is_open h n ≡ true
may_accept base x1 = search (rules, false≢true, forced_kind)

-- what is used is held
pub may_use : (base : Kept) → {h : List Event} {r : ℕ} → MayFollow base h (Use r) → is_held h r ≡ true
may_use base x1 = search (rules, false≢true, forced_kind)

-- what is removed is owned
pub may_remove : (base : Kept) → {h : List Event} {r : ℕ} → MayFollow base h (Remove r) → is_owned h r ≡ true
may_remove base x1 = search (rules, false≢true, forced_kind)

-- what is leased is owned
pub may_lease : (base : Kept) → {h : List Event} {r : ℕ} → MayFollow base h (Lease r) → is_owned h r ≡ true
may_lease base x1 = search (rules, false≢true, forced_kind)

-- what is returned is out
pub may_return : (base : Kept) → {h : List Event} {l : ℕ} → MayFollow base h (Return l) → is_out h l ≡ true
may_return base x1 = search (rules, false≢true, forced_kind)

-- what is taken waits
pub may_take : (base : Kept) → {h : List Event} {r : ℕ} → MayFollow base h (Take r) → is_waiting h r ≡ true
may_take base x1 = search (rules, false≢true, forced_kind)

due_close : (base : Kept) → {h : List Event} {c : ℕ} → IsDue base h (Close c) → is_open h c ≡ true
due_close base (left o at_c a n) = o

allowed_close : (base : Kept) → {h : List Event} {c : ℕ} → IsAllowed base h (Close c) → is_open h c ≡ true
allowed_close base given = grind arith

-- what is closed is open before
pub may_close : (base : Kept) → {h : List Event} {c : ℕ} → MayFollow base h (Close c) → is_open h c ≡ true
may_close base x1 = search (rules, due, due_close, allowed_close)

-- what is opened is opened at a free place
pub may_open : (base : Kept) → {h : List Event} {place : Place} {kind : Kind} → MayFollow base h (Open place kind) → IsFree base h place
may_open base x1 = search (rules, false≢true, forced_kind)

-- what emits is open
pub may_emit : (base : Kept) → {h : List Event} {l : ℕ} {value : ℤ} → MayFollow base h (Item l value) → is_open h l ≡ true
may_emit base x1 = search (rules, false≢true, forced_kind)

-- what declines is an open FlatMap or Switch that owes
pub may_decline : (base : Kept) → {h : List Event} {f : ℕ} → MayFollow base h (Decline f) →
    (is_open h f ≡ true) × (at is_merging h f ≡ true) × (0 < owed base h f)
may_decline base x1 = search (rules, false≢true, forced_kind)

-- a node that may be opened is named below an open node
pub may_name : (base : Kept) → {h : List Event} {e : Event} {p : ℕ} → MayFollow base h e → parent_named e ≡ Some p → is_open h p ≡ true
may_name base next named = search (rules, same_Some, may_open, none-some)

pub named_open : (base : Kept) → (h : List Event) → IsLawful base h → (n p : ℕ) (e : Event) → slice_get h n ≡ Some e → parent_named e ≡ Some p →
    is_open (take n h) p ≡ true
named_open base h law n p e at_n named = by_case (found_at base h law n e at_n) where
  by_case : FoundAt base h n e → is_open (take n h) p ≡ true
  by_case (in_base found same) = ap (λ k. is_open k p) same ∙ law.started.names n p e found named
  by_case (since_base next) = may_name base next named

-- so it has a larger number
pub named_below : (base : Kept) → (h : List Event) → IsLawful base h → (n p : ℕ) (e : Event) → slice_get h n ≡ Some e → parent_named e ≡ Some p → p < n
named_below base h law n p e at_n named =
    let o = is_open_within (take n h) p (named_open base h law n p e at_n named) in
    let l = slice_get_within h n e at_n in grind (arith, common_steps)

-- and stands below the node that it names
pub parent-named : (base : Kept) → (h : List Event) → IsLawful base h → (n p : ℕ) (e : Event) → slice_get h n ≡ Some e → parent_named e ≡ Some p →
    parent h n ≡ Some p
unfolding parent
parent-named base h law n p e at_n named = rw (at_n, named, lt-ltb p n (named_below base h law n p e at_n named)) refl
