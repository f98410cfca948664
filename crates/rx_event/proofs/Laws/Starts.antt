-- Where two courses of what is forced after one history begin alike: at the connection of the hub that waits, or at once.
use Rattle.rx_event.proofs.Laws.Common.{◌≡◌, ℕ, ◌≤◌, List, [], ◌∷◌, ◌++◌, length, take, slice_get, refl, sym, ap, subst, ◌∙◌, inl, inr, ◌⊎◌, arith}
use Rattle.rx_event.proofs.Laws.Common.{append_assoc, append-nil, length-append, same_Some, AllByRecursion, Kept, shown, Event, Connect, Accept, Moment}
use Rattle.rx_event.proofs.Laws.Common.{moments_after, connecting, due, IsForced, IsConnectDue, IsConnected, IsSettled, forced, allowed, opened_with, stays}
use Rattle.rx_event.proofs.Laws.Common.{more, MayFollow, IsLawful, IsForcedOn}
use Rattle.std.proofs.Math.Seq.{take-append_seam}
use Rattle.rx_event.specs.Forced.{none_waits, one_waits, MayWait}
use Rattle.rx_event.proofs.Laws.Lawful.{moments_after-push, IsLawful-push}
use Rattle.rx_event.proofs.Laws.Places.{slice_get_last}
use Rattle.rx_event.proofs.Laws.Steps.{by_events}
use Rattle.rx_event.proofs.Laws.Waits.{settled_connected, waits_after, waited_before, auto_before, connected_first, kept_due}
use Rattle.rx_event.proofs.Laws.Dues.{IsDueOn, forced_due_on}

-- the history before -------------------------------------------------------------------------------------

all_front : {X : Type 0} (P : X → Type 0) (xs : List X) (x : X) → AllByRecursion P (xs ++ x ∷ []) → AllByRecursion P xs
all_front P [] x all = tt
all_front P (y ∷ xs) x all = (all.0, all_front P xs x all.1)

all_last : {X : Type 0} (P : X → Type 0) (xs : List X) (x : X) → AllByRecursion P (xs ++ x ∷ []) → P x
all_last P [] x all = all.0
all_last P (y ∷ xs) x all = all_last P xs x all.1

split_last : (xs : List Event) → (xs ≡ []) ⊎ ((ys : List Event) × (y : Event) × (xs ≡ ys ++ y ∷ []))
split_last [] = inl refl
split_last (x ∷ xs) = elim (split_last xs) [ inl none ↦ inr ([], x, ap (λ k. x ∷ k) none) | inr w ↦ inr (x ∷ w.0, w.1, ap (λ k. x ∷ k) w.2) ]

same_push : (xs ys : List Event) (x y : Event) → xs ++ x ∷ [] ≡ ys ++ y ∷ [] → (xs ≡ ys) × (x ≡ y)
same_push xs ys x y same =
    let long : length xs ≡ length ys = (let l = ap length same in omega (arith, length-append xs (x ∷ []), length-append ys (y ∷ []))) in
    let front : xs ≡ ys = sym (take-append_seam xs (x ∷ [])) ∙ (λ i. take (long i) (same i)) ∙ take-append_seam ys (y ∷ []) in
    (front, same_Some x y (sym (slice_get_last xs x) ∙ (λ i. slice_get (same i) (long i)) ∙ slice_get_last ys y))

lawful_parts : (base : Kept) → (h : List Event) (e : Event) → length (shown base) ≤ length h → IsLawful base (h ++ e ∷ []) →
    IsLawful base h × MayFollow base h e
lawful_parts base h e long law = by_case (split_last law.since) where
  by_case : (law.since ≡ []) ⊎ ((ys : List Event) × (y : Event) × (law.since ≡ ys ++ y ∷ [])) → IsLawful base h × MayFollow base h e
  by_case (inl none) =
      let same : h ++ e ∷ [] ≡ shown base = law.reads ∙ ap (λ k. shown base ++ k) none ∙ append-nil (shown base) in
      absurd (let l = ap length same in omega (arith, length-append h (e ∷ [])))
  by_case (inr (xs, x, ends)) =
      let same : h ++ e ∷ [] ≡ (shown base ++ xs) ++ x ∷ [] = law.reads ∙ ap (λ k. shown base ++ k) ends ∙ sym (append_assoc (shown base) xs (x ∷ [])) in
      let parts = same_push h (shown base ++ xs) e x same in
      let each : AllByRecursion (λ (m : Moment). MayFollow base m.before m.event)
      (moments_after (shown base) xs ++ (record { before = shown base ++ xs; event = x }) ∷ []) =
      subst (λ ms. AllByRecursion (λ (m : Moment). MayFollow base m.before m.event) ms)
      (ap (moments_after (shown base)) ends ∙ moments_after-push (shown base) xs x) law.each in (
        record {
          started = law.started;
          since = xs;
          reads = parts.0;
          each = all_front (λ (m : Moment). MayFollow base m.before m.event) (moments_after (shown base) xs) (record { before = shown base ++ xs; event = x })
              each;
        },
        subst (λ k. MayFollow base k e) (sym parts.0) (subst (λ z. MayFollow base (shown base ++ xs) z) (sym parts.1)
            (all_last (λ (m : Moment). MayFollow base m.before m.event) (moments_after (shown base) xs) (record { before = shown base ++ xs; event = x })
            each)),
      )

-- what a lawful history began with is lawful, where it has all that the base shows
pub lawful_front : (base : Kept) → (h : List Event) (e : Event) → length (shown base) ≤ length h → IsLawful base (h ++ e ∷ []) → IsLawful base h
lawful_front base h e long law = (lawful_parts base h e long law).0

-- and its last event may follow
pub lawful_last : (base : Kept) → (h : List Event) (e : Event) → length (shown base) ≤ length h → IsLawful base (h ++ e ∷ []) → MayFollow base h e
lawful_last base h e long law = (lawful_parts base h e long law).1

forced_longer : (base : Kept) → {b k : List Event} → IsForcedOn base b k → length b ≤ length k
forced_longer base stays = omega arith
forced_longer base (more {k = k} {e = e} on f) = let before = forced_longer base on in omega (arith, length-append k (e ∷ []))

pub lawful_begun : (base : Kept) → {b k : List Event} → IsForcedOn base b k → length (shown base) ≤ length b → IsLawful base k → IsLawful base b
lawful_begun base stays long law = law
lawful_begun base (more {k = k} {e = e} on f) long law =
    lawful_begun base on long (lawful_front base k e (let longer = forced_longer base on in omega arith) law)

-- the first event of a course
pub record BeginsWith (base : Kept) (b k : List Event) : Type 0 where
  pub event : Event
  pub first : IsForced base b event
  pub rest : IsForcedOn base (b ++ event ∷ []) k

pub begins_with : (base : Kept) → {b k : List Event} → IsForcedOn base b k → (k ≡ b) ⊎ BeginsWith base b k
begins_with base stays = inl refl
begins_with base {b = b} (more {k = k} {e = e} on f) = by_rest (begins_with base on) f where
  by_rest : (k ≡ b) ⊎ BeginsWith base b k → IsForced base k e → (k ++ e ∷ [] ≡ b) ⊎ BeginsWith base b (k ++ e ∷ [])
  by_rest (inr begun) f = inr (record { event = begun.event; first = begun.first; rest = more begun.rest f })
  by_rest (inl same) f = inr (record {
    event = e;
    first = subst (λ (q : List Event). IsForced base q e) same f;
    rest = subst (λ (q : List Event). IsForcedOn base (q ++ e ∷ []) (k ++ e ∷ [])) same stays;
  })

-- one hub waits at most ----------------------------------------------------------------------------------

abbrev OneWaits : List Event → Type 0
OneWaits h = (g j : ℕ) → IsConnectDue h g → IsConnectDue h j → g ≡ j

none_wait : (h : List Event) → IsConnected h → OneWaits h
none_wait h whole g j d x = absurd (whole g d)

may_wait_one : (h : List Event) {most : ℕ} → MayWait h most → OneWaits h
may_wait_one h (none_waits whole) = none_wait h whole
may_wait_one h (one_waits only) = λ g j d x. only g d ∙ sym (only j x)

waits_before : (base : Kept) → (h : List Event) (n tag g : ℕ) → IsLawful base h → IsConnectDue (h ++ Accept n tag ∷ []) g → IsConnectDue h g
waits_before base h n tag g law d = waited_before base h (Accept n tag) g refl refl (auto_before base h (Accept n tag) g law refl d) d

one_waits_after : (base : Kept) → (h : List Event) (e : Event) → IsLawful base h → MayFollow base h e → OneWaits h → OneWaits (h ++ e ∷ [])
one_waits_after base h e law (allowed settled a) before = may_wait_one (h ++ e ∷ []) (waits_after base h e law (settled_connected base h settled) a)
one_waits_after base h e law (forced (due whole d)) before = none_wait (h ++ e ∷ []) (kept_due base h e whole d)
one_waits_after base h e law (forced (connecting {g = g} d)) before = none_wait (h ++ Connect g ∷ []) (connected_first base h g (λ i w. before i g w d))
one_waits_after base h e law (opened_with {n = n} {tag = tag} at_n long o) before =
    λ g j d x. before g j (waits_before base h n tag g law d) (waits_before base h n tag j law x)

pub one_hub_waits : (base : Kept) → (h : List Event) → IsLawful base h → (g j : ℕ) → IsConnectDue h g → IsConnectDue h j → g ≡ j
one_hub_waits base = by_events base OneWaits (λ started. none_wait (shown base) (settled_connected base (shown base) started.settled)) (one_waits_after base)

-- a common beginning -------------------------------------------------------------------------------------

-- From start on no hub waits, so all that comes to k and to j is due
pub record StartAlike (base : Kept) (b k j : List Event) : Type 0 where
  pub start : List Event
  pub begun : (start ≡ b) ⊎ ((g : ℕ) × (start ≡ b ++ Connect g ∷ []))
  pub law : IsLawful base start
  pub whole : IsConnected start
  pub one : IsDueOn base start k
  pub other : IsDueOn base start j

starts_at : (base : Kept) → {b k j : List Event} → IsLawful base b → IsConnected b → IsForcedOn base b k → IsForcedOn base b j → StartAlike base b k j
starts_at base {b = b} law whole on_k on_j =
    record { start = b; begun = inl refl; law = law; whole = whole; one = forced_due_on base on_k whole; other = forced_due_on base on_j whole }

pub starts_with : (base : Kept) → {b k j : List Event} → IsLawful base b → IsForcedOn base b k → IsForcedOn base b j → {e x : Event} → IsForced base b e →
    IsForcedOn base (b ++ e ∷ []) k → IsForced base b x → IsForcedOn base (b ++ x ∷ []) j → StartAlike base b k j
starts_with base law on_k on_j (due whole d) rest_k f rest_j = starts_at base law whole on_k on_j
starts_with base law on_k on_j (connecting {g = g} d) rest_k (due whole x) rest_j = absurd (whole g d)
starts_with base {b = b} {j = j} law on_k on_j (connecting {g = g} d) rest_k (connecting {g = i} x) rest_j =
    let same : i ≡ g = one_hub_waits base b law i g x d in
    let whole : IsConnected (b ++ Connect g ∷ []) = connected_first base b g (λ m w. one_hub_waits base b law m g w d) in
    record {
      start = b ++ Connect g ∷ [];
      begun = inr (g, refl);
      law = IsLawful-push base b (Connect g) law (forced (connecting d));
      whole = whole;
      one = forced_due_on base rest_k whole;
      other = forced_due_on base (subst (λ (m : ℕ). IsForcedOn base (b ++ Connect m ∷ []) j) same rest_j) whole;
    }

-- two courses after which nothing is forced
pub start_alike : (base : Kept) → {b k j : List Event} → IsLawful base b → IsForcedOn base b k → IsSettled base k → IsForcedOn base b j → IsSettled base j →
    StartAlike base b k j
start_alike base {b = b} {k = k} {j = j} law on_k settled_k on_j settled_j = by_first (begins_with base on_k) (begins_with base on_j) where
  settled_first : (q : List Event) → IsSettled base q → q ≡ b → StartAlike base b k j
  settled_first q settled same = starts_at base law (subst (λ (p : List Event). IsConnected p) same (settled_connected base q settled)) on_k on_j

  by_first : (k ≡ b) ⊎ BeginsWith base b k → (j ≡ b) ⊎ BeginsWith base b j → StartAlike base b k j
  by_first (inl same) other = settled_first k settled_k same
  by_first (inr begun) (inl same) = settled_first j settled_j same
  by_first (inr begun) (inr also) = starts_with base law on_k on_j begun.first begun.rest also.first also.rest
