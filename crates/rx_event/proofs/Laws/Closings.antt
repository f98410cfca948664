-- Neither a closing nor what is forced opens a root or connects a hub that a caller connects, so what a caller holds open grows less.
use Rattle.rx_event.proofs.Laws.Common.{◌≡◌, ℕ, ◌+◌, ◌<◌, ◌≤◌, Bool, true, false, List, [], ◌∷◌, ◌++◌, length, Option, Some, cond, refl, sym, ap, ◌∙◌}
use Rattle.rx_event.proofs.Laws.Common.{arith, inl, inr, ◌⊎◌, slice_get, append_assoc, append-nil, not, count_by, option_map_or, both_ways, false≢true}
use Rattle.rx_event.proofs.Laws.Common.{and_parts, and_from, eq-eqb, false_from_ne_true, slice_get_within, Kept, Manual, Event, Hub, Connect, Close, makes_node}
use Rattle.rx_event.proofs.Laws.Common.{makes_hub, is_root, is_auto_hub, is_manual_hub, at, places, is_open, open_connections, connecting, due, IsDue, IsForced}
use Rattle.rx_event.proofs.Laws.Common.{stays, more, IsForcedOn, IsLawful, and_false, list_all, not-true}
use Rattle.std.proofs.lemmas.Bool.{and_left}
use Rattle.rx_event.specs.Claims.Closing.{is_open_root, is_manual_connect, is_manual_connection, open_root_count, manual_connection_count, IsLetGo}
use Rattle.rx_event.specs.Claims.Closing.{makes_neither, MakesNeither}
use Rattle.rx_event.proofs.Laws.Places.{slice_get-append, cases_push}
use Rattle.rx_event.proofs.Laws.Openness.{is_open_within, is_open_cut, is_open_outside-close}
use Rattle.rx_event.proofs.Laws.Stands.{event_at}
use Rattle.rx_event.proofs.Laws.Sums.{sum_by-places-push, sum_by_no_rise, sum_by_falls}
use Rattle.rx_event.proofs.Laws.Totals.{is_within_self}
use Rattle.rx_event.proofs.Laws.Hubs.{one_connection}
use Rattle.rx_event.proofs.Laws.LetGo.{connection_listed, first_connection, open_passes_within}
use Rattle.std.proofs.Common.{rules}

-- events that open nothing anew --------------------------------------------------------------------

-- The event opens no root, makes no hub, and connects none but one with RefCount
pub record OpensNone (h : List Event) (e : Event) : Type 0 where
  pub no_root : is_root e ≡ false
  pub no_hub : makes_hub e ≡ false
  pub auto : (g : ℕ) → e ≡ Connect g → at is_auto_hub h g ≡ true

no_node_no_root : (e : Event) → makes_node e ≡ false → is_root e ≡ false
no_node_no_root e none = grind arith

-- what makes neither a node nor a hub opens nothing
pub neither_opens : (h : List Event) (e : Event) → makes_node e ≡ false → makes_hub e ≡ false → OpensNone h e
neither_opens h e no_node no_hub = record {
  no_root = no_node_no_root e no_node;
  no_hub = no_hub;
  auto = λ g same. absurd (both_ways (makes_node e) no_node (ap makes_node same));
}

due_opens : (base : Kept) → {h : List Event} {e : Event} → IsDue base h e → OpensNone h e
due_opens base x2 = search (rules, neither_opens)

-- nor does what is forced
pub forced_opens : (base : Kept) → {h : List Event} {e : Event} → IsForced base h e → OpensNone h e
forced_opens base (due n d) = due_opens base d
forced_opens base {h = h} (connecting {g = g} d) = record {
  no_root = refl;
  no_hub = refl;
  auto = λ k same. let hub : g ≡ k = cc in rw (← hub) d.auto;
}

-- From h to k nothing was opened anew
pub data OpensNoneUpTo (h : List Event) : List Event → Type 0 where
  stays_so : OpensNoneUpTo h h
  one_further : {k : List Event} {e : Event} → OpensNoneUpTo h k → OpensNone k e → OpensNoneUpTo h (k ++ e ∷ [])

forced_on : (base : Kept) → {h m k : List Event} → IsForcedOn base m k → OpensNoneUpTo h m → OpensNoneUpTo h k
forced_on base stays before = before
forced_on base (more rest f) before = one_further (forced_on base rest before) (forced_opens base f)

outside_on : (h m outside : List Event) → list_all makes_neither outside ≡ true → OpensNoneUpTo h m → OpensNoneUpTo h (m ++ outside)
outside_on h m [] neither before = rw (append-nil m) before
outside_on h m (e ∷ outside) neither before =
    let parts : (makes_neither e ≡ true) × (list_all makes_neither outside ≡ true) = and_parts _ _ neither in
    let first : (not (makes_node e) ≡ true) × (not (makes_hub e) ≡ true) = and_parts _ _ parts.0 in
    let opens : OpensNone m e = neither_opens m e (not-true _ first.0) (not-true _ first.1) in
    rw (← append_assoc m (e ∷ []) outside) (outside_on h (m ++ e ∷ []) outside parts.1 (one_further before opens))

-- so after events that make neither a node nor a hub, and what they force
pub makes_neither_opens : (base : Kept) → {h k : List Event} → MakesNeither base h k → OpensNoneUpTo h k
makes_neither_opens base {h = h} on = forced_on base on.forced (outside_on h h on.outside on.neither stays_so)

-- roots --------------------------------------------------------------------------------------------

root_before : (h : List Event) (e : Event) → OpensNone h e → (n : ℕ) → is_open_root (h ++ e ∷ []) n ≡ true → is_open_root h n ≡ true
root_before h e opens n found = by_place (cases_push h e made.0 n made.1) where
  parts : (is_open (h ++ e ∷ []) n ≡ true) × (at is_root (h ++ e ∷ []) n ≡ true)
  parts = and_parts _ _ found

  made : (x : Event) × (slice_get (h ++ e ∷ []) n ≡ Some x)
  made = event_at (h ++ e ∷ []) n (is_open_within (h ++ e ∷ []) n parts.0)

  root : is_root made.0 ≡ true
  root = sym (ap (λ (o : Option Event). option_map_or is_root o false) made.1) ∙ parts.1

  by_place : (slice_get h n ≡ Some made.0) ⊎ (e ≡ made.0) → is_open_root h n ≡ true
  by_place (inr same) = absurd (both_ways (is_root e) opens.no_root (ap is_root same ∙ root))
  by_place (inl at_n) =
      let l : n < length h = slice_get_within h n made.0 at_n in
      let older : at is_root h n ≡ true = rw at_n root in
      and_from _ _ (and_parts _ _ (sym (is_open_cut h e n l) ∙ parts.0)).0 older

pub roots_before : {h k : List Event} → OpensNoneUpTo h k → (n : ℕ) → is_open_root k n ≡ true → is_open_root h n ≡ true
roots_before stays_so n found = found
roots_before (one_further {k = k} {e = e} rest opens) n found = roots_before rest n (root_before k e opens n found)

-- connections by hand ------------------------------------------------------------------------------

-- An open connection of a hub that a caller connects
pub record IsManualConnection (h : List Event) (g c : ℕ) : Type 0 where
  pub connected : slice_get h c ≡ Some (Connect g)
  pub manual : slice_get h g ≡ Some (Hub Manual)
  pub alive : is_open h c ≡ true

pub manual_hub : (h : List Event) (g : ℕ) → at is_manual_hub h g ≡ true → slice_get h g ≡ Some (Hub Manual)
manual_hub h g = by_event (slice_get h g) where
  by_event : (o : Option Event) → option_map_or is_manual_hub o false ≡ true → o ≡ Some (Hub Manual)
  by_event o manual = grind arith

pub manual_connection : (h : List Event) (c : ℕ) → is_manual_connection h c ≡ true → (g : ℕ) × IsManualConnection h g c
manual_connection h c found = by_event (slice_get h c) refl (and_parts _ _ found).1 where
  by_event : (o : Option Event) → slice_get h c ≡ o → option_map_or (is_manual_connect h) o false ≡ true → (g : ℕ) × IsManualConnection h g c
  by_event (Some (Connect g)) at_c manual = (g, record { connected = at_c; manual = manual_hub h g manual; alive = (and_parts _ _ found).0 })
  by_event _ at_c manual = absurd (false≢true manual)

pub connection_manual : (h : List Event) (g c : ℕ) → IsManualConnection h g c → is_manual_connection h c ≡ true
connection_manual h g c m = and_from _ _ m.alive (rw (m.connected, m.manual) refl)

hub_before : (h : List Event) (e : Event) (g : ℕ) → OpensNone h e → slice_get (h ++ e ∷ []) g ≡ Some (Hub Manual) → slice_get h g ≡ Some (Hub Manual)
hub_before h e g opens manual = search (rules, cases_push, manual, slice_get, both_ways)

connection_before : (h : List Event) (e : Event) (g c : ℕ) → OpensNone h e → IsManualConnection (h ++ e ∷ []) g c → IsManualConnection h g c
connection_before h e g c opens m = by_place (cases_push h e (Connect g) c m.connected) where
  hub : slice_get h g ≡ Some (Hub Manual)
  hub = hub_before h e g opens m.manual

  by_place : (slice_get h c ≡ Some (Connect g)) ⊎ (e ≡ Connect g) → IsManualConnection h g c
  by_place (inr same) = absurd (both_ways _ (ap (λ (o : Option Event). option_map_or is_auto_hub o false) hub) (opens.auto g same))
  by_place (inl at_c) =
      let l : c < length h = slice_get_within h c (Connect g) at_c in
      record { connected = at_c; manual = hub; alive = (and_parts _ _ (sym (is_open_cut h e c l) ∙ m.alive)).0 }

pub hubs_before : {h k : List Event} → OpensNoneUpTo h k → (g : ℕ) → slice_get k g ≡ Some (Hub Manual) → slice_get h g ≡ Some (Hub Manual)
hubs_before stays_so g manual = manual
hubs_before (one_further {k = k} {e = e} rest opens) g manual = hubs_before rest g (hub_before k e g opens manual)

pub connections_before : {h k : List Event} → OpensNoneUpTo h k → (g c : ℕ) → IsManualConnection k g c → IsManualConnection h g c
connections_before stays_so g c m = m
connections_before (one_further {k = k} {e = e} rest opens) g c m = connections_before rest g c (connection_before k e g c opens m)

pub manual_before : {h k : List Event} → OpensNoneUpTo h k → (c : ℕ) → is_manual_connection k c ≡ true → is_manual_connection h c ≡ true
manual_before {h = h} {k = k} on c found =
    let m : (g : ℕ) × IsManualConnection k g c = manual_connection k c found in connection_manual h m.0 c (connections_before on m.0 c m.1)

-- the event at a place stays
kept_at : {h k : List Event} → OpensNoneUpTo h k → (n : ℕ) (x : Event) → slice_get h n ≡ Some x → slice_get k n ≡ Some x
kept_at stays_so n x at_n = at_n
kept_at (one_further {k = k} {e = e} rest opens) n x at_n = search (rules, slice_get-append, slice_get_within, kept_at rest n x at_n)

-- so a hub that a caller connects, and that was not connected, is not connected
pub stays_unconnected : {h k : List Event} → OpensNoneUpTo h k → (g : ℕ) → slice_get k g ≡ Some (Hub Manual) → open_connections h g ≡ [] →
    open_connections k g ≡ []
stays_unconnected {h = h} {k = k} on g manual none = by_list (open_connections k g) refl where
  by_list : (cs : List ℕ) → open_connections k g ≡ cs → cs ≡ []
  by_list [] found = refl
  by_list (c ∷ cs) found =
      let first : (slice_get k c ≡ Some (Connect g)) × (is_open k c ≡ true) = first_connection k g c cs found in
      let before : IsManualConnection h g c = connections_before on g c (record { connected = first.0; manual = manual; alive = first.1 }) in
      absurd (connection_listed h g c before.connected before.alive none)

pub unconnected_after : {h k : List Event} → OpensNoneUpTo h k → (g : ℕ) → at is_manual_hub h g ≡ true → open_connections h g ≡ [] → open_connections k g ≡ []
unconnected_after {h = h} on g manual none = stays_unconnected on g (kept_at on g (Hub Manual) (manual_hub h g manual)) none

-- a caller who holds nothing open holds nothing open after it
pub let_go_after : {h k : List Event} → OpensNoneUpTo h k → IsLetGo h → IsLetGo k
let_go_after {h = h} {k = k} on free = record {
  unsubscribed = λ n. false_from_ne_true _ (λ found. both_ways _ (free.unsubscribed n) (roots_before on n found));
  disconnected = λ g manual. still g (manual_hub k g manual);
} where
  still : (g : ℕ) → slice_get k g ≡ Some (Hub Manual) → open_connections k g ≡ []
  still g manual = stays_unconnected on g manual (free.disconnected g (rw (hubs_before on g manual) refl))

-- counts -------------------------------------------------------------------------------------------

-- What is counted is in the history, and after an event that opens nothing it was counted before
pub record IsKeptBack (t : List Event → ℕ → Bool) : Type 0 where
  pub within : (h : List Event) (n : ℕ) → t h n ≡ true → n < length h
  pub before : (h : List Event) (e : Event) → OpensNone h e → (n : ℕ) → t (h ++ e ∷ []) n ≡ true → t h n ≡ true

roots_kept_back : IsKeptBack is_open_root
roots_kept_back = record { within = λ h n found. open_passes_within h is_root n found; before = root_before }

connections_kept_back : IsKeptBack is_manual_connection
connections_kept_back = record {
  within = λ h n found. open_passes_within h (is_manual_connect h) n found;
  before = λ h e opens n found. manual_before (one_further stays_so opens) n found;
}

bit_le : (a b : Bool) → (b ≡ true → a ≡ true) → cond {A = ℕ} b 1 0 ≤ cond {A = ℕ} a 1 0
bit_le a b same = grind arith

count_after : (t : List Event → ℕ → Bool) (h : List Event) (e : Event) → IsKeptBack t → OpensNone h e →
    count_by (t (h ++ e ∷ [])) (places (h ++ e ∷ [])) ≡ count_by (t (h ++ e ∷ [])) (places h)
count_after t h e kept opens = search (rules, sum_by-places-push, cond, length, false_from_ne_true)

count_no_more : (t : List Event → ℕ → Bool) → IsKeptBack t → {h k : List Event} → OpensNoneUpTo h k → count_by (t k) (places k) ≤ count_by (t h) (places h)
count_no_more t kept stays_so = omega arith
count_no_more t kept (one_further {k = k} {e = e} rest opens) = search (rules, sum_by_no_rise, cond, length, bit_le, count_after, count_no_more t kept rest)

-- what the event takes away is one less
count_less : (t : List Event → ℕ → Bool) (h : List Event) (e : Event) (c : ℕ) → IsKeptBack t → OpensNone h e → t h c ≡ true → t (h ++ e ∷ []) c ≡ false →
    count_by (t (h ++ e ∷ [])) (places (h ++ e ∷ [])) + 1 ≤ count_by (t h) (places h)
count_less t h e c kept opens there gone =
    let one : cond {A = ℕ} (t h c) 1 0 ≡ 1 = ap (λ (b : Bool). cond {A = ℕ} b 1 0) there in
    let none : cond {A = ℕ} (t (h ++ e ∷ []) c) 1 0 ≡ 0 = ap (λ (b : Bool). cond {A = ℕ} b 1 0) gone in
    let older = sum_by_falls (λ n. cond (t h n) 1 0) (λ n. cond (t (h ++ e ∷ []) n) 1 0) (length h) c (kept.within h c there)
    (λ n l. bit_le (t h n) (t (h ++ e ∷ []) n) (kept.before h e opens n)) (omega arith) in
    let same = count_after t h e kept opens in omega arith

pub roots_no_more : {h k : List Event} → OpensNoneUpTo h k → open_root_count k ≤ open_root_count h
roots_no_more on = count_no_more is_open_root roots_kept_back on

pub connections_no_more : {h k : List Event} → OpensNoneUpTo h k → manual_connection_count k ≤ manual_connection_count h
connections_no_more on = count_no_more is_manual_connection connections_kept_back on

-- closings -----------------------------------------------------------------------------------------

close_opens : (h : List Event) (c : ℕ) → OpensNone h (Close c)
close_opens h c = neither_opens h (Close c) refl refl

-- what is closed is not open
closed_after : (h : List Event) (c : ℕ) → is_open (h ++ Close c ∷ []) c ≡ false
closed_after h c = is_open_outside-close h c c ∙ rw (is_within_self h c) (and_false (is_open h c))

-- and a root or a connection less, whatever is forced then
pub root_less : (base : Kept) → (h k : List Event) (n : ℕ) → is_open_root h n ≡ true → IsForcedOn base (h ++ Close n ∷ []) k →
    open_root_count k + 1 ≤ open_root_count h
root_less base h k n root f =
    let rest = roots_no_more (forced_on base f stays_so) in
    let less = count_less is_open_root h (Close n) n roots_kept_back (close_opens h n) root (and_left _ _ (closed_after h n)) in omega arith

pub connection_less : (base : Kept) → (h k : List Event) (c : ℕ) → is_manual_connection h c ≡ true → IsForcedOn base (h ++ Close c ∷ []) k →
    manual_connection_count k + 1 ≤ manual_connection_count h
connection_less base h k c connection f =
    let rest = connections_no_more (forced_on base f stays_so) in
    let less = count_less is_manual_connection h (Close c) c connections_kept_back (close_opens h c) connection (and_left _ _ (closed_after h c)) in
    omega arith

-- the hub of a connection that is closed is not connected then
pub hub_disconnected : {base : Kept} {h k : List Event} {g : ℕ} (c : ℕ) → IsLawful base h → at is_manual_hub h g ≡ true → is_open h c ≡ true →
    slice_get h c ≡ Some (Connect g) → IsForcedOn base (h ++ Close c ∷ []) k → open_connections k g ≡ []
hub_disconnected {base} {h} {k} {g} c law manual alive connects f =
    unconnected_after (forced_on base f stays_so) g (rw later refl) (by_list (open_connections (h ++ Close c ∷ []) g) refl)
  where
    hub : slice_get h g ≡ Some (Hub Manual)
    hub = manual_hub h g manual

    later : slice_get (h ++ Close c ∷ []) g ≡ Some (Hub Manual)
    later = slice_get-append h (Close c ∷ []) g (slice_get_within h g (Hub Manual) hub) ∙ hub

    by_list : (cs : List ℕ) → open_connections (h ++ Close c ∷ []) g ≡ cs → cs ≡ []
    by_list [] found = refl
    by_list (d ∷ cs) found =
        let first : (slice_get (h ++ Close c ∷ []) d ≡ Some (Connect g)) × (is_open (h ++ Close c ∷ []) d ≡ true) =
        first_connection (h ++ Close c ∷ []) g d cs found in
        let before : IsManualConnection h g d =
        connection_before h (Close c) g d (close_opens h c) (record { connected = first.0; manual = later; alive = first.1 }) in
        let same : c ≡ d = one_connection base h law g c d
        (record { one = rw connects (eq-eqb g g refl); one_open = alive; other = rw before.connected (eq-eqb g g refl); other_open = before.alive }) in
        absurd (both_ways _ (closed_after h c) (ap (is_open (h ++ Close c ∷ [])) same ∙ first.1))
