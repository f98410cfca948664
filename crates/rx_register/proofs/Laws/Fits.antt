-- What a call adds is what its causes have counted.
use Rattle.std.proofs.Common.{◌≡◌, ℕ, ℤ, ◌+◌, ◌*◌, ◌≤◌, Bool, true, false, List, [], ◌∷◌, ◌++◌, length}
use Rattle.std.proofs.Common.{cond, refl, sym, ap, arith, length-append, append_assoc, rules}
use Rattle.std.specs.List.{count_by}
use Rattle.rx_event.specs.Kept.{Kept}
use Rattle.rx_event.specs.declared.mail.Mail.{Mail}
use Rattle.rx_event.specs.Events.{makes_node}
use Rattle.rx_event.specs.Climb.{stops}
use Rattle.rx_event.specs.Moments.{is_projection}
use Rattle.rx_event.specs.Notes.{notes, mail_of}
use Rattle.rx_event.specs.Totals.{debt, open_count}
use Rattle.rx_event.specs.Forced.{IsConnected, IsSettled, none_waits}
use Rattle.rx_event.specs.Allowed.{IsAllowed}
use Rattle.rx_event.specs.Lawful.{MayFollow, IsLawful}
use Rattle.rx_event.specs.Causes.{end_at, forces_connect, nodes_opened}
use Rattle.rx_note.specs.declared.note.Terminal.{Terminal}
use Rattle.rx_event.specs.declared.event.Place.{Place}
use Rattle.rx_event.specs.declared.event.Kind.{Kind}
use Rattle.rx_event.specs.declared.event.Kind.TheVariants.{Pass}
use Rattle.rx_event.specs.declared.event.Mode.{Mode}
use Rattle.rx_event.specs.declared.event.Event.{Event}
use Rattle.rx_event.specs.declared.event.Event.TheVariants.{Open, Hub, Connect, Accept, Use, Remove, Lease, Return, Item, Decline, End, Close, Take}
use Rattle.rx_event.proofs.Laws.Counts.{notes-push}
use Rattle.rx_event.proofs.Laws.Lawful.{IsLawful-push, may_end}
use Rattle.rx_event.proofs.Laws.Steps.{may_close}
use Rattle.rx_event.proofs.Laws.Openness.{shuts_none}
use Rattle.rx_event.proofs.Laws.Hubs.{may_subscribe}
use Rattle.rx_event.proofs.Laws.Totals.{open_count-push, open_count_made, open_count_falls-end, open_count_falls-close, is_open_new}
use Rattle.rx_event.proofs.Laws.Debt.{debt-root, debt-source, debt-notifier, debt_no_rise-inner, debt-connect, debt-hub, debt-use, debt-accept, debt-remove}
use Rattle.rx_event.proofs.Laws.Debt.{debt-lease, debt-return, debt-take, debt-item, debt-decline, debt_falls-end, debt_falls-close}
use Rattle.rx_event.proofs.Laws.Waits.{kept_end, kept_close_allowed, kept_unsubscribed, settled_connected}
use Rattle.rx_register.specs.Paid.{Fits}
use Rattle.rx_register.proofs.Laws.OpeningForcesConnection.{opening_waits}

-- one event after which no hub waits
fits_one : (base : Kept) → (h : List Event) (e : Event) (events noted : ℕ) → IsConnected (h ++ e ∷ []) → debt base (h ++ e ∷ []) + 1 ≤ debt base h + events →
    open_count (h ++ e ∷ []) + length (mail_of h e) ≤ open_count h + noted → Fits base h (h ++ e ∷ []) events noted
fits_one base h e events noted connected owes opens = record {
  waits = 0;
  may_wait = none_waits connected;
  events = omega (arith, length-append h (e ∷ []));
  told = let n = ap (length {A = Mail}) (notes-push h e) in omega (arith, length-append (notes h) (mail_of h e));
}

-- what makes no node, and ends and closes none
stays_open : (base : Kept) → (h : List Event) (e : Event) → MayFollow base h e → shuts_none e ≡ true → makes_node e ≡ false →
    open_count (h ++ e ∷ []) ≡ open_count h
stays_open base h e next keeps none = search (rules, open_count_made, Bool, cond)

-- openings ----------------------------------------------------------------------------------------

debt_open : (base : Kept) → (h : List Event) (place : Place) (kind : Kind) → IsLawful base h → MayFollow base h (Open place kind) →
    debt base (h ++ Open place kind ∷ []) ≤ debt base h + end_at place
debt_open base h x2 kind law next = search (rules, debt-root, debt-source, debt-notifier, debt_no_rise-inner)

-- an opening makes one node, though an inner of a Switch may close others
opens_one : (base : Kept) → (h : List Event) (place : Place) (kind : Kind) → MayFollow base h (Open place kind) →
    open_count (h ++ Open place kind ∷ []) ≤ open_count h + 1
opens_one base h place kind next =
    search (rules, open_count-push, cond, ℕ, length, Bool, is_open_new)

pub opening_fits : (base : Kept) → (h : List Event) (place : Place) (kind : Kind) → IsLawful base h → IsSettled base h → MayFollow base h (Open place kind) →
    Fits base h (h ++ Open place kind ∷ []) (1 + end_at place + 2 * cond (forces_connect h kind) 1 0) (nodes_opened h kind)
opening_fits base h place kind law settled next = record {
  waits = cond (forces_connect h kind) 1 0;
  may_wait = opening_waits base h place kind law settled (may_subscribe base next);
  events = let d = debt_open base h place kind law next in omega (arith, length-append h (Open place kind ∷ []));
  told = let o = opens_one base h place kind next in let n = ap (length {A = Mail}) (notes-push h (Open place kind)) in
      omega (arith, length-append (notes h) []);
}

pub using_fits : (base : Kept) → (h : List Event) (place : Place) (tag : ℕ) → IsLawful base h → IsSettled base h → MayFollow base h (Open place Pass) →
    MayFollow base (h ++ Open place Pass ∷ []) (Accept (length h) tag) →
    Fits base h (h ++ Open place Pass ∷ Accept (length h) tag ∷ []) (2 + end_at place + 2) 1
using_fits base h place tag law settled next then = record {
  waits = 0;
  may_wait =
      none_waits (rw longer (kept_unsubscribed base k (Accept (length h) tag) lawful
      (kept_unsubscribed base h (Open place Pass) law (settled_connected base h settled) refl refl) refl refl));
  events =
      rw longer (let d = debt_open base h place Pass law next in
      let a = debt-accept base k (length h) tag lawful then in
      omega (arith, length-append k (Accept (length h) tag ∷ []), length-append h (Open place Pass ∷ [])));
  told =
      rw longer (let o = opens_one base h place Pass next in
      let s = stays_open base k (Accept (length h) tag) then refl refl in
      let n = ap (length {A = Mail}) (notes-push k (Accept (length h) tag)) in
      let m = ap (length {A = Mail}) (notes-push h (Open place Pass)) in
      omega (arith, length-append (notes k) [], length-append (notes h) []));
}
  where
    k : List Event
    k = h ++ Open place Pass ∷ []

    longer : h ++ Open place Pass ∷ Accept (length h) tag ∷ [] ≡ k ++ Accept (length h) tag ∷ []
    longer = sym (append_assoc h (Open place Pass ∷ []) (Accept (length h) tag ∷ []))

    lawful : IsLawful base k
    lawful = IsLawful-push base h (Open place Pass) law next

-- resources ---------------------------------------------------------------------------------------

pub holding_fits : (base : Kept) → (h : List Event) (n tag : ℕ) → IsLawful base h → IsSettled base h → MayFollow base h (Accept n tag) →
    Fits base h (h ++ Accept n tag ∷ []) 3 0
holding_fits base h n tag law settled next =
    fits_one base h (Accept n tag) 3 0 (kept_unsubscribed base h (Accept n tag) law (settled_connected base h settled) refl refl)
    (let d = debt-accept base h n tag law next in omega arith) (let o = stays_open base h (Accept n tag) next refl refl in omega arith)

pub applying_fits : (base : Kept) → (h : List Event) (r : ℕ) → IsLawful base h → IsSettled base h → MayFollow base h (Use r) → Fits base h (h ++ Use r ∷ []) 1 0
applying_fits base h r law settled next =
    fits_one base h (Use r) 1 0 (kept_unsubscribed base h (Use r) law (settled_connected base h settled) refl refl)
    (let d = debt-use base h r law next in omega arith) (let o = stays_open base h (Use r) next refl refl in omega arith)

pub removing_fits : (base : Kept) → (h : List Event) (r : ℕ) → IsLawful base h → IsSettled base h → MayFollow base h (Remove r) →
    Fits base h (h ++ Remove r ∷ []) 0 0
removing_fits base h r law settled next =
    fits_one base h (Remove r) 0 0 (kept_unsubscribed base h (Remove r) law (settled_connected base h settled) refl refl)
    (let d = debt-remove base h r law next in omega arith) (let o = stays_open base h (Remove r) next refl refl in omega arith)

pub leasing_fits : (base : Kept) → (h : List Event) (r : ℕ) → IsLawful base h → IsSettled base h → MayFollow base h (Lease r) →
    Fits base h (h ++ Lease r ∷ []) 2 0
leasing_fits base h r law settled next = fits_one base h (Lease r) 2 0 (kept_unsubscribed base h (Lease r) law (settled_connected base h settled) refl refl)
    (let d = debt-lease base h r law next in omega arith) (let o = stays_open base h (Lease r) next refl refl in omega arith)

pub returning_fits : (base : Kept) → (h : List Event) (l : ℕ) → IsLawful base h → IsSettled base h → MayFollow base h (Return l) →
    Fits base h (h ++ Return l ∷ []) 0 0
returning_fits base h l law settled next = fits_one base h (Return l) 0 0 (kept_unsubscribed base h (Return l) law (settled_connected base h settled) refl refl)
    (let d = debt-return base h l law next in omega arith) (let o = stays_open base h (Return l) next refl refl in omega arith)

pub taking_fits : (base : Kept) → (h : List Event) (r : ℕ) → IsLawful base h → IsSettled base h → MayFollow base h (Take r) → Fits base h (h ++ Take r ∷ []) 0 0
taking_fits base h r law settled next =
    fits_one base h (Take r) 0 0 (kept_unsubscribed base h (Take r) law (settled_connected base h settled) refl refl)
    (let d = debt-take base h r law next in omega arith) (let o = stays_open base h (Take r) next refl refl in omega arith)

-- items, ends and closings ------------------------------------------------------------------------

pub emitting_fits : (base : Kept) → (h : List Event) (l : ℕ) (v : ℤ) → IsLawful base h → IsSettled base h → MayFollow base h (Item l v) →
    Fits base h (h ++ Item l v ∷ []) (1 + count_by is_projection (stops h l)) (length (mail_of h (Item l v)))
emitting_fits base h l v law settled next =
    fits_one base h (Item l v) (1 + count_by is_projection (stops h l)) (length (mail_of h (Item l v)))
    (kept_unsubscribed base h (Item l v) law (settled_connected base h settled) refl refl) (let d = debt-item base h l v law next in omega arith)
    (let o = stays_open base h (Item l v) next refl refl in omega arith)

pub declining_fits : (base : Kept) → (h : List Event) (f : ℕ) → IsLawful base h → IsSettled base h → MayFollow base h (Decline f) →
    Fits base h (h ++ Decline f ∷ []) 0 0
declining_fits base h f law settled next =
    fits_one base h (Decline f) 0 0 (kept_unsubscribed base h (Decline f) law (settled_connected base h settled) refl refl)
    (let d = debt-decline base h f law next in omega arith) (let o = stays_open base h (Decline f) next refl refl in omega arith)

-- an end tells one note at most
pub told_by_end : (h : List Event) (n : ℕ) (t : Terminal) → length (mail_of h (End n t)) ≤ 1
told_by_end h n t = search (rules, Bool, length)

pub ending_fits : (base : Kept) → (h : List Event) (n : ℕ) (t : Terminal) → IsLawful base h → IsSettled base h → MayFollow base h (End n t) →
    Fits base h (h ++ End n t ∷ []) 0 0
ending_fits base h n t law settled next =
    fits_one base h (End n t) 0 0 (kept_end base h n t (settled_connected base h settled)) (let d = debt_falls-end base h n t law next in omega arith)
    (let o = open_count_falls-end h n t (may_end base next) in let m = told_by_end h n t in omega arith)

-- in a settled history a closing is a caller's
allowed_close : (base : Kept) → {h : List Event} {n : ℕ} → IsSettled base h → MayFollow base h (Close n) → IsAllowed base h (Close n)
allowed_close base settled x2 = search rules

pub closing_fits : (base : Kept) → (h : List Event) (n : ℕ) → IsLawful base h → IsSettled base h → MayFollow base h (Close n) →
    Fits base h (h ++ Close n ∷ []) 0 0
closing_fits base h n law settled next =
    fits_one base h (Close n) 0 0 (kept_close_allowed base h n (settled_connected base h settled) (allowed_close base settled next))
    (let d = debt_falls-close base h n law next in omega arith) (let o = open_count_falls-close h n (may_close base next) in omega arith)

-- hubs --------------------------------------------------------------------------------------------

pub publishing_fits : (base : Kept) → (h : List Event) (mode : Mode) → IsLawful base h → IsSettled base h → MayFollow base h (Hub mode) →
    Fits base h (h ++ Hub mode ∷ []) 1 0
publishing_fits base h mode law settled next =
    fits_one base h (Hub mode) 1 0 (kept_unsubscribed base h (Hub mode) law (settled_connected base h settled) refl refl)
    (let d = debt-hub base h mode law next in omega arith) (let o = stays_open base h (Hub mode) next refl refl in omega arith)

pub connecting_fits : (base : Kept) → (h : List Event) (g : ℕ) → IsLawful base h → IsSettled base h → MayFollow base h (Connect g) →
    Fits base h (h ++ Connect g ∷ []) 2 1
connecting_fits base h g law settled next =
    fits_one base h (Connect g) 2 1 (kept_unsubscribed base h (Connect g) law (settled_connected base h settled) refl refl)
    (let d = debt-connect base h g law next in omega arith) (let o = open_count_made base h (Connect g) next refl in omega arith)
