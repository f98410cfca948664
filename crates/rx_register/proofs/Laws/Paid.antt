-- Room is kept: from a call to what it forces, and from each forced event to the next.
use Rattle.std.proofs.Common.{◌≡◌, ℕ, ◌+◌, ◌*◌, ◌<◌, ◌≤◌, false, List, [], ◌∷◌, ◌++◌, length, refl, sym, ap, subst, ◌∙◌, arith, length-append, append_assoc}
use Rattle.std.proofs.lemmas.Bool.{false≢true, ltb-false}
use Rattle.std.proofs.Common.{rules}
use Rattle.rx_event.specs.Kept.{Kept}
use Rattle.rx_event.specs.declared.mail.Mail.{Mail}
use Rattle.rx_event.specs.Events.{is_connect}
use Rattle.rx_event.specs.Notes.{notes, mail_of}
use Rattle.rx_event.specs.Totals.{debt, open_count}
use Rattle.rx_event.specs.Lawful.{forced, MayFollow, IsLawful}
use Rattle.rx_event.specs.Calls.{Call}
use Rattle.rx_event.specs.Causes.{added_by, is_over}
use Rattle.rx_note.specs.declared.note.Terminal.{Terminal}
use Rattle.rx_event.specs.declared.event.Event.{Event}
use Rattle.rx_event.specs.declared.event.Event.TheVariants.{End, Close, Connect}
use Rattle.rx_event.specs.Forced.{IsConnectDue, IsForced, IsDue, MayWait, connecting, due, none_waits, one_waits}
use Rattle.rx_event.proofs.Laws.Counts.{notes-push}
use Rattle.rx_event.proofs.Laws.Lawful.{may_end}
use Rattle.rx_event.proofs.Laws.Steps.{forced_kind}
use Rattle.rx_event.proofs.Laws.Totals.{open_count_made, open_count_falls-end}
use Rattle.rx_event.proofs.Laws.Debt.{debt-connect, debt_falls-end, debt_falls-close}
use Rattle.rx_event.proofs.Laws.Waits.{forced_connected, forced_closes}
use Rattle.rx_register.specs.State.{State, Writes}
use Rattle.rx_register.specs.Paid.{IsPaid, HasRoomFor, Fits, notes_added}
use Rattle.rx_register.proofs.Laws.Fits.{told_by_end}

-- writing -----------------------------------------------------------------------------------------

-- first some events, then others
pub Writes-append : (s t u : State) (es fs : List Event) → Writes s es t → Writes t fs u → Writes s (es ++ fs) u
Writes-append s t u es fs a b = record {
  base = b.base ∙ a.base;
  history = b.history ∙ ap (λ (x : List Event). x ++ fs) a.history ∙ append_assoc s.history es fs;
  limit = b.limit ∙ a.limit;
  given = b.given ∙ a.given;
  pending = b.pending;
  room = let x = a.room in let y = b.room in omega (arith, length-append es fs);
  mail_room = let x = a.mail_room in let y = b.mail_room in omega arith;
}

-- so many notes are added by an event
pub notes_added-push : (s t : State) (e : Event) → Writes s (e ∷ []) t → s.mail_room ≤ t.mail_room + length (mail_of s.history e)
notes_added-push s t e w =
    let room = w.mail_room in
    let longer = ap (λ (h : List Event). length (notes h)) w.history in
    let told = ap (length {A = Mail}) (notes-push s.history e) in
    omega (arith, length-append (notes s.history) (mail_of s.history e))

-- forced events -----------------------------------------------------------------------------------

-- a forced event that is no connection takes from the debt
debt_falls : (base : Kept) → (h : List Event) (e : Event) → IsLawful base h → IsForced base h e → is_connect e ≡ false →
    debt base (h ++ e ∷ []) + 1 ≤ debt base h
debt_falls base h (End n t) law f other = debt_falls-end base h n t law (forced f)
debt_falls base h (Close n) law f other = debt_falls-close base h n law (forced f)
debt_falls base h (Connect g) law f other = absurd (false≢true (sym other))
debt_falls base h _ law f other = absurd (false≢true (forced_kind base f))

-- and tells one note at most
told_by_forced : (base : Kept) → (h : List Event) (e : Event) → IsForced base h e → length (mail_of h e) ≤ 1
told_by_forced base h x2 f = search (rules, told_by_end, false≢true, forced_kind)

one_may : {h : List Event} {w g : ℕ} → MayWait h w → IsConnectDue h g → w ≡ 1
one_may {g = g} (none_waits none) d = absurd (none g d)
one_may (one_waits only) d = refl

is_no_connect : (base : Kept) → {h : List Event} {e : Event} → IsDue base h e → is_connect e ≡ false
is_no_connect base x1 = search rules

-- a forced event is no connection, or the one that is paid for
data HowPaid (s : State) (e : Event) : Type 0 where
  connects : {g : ℕ} → e ≡ Connect g → debt s.base s.history + 2 ≤ s.room → open_count s.history + 1 ≤ s.mail_room → HowPaid s e
  lowers : is_connect e ≡ false → debt s.base s.history ≤ s.room → open_count s.history ≤ s.mail_room → HowPaid s e

how_paid : (s : State) (e : Event) → IsForced s.base s.history e → IsPaid s → HowPaid s e
how_paid s e (connecting d) p = let one = one_may p.may_wait d in let b = p.events in let n = p.notes in connects refl (omega arith) (omega arith)
how_paid s e (due none d) p = let b = p.events in let n = p.notes in lowers (is_no_connect s.base d) (omega arith) (omega arith)

-- what is forced has been paid for: room is kept after it
pub forced_pays : (s t : State) (e : Event) → IsLawful s.base s.history → IsForced s.base s.history e → IsPaid s → Writes s (e ∷ []) t → IsPaid t
forced_pays s t e law f p w = record {
  waits = 0;
  may_wait = rw w.history (none_waits (forced_connected s.base s.history e p.waits p.may_wait f));
  events = rw (w.base, w.history) (events_left (how_paid s e f p));
  notes = rw w.history (notes_left (how_paid s e f p));
  pending = w.pending;
}
  where
    connect : (g : ℕ) → e ≡ Connect g → MayFollow s.base s.history (Connect g)
    connect g is = subst (λ (x : Event). MayFollow s.base s.history x) is (forced f)

    events_left : HowPaid s e → debt s.base (s.history ++ e ∷ []) + 2 * 0 ≤ t.room
    events_left (connects {g = g} is b n) = rw is (let d = debt-connect s.base s.history g law (connect g is) in let r = w.room in omega arith)
    events_left (lowers other b n) = let d = debt_falls s.base s.history e law f other in let r = w.room in omega arith

    told : (g : ℕ) → e ≡ Connect g → s.mail_room ≤ t.mail_room + 0
    told g is = subst (λ (x : Event). s.mail_room ≤ t.mail_room + length (mail_of s.history x)) is (notes_added-push s t e w)

    notes_left : HowPaid s e → open_count (s.history ++ e ∷ []) + 0 ≤ t.mail_room
    notes_left (connects {g = g} is b n) = rw is (let o = open_count_made s.base s.history (Connect g) (connect g is) refl in let r = told g is in omega arith)
    notes_left (lowers other b n) =
        let o = forced_closes s.base s.history e f other in let m = told_by_forced s.base s.history e f in let r = notes_added-push s t e w in omega arith

-- and there is room for it, and for its note
pub forced_room : (s : State) (e : Event) → IsLawful s.base s.history → IsForced s.base s.history e → IsPaid s → 0 < s.room
forced_room s e law f p = by_way (how_paid s e f p) where
  by_way : HowPaid s e → 0 < s.room
  by_way (connects is b n) = omega arith
  by_way (lowers other b n) = let d = debt_falls s.base s.history e law f other in omega arith

pub end_room : (s : State) (n : ℕ) (t : Terminal) → IsForced s.base s.history (End n t) → IsPaid s → 0 < s.mail_room
end_room s n t f p = let o = open_count_falls-end s.history n t (may_end s.base (forced f)) in let b = p.notes in omega arith

-- calls -------------------------------------------------------------------------------------------

-- what may not pass the limit may be reserved
pub within_limit : (base : Kept) → (h : List Event) (limit more : ℕ) → is_over base h limit more ≡ false →
    length h + (debt base h + more) ≤ base.at_length + limit
within_limit base h limit more fits = let l = ltb-false (base.at_length + limit) (length h + debt base h + more) fits in omega arith

-- there is room for a call's events
pub call_room : (s : State) (call : Call) (es : List Event) → HasRoomFor s call →
    Fits s.base s.history (s.history ++ es) (added_by s.history call) (notes_added s.history call) → length es ≤ s.room
call_room s call es has fits = let b = has.events in let f = fits.events in omega (arith, length-append s.history es)

-- and for their notes
pub call_mail_room : (s : State) (call : Call) (es : List Event) → HasRoomFor s call →
    Fits s.base s.history (s.history ++ es) (added_by s.history call) (notes_added s.history call) →
    length (notes (s.history ++ es)) ≤ length (notes s.history) + s.mail_room
call_mail_room s call es has fits = let b = has.notes in let f = fits.told in omega arith

-- and after them for what they force, and for closing everything
pub call_pays : (s t : State) (call : Call) (es : List Event) → HasRoomFor s call →
    Fits s.base s.history (s.history ++ es) (added_by s.history call) (notes_added s.history call) → Writes s es t → IsPaid t
call_pays s t call es has fits w = record {
  waits = fits.waits;
  may_wait = rw w.history fits.may_wait;
  events = rw (w.base, w.history) (let b = has.events in let f = fits.events in let r = w.room in omega (arith, length-append s.history es));
  notes = rw w.history (let b = has.notes in let f = fits.told in let r = room in omega arith);
  pending = w.pending;
}
  where
    room : s.mail_room + length (notes s.history) ≤ t.mail_room + length (notes (s.history ++ es))
    room = let r = w.mail_room in let longer = ap (λ (h : List Event). length (notes h)) w.history in omega arith

-- a call that takes no memory needs no more than is kept
pub paid_room : (s : State) (call : Call) → IsPaid s → added_by s.history call ≡ 0 → notes_added s.history call ≡ 0 → HasRoomFor s call
paid_room s call p none quiet = record { events = let b = p.events in omega arith; notes = let b = p.notes in omega arith }
