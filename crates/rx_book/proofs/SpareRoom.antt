-- What a call forces takes no more room than the call was counted to add: what was gotten beside is still there.
use Rattle.rx_book.proofs.Common.{ℕ, ◌+◌, ◌-◌, ◌*◌, ◌≤◌, List, [], ◌∷◌, ◌++◌, length, refl, ap, arith, length-append, Mail, Event, Kept, IsForced, MayWait}
use Rattle.rx_book.proofs.Common.{IsLawful, IsForcedOn, stays, more, notes, mail_of, debt, open_count, notes-push, Writes, IsPaid, Fits}
use Rattle.rx_register.specs.State.{State as Register}
use Rattle.rx_register.proofs.Laws.Paid.{forced_room, forced_pays}
use Rattle.rx_book.proofs.CallWithoutCause.{lawful_forced}

-- a register of this history, with just this room
abbrev with_room : Kept → List Event → (room mail_room : ℕ) → Register
with_room base h room mail_room = record { base = base; history = h; limit = 0; room = room; given = 0; pending = []; mail_room = mail_room }

-- the events, with what closing everything and the hub that waits need, are no more than this
record IsWithin (base : Kept) (h : List Event) (most : ℕ) : Type 0 where
  waits : ℕ
  may_wait : MayWait h waits
  events : length h + debt base h + 2 * waits ≤ most

-- and are not after one more that is forced
within_on : (base : Kept) → (h : List Event) (e : Event) (most : ℕ) → IsLawful base h → IsForced base h e → IsWithin base h most →
    IsWithin base (h ++ e ∷ []) most
within_on base h e most law f w =
    let told = ap (length {A = Mail}) (notes-push h e) in
    let s = with_room base h (debt base h + 2 * w.waits) (open_count h + w.waits + length (mail_of h e)) in
    let t = with_room base (h ++ e ∷ []) (debt base h + 2 * w.waits - 1) (open_count h + w.waits) in
    let paid : IsPaid s = record { waits = w.waits; may_wait = w.may_wait; events = omega arith; notes = omega arith; pending = refl } in
    let some = forced_room s e law f paid in
    let writes : Writes s (e ∷ []) t = record {
      base = refl;
      history = refl;
      limit = refl;
      given = refl;
      pending = refl;
      room = omega arith;
      mail_room = omega (arith, length-append (notes h) (mail_of h e));
    } in
    let after = forced_pays s t e law f paid writes in
    let before = w.events in
    record { waits = after.waits; may_wait = after.may_wait; events = let a = after.events in omega (arith, length-append h (e ∷ [])) }

within_forced : (base : Kept) → (most : ℕ) → {h k : List Event} → IsLawful base h → IsForcedOn base h k → IsWithin base h most → IsWithin base k most
within_forced base most law stays w = w
within_forced base most law (more {k = k} {e = e} on f) w = within_on base k e most (lawful_forced base law on) f (within_forced base most law on w)

-- a call's events went from h to m, and then to k what they force: what is needed rose by no more than the call was counted to add
pub call_within : (base : Kept) → (h : List Event) {m k : List Event} (added told : ℕ) → Fits base h m added told → IsLawful base m →
    IsForcedOn base m k → length k + debt base k ≤ length h + debt base h + added
call_within base h added told fits law on =
    let w = within_forced base (length h + debt base h + added) law on (record { waits = fits.waits; may_wait = fits.may_wait; events = fits.events }) in
    let e = w.events in omega arith
