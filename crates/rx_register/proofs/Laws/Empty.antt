-- A register with no events: nothing is left undone, and nothing has to be paid.
use Rattle.std.proofs.Common.{◌≡◌, ℕ, true, [], refl, arith, rules}
use Rattle.std.proofs.lemmas.Bool.{both_ways}
use Rattle.rx_event.specs.Kept.{Kept}
use Rattle.rx_event.specs.declared.event.Event.{Event}
use Rattle.rx_event.specs.Tree.{is_open}
use Rattle.rx_event.specs.Totals.{debt}
use Rattle.rx_event.specs.Forced.{IsConnected, IsForced, IsDue, IsSettled, none_waits}
use Rattle.rx_event.proofs.Laws.Openness.{is_open_past}
use Rattle.rx_register.specs.State.{State}
use Rattle.rx_register.specs.Paid.{IsPaid}

none_open : (n : ℕ) → is_open [] n ≡ true → ⊥
none_open n o = both_ways _ (is_open_past [] n (omega arith)) o

none_due : (base : Kept) → {e : Event} → IsDue base [] e → ⊥
none_due base x1 = search (rules, none_open)

pub connected_empty : IsConnected []
connected_empty g d = none_open d.subscriber d.subscribed

none_forced : (base : Kept) → {e : Event} → IsForced base [] e → ⊥
none_forced base x1 = search (rules, connected_empty, none_due)

pub settled_empty : (base : Kept) → IsSettled base []
settled_empty base = record { none = λ e f. none_forced base f }

pub debt_empty : (base : Kept) → debt base [] ≡ 0
unfolding debt
debt_empty base = refl

-- a new register is paid for
pub paid_empty : (s : State) → s.history ≡ [] → s.pending ≡ [] → IsPaid s
paid_empty s empty none = record {
  waits = 0;
  may_wait = rw empty (none_waits connected_empty);
  events = rw empty (let d = debt_empty s.base in omega arith);
  notes = rw empty (omega arith);
  pending = none;
}
