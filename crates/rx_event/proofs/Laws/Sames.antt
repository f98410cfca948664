-- Two events pass the test of sameness exactly where they are equal.
use Rattle.rx_event.proofs.Laws.Common.{arith, ◌≡◌, true, sym, ap, ◌∙◌, false≢true, and_parts, and_from, eqb-true, Terminal, Kind, Mode, Event, Accept}
use Rattle.rx_event.proofs.Laws.Common.{number_itself, IsTrue}
use Rattle.std.proofs.Common.{◌↔◌, rules}
use Rattle.rx_event.specs.Sames.{same_terminal, same_kind, same_mode, same_event}

pub terminals_equal : (t u : Terminal) → same_terminal t u ≡ true → t ≡ u
terminals_equal t u same = grind arith

modes_equal : (m n : Mode) → same_mode m n ≡ true → m ≡ n
modes_equal m n same = grind arith

pub events_equal : (a b : Event) → same_event a b ≡ true → a ≡ b
events_equal x0 x1 same = search (rules, and_parts, modes_equal, eqb-true, Accept, terminals_equal, false≢true)

kind_itself : (k : Kind) → same_kind k k ≡ true
kind_itself k = grind arith

mode_itself : (m : Mode) → same_mode m m ≡ true
mode_itself m = grind arith

pub event_itself : (e : Event) → same_event e e ≡ true
event_itself x0 = search (rules, and_from, kind_itself, mode_itself, number_itself)

pub same_event_equal : (a b : Event) → IsTrue (same_event a b) ↔ (a ≡ b)
same_event_equal a b = (events_equal a b, λ same. ap (same_event a) (sym same) ∙ event_itself a)
