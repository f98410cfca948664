-- What the audit says of a list of events.
use Rattle.std.specs.Prelude.{◌≡◌, ℕ, Option, Some, List, take, slice_get}
use Rattle.rx_event.specs.Kept.{nothing_kept}
use Rattle.rx_event.specs.declared.event.Event.{Event}
use Rattle.rx_event.specs.Tree.{open_nodes}
use Rattle.rx_event.specs.Resources.{held_resources, waiting_resources}
use Rattle.rx_event.specs.Forced.{IsSettled}
use Rattle.rx_event.specs.Lawful.{IsLawful, MayFollow}
use Rattle.rx_event.specs.declared.refusal.Refusal.{Refusal}
use Rattle.rx_register.specs.CallBehind.{refusal_of}
use Rattle.rx_audit.specs.declared.verdict.Verdict.{Verdict}
use Rattle.rx_audit.specs.declared.verdict.Verdict.TheVariants.{Lawful, Unlawful, Unsettled}

-- how many events a list that is judged has at most
abbrev pub most_judged : ℕ
most_judged = 4294967295

-- each event may follow those before it, operators have nothing left to do, and the lists are those of the open nodes,
-- the held and the waiting resources, each by rising number
pub record IsFoundLawful (h : List Event) (nodes kept left_over : List ℕ) : Type 0 where
  pub lawful : IsLawful nothing_kept h
  pub settled : IsSettled nothing_kept h
  pub live : nodes ≡ open_nodes h
  pub held : kept ≡ held_resources h
  pub waiting : left_over ≡ waiting_resources h

-- each event before the place may follow those before it, and the event at the place may not
pub record IsFoundUnlawful (h : List Event) (place : ℕ) : Type 0 where
  pub before : IsLawful nothing_kept (take place h)
  pub event : Event
  pub found : slice_get h place ≡ Some event
  pub breaks : ¬ MayFollow nothing_kept (take place h) event

-- each event may follow those before it, and operators have something left to do
pub record IsFoundUnsettled (h : List Event) : Type 0 where
  pub lawful : IsLawful nothing_kept h
  pub unsettled : ¬ IsSettled nothing_kept h

-- the verdict is that of the list
abbrev pub IsVerdict : List Event → Verdict → Type 0
IsVerdict h (Lawful live held waiting) = IsFoundLawful h live.items held.items waiting.items
IsVerdict h (Unlawful place) = IsFoundUnlawful h place
IsVerdict h Unsettled = IsFoundUnsettled h

-- where the list is lawful, this is what refuses the event after it
abbrev pub IsRefusedAfter : List Event → Event → Option Refusal → Type 0
IsRefusedAfter h e why = IsLawful nothing_kept h → why ≡ refusal_of nothing_kept h e
