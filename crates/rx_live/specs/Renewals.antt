-- A checkpoint of a live book: the book makes one, and the names of closed nodes are forgotten.
use Rattle.std.specs.Prelude.{◌≡◌, ◌<◌, ◌⊎◌, ◌&&◌, Bool, false, nat_lt, [], length, is_some}
use Rattle.std.proofs.Math.Bool.{not}
use Rattle.rx_event.specs.declared.refusal.Refusal.{Refusal}
use Rattle.rx_event.specs.declared.refusal.Refusal.TheVariants.{Full, MailLeft, TooMany}
use Rattle.rx_event.specs.Refusals.{IsRefusal}
use Rattle.rx_event.specs.Causes.{most_places}
use Rattle.rx_scenario.specs.Scenario.{Name}
use Rattle.rx_book.specs.State.{State}
use Rattle.rx_book.specs.Checkpoints.{Checkpoints}
use Rattle.rx_line.specs.declared.names.Names.{Names}
use Rattle.rx_line.specs.declared.outcome.Cause.{Cause}
use Rattle.rx_line.specs.declared.outcome.Cause.TheVariants.{NoName, NameTaken, Book}
use Rattle.rx_line.specs.declared.outcome.Outcome.{Outcome}
use Rattle.rx_line.specs.declared.outcome.Outcome.TheVariants.{Accepted, Refused}
use Rattle.rx_line.specs.Names.{spot_of}
use Rattle.rx_live.specs.Session.{Session, open_node_in}
use Rattle.rx_live.specs.Given.{AreOpenSame}
use Rattle.rx_live.specs.Answers.{to_tell}

-- each name that is bound to a node is that of an open one
abbrev pub AreOpen : State → Names → Type 0
AreOpen book nodes = (name : Name) → is_some (open_node_in book nodes name) ≡ is_some (spot_of nodes name)

-- all was told before; what is open, held and out keeps its names, and no closed node has one
pub record Renews (old new : Session) : Type 0 where
  pub told : to_tell old ≡ []
  pub book : Checkpoints old.book new.book
  pub untold : to_tell new ≡ []
  pub nodes : AreOpenSame old.untold new.book old.nodes new.nodes
  pub open_alone : AreOpen new.book new.nodes
  pub rest : new ≡ record old { book = new.book; nodes = new.nodes }

-- what stands against one: something is still to be told, or the history is past the last place for one
abbrev pub renewing_causes : Session → Refusal → Bool
renewing_causes s MailLeft = nat_lt 0 (length (to_tell s))
renewing_causes s TooMany = nat_lt most_places (length s.book.history)
renewing_causes s _ = false

-- what a command comes to that makes one
abbrev pub Renewing : Session → Outcome → Session → Type 0
Renewing old Accepted new = Renews old new
Renewing old (Refused NoName) new = ⊥
Renewing old (Refused NameTaken) new = ⊥
Renewing old (Refused (Book why)) new = IsRefusal (renewing_causes old) why × (new ≡ old)

-- by its age ------------------------------------------------------------------------------------------

-- a checkpoint makes room
abbrev pub may_renew : Session → Bool
may_renew s = not (nat_lt most_places (length s.book.history)) && nat_lt s.book.base.at_length (length s.book.history)

-- a history is full by what is open alone: no event was written since its last checkpoint; or it is past the last place for one
abbrev pub IsFullByOpen : Session → Cause → Type 0
IsFullByOpen s (Book Full) = (length s.book.history ≡ s.book.base.at_length) ⊎ (most_places < length s.book.history)
IsFullByOpen s _ = Unit {0}
