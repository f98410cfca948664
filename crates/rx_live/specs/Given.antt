-- What a command that gives names does: nothing, where a name that it uses is not bound or one that it gives is; else what the book
-- answers, and where that accepts it the names are bound.
use Rattle.std.specs.Prelude.{◌≡◌, ℕ, ◌⊎◌, Bool, true, false, Option, Some, None, length, is_some}
use Rattle.rx_event.specs.declared.mail.Mail.{Mail}
use Rattle.rx_event.specs.declared.refusal.Refusal.{Refusal}
use Rattle.rx_event.specs.Calls.{Holding}
use Rattle.rx_event.specs.Refusals.{IsRefusal}
use Rattle.rx_scenario.specs.Scenario.{Name}
use Rattle.rx_slots.specs.declared.Key.{Key}
use Rattle.rx_book.specs.State.{State, has_key}
use Rattle.rx_book.specs.Requests.{Request, stands}
use Rattle.rx_book.specs.Answers.{Accepts}
use Rattle.rx_line.specs.declared.names.Spot.{Spot}
use Rattle.rx_line.specs.declared.names.Names.{Names}
use Rattle.rx_line.specs.Names.{spot_of, name_of_number, AreSameNames, Binds, Forgets}
use Rattle.rx_line.specs.declared.outcome.Cause.TheVariants.{NoName, NameTaken, Book}
use Rattle.rx_line.specs.declared.outcome.Outcome.{Outcome}
use Rattle.rx_line.specs.declared.outcome.Outcome.TheVariants.{Accepted, Refused}
use Rattle.rx_live.specs.Session.{Session, open_node_in, IsSound}

-- the same nodes have names; what names of closed nodes are kept is not told, but for that none is forgotten while something is still to
-- be told
pub record AreOpenSame (untold : Option Mail) (book : State) (old new : Names) : Type 0 where
  pub kept : is_some untold ≡ true → AreSameNames old new
  pub nodes : (name : Name) → open_node_in book new name ≡ open_node_in book old name
  pub spots : (name : Name) → (spot_of new name ≡ spot_of old name) ⊎ (spot_of new name ≡ None)
  pub names : (n : ℕ) → (name_of_number new n ≡ name_of_number old n) ⊎ (name_of_number new n ≡ None)

-- the same is bound
pub record IsAlike (old new : Session) : Type 0 where
  pub book : new.book ≡ old.book
  pub nodes : AreOpenSame old.untold old.book old.nodes new.nodes
  pub hubs : AreSameNames old.hubs new.hubs
  pub resources : AreSameNames old.resources new.resources
  pub leases : AreSameNames old.leases new.leases
  pub untold : new.untold ≡ old.untold
  pub unnamed : new.unnamed ≡ old.unnamed

module _ {A : Type 0} (stand : State → A → Refusal → Bool) (accepts : State → A → State → Type 0) where
  -- what is asked of the book, whether a name is taken, and what becomes of names where the book accepts it
  abbrev pub Gives : Session → Option A → (taken : Bool) → (Session → Type 0) → Outcome → Session → Type 0
  Gives old None taken bound outcome new = (outcome ≡ Refused NoName) × IsAlike old new
  Gives old (Some asked) true bound outcome new = (outcome ≡ Refused NameTaken) × IsAlike old new
  Gives old (Some asked) false bound Accepted new = accepts old.book asked new.book × bound new
  Gives old (Some asked) false bound (Refused NoName) new = ⊥
  Gives old (Some asked) false bound (Refused NameTaken) new = ⊥
  Gives old (Some asked) false bound (Refused (Book why)) new = IsRefusal (stand old.book asked) why × IsAlike old new

  -- and it leaves the session sound
  pub record GivesBy (old : Session) (asked : Option A) (taken : Bool) (bound : Session → Type 0) (outcome : Outcome) (new : Session) : Type 0 where
    pub gives : Gives old asked taken bound outcome new
    pub sound : IsSound new

-- by one call of the book
abbrev pub GivesNames : Session → Option Request → (taken : Bool) → (Session → Type 0) → Outcome → Session → Type 0
GivesNames = GivesBy stands Accepts

-- a call that was not carried out, for want of memory
pub record IsUnchanged (old new : Session) : Type 0 where
  pub alike : IsAlike old new
  pub sound : IsSound new

-- requests: what the book holds in the place of a resource is fresh
abbrev pub hold_tagged : State → Key → (tag : ℕ) → Request
hold_tagged s node tag = record { call = Holding node.number tag; is_known = has_key s.keys node; is_fresh = true }

-- its tag is the place of its acceptance
abbrev pub hold_asked : State → Key → Request
hold_asked s node = hold_tagged s node (length s.history)

-- one name more is bound, to this number
pub record NamesOne (old : Names) (name : Name) (number : ℕ) (new : Names) : Type 0 where
  pub spot : Spot
  pub is : spot.number ≡ number
  pub binds : Binds old name spot new

-- what is bound
pub record BindsResource (old : Session) (name : Name) (new : Session) : Type 0 where
  pub resource : NamesOne old.resources name (length old.book.history) new.resources
  pub rest : new ≡ record old { book = new.book; resources = new.resources }

pub record BindsLease (old : Session) (name : Name) (new : Session) : Type 0 where
  pub lease : NamesOne old.leases name (length old.book.history) new.leases
  pub rest : new ≡ record old { book = new.book; leases = new.leases }

pub record BindsHub (old : Session) (name : Name) (new : Session) : Type 0 where
  pub hub : NamesOne old.hubs name (length old.book.history) new.hubs
  pub rest : new ≡ record old { book = new.book; hubs = new.hubs }

-- what is forgotten: the lease that is given back
pub record FreesLease (old : Session) (name : Name) (new : Session) : Type 0 where
  pub number : ℕ
  pub known : name_of_number old.leases number ≡ Some name
  pub forgets : Forgets old.leases number name new.leases
  pub rest : new ≡ record old { book = new.book; leases = new.leases }
