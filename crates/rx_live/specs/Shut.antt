-- The end of a session by steps that take no memory.
use Rattle.std.specs.Prelude.{◌≡◌, ℕ, Bool, None, List, [], ◌∷◌, ◌++◌, map}
use Rattle.rx_scenario.specs.Scenario.{Name}
use Rattle.rx_book.specs.Courses.{LetsGo}
use Rattle.rx_live.specs.Session.{Session, has_resource, IsSound}
use Rattle.rx_live.specs.Promise.{NameAct, released, IsKept}
use Rattle.rx_live.specs.Steps.{DropsName, MayWriteNote}
use Rattle.rx_live.specs.Lines.{IsNewSession, SendsLines}

-- all is closed and no lease is out; what was held waits, and each name that was held still is
pub record Shuts (old new : Session) : Type 0 where
  pub none_open : new.book.keys ≡ []
  pub none_held : new.book.held ≡ []
  pub none_out : new.book.lease_keys ≡ []
  pub lets_go : LetsGo old.book new.book
  pub rest : new ≡ record old { book = new.book; leases = new.leases }
  pub held : (name : Name) → has_resource new name ≡ has_resource old name
  pub sound : IsSound new

-- the next note, or none
abbrev pub TellsSome : Bool → Session → List ℕ → Session → Type 0
TellsSome done old text new = MayWriteNote done old [] [] new text

-- what waits is released, one after another, until nothing does
pub data ReleasesEach : Session → List Name → Session → Type 0 where
  none_waits : {s : Session} → s.book.waiting ≡ [] → s.unnamed ≡ None → IsSound s → ReleasesEach s [] s
  one_dropped : {old new : Session} {names : List Name} (name : Name) (mid : Session) → DropsName old name mid → ReleasesEach mid names new
      → ReleasesEach old (name ∷ names) new

-- from the first line to the end, each name that was handed in is released once, and no other
abbrev pub AreNamesKeptToTheEnd : Type 0
AreNamesKeptToTheEnd =
    (first last shut new : Session) (acts : List NameAct) (names : List Name) → IsNewSession first → SendsLines first acts last → Shuts last shut
    → ReleasesEach shut names new → IsKept (acts ++ map released names)
