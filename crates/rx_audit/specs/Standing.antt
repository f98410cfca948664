-- What is found of a history, and what is kept of its nodes and hubs. No public clause cites this module.
use Rattle.std.specs.Prelude.{◌≡◌, ◌≤◌, ◌∷◌, ◌++◌}
use Rattle.rx_audit.specs.Imports.{ℕ, Bool, List, [], length, nothing_kept, Event, is_open, IsLawful, Found}
use Rattle.rx_audit.specs.declared.advance.Nodes.{Nodes}
use Rattle.rx_audit.specs.Found.{IsFoundHere}
use Rattle.rx_audit.specs.Tables.{IsMarked}
use Rattle.rx_audit.specs.Latest.{AreChildren}
use Rattle.rx_audit.specs.HubTables.{AreLinked, AreOpenListed, AreNestedListed, AreHubs}
use Rattle.rx_audit.specs.Marking.{IsKept, IsCovered}
use Rattle.rx_audit.specs.DueList.{Keeps, HasAll}

-- the children, the hubs and their subscribers, and the marks of open nodes are those of the history, and the list has each node
-- that has to end or to close
pub record IsFollowed (h : List Event) (size : ℕ) (nodes : Nodes) : Type 0 where
  pub children : AreChildren h size nodes.children
  pub linked : AreLinked h size nodes.subscribers
  pub listed : AreOpenListed h nodes.subscribers
  pub nested_linked : AreLinked h size nodes.nested
  pub nested_listed : AreNestedListed h nodes.nested
  pub hubs : AreHubs h size nodes.hubs
  pub marks_size : length nodes.marks.items ≡ size
  pub kept : IsKept h nodes.marks.items
  pub covered : HasAll h nodes.due.items

-- what nodes remember is that of one event more, and the list has whom the event may force by that; all else is as it was
pub record AreNodesRemarked (h : List Event) (e : Event) (old new : Nodes) : Type 0 where
  pub kept : IsKept (h ++ e ∷ []) new.marks.items
  pub covered : IsCovered (h ++ e ∷ []) new.due.items
  pub keeps : Keeps old.due.items new.due.items
  pub marks_size : length new.marks.items ≡ length old.marks.items
  pub children : new.children ≡ old.children
  pub subscribers : new.subscribers ≡ old.subscribers
  pub nested : new.nested ≡ old.nested
  pub hubs : new.hubs ≡ old.hubs

-- the same of a lawful history, with the marks of what is open and room for each event
pub record IsKnown (h : List Event) (live : List Bool) (nodes : Nodes) : Type 0 where
  pub lawful : IsLawful nothing_kept h
  pub tied : IsMarked live (is_open h)
  pub room : length h ≤ length live
  pub followed : IsFollowed h (length live) nodes

-- the events are lawful, and this was found and is kept of all of them
pub record IsAllFound (h : List Event) (found : Found) (nodes : Nodes) : Type 0 where
  pub is : IsFoundHere h found
  pub known : IsKnown h found.live.items nodes
