pub mod Common
pub mod FoundIsListed
pub mod Records
pub mod ResourcesAfterEvent
mod TreeAgreesOnResource
mod RisingSlots
mod LeasesStayInOrder
mod LeasesAfterEvent
pub mod OwedCountBounded
pub mod StaysTied
pub mod RegisterAfterWrite
pub mod Memory
pub mod EventWritten
pub mod HeldKept
pub mod Newest
pub mod MovedHaveGone
pub mod NodeEnds
pub mod TiedWhileSettling
pub mod MarksMakeNothingDue
pub mod Inners
pub mod ReadyToOpen
pub mod HubsBesideTree
pub mod HubsAfterEvent
pub mod HubsAtOpening
pub mod RoomAtOpening
pub mod Connections
pub mod TakenResourceWaited
pub mod Told
pub mod InsideConnections
mod Bare
pub mod WayAsInHistory
pub mod CountsOnTheWay
pub mod RecordsAfterItem
pub mod Passage
pub mod ItemWentItsWay
pub mod Loads
pub mod StandsWithMoreRoom
mod RisingNumbers
mod KeptRecords
mod StandsAfterCheckpoint
mod CheckpointMakesBase
pub mod Laws
mod OwnedIsHeld
