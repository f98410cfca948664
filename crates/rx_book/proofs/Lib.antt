pub mod Common
pub mod ShownKeys
pub mod AnswersOkOrErr
mod ItemsWithin
pub mod ListOfClosed
pub mod CausesByKey
pub mod CallWithoutCause
pub mod CallsAsValues
pub mod Admitted
pub mod ShownRoots
pub mod ShownPromise
pub mod MadeKeyIsListed
pub mod Openings
pub mod Connections
pub mod SpareRoom
pub mod HoldingUnstood
pub mod AdmittedHolding
pub mod OpeningWritten
pub mod HoldingWritten
pub mod OpenedStaysOpened
pub mod OneFewerWaits
pub mod Closings
pub mod Laws
mod ShownLeases
mod SeenAcrossCheckpoint
