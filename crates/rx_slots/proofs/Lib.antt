pub mod Common
pub mod Laws
pub mod SlotsLemmas
pub mod KeptLemmas
pub mod KeyedLemmas
mod Standing
mod PlacesApart
mod TieLemmas
mod RingsShowLists
mod RingSteps
