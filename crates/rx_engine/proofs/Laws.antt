pub mod EffectsInLanes
pub mod PlainCalls
pub mod AcrossCheckpoint
