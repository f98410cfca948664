pub mod Scenario
pub mod Reading
pub mod Checkpoints
pub mod RefusalWords
