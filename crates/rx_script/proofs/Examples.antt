pub mod StepsThatForceNothing
pub mod Drains
pub mod Lengths
pub mod InOneOrder
pub mod HubBelowUntil
pub mod Times
pub mod Checkpoint
