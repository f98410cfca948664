pub mod Back
pub mod Counted
pub mod Group
pub mod Holding
pub mod Lends
pub mod Members
