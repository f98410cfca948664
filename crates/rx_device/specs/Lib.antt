pub mod Device
pub mod Input
pub mod Gives
pub mod Part
