pub mod Slots
pub mod Lends
pub mod Kept
pub mod Lists
pub mod Rings
pub mod Links
pub mod Places
pub mod Keyed
