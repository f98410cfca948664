pub mod Places
pub mod Runs
pub mod Search
pub mod Tickets
