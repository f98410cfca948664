pub mod Schedule
pub mod Agenda
pub mod Runs
pub mod Places
