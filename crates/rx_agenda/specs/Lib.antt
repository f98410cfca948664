pub mod Names
pub mod Ties
pub mod Bindings
pub mod Agenda
pub mod Shown
pub mod Order
pub mod Come
pub mod Claims
