pub mod State
pub mod Paid
pub mod CallBehind
pub mod Claims
pub mod Ties
