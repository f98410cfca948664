pub mod Shares
pub mod Ties
