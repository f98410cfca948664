pub mod Accepted
pub mod Worded
