pub mod Told
pub mod Line
pub mod Traced
pub mod Taken
pub mod Running
