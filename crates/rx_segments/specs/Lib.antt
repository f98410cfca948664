pub mod Segments
pub mod Kept
