pub mod Counting
pub mod Feeds
pub mod Verdicts
