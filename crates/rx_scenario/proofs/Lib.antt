pub mod Laws
pub mod Steps
pub mod Labels
