pub mod FreeCommands
pub mod Names
pub mod Orders
pub mod Pieces
