pub mod Imports
pub mod Named
pub mod Omitted
pub mod Claims
