pub mod Keys
pub mod FoundAfterWrite
pub mod Parents
pub mod Below
pub mod Newest
pub mod Owed
