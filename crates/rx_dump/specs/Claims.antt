-- What is proved of dumps and names as definitions.
pub mod Dumps
pub mod NoNames
