pub mod Told
pub mod Said
pub mod Served
pub mod Status
pub mod Words
