pub mod Common
pub mod Rises
pub mod Knowing
pub mod Keeping
pub mod Recalling
pub mod Laws
pub mod Objects
