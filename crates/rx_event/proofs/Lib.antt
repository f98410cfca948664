pub mod Laws
pub mod Examples
