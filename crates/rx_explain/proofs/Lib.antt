pub mod AcceptedAsRead
pub mod FirstRefused
pub mod Beginnings
pub mod RefusalTold
