mod RegisterStaysTied
pub mod Laws
mod CheckpointCauses
