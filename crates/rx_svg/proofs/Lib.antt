mod Common
mod Characters
mod Contents
mod ShownFronts
mod ShownNames
mod Markup
mod Elements
mod Legends
mod Rows
mod Documents
pub mod Laws
mod Reader
mod NotWellFormed
mod Chosen
