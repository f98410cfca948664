pub mod Common
mod StepAddsTotals
mod Ties
mod Pulls
mod AllTakenWhereOk
pub mod Laws
