pub mod CallOnEngine
pub mod NoOutput
pub mod OutcomeIsAnswer
pub mod OwnedMayBeSent
pub mod StockIsFresh
mod AnswersHandedOut
mod CallsMakeCourses
pub mod Common
mod CountsOverLanes
mod EachEndedOnce
mod EffectsToldOnce
mod FollowBothWays
mod HeldToTheEnd
mod LanesTended
mod NothingLeftToTell
mod OwnTickets
mod RefusalsChangeNothing
mod ToldInOrder
pub mod Turned
pub mod Values
mod WhatWaits
