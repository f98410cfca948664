pub mod Common
pub mod Laws
mod WayWalkedSoFar
mod StoreShowsHubs
mod HubsByNumber
mod HubsForgetEnds
mod ClosedLemmas
mod DueBySubscribers
mod RouteWays
mod RouteFrames
mod RouteSteps
