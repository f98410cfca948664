pub mod NamesStayPaired
pub mod NamesWithMoreRoom
pub mod BoundAfterChange
pub mod WordsLexed
pub mod ObjectsRead
pub mod FreeOrders
