pub mod Choices
pub mod CountsAfterStep
pub mod FewNamers
pub mod MovesOfStep
pub mod JoinsAllowed
pub mod SharesAfterStep
