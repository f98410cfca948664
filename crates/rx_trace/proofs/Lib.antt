pub mod Common
pub mod NamesListed
pub mod TakenOne
pub mod StepsGoOn
pub mod LinesTold
pub mod WholeTrace
