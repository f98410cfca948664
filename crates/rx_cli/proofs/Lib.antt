pub mod Common
pub mod Fronts
pub mod Literals
pub mod NotBegunWithoutMemory
pub mod Numbers
pub mod OutcomesOfAnswers
pub mod OutcomesTold
