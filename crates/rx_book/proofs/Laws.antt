pub mod StepsContinue
pub mod Keys
pub mod LastsThroughSteps
pub mod NotesGoOn
pub mod EventsWithoutBase
