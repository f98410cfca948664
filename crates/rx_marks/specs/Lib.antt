pub mod MarksInWords
