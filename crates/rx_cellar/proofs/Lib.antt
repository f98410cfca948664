pub mod WordsFilled
pub mod WordsFind
pub mod Laws
pub mod ItemsEmitted
pub mod FrequentAsked
pub mod AnswersTold
pub mod Tries
