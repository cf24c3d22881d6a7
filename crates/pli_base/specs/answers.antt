pub mod FailureAnswers
pub mod ReadingAnswers
