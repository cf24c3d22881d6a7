pub mod answers
