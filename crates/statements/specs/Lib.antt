pub mod Progress
pub mod Answers
