pub mod Written
pub mod Groups
pub mod Answers
