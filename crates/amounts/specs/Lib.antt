pub mod Amounts
pub mod Answers
