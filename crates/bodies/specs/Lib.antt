pub mod Bodies
pub mod Answers
