pub mod Annex
pub mod Code
pub mod Answers
