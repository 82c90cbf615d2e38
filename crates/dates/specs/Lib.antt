pub mod Days
pub mod Ordinals
pub mod Answers
