pub mod Values
pub mod Test
pub mod Writing
pub mod Steps
pub mod Answers
