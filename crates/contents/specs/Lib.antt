pub mod Heads
pub mod Movements
pub mod Earliest
pub mod Answers
