pub mod Refusals
pub mod Files
pub mod Frames
pub mod Answers
