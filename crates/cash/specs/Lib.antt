pub mod Value
pub mod Spans
pub mod Positions
pub mod Buckets
pub mod Calls
pub mod Answers
