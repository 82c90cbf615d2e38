pub mod Records
pub mod Heading
pub mod Moving
pub mod Begun
pub mod Passing
pub mod Paper
pub mod One
