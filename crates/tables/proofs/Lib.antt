pub mod Filled
pub mod Reading
pub mod Paper
pub mod One
