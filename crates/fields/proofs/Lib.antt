pub mod Gathered
pub mod One
