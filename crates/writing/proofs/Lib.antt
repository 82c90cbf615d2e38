pub mod Tested
pub mod Held
pub mod Filled
pub mod Refused
pub mod One
