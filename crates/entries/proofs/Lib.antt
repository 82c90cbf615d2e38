pub mod Written
pub mod Found
pub mod Rows
pub mod One
