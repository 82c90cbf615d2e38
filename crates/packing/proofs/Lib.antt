pub mod Packing
pub mod One
