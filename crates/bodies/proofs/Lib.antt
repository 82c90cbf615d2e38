pub mod Compared
pub mod Single
pub mod Ends
pub mod Identical
pub mod Copied
pub mod Zeros
pub mod One
