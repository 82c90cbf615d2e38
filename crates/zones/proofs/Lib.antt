pub mod Bools
pub mod Every
pub mod Copies
pub mod Decimal
pub mod Called
pub mod Table
pub mod Pasted
pub mod One
