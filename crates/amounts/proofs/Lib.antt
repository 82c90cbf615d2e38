pub mod Whole
pub mod Signs
pub mod RoundTrip
pub mod Reading
pub mod Paper
pub mod One
