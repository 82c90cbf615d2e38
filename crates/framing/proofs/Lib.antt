pub mod Reasons
pub mod Cuts
pub mod Chunks
pub mod Framing
pub mod Paper
pub mod One
