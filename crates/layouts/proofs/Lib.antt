pub mod PerKind
pub mod PerLayout
