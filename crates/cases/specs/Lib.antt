pub mod Arguments
pub mod Cases
pub mod Printed
pub mod Answers
