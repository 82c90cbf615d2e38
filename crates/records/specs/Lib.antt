pub mod Layouts
pub mod July
pub mod Looks
pub mod Tests
pub mod Answers
pub mod Worked
