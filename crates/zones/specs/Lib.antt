pub mod Choice
pub mod Class
pub mod Text
pub mod Copy
pub mod Number
pub mod Table
pub mod Pieces
pub mod Answers
