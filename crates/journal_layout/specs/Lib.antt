pub mod Chains
pub mod Layout
pub mod Former
pub mod Test
pub mod Answers
