pub mod Sums
pub mod Clock
pub mod Answers
