pub mod Lines
pub mod Title
pub mod Answers
