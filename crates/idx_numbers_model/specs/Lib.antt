pub mod Parts
pub mod Numbers
pub mod Times
pub mod Answers
