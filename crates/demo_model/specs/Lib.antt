pub mod Codes
pub mod Unit
pub mod Answers
pub mod Props
pub mod Claim
