pub mod Paint
pub mod Call
pub mod Answers
pub mod Claim
