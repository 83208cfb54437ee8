pub mod Nibbles
pub mod Codes
pub mod CodeAnswers
pub mod Field
pub mod Kept
pub mod Answers
pub mod Claim
pub mod Fields
