pub mod Bands
pub mod Count
pub mod Answers
pub mod Claim
pub mod Look
