pub mod Loops
pub mod Grammar
pub mod Claim
pub mod Refusals
pub mod Many
pub mod Cards
