pub mod Loops
pub mod Grammar
pub mod Refusals
pub mod Look
pub mod Count
pub mod Stored
pub mod Claim
pub mod Cards
