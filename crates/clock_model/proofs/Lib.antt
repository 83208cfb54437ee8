pub mod Sums
pub mod Minus
pub mod Clock
pub mod Cards
