pub mod Grammar
pub mod Loops
pub mod Numbers
pub mod Steps
pub mod Cards
