pub mod Fold
pub mod Listed
pub mod Chain
pub mod Answers
pub mod Fill
pub mod Few
