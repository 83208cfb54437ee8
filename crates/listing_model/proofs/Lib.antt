pub mod Laws
pub mod Signed
pub mod Units
pub mod Table
pub mod Claim
pub mod Cards
