-- Laws of made links.
pub mod Rank
pub mod Candidates
pub mod Made
pub mod Examples
pub mod Grown
pub mod Same
pub mod Fits
pub mod Chains
pub mod Reached
pub mod ToPlan
