-- Laws of the definitions in specs/, and what the pairs are of.
pub mod Few
pub mod Joined
pub mod Refusal
pub mod PairsLaws
pub mod Usable
