-- Laws of made links in flat arrays.
pub mod Cases
pub mod Marks
pub mod Ranks
pub mod Inserts
pub mod Visits
pub mod Agree
pub mod Growth
