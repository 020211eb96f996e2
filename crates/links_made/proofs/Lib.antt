-- Laws of made links of a drawing in flat arrays.
pub mod Filled
pub mod Drawn
pub mod Whole
pub mod Planned
