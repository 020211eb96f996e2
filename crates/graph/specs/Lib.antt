-- The graph of a drawing, built in flat arrays.
pub mod Whole
pub mod Built
pub mod Sound
