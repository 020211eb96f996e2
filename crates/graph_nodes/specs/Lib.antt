-- The nodes of a graph in flat arrays, found by a hash of their coordinates.
pub mod Table
pub mod Held
