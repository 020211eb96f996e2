-- The nodes and edges in flat arrays, along the moves of a drawing; and along the chain of one segment.
pub mod Along
pub mod Kept
