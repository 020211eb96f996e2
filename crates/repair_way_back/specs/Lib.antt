-- The way back from a node to the start of a search.
pub mod Back
pub mod Answer
