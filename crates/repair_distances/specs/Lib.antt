-- The rows of distances between odd nodes.
pub mod Rows
