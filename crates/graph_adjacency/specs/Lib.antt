-- The edges of a graph in flat arrays, with a list of each node's edges.
pub mod Lists
pub mod Follow
