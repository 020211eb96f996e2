-- Bounds of a drawn graph: how many nodes and edges it has, how many nodes are odd, and how long the edges are.
pub mod Edges
pub mod Odd
pub mod Nodes
pub mod Lengths
