-- The walk by cursors: where each node's list of edges is looked at next.
pub mod Entries
pub mod FirstArcs
