-- Least distances from a node by sweeps over the nodes that were reached.
pub mod Sweeps
