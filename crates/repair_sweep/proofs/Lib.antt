-- Laws of the definitions in specs/; Along has the loop along a node's list of arcs.
pub mod Along
pub mod Sweeps
