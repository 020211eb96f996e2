-- Laws of the definitions in specs/.
pub mod Between
pub mod Built
pub mod Connected
pub mod EdgesAt
pub mod Examples
pub mod Handshake
pub mod Lines
pub mod Nodes
pub mod Occurs
pub mod Odd
pub mod Reached
pub mod Sort
pub mod Strokes
pub mod Sums
