-- Laws of the definitions in specs/.
pub mod Built
pub mod Moves
pub mod Room
