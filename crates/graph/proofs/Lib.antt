-- Laws of the definitions in specs/.
pub mod Arrays
pub mod Built
pub mod Part
pub mod Sound
pub mod Whole
