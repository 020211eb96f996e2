-- Laws of lists.
pub mod Members
pub mod Elements
pub mod Parts
pub mod Tabulate
