-- Lists: their elements, and the list of the values of a function.
pub mod Members
pub mod Tabulate
