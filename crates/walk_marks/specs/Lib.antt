-- The marks of the edges that the walk has used.
pub mod Marks
