-- The line's record, written into the output.
pub mod Written
