-- The records of a drawing file: where each one stands, and what it holds.
pub mod Walk
pub mod Body
pub mod Meaning
pub mod Kind
