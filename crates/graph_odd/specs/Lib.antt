-- Degrees counted in one pass, and the odd nodes listed.
pub mod Degrees
