-- The grid of a drawing's coordinates.
pub mod Grid
