-- Distances from the centre of the canvas.
pub mod Center
