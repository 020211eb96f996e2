-- Lengths between points of the grid: the f64 nearest to the exact root of a whole number of squared grid steps, in units of the grid.
-- Definitions, and what nearest means:
pub mod Root
pub mod Nearest
-- what a step towards the root leaves:
pub mod Steps
