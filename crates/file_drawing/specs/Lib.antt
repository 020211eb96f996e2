-- A drawing in flat arrays: what they hold, and the way back to the drawing.
pub mod Held
pub mod Stores
pub mod Lines
pub mod Links
pub mod Fit
pub mod Back
