-- What a drawing's arrays and its filed links say are the drawing's moves. This crate has no definitions of its own.
pub mod Chains
pub mod Ends
pub mod Same
pub mod Starts
