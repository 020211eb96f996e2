-- What the planner has made of a file when a call stops after a phase.
pub mod Phases
