-- What the planner has made at the end of each of its phases.
pub mod Ends
