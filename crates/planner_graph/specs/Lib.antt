-- The planner's answer, and what it asks of a graph in arrays.
pub mod Answer
