-- The ways through `plan_graph` (Ways), by the definition's cases (Steps), and that the length of the retraces is a number (Sum).
pub mod Sum
pub mod Steps
pub mod Ways
