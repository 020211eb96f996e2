-- A step from one point of a drawing to the next: its node and its edge.
pub mod Trace
pub mod Step
