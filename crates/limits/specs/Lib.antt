-- The limits that the planner holds a drawing to, and the numbers of its refusals.
pub mod Limits
pub mod Tied
pub mod Refused
