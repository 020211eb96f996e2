-- Retraces between the nodes of pairs, one after the other.
pub mod Outcome
pub mod Answer
