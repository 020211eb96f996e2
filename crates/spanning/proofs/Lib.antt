-- Laws of edges that span.
pub mod Counts
pub mod Groups
pub mod Kept
pub mod Sorted
pub mod Ahead
pub mod Cut
pub mod Examples
