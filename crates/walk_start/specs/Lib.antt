-- Where the walk starts.
pub mod Better
