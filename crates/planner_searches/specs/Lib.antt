-- The searches that repair makes, and what is asked of them.
pub mod Searches
-- What is asked of Optimal's pairs.
pub mod Cheapest
