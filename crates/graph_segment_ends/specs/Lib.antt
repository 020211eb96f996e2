-- The ends of links, filed by the segment that they split.
pub mod Ends
pub mod Gather
