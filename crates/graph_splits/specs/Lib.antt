-- The split points of a segment, in flat arrays, sorted by distance from its start.
pub mod Buffer
pub mod Next
pub mod Points
