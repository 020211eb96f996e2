-- Links that the planner makes between the ends of lines, where flag 4 asks for them (CR 1).
-- between which ends a link may be made, and how these candidates rank:
pub mod Candidates
-- which sets of candidates may be made:
pub mod Allowed
-- the links that are made, and the drawing that is planned:
pub mod Made
