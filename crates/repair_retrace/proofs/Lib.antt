-- Laws of the definitions in specs/; Path has the path that is found, Matching the loop over the pairs.
pub mod Path
pub mod Outcome
pub mod Answer
pub mod Matching
