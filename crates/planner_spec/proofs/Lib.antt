-- Laws of the definitions in specs/. Proved has demand 3, Refuted what it shuts out, EulerLine that the line is Hierholzer's, FileDecides that nothing but the file decides,
-- MinusZero that a file is planned as the cleaned one is, Tables that the tables for 20 odd nodes are enough for every file, and Samples the starred drawings.
pub mod AsIfHeld
pub mod Counted
pub mod Drawn
pub mod EulerLine
pub mod Examples
pub mod FileDecides
pub mod LineEnds
pub mod LineRecord
pub mod MadeLinks
pub mod MinusZero
pub mod NeverGiven
pub mod Numbered
pub mod Plan
pub mod Proved
pub mod Refuted
pub mod Samples
pub mod Tables
pub mod WordsExamples
