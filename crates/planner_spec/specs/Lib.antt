-- The answer to a drawing, and demand 3.
-- the kind 4 record that a line is written as:
pub mod LineRecord
-- conditions 9 to 14, the answer, and what a call leaves:
pub mod Plan
-- piece, link, copy and odd in the words of demand 3:
pub mod Words
-- the statement of demand 3:
pub mod Demand3
-- that the line written is an Euler line of the repaired graph:
pub mod EulerLine
