-- The drawing file: what is in it, checks 1 to 8 of document 01, and check 15.
-- whole numbers in bytes:
pub mod Bytes
-- a drawing as a value: settings, lines, links:
pub mod Drawing
-- the first condition that holds:
pub mod Refusal
-- from a file's bytes to its drawing, and the checks:
pub mod Read
-- a sketch and a file with a plain zero for each minus zero:
pub mod Cleaned
-- Predicates that contracts and laws name: of points on the grid, of what the checks leave:
pub mod OnGrid
pub mod Accepted
