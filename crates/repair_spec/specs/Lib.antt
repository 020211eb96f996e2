-- Which odd nodes are paired, and which way each retrace goes.
-- least distances:
pub mod Distance
-- the way between two nodes, from its end back, that fits the least distances within 1e-10:
pub mod Retrace
-- the copies laid along it:
pub mod Copies
-- which nodes are paired, by Greedy and by Optimal:
pub mod Pairing
pub mod PairsIn
-- fix_parity, of these, and condition 11:
pub mod Repair
-- Predicates that contracts and laws name: the least cost of all ways, what a search keeps to, and what it finds up to a limit:
pub mod Cost
pub mod Relax
pub mod Rounds
-- What is asked of Optimal's pairs: that no choice of pairs costs less.
pub mod Cheapest
