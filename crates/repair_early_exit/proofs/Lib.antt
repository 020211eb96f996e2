-- That a search may stop at its goal, and that in a graph in one piece it always finds a path.
-- A neighbour that is as far or farther is never on the way back (NotBack, by the sums of Difference), and all distances are small enough for that (Bounded, by Rounds):
pub mod Difference
pub mod NotBack
pub mod Rounds
pub mod Bounded
-- so what is found up to the goal is enough (WayBack, EarlyExit):
pub mod WayBack
pub mod EarlyExit
-- Every way back ends at the start (Found, by the count of Closer), in each graph that repair searches (Laid, Never):
pub mod Closer
pub mod Found
pub mod Laid
pub mod Never
