-- Which line is drawn through the repaired graph.
-- What Hierholzer's theorem promises, a line along every edge once:
pub mod EulerLine
-- his walk:
pub mod Walk
-- where it starts:
pub mod Start
-- which of its steps is cut:
pub mod VirtualStep
-- which end of the line comes first:
pub mod Orient
-- the line, of these:
pub mod Line
