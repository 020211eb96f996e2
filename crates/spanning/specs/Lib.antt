-- Edges between numbered vertices, in an order: ways along them, and which of them Kruskal keeps.
-- ways along edges, and edges that span:
pub mod Edges
-- lists in a strict order:
pub mod Order
-- the edges that are kept:
pub mod Greedy
