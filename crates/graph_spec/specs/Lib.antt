-- How lines and links become a graph.
-- the chain of a segment, with its split points:
pub mod Chain
-- pieces and links, and the points in the order of their use:
pub mod Pieces
-- nodes and edges, and the order of a node's edges:
pub mod Graph
-- degrees, and which nodes are odd:
pub mod Odd
-- which nodes can be reached:
pub mod Reach
-- how often a line steps between two points, and what lies there:
pub mod Count
-- Predicates that contracts and laws name: of ways along edges, of weights, of nodes:
pub mod Ways
pub mod Weights
pub mod Nodes
