-- Least distances from a node, by Dijkstra's algorithm of 1959 with a tournament of the nodes that are not done: one offer, the offers along a node's arcs, the whole search.
pub mod Offer
pub mod Relaxing
pub mod Touched
pub mod Search
