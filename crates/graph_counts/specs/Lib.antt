-- How many nodes, edges and odd nodes the graph of a drawing has at most.
pub mod Few
