-- That the arrays have room for the nodes and edges of a graph.
use Rattle.std.specs.Prelude.{◌≤◌, length}
use Rattle.limits.specs.Limits.{most_nodes, most_edges}
use Rattle.graph_spec.specs.Graph.{Graph}

-- at most 1,534 nodes and 4,000 edges
abbrev pub Room : Graph → Type 0
Room g = (length g.nodes ≤ most_nodes) × (length g.edges ≤ most_edges)
