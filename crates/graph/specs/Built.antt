-- What the arrays hold when the graph of a drawing is built.
use Rattle.std.specs.Prelude.{◌≡◌, List, ℕ}
use Rattle.limits.specs.Limits.{most_nodes}
use Rattle.file_drawing.specs.Stores.{padded, xs_of, ys_of}
use Rattle.graph_spec.specs.Graph.{Graph}
use Rattle.graph_adjacency.specs.Lists.{Adjacency}
use Rattle.graph_arrays.specs.Arrays.{graph_in, NodesHeld, EdgesHeld}

-- the graph read off the arrays is g, and xs and ys hold zeros behind its nodes
pub record Built (g : Graph) (n m : ℕ) (xs ys : List ℕ) (a : Adjacency) : Type 0 where
  pub nodes : NodesHeld n xs ys
  pub edges : EdgesHeld n m a
  pub is : graph_in n m xs ys a ≡ g
  pub xs_are : xs ≡ padded most_nodes 0 (xs_of g.nodes)
  pub ys_are : ys ≡ padded most_nodes 0 (ys_of g.nodes)
