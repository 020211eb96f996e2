-- The graph that flat arrays hold, read off them: the node v is the point at xs[v], ys[v] (crates/graph_nodes), and the edge e joins
-- ends[e] and ends[e + edge_room] and weighs weights[e] (crates/graph_adjacency). Every contract of the planner's code that has such
-- arrays says by these functions and records what they hold.
use Rattle.std.specs.Prelude.{◌≡◌, List, ℕ, ◌+◌, ◌*◌, ◌≤◌, length, get_or, take}
use Rattle.std.specs.Float.{nan}
use Rattle.limits.specs.Limits.{most_nodes, most_edges, edge_room}
use Rattle.grid.specs.Grid.{origin}
use Rattle.drawing_spec.specs.Drawing.{Point}
use Rattle.graph_spec.specs.Graph.{Edge, edge, Graph}
use Rattle.graph_spec.specs.Ways.{Inside, Apart}
use Rattle.graph_spec.specs.Weights.{Searchable}
use Rattle.graph_adjacency.specs.Lists.{Adjacency, lists}
use Rattle.lists.specs.Tabulate.{tabulate}

abbrev pub point_in : List ℕ → List ℕ → ℕ → Point
point_in xs ys v = record { x = get_or xs v 0; y = get_or ys v 0 }

abbrev pub edge_in : Adjacency → ℕ → Edge
edge_in a e = edge (get_or a.ends e 0) (get_or a.ends (e + edge_room) 0) (get_or a.weights e nan)

-- the first n nodes
abbrev pub nodes_in : ℕ → List ℕ → List ℕ → List Point
nodes_in n xs ys = tabulate (point_in xs ys) n 0

-- the first m edges
abbrev pub edges_in : ℕ → Adjacency → List Edge
edges_in m a = tabulate (edge_in a) m 0

abbrev pub graph_in : ℕ → ℕ → List ℕ → List ℕ → Adjacency → Graph
graph_in n m xs ys a = record { nodes = nodes_in n xs ys; edges = edges_in m a }

-- The arrays have m edges between n nodes, each with two different ends, and beside them the list of each node's edges.
pub record EdgesLinked (n m : ℕ) (a : Adjacency) : Type 0 where
  pub few_nodes : n ≤ most_nodes
  pub few_edges : m ≤ edge_room
  pub linked : a ≡ lists (edges_in m a)
  pub inside : Inside n (edges_in m a)
  pub apart : Apart (edges_in m a)

-- They are the edges of a drawing, or of one under repair: each weighs what a length on the grid can be, and the virtual edge has room.
pub record EdgesHeld (n m : ℕ) (a : Adjacency) : Type 0 where
  pub edges : EdgesLinked n m a
  pub room : m ≤ most_edges
  pub searchable : Searchable n (edges_in m a)

-- The n nodes lie on the grid, and so does whatever stands behind the last one.
pub record NodesHeld (n : ℕ) (xs ys : List ℕ) : Type 0 where
  pub few : n ≤ most_nodes
  pub xs_on : (v : ℕ) → get_or xs v 0 ≤ 2 * origin
  pub ys_on : (v : ℕ) → get_or ys v 0 ≤ 2 * origin

-- The first `count` elements of an array are the list vs.
pub record Front (vs array : List ℕ) (count : ℕ) : Type 0 where
  pub counts : count ≡ length vs
  pub are : take count array ≡ vs
