-- A step from one point of a drawing to the next: the next point's node, and the edge of the stroke to it.
use Rattle.std.specs.Prelude.{◌≡◌, List, ℕ, ◌≤◌, ◌<◌, length, replicate}
use Rattle.limits.specs.Limits.{most_nodes, edge_room}
use Rattle.drawing_spec.specs.Drawing.{Point}
use Rattle.graph_spec.specs.Graph.{Edge, node_of}
use Rattle.graph_splits.specs.Points.{Measurable}
use Rattle.graph_nodes.specs.Table.{Table, table, no_nodes, bucket_count, HasRoom, number_in, table_with, count_with}
use Rattle.graph_nodes.specs.Held.{Held}
use Rattle.graph_adjacency.specs.Lists.{Adjacency, no_edges, lists}
use Rattle.graph_strokes.specs.declared.Traced as code
use Rattle.graph_strokes.specs.Trace.{with_stroke}

-- ---- a point's node

-- the table with it, how many nodes there are then, and its number
pub record Numbered : Type 0 where
  pub table : Table
  pub count : ℕ
  pub node : ℕ

abbrev pub numbered : Table → ℕ → ℕ → Numbered
numbered t n v = record { table = t; count = n; node = v }

-- of q, where there are n nodes
unfoldable pub numbering : Point → ℕ → Table → Numbered
numbering q n t = let v = number_in n q.x q.y t in numbered (table_with n q.x q.y t) (count_with n v) v

-- there is room for it
pub record NodeReady (q : Point) (n : ℕ) (t : Table) : Type 0 where
  pub counted : n ≤ most_nodes
  pub room : HasRoom n q.x q.y t

-- ---- steps

-- the nodes and edges so far, how many there are, and the node last come to
abbrev pub Traced : Type 0
Traced = code.Traced

abbrev pub traced : Table → Adjacency → ℕ → ℕ → ℕ → Traced
traced t g n m u = record { table = t; edges = g; node_count = n; edge_count = m; node = u }

abbrev pub nothing_traced : Traced
nothing_traced = traced no_nodes no_edges 0 0 0

-- no edges, and zeros for the nodes
abbrev pub zeroed : Traced
zeroed = traced (table (replicate most_nodes 0) (replicate most_nodes 0) (replicate most_nodes 0) (replicate bucket_count 0)) no_edges 0 0 0

-- on to q from p
unfoldable pub stepped : Point → Point → Traced → Traced
unfolding numbering
stepped p q s =
    let k = numbering q s.node_count s.table in
    let d = with_stroke s.edge_count s.node k.node p q s.edges in
    traced k.table d.edges k.count d.count k.node

-- on to q, with nothing drawn: the first point of a line, or of a link
unfoldable pub begun : Point → Traced → Traced
unfolding numbering
begun q s = let k = numbering q s.node_count s.table in traced k.table s.edges k.count s.edge_count k.node

-- there is room for q's node and for the edge, and lengths can be made of both points
pub record StepReady (p q : Point) (s : Traced) : Type 0 where
  pub node_ready : NodeReady q s.node_count s.table
  pub edges_fit : s.edge_count < edge_room
  pub node_fits : s.node < most_nodes
  pub from_low : Measurable p
  pub to_low : Measurable q

-- ---- what it means for the nodes and the edges

-- the nodes are ns, the edges es, and the last node is that of p
pub record TracedTo (ns : List Point) (es : List Edge) (p : Point) (s : Traced) : Type 0 where
  pub nodes_held : Held s.table ns
  pub nodes_counted : s.node_count ≡ length ns
  pub edges_held : s.edges ≡ lists es
  pub edges_counted : s.edge_count ≡ length es
  pub node_is : s.node ≡ node_of ns p
