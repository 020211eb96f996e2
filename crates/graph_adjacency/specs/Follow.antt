-- What it is that following a node's list from an arc on gives a list of edges, each seen from the node.
use Rattle.std.specs.Prelude.{◌≡◌, List, [], ◌∷◌, ℕ, ◌≤◌, ◌<◌}
use Rattle.limits.specs.Limits.{most_nodes, arc_room}
use Rattle.graph_spec.specs.Graph.{Edge, Arc}
use Rattle.graph_adjacency.specs.Lists.{Adjacency, next_arc, arc_at}

-- both ends of each edge are nodes
unfoldable pub Ends : List Edge → Type 0
Ends [] = Unit
Ends (e ∷ es) = (e.a < most_nodes) × (e.b < most_nodes) × Ends es

-- ---- following

-- k is an arc of the node v, it is r, and the arcs after it have lower numbers
pub record AtArc (g : Adjacency) (v k : ℕ) (r : Arc) : Type 0 where
  pub some : 0 < k
  pub within : k ≤ arc_room
  pub is : arc_at g k ≡ r
  pub falls : next_arc g.next g.heads v k < k

-- From the arc k of the node v on, the arcs rs are found, and then none.
unfoldable pub Follows : Adjacency → ℕ → ℕ → List Arc → Type 0
Follows g v k [] = k ≡ 0
Follows g v k (r ∷ rs) = AtArc g v k r × Follows g v (next_arc g.next g.heads v k) rs
