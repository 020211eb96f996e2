-- Degrees by one pass over the edges.
use Rattle.std.specs.Prelude.{◌≡◌, List, ℕ, ◌+◌, ◌<◌, get_or, set}
use Rattle.limits.specs.Limits.{most_nodes, edge_room}
use Rattle.graph_spec.specs.Graph.{Edge}
use Rattle.graph_spec.specs.Odd.{degree}

-- the edge i has two nodes as its ends, and neither's count has come to 4,001 yet
pub record Countable (i : ℕ) (ends ds : List ℕ) : Type 0 where
  pub room : i < edge_room
  pub first : get_or ends i 0 < most_nodes
  pub second : get_or ends (i + edge_room) 0 < most_nodes
  pub apart : get_or ends i 0 ≡ get_or ends (i + edge_room) 0 → ⊥
  pub first_below : get_or ds (get_or ends i 0) 0 < edge_room
  pub second_below : get_or ds (get_or ends (i + edge_room) 0) 0 < edge_room

-- one more at v
abbrev pub bump : List ℕ → ℕ → List ℕ
bump ds v = set ds v (get_or ds v 0 + 1)

-- both ends of an edge
abbrev pub bumped : List ℕ → ℕ → ℕ → List ℕ
bumped ds u v = bump (bump ds u) v

-- ds has the degree of each node
abbrev pub Degrees : List Edge → List ℕ → Type 0
Degrees es ds = (v : ℕ) → get_or ds v 0 ≡ degree es v
