-- Where the walk looks first at each node.
use Rattle.std.specs.Prelude.{◌≡◌, List, ℕ, ◌<◌, length, get_or}
use Rattle.limits.specs.Limits.{most_nodes}
use Rattle.graph_adjacency.specs.Lists.{first_arc}

-- the first arc of each node below n
pub record FirstArcs (heads : List ℕ) (n : ℕ) (arcs : List ℕ) : Type 0 where
  pub long : length arcs ≡ most_nodes
  pub are : (v : ℕ) → v < n → get_or arcs v 0 ≡ first_arc heads v
