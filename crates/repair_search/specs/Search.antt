-- What a search finds.
use Rattle.std.specs.Prelude.{◌≡◌, List, ℕ, length, Float}
use Rattle.limits.specs.Limits.{most_nodes}
use Rattle.graph_spec.specs.Graph.{Edge}
use Rattle.repair_spec.specs.Distance.{distance_at}
use Rattle.repair_spec.specs.Relax.{AllNonneg}
use Rattle.repair_spec.specs.Rounds.{UpTo}

-- distances from s along the edges es, up to that of the goal: the least costs over all ways, in an array of all nodes
pub record Found (es : List Edge) (s goal : ℕ) (ds : List Float) : Type 0 where
  pub long : length ds ≡ most_nodes
  pub nonneg : AllNonneg ds
  pub up_to : (v : ℕ) → UpTo es s (distance_at ds goal) v (distance_at ds v)
