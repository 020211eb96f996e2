-- What a search that stops at a limit says of a node.
use Rattle.std.specs.Prelude.{List, ℕ, ◌≤◌, Float}
use Rattle.std.specs.Float.{binary64}
use Rattle.sums.specs.Key.{key}
use Rattle.graph_spec.specs.Graph.{Edge}
use Rattle.repair_spec.specs.Cost.{Way, Least}

-- d is the distance of v in a search up to a limit: the least cost if it is within the limit; beyond the limit no way costs less than the limit
pub record UpTo (es : List Edge) (s : ℕ) (limit : Float) (v : ℕ) (d : Float) : Type 0 where
  pub near : key binary64 d ≤ key binary64 limit → Least es s v d
  pub far : key binary64 limit ≤ key binary64 d → (c : Float) → Way es s v c → key binary64 limit ≤ key binary64 c
