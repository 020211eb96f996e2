-- Ways along edges, what they cost, and the least of these costs: what document 01 and Dijkstra 1959 ask of a distance.
use Rattle.std.specs.Prelude.{◌≡◌, ◌⊎◌, List, ℕ, ◌≤◌, Float}
use Rattle.std.specs.Float.{binary64}
use Rattle.std.specs.Float.Ieee.{add}
use Rattle.sums.specs.Key.{key}
use Rattle.graph_spec.specs.Graph.{Edge}
use Rattle.graph_spec.specs.Ways.{Joins}
use Rattle.lists.specs.Members.{In}
use Rattle.repair_spec.specs.Distance.{infinity, zero_length}

-- a way from s, each edge taken in either direction, and its cost: the weights added from s on, each sum rounded
pub data Way (es : List Edge) (s : ℕ) : ℕ → Float → Type 0 where
  here : Way es s s zero_length
  step : {u v : ℕ} {c : Float} → Way es s u c → (e : Edge) → In e es → Joins e u v → Way es s v (add binary64 c e.weight)

-- d is the least cost of all ways from s to v: none costs less, and one costs d; infinity where no way costs less than that
pub record Least (es : List Edge) (s v : ℕ) (d : Float) : Type 0 where
  pub below : (c : Float) → Way es s v c → key binary64 d ≤ key binary64 c
  pub reached : (d ≡ infinity) ⊎ Way es s v d
