-- What is known of a drawing's edges when least distances are searched: how many nodes there are at most, and that weights are lengths on the grid.
use Rattle.std.specs.Prelude.{List, false, ℕ, ◌^◌, ◌≤◌, ◌<◌, pos, negsuc, Float}
use Rattle.std.specs.Float.{fin, binary64}
use Rattle.sums.specs.Key.{Nonneg, key}
use Rattle.lists.specs.Members.{In}
use Rattle.graph_spec.specs.Graph.{Edge}
use Rattle.graph_spec.specs.Ways.{Inside}

-- no edge has a negative weight, -0.0 or NaN
abbrev pub Weights : List Edge → Type 0
Weights es = (e : Edge) → In e es → Nonneg binary64 e.weight

-- the length of a grid step, 1/1024
abbrev pub grid_step : Float
grid_step = fin false 1 (negsuc 9)

-- 2 ^ 14; the longest on the grid has 8192 times the root of 2
abbrev pub longest : Float
longest = fin false 1 (pos 14)

-- every edge is as long as a grid step or longer
abbrev pub Long : List Edge → Type 0
Long es = (e : Edge) → In e es → key binary64 grid_step ≤ key binary64 e.weight

abbrev pub Short : List Edge → Type 0
Short es = (e : Edge) → In e es → key binary64 e.weight ≤ key binary64 longest

-- What holds of the edges of a drawing and of their copies: there are fewer than 2 ^ 27 nodes, so that every least distance but infinity is below 2 ^ 41; both ends are
-- among the n nodes; and a weight is no negative number, is a grid step or longer, and is 2 ^ 14 or shorter.
pub record Searchable (n : ℕ) (es : List Edge) : Type 0 where
  pub few : n < 2 ^ 27
  pub inside : Inside n es
  pub weights : Weights es
  pub long : Long es
  pub short : Short es
