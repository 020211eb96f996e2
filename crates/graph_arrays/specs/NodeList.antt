-- Nodes listed in the front of an array: a line, or the nodes that it may start at.
use Rattle.std.specs.Prelude.{List, map, ℕ, ◌≤◌, ◌<◌, length, get_or, take}
use Rattle.drawing_spec.specs.Drawing.{Point}
use Rattle.graph_spec.specs.Graph.{point_at}
use Rattle.graph_arrays.specs.Arrays.{nodes_in}

-- The first `count` elements of an array with `room` elements are nodes of a graph with n. The list is `take count array`.
pub record NodeList (n room : ℕ) (array : List ℕ) (count : ℕ) : Type 0 where
  pub fits : count ≤ room
  pub long : count ≤ length array
  pub nodes_in_known : (j : ℕ) → j < count → get_or array j 0 < n

-- where they lie
abbrev pub points_along : ℕ → List ℕ → List ℕ → List ℕ → ℕ → List Point
points_along n xs ys array count = map (point_at (nodes_in n xs ys)) (take count array)
