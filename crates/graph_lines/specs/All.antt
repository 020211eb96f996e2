-- The moves of all lines and of all links, read from flat lists.
use Rattle.std.specs.Prelude.{List, [], ◌∷◌, ◌++◌, ℕ, zero, suc, ◌+◌, ◌*◌, ◌≤◌, get_or}
use Rattle.limits.specs.Limits.{most_points}
use Rattle.graph_splits.specs.Points.{Points, point_in}
use Rattle.graph_moves.specs.Moves.{Move, start, on}
use Rattle.graph_line.specs.Lines.{Filing, line_in}

-- ---- lines

-- n lines, from line i on
unfoldable pub lines_in : Filing → Points → List ℕ → ℕ → ℕ → List Move
lines_in f ps starts zero i = []
lines_in f ps starts (suc n) i = line_in f ps (get_or starts i 0) (get_or starts (i + 1) 0) ++ lines_in f ps starts n (i + 1)

-- every line ends among the points
pub record StartsInside (starts : List ℕ) : Type 0 where
  pub low : (i : ℕ) → get_or starts i 0 ≤ most_points

-- ---- links

-- n links, from link k on; the ends of link k are those numbered 2 k and 2 k + 1
unfoldable pub links_in : Points → ℕ → ℕ → List Move
links_in f zero k = []
links_in f (suc n) k = start (point_in f (2 * k)) ∷ on (point_in f (2 * k + 1)) ∷ links_in f n (k + 1)
