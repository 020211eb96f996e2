-- Which of two points is the better one to start at.
use Rattle.std.specs.Prelude.{List, Bool, true, false, ℕ}
use Rattle.center.specs.Center.{better}
use Rattle.drawing_spec.specs.Drawing as drawn
use Rattle.graph_spec.specs.Graph.{point_at}
use Rattle.walk_spec.specs.Start.{distance}
use Rattle.grid.specs.declared.Point.{Point}

-- a point of the definitions, as the code holds it, and back
abbrev pub point_from : drawn.Point → Point
point_from p = record { x = p.x; y = p.y }

abbrev pub point_of : Point → drawn.Point
point_of p = record { x = p.x; y = p.y }

-- p lies strictly better than q
abbrev pub lies_better : drawn.Settings → drawn.Point → drawn.Point → Bool
lies_better s p q = better (drawn.inside s) (distance s p) (distance s q)

-- u where it lies strictly better than v, and v otherwise
unfoldable pub better_of : drawn.Settings → List drawn.Point → ℕ → ℕ → ℕ
unfolding distance
better_of s ns v u = elim (lies_better s (point_at ns u) (point_at ns v)) [ true ↦ u | false ↦ v ]
