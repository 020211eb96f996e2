-- What it is for a point to lie on the grid, and what holds of both points of a link.
use Rattle.std.specs.Prelude.{◌*◌, ◌≤◌}
use Rattle.grid.specs.Grid.{origin}
use Rattle.drawing_spec.specs.Drawing.{Point, Link}

-- both places are among those of the grid, 0 to twice the origin
abbrev pub OnGrid : Point → Type 0
OnGrid p = (p.x ≤ 2 * origin) × (p.y ≤ 2 * origin)

-- what holds of the two points of a link
abbrev pub AtEnds : (Point → Type 0) → Link → Type 0
AtEnds P k = P k.first.point × P k.second.point
