-- orient_path: the line is reversed only where its last point is strictly better than its first.
use Rattle.std.specs.Prelude.{List, [], ◌∷◌, reverse, true, false}
use Rattle.center.specs.Center.{better}
use Rattle.drawing_spec.specs.Drawing.{Point, Settings, inside}
use Rattle.graph_spec.specs.Count.{last_from}
use Rattle.walk_spec.specs.Start.{distance}

pub data EndPoints : Type 0 where
  ends : Point → Point → EndPoints
  empty : EndPoints

abbrev pub last_of : Point → List Point → Point
last_of p ps = last_from p ps

unfoldable pub end_points : List Point → EndPoints
unfolding last_from
end_points [] = empty
end_points (p ∷ ps) = ends p (last_of p ps)

unfoldable pub orient : Settings → List Point → List Point
unfolding end_points distance
orient s line = elim (end_points line) [
  | empty ↦ line
  | ends p q ↦ elim (better (inside s) (distance s q) (distance s p)) [ true ↦ reverse line | false ↦ line ]
]
