-- The kind 4 record in an output.
use Rattle.std.specs.Prelude.{List, map, ◌++◌, ℕ, take}
use Rattle.grid.specs.Grid.{write_place}
use Rattle.drawing_spec.specs.Drawing.{Point}
use Rattle.drawing_spec.specs.Bytes.{bytes}
use Rattle.graph_arrays.specs.Arrays.{point_in}

-- the bytes of the point at the places x and y
abbrev pub place_bytes : ℕ → ℕ → List ℕ
place_bytes x y = bytes 8 (write_place x) ++ bytes 8 (write_place y)

-- the points of the first `count` nodes of a line
abbrev pub points_in : List ℕ → List ℕ → List ℕ → ℕ → List Point
points_in xs ys line count = map (point_in xs ys) (take count line)
