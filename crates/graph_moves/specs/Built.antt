-- The points that moves lead to.
use Rattle.std.specs.Prelude.{List, map}
use Rattle.drawing_spec.specs.Drawing.{Point}
use Rattle.graph_moves.specs.Moves.{Move, to}

abbrev pub uses_in : List Move → List Point
uses_in ms = map to ms
