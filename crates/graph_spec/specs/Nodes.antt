-- What it is for a point to be one of the nodes: its number is below their count.
use Rattle.std.specs.Prelude.{List, ◌<◌, length}
use Rattle.drawing_spec.specs.Drawing.{Point}
use Rattle.graph_spec.specs.Graph.{node_of}

abbrev pub IsNode : List Point → Point → Type 0
IsNode ns p = node_of ns p < length ns
