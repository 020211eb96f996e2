-- The nodes and edges in flat lists along a list of moves, and when such moves can be traced.
use Rattle.std.specs.Prelude.{List, [], ◌∷◌}
use Rattle.drawing_spec.specs.Drawing.{Point}
use Rattle.lists.specs.Members.{All}
use Rattle.graph_spec.specs.Graph.{Graph}
use Rattle.graph_moves.specs.Moves.{Move, start, on, to, along, Stands}
use Rattle.graph_moves.specs.Built.{uses_in}
use Rattle.graph_moves.specs.Room.{Room}
use Rattle.graph_splits.specs.Points.{Measurable}
use Rattle.graph_strokes.specs.Step.{Traced, stepped, begun, TracedTo}

-- one move, from p
unfoldable pub traced_by : Point → Move → Traced → Traced
traced_by p (start q) s = begun q s
traced_by p (on q) s = stepped p q s

unfoldable pub traced_along : Point → List Move → Traced → Traced
traced_along p [] s = s
traced_along p (m ∷ ms) s = traced_along (to m) ms (traced_by p m s)

-- The flat lists are those of a graph with the walk at p, and the moves to come, from p, stay within the room for nodes and edges.
pub record Traceable (p : Point) (ms : List Move) (s : Traced) : Type 0 where
  pub so_far : Graph
  pub held : TracedTo so_far.nodes so_far.edges p s
  pub stands : Stands so_far.nodes p ms
  pub room : Room (along p ms so_far)
  pub here : Measurable p
  pub places : All Measurable (uses_in ms)
