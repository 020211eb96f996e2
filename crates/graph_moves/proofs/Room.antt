-- Laws of specs/Room: a graph that has room for its nodes and edges had room at every move before. Assumes nothing.
use mathlib.Core.List.{List, [], ◌∷◌, map}
use native.Mathlib.Omega.{arith}
use lib.ListN.{length-append}
use Rattle.drawing_spec.specs.Drawing.{Point}
use Rattle.graph_spec.specs.Pieces.{pieces}
use Rattle.graph_spec.specs.Graph.{Graph, edge_of, get_or_insert}
use Rattle.graph_moves.specs.Moves.{Move, start, on, to, moved, along}
use Rattle.graph_moves.proofs.Built.{longer}
use Rattle.graph_moves.specs.Room.{Room}

pub moved_room : (p : Point) (m : Move) (g : Graph) → Room (moved p m g) → Room g
unfolding moved
moved_room p (start q) g r = (omega (arith, longer g.nodes q, r.0), r.1)
moved_room p (on q) g r =
    (omega (arith, longer g.nodes q, r.0), omega (arith, length-append g.edges (map (edge_of (get_or_insert g.nodes q)) (pieces p (q ∷ []))), r.1))

pub along_room : (p : Point) (ms : List Move) (g : Graph) → Room (along p ms g) → Room g
unfolding along
along_room p [] g r = r
along_room p (m ∷ ms) g r = moved_room p m g (along_room (to m) ms (moved p m g) r)
