-- A drawing as a list of moves from point to point, and the graph that grows along them: nodes and edges together, each edge numbered when it is made.
use Rattle.std.specs.Prelude.{List, [], ◌∷◌, ◌++◌, map, ℕ, suc}
use Rattle.drawing_spec.specs.Drawing.{Point}
use Rattle.graph_spec.specs.Pieces.{pieces}
use Rattle.graph_spec.specs.Graph.{Edge, Graph, edge_of, get_or_insert}
use Rattle.graph_spec.specs.Nodes.{IsNode}

-- to a point with nothing drawn, or on to a point from the one before
pub data Move : Type 0 where
  start : Point → Move
  on : Point → Move

abbrev pub to : Move → Point
to (start q) = q
to (on q) = q

abbrev pub graph : List Point → List Edge → Graph
graph ns es = record { nodes = ns; edges = es }

-- one move, from p
unfoldable pub moved : Point → Move → Graph → Graph
moved p (start q) g = graph (get_or_insert g.nodes q) g.edges
moved p (on q) g = graph (get_or_insert g.nodes q) (g.edges ++ map (edge_of (get_or_insert g.nodes q)) (pieces p (q ∷ [])))

-- all moves, from p
unfoldable pub along : Point → List Move → Graph → Graph
along p [] g = g
along p (m ∷ ms) g = along (to m) ms (moved p m g)

-- the first move draws nothing, or starts at a node
abbrev pub Stands : List Point → Point → List Move → Type 0
Stands ns p [] = Unit {0}
Stands ns p (start q ∷ ms) = Unit {0}
Stands ns p (on q ∷ ms) = IsNode ns p

-- ---- the moves of a drawing; `chain_at s a b` is the chain after a of the segment s, which leads from a to b

abbrev pub draw_all : List Point → List Move
draw_all ps = map (λ (p : Point). on p) ps

unfoldable pub line_moves : (ℕ → Point → Point → List Point) → ℕ → Point → List Point → List Move
line_moves chain_at s a [] = []
line_moves chain_at s a (b ∷ ps) = draw_all (chain_at s a b) ++ line_moves chain_at (suc s) b ps
