-- Laws of specs/Moves.
use mathlib.Core.Path.{◌≡◌, refl}
use mathlib.Core.List.{List, [], ◌∷◌, ◌++◌}
use Prim.Native.Nat.{ℕ, suc}
use Rattle.drawing_spec.specs.Drawing.{Point, Link, Drawing}
use Rattle.graph_spec.specs.Chain.{chain}
use Rattle.graph_spec.specs.Graph.{Graph}
use Rattle.graph_moves.specs.Moves.{Move, along, graph, line_moves, moved, on, start, to}

-- where they end
unfoldable pub end_of : Point → List Move → Point
end_of p [] = p
end_of p (m ∷ ms) = end_of (to m) ms

pub along_append : (p : Point) (ms ks : List Move) (g : Graph) → along p (ms ++ ks) g ≡ along (end_of p ms) ks (along p ms g)
unfolding along end_of
along_append p [] ks g = refl
along_append p (m ∷ ms) ks g = along_append (to m) ms ks (moved p m g)

unfoldable pub lines_moves : List Link → ℕ → List (List Point) → List Move
unfolding chain line_moves
lines_moves ks l [] = []
lines_moves ks l ([] ∷ ls) = lines_moves ks (suc l) ls
lines_moves ks l ((a ∷ ps) ∷ ls) = (start a ∷ line_moves (chain ks l) 0 a ps) ++ lines_moves ks (suc l) ls

unfoldable pub link_moves : List Link → List Move
link_moves [] = []
link_moves (k ∷ ks) = start k.first.point ∷ on k.second.point ∷ link_moves ks

unfoldable pub moves_of : Drawing → List Move
unfolding lines_moves link_moves
moves_of d = lines_moves d.links 0 d.lines ++ link_moves d.links

-- the empty graph
abbrev pub no_graph : Graph
no_graph = graph [] []
