-- The line: the walk, cut at the virtual step, and turned so that its better end comes first.
use Rattle.std.specs.Prelude.{ℕ, List, [], ◌∷◌, ◌++◌, map, length, get_or}
use Rattle.drawing_spec.specs.Drawing.{Point, Settings}
use Rattle.graph_spec.specs.Graph.{Edge, edge, point_at}
use Rattle.graph_spec.specs.Odd.{odd_nodes, odd_from}
use Rattle.repair_spec.specs.Distance.{zero_length}
use Rattle.walk_spec.specs.Walk.{nodes_of, circuit}
use Rattle.walk_spec.specs.Start.{best, with_edges}
use Rattle.walk_spec.specs.VirtualStep.{cut_at}
use Rattle.walk_spec.specs.Orient.{orient}

-- The walk through a graph of which none or two nodes are odd. Between two odd nodes a virtual edge is added last, from the lower to the higher, and its step is cut.
unfoldable pub euler : Settings → List Point → List Edge → List ℕ
unfolding best with_edges circuit cut_at odd_from
euler s ns es =
    elim (odd_nodes (length ns) es) [
      | [] ↦ nodes_of (circuit es (best s ns (with_edges es (length ns) 0)))
      | u ∷ us ↦
          let odd : List ℕ = u ∷ us in
          let v = get_or odd 1 0 in
          nodes_of (cut_at (length es) [] (circuit (es ++ (edge u v zero_length ∷ [])) (best s ns odd)))
    ]

unfoldable pub hierholzer : Settings → List Point → List Edge → List ℕ
unfolding euler
hierholzer s [] es = []
hierholzer s (p ∷ ns) es = euler s (p ∷ ns) es

-- the line through the repaired graph's nodes and edges
unfoldable pub line_of : Settings → List Point → List Edge → List Point
unfolding hierholzer orient
line_of s ns es = orient s (map (point_at ns) (hierholzer s ns es))
