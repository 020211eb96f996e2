-- Where the walk starts: among the odd nodes, or among the nodes with edges if none is odd, at the one that lies best, first on ties.
use Rattle.std.specs.Prelude.{ℕ, zero, suc, List, [], ◌∷◌, true, false, ltb}
use Rattle.center.specs.Center.{from_center, from_center_on_grid, better}
use Rattle.drawing_spec.specs.Drawing.{Point, Settings, inside}
use Rattle.graph_spec.specs.Graph.{Edge, point_at}
use Rattle.graph_spec.specs.Odd.{degree}

-- the squared distance from the canvas centre, in half steps
unfoldable pub distance : Settings → Point → ℕ
unfolding from_center_on_grid
distance s p = from_center s.width s.height p.x p.y

-- the best of v and the others, v where none of them is strictly better
unfoldable pub best_of : Settings → List Point → ℕ → List ℕ → ℕ
unfolding distance
best_of s ns v [] = v
best_of s ns v (u ∷ us) =
    elim (better (inside s) (distance s (point_at ns u)) (distance s (point_at ns v))) [ true ↦ best_of s ns u us | false ↦ best_of s ns v us ]

-- with no candidate the walk starts at node 0
unfoldable pub best : Settings → List Point → List ℕ → ℕ
unfolding best_of
best s ns [] = 0
best s ns (v ∷ vs) = best_of s ns v vs

-- of n nodes from the node v on, those with edges
unfoldable pub with_edges : List Edge → ℕ → ℕ → List ℕ
unfolding degree
with_edges es zero v = []
with_edges es (suc n) v = elim (ltb 0 (degree es v)) [ true ↦ v ∷ with_edges es n (suc v) | false ↦ with_edges es n (suc v) ]
