-- A retrace: a way between the two nodes of a pair, found from its end back by the least distances, which each step fits within 1e-10. The source calls it `shortest_path`.
-- It need not be the shortest: closing the lines (0, 0) (500, 1) (1000, 0), (0, 0) (499, 1) (1000, 0) and (0, 0) (500, 400) (1000, 0), in grid steps, goes back by (499, 1),
-- which is longer than by (500, 1), but by less than 1e-10.
use Rattle.std.specs.Prelude.{ℕ, zero, suc, ◌^◌, List, [], ◌∷◌, Bool, true, false, ◌&&◌, ◌||◌, not, eqb, Float}
use Rattle.std.specs.Float.{nan, inf, fin, binary64}
use Rattle.std.specs.Float.Ieee.{add, sub, lt, round}
use Rattle.graph_spec.specs.Graph.{Edge, Arc, edges_at}
use Rattle.repair_spec.specs.Distance.{distance_at, distances}

abbrev pub magnitude : Float → Float
magnitude nan = nan
magnitude (inf s) = inf false
magnitude (fin s m e) = fin false m e

-- the source's 1e-10
abbrev pub tolerance : Float
tolerance = round binary64 false 1 (10 ^ 10)

-- Whether a neighbour at the distance d, by an edge of weight w, is on the way back from a node at the distance c.
unfoldable pub on_way_back : Float → Float → Float → Bool
unfolding add sub lt
on_way_back d w c = lt (magnitude (sub binary64 (add binary64 d w) c)) tolerance

unfoldable pub member : ℕ → List ℕ → Bool
member v [] = false
member v (u ∷ us) = eqb v u || member v us

pub data Step : Type 0 where
  to : ℕ → Step
  none : Step

-- the first neighbour in edge order that is not visited and on the way back from a node at the distance c
unfoldable pub step_back : List Float → Float → List ℕ → List Arc → Step
unfolding on_way_back member
step_back ds c visited [] = none
step_back ds c visited (r ∷ rs) =
    elim (not (member r.to visited) && on_way_back (distance_at ds r.to) r.weight c) [ true ↦ to r.to | false ↦ step_back ds c visited rs ]

pub data Path : Type 0 where
  found : List ℕ → Path
  error : Path

-- from the node v back to the start s, in front of the nodes after v, which with v are those visited; at most k steps
unfoldable pub way_back : ℕ → List Edge → List Float → ℕ → ℕ → List ℕ → Path
unfolding step_back edges_at
way_back zero es ds s v after = error
way_back (suc k) es ds s v after =
    elim (eqb v s) [
      | true ↦ found (v ∷ after)
      | false ↦ elim (step_back ds (distance_at ds v) (v ∷ after) (edges_at es v)) [ to u ↦ way_back k es ds s u (v ∷ after) | none ↦ error ]
    ]

-- the source's `shortest_path`: no node is visited twice, so n nodes are enough steps
unfoldable pub shortest_path : ℕ → List Edge → ℕ → ℕ → Path
unfolding way_back distances
shortest_path n es s t = way_back n es (distances n es s) s t []
