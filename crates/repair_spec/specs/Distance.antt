-- Least distances by Dijkstra's algorithm of 1959: of the nodes that are not yet done take the nearest, and see whether its edges lead to a nearer way.
-- Weights are added from the source on, each sum rounded.
use Rattle.std.specs.Prelude.{ℕ, zero, suc, List, [], ◌∷◌, Bool, true, false, length, get_or, set, replicate, eqb, Float, pos}
use Rattle.std.specs.Float.{inf, fin, binary64}
use Rattle.std.specs.Float.Ieee.{add, lt}
use Rattle.graph_spec.specs.Graph.{Edge}

-- no way is known yet
abbrev pub infinity : Float
infinity = inf false

abbrev pub zero_length : Float
zero_length = fin false 0 (pos 0)

abbrev pub distance_at : List Float → ℕ → Float
distance_at ds v = get_or ds v infinity

-- the way to v that costs c, where that is less
unfoldable pub improve : List Float → ℕ → Float → List Float
improve ds v c = elim (lt c (distance_at ds v)) [ true ↦ set ds v c | false ↦ ds ]

-- along an edge from u, at the distance d, if it is u's
unfoldable pub relax : ℕ → Float → ℕ → ℕ → Float → List Float → List Float
unfolding improve add
relax u d a b w ds = elim (eqb a u) [ true ↦ improve ds b (add binary64 d w) | false ↦ ds ]

unfoldable pub relax_all : ℕ → Float → List Edge → List Float → List Float
unfolding relax
relax_all u d [] ds = ds
relax_all u d (e ∷ es) ds = relax_all u d es (relax u d e.b e.a e.weight (relax u d e.a e.b e.weight ds))

pub record Nearest : Type 0 where
  pub node : ℕ
  pub distance : Float

-- the nearest of the nodes from v on that are not done, if it is nearer than the one in hand
unfoldable pub pick : List Float → List Bool → ℕ → Nearest → Nearest
unfolding lt
pick [] done v best = best
pick (d ∷ ds) [] v best = best
pick (d ∷ ds) (true ∷ done) v best = pick ds done (suc v) best
pick (d ∷ ds) (false ∷ done) v best =
    elim (lt d best.distance) [ true ↦ pick ds done (suc v) (record { node = v; distance = d }) | false ↦ pick ds done (suc v) best ]

-- k rounds; where every node that is not done is infinitely far, no node is picked and nothing changes
unfoldable pub dijkstra : ℕ → List Edge → List Float → List Bool → List Float
unfolding pick relax_all
dijkstra zero es ds done = ds
dijkstra (suc k) es ds done =
    let p = pick ds done 0 (record { node = length ds; distance = infinity }) in
    dijkstra k es (relax_all p.node p.distance es ds) (set done p.node true)

-- the least distances from s to each of n nodes
unfoldable pub distances : ℕ → List Edge → ℕ → List Float
unfolding dijkstra
distances n es s = dijkstra n es (set (replicate n infinity) s zero_length) (replicate n false)
