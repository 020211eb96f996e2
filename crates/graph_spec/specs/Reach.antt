-- Which nodes can be reached from node 0.
use Rattle.std.specs.Prelude.{ℕ, zero, suc, List, [], ◌∷◌, Bool, true, false, ◌&&◌, get_or, set, replicate}
use Rattle.graph_spec.specs.Graph.{Edge}

-- v is marked where u is
unfoldable pub spread : List Bool → ℕ → ℕ → List Bool
spread ms u v = elim (get_or ms u false) [ true ↦ set ms v true | false ↦ ms ]

-- once over the edges: where one end is marked, the other is too
unfoldable pub sweep : List Edge → List Bool → List Bool
unfolding spread
sweep [] ms = ms
sweep (e ∷ es) ms = sweep es (spread (spread ms e.a e.b) e.b e.a)

unfoldable pub sweeps : ℕ → List Edge → List Bool → List Bool
unfolding sweep
sweeps zero es ms = ms
sweeps (suc k) es ms = sweeps k es (sweep es ms)

unfoldable pub all_true : List Bool → Bool
all_true [] = true
all_true (m ∷ ms) = m && all_true ms

-- of n nodes: a way to a node has fewer than n edges, so n times over the edges marks every node that can be reached
unfoldable pub all_reached : ℕ → List Edge → Bool
unfolding sweeps all_true
all_reached n es = all_true (sweeps n es (set (replicate n false) 0 true))
