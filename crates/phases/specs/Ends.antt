-- What the planner has made at the end of each of its phases, told by two counts and a length.
-- The phases have numbers: 0 the file is read, 1 the graph, 2 the odd nodes, 3 the pairs, 4 a search for each pair, 5 repair; any other is the line.
use Rattle.std.specs.Prelude.{List, [], ◌∷◌, Bool, true, false, ℕ, ◌-◌, length, get_or, eqb, Float}
use Rattle.std.specs.Float.{binary64}
use Rattle.std.specs.Float.Ieee.{add}
use Rattle.limits.specs.Limits.{most_edges, refused_edges}
use Rattle.drawing_spec.specs.Drawing.{Point, Settings}
use Rattle.graph_spec.specs.Graph.{Edge, Graph, point_at}
use Rattle.graph_spec.specs.Odd.{odd_nodes}
use Rattle.repair_spec.specs.Distance.{zero_length, distance_at, distances}
use Rattle.repair_spec.specs.Pairing.{Pair}
use Rattle.repair_pairs.specs.Pairs as found
use Rattle.repair.specs.Parity as parity
use Rattle.walk_spec.specs.Line.{line_of}
use Rattle.phases.specs.declared.Phase.{Phase}

-- a refusal has its number and zeros; what is made has the number 0
abbrev pub refused_with : ℕ → Phase
refused_with k = record { refusal = k; first = 0; second = 0; total = zero_length }

abbrev pub made : ℕ → ℕ → Float → Phase
made first second total = record { refusal = 0; first = first; second = second; total = total }

-- how many odd nodes there are, and the last of them
unfoldable pub odd_end : ℕ → List Edge → Phase
odd_end n es = let odd = odd_nodes n es in made (length odd) (get_or odd (length odd - 1) 0) zero_length

-- the least distances between the nodes of each pair, added up in order, each sum rounded
unfoldable pub searched : ℕ → List Edge → List Pair → Float → Float
unfolding distances add
searched n es [] sum = sum
searched n es (p ∷ ps) sum = searched n es ps (add binary64 sum (distance_at (distances n es p.from) p.to))

-- how many odd nodes there are, and how many pairs; or also the sum of these distances
abbrev pub pairs_made : Graph → Bool → ℕ → List Pair → Phase
pairs_made g true odd ps = made odd (length ps) zero_length
pairs_made g false odd ps = made odd (length ps) (searched (length g.nodes) g.edges ps zero_length)

abbrev pub found_end : Graph → Bool → found.Found → Phase
found_end g b (found.refusal k) = refused_with k
found_end g b (found.pairs odd ps) = pairs_made g b odd ps

unfoldable pub pairs_end : Graph → Settings → ℕ → ℕ → ℕ → Phase
unfolding found.pairs_for searched
pairs_end g s floats bytes last = found_end g (eqb last 3) (found.pairs_for g s floats bytes)

-- how many points a line has, and the first coordinate of its last point
abbrev pub line_made : List Point → Float → Phase
line_made ps retrace = made (length ps) (point_at ps (length ps - 1)).x retrace

-- how many nodes are left odd, how many edges there are with the copies, and the length of the retraces; or the line through them
abbrev pub repair_made : Graph → Settings → Bool → Float → ℕ → List Edge → Phase
repair_made g s true retrace after es = made after (length es) retrace
repair_made g s false retrace after es = line_made (line_of s g.nodes es) retrace

abbrev pub value_end : Graph → Settings → Bool → parity.Value → Phase
value_end g s b (parity.refusal k) = refused_with k
value_end g s b (parity.values retrace before after es) = repair_made g s b retrace after es

unfoldable pub repair_end : Graph → Settings → ℕ → ℕ → ℕ → Phase
unfolding parity.parity_for line_of
repair_end g s floats bytes last = value_end g s (eqb last 5) (parity.parity_for most_edges refused_edges g s floats bytes)
