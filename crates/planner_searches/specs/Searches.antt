-- The searches that repair makes: which edges each is made on, and between which two nodes. What is asked of them for a file is `Searches`; proofs/Searches has the theorem.
use Rattle.std.specs.Prelude.{◌≡◌, List, ◌∷◌, true, false, ℕ, ◌+◌, ◌-◌, ◌<◌, length, get_or, leb, Float}
use Rattle.std.specs.Float.{binary64}
use Rattle.limits.specs.Limits.{most_edges, refused_edges}
use Rattle.sums.specs.Key.{key}
use Rattle.drawing_spec.specs.Drawing.{Settings, closing}
use Rattle.graph_spec.specs.Graph.{Edge, Graph, build_graph}
use Rattle.graph_spec.specs.Odd.{odd_nodes}
use Rattle.graph_spec.specs.Count.{sum_over}
use Rattle.repair_spec.specs.Distance.{infinity, distance_at, distances}
use Rattle.repair_spec.specs.Cost.{Least}
use Rattle.repair_spec.specs.Retrace.{found, shortest_path}
use Rattle.repair_spec.specs.Pairing.{Pair, pair}
use Rattle.repair_spec.specs.Repair.{Repair, Repairing, repaired, retraced, apply_matching, rows, distance_in, pairs_of, drawn}
use Rattle.planner_spec.specs.Plan.{drawing_in, repair_of}

-- the nodes of a graph, and its odd ones
abbrev pub count : Graph → ℕ
count g = length g.nodes

abbrev pub odd_list_of : Graph → List ℕ
odd_list_of g = odd_nodes (count g) g.edges

-- `apply_matching` retraces the pairs ps on r, and searches the edges es for the pair p
pub data PairSearch (n : ℕ) : List Pair → Repair → List Edge → Pair → Type 0 where
  first : {p : Pair} {ps : List Pair} {r : Repair} → PairSearch n (p ∷ ps) r r.edges p
  later : {p : Pair} {ps : List Pair} {r : Repair} {path : List ℕ} {es : List Edge} {q : Pair} → shortest_path n r.edges p.from p.to ≡ found path
      → PairSearch n ps (retraced path r) es q → PairSearch n (p ∷ ps) r es q

-- what `fix_parity` closes, where the line is to be closed
abbrev pub before_closing : ℕ → ℕ → Graph → Settings → Repairing
before_closing most number g s = elim (leb (length (odd_list_of g)) 2) [ true ↦ repaired (drawn g) | false ↦ apply_matching most number (count g) (pairs_of g s (odd_list_of g)) (drawn g) ]

-- `fix_parity` searches the edges es for the pair p, in a retrace or to close the line
pub data RepairSearch (most number : ℕ) (g : Graph) (s : Settings) : List Edge → Pair → Type 0 where
  retrace : {es : List Edge} {p : Pair} → 2 < length (odd_list_of g) → PairSearch (count g) (pairs_of g s (odd_list_of g)) (drawn g) es p → RepairSearch most number g s es p
  close : {r : Repair} → closing s ≡ true → before_closing most number g s ≡ repaired r → length (odd_nodes (count g) r.edges) ≡ 2
      → RepairSearch most number g s r.edges (pair (get_or (odd_nodes (count g) r.edges) 0 0) (get_or (odd_nodes (count g) r.edges) 1 0))

-- d is the least cost of all ways from u to v, and finite
pub record LeastFinite (es : List Edge) (u v : ℕ) (d : Float) : Type 0 where
  pub least : Least es u v d
  pub finite : key binary64 d < key binary64 infinity

pub record Searches (file : List ℕ) : Type 0 where
  -- the distances that each search finds from its first node
  pub of_repair : {es : List Edge} {p : Pair} → RepairSearch most_edges refused_edges (build_graph (drawing_in file)) (drawing_in file).settings es p
      → (v : ℕ) → v < count (build_graph (drawing_in file)) → LeastFinite es p.from v (distance_at (distances (count (build_graph (drawing_in file))) es p.from) v)
  -- the distances that Optimal pairs by, from the odd node at the place i
  pub of_pairing : (i : ℕ) → i < length (odd_list_of (build_graph (drawing_in file))) → (v : ℕ) → v < count (build_graph (drawing_in file))
      → LeastFinite (build_graph (drawing_in file)).edges (get_or (odd_list_of (build_graph (drawing_in file))) i 0) v (distance_in (rows (count (build_graph (drawing_in file))) (build_graph (drawing_in file)).edges (odd_list_of (build_graph (drawing_in file)))) (get_or (odd_list_of (build_graph (drawing_in file))) i 0) v)
  -- after repair there is one edge more for each step of each retrace
  pub copies : (r : Repair) → repair_of (build_graph (drawing_in file)) (drawing_in file).settings ≡ repaired r → length r.edges ≡ length (build_graph (drawing_in file)).edges + sum_over (λ (way : List ℕ). length way - 1) r.retraces
