-- The graph of a drawing: nodes numbered by first use, edges in the order of pieces, then links; and the order in which a node's edges are looked at.
use Rattle.std.specs.Prelude.{ℕ, suc, List, [], ◌∷◌, ◌++◌, map, true, false, length, get_or, eqb, ltb, Float}
use Rattle.length.specs.Root.{length_of, root_over}
use Rattle.drawing_spec.specs.Drawing.{Point, no_point, same, Drawing}
use Rattle.graph_spec.specs.Pieces.{Stroke, pieces_of, links_of, strokes_of, uses_of}
use Rattle.graph_spec.specs.Chain.{squared}

-- ---- nodes

-- the number of p among the nodes, the first of which has the number i; past the last where it is none
unfoldable pub find : Point → List Point → ℕ → ℕ
find p [] i = i
find p (q ∷ qs) i = elim (same p q) [ true ↦ i | false ↦ find p qs (suc i) ]

abbrev pub node_of : List Point → Point → ℕ
node_of ns p = find p ns 0

abbrev pub point_at : List Point → ℕ → Point
point_at ns v = get_or ns v no_point

unfoldable pub get_or_insert : List Point → Point → List Point
unfolding find
get_or_insert ns p = elim (ltb (node_of ns p) (length ns)) [ true ↦ ns | false ↦ ns ++ (p ∷ []) ]

unfoldable pub first_uses : List Point → List Point → List Point
unfolding get_or_insert
first_uses ns [] = ns
first_uses ns (p ∷ ps) = first_uses (get_or_insert ns p) ps

-- ---- edges

pub record Edge : Type 0 where
  pub a : ℕ
  pub b : ℕ
  pub weight : Float

abbrev pub edge : ℕ → ℕ → Float → Edge
edge u v w = record { a = u; b = v; weight = w }

unfoldable pub edge_of : List Point → Stroke → Edge
unfolding find root_over
edge_of ns s = edge (node_of ns s.from) (node_of ns s.to) (length_of (squared s.from s.to))

pub record Graph : Type 0 where
  pub nodes : List Point
  pub edges : List Edge

unfoldable pub build_graph : Drawing → Graph
unfolding first_uses uses_of pieces_of links_of edge_of
build_graph d =
    let ns = first_uses [] (uses_of d) in
    record { nodes = ns; edges = map (edge_of ns) (strokes_of d) }

-- ---- a node's edges, in document 01's order: those with it as first end, newest first, then those with it as second end, newest first

-- an edge seen from one of its ends
pub record Arc : Type 0 where
  pub number : ℕ
  pub to : ℕ
  pub weight : Float

-- edges whose near end is v, the newest first, in front of those found before; the first edge has the number i
unfoldable pub newest_first : (Edge → ℕ) → (Edge → ℕ) → ℕ → ℕ → List Edge → List Arc → List Arc
newest_first near far v i [] found = found
newest_first near far v i (e ∷ es) found =
    elim (eqb (near e) v) [
      | true ↦ newest_first near far v (suc i) es (record { number = i; to = far e; weight = e.weight } ∷ found)
      | false ↦ newest_first near far v (suc i) es found
    ]

unfoldable pub edges_at : List Edge → ℕ → List Arc
unfolding newest_first
edges_at es v = newest_first (λ (e : Edge). e.a) (λ (e : Edge). e.b) v 0 es (newest_first (λ (e : Edge). e.b) (λ (e : Edge). e.a) v 0 es [])
