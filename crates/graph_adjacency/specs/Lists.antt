-- The edges of a graph in flat lists, and what is read of them.
use Rattle.std.specs.Prelude.{ℕ, suc, ◌+◌, ◌-◌, ◌*◌, List, [], ◌∷◌, false, cond, get_or, set, replicate, eqb, leb, pos, Float}
use Rattle.std.specs.Float.{nan, fin}
use Rattle.limits.specs.Limits.{most_nodes, edge_room, arc_room}
use Rattle.graph_spec.specs.Graph.{Edge, Arc}
use Rattle.graph_adjacency.specs.declared.Adjacency as code

-- The edges of a graph in flat lists, as the code holds them.
abbrev pub Adjacency : Type 0
Adjacency = code.Adjacency

abbrev pub adjacency : List ℕ → List Float → List ℕ → List ℕ → Adjacency
adjacency es ws ns hs = record { ends = es; weights = ws; next = ns; heads = hs }

abbrev pub no_edges : Adjacency
no_edges = adjacency (replicate arc_room 0) (replicate edge_room (fin false 0 (pos 0))) (replicate arc_room 0) (replicate (2 * most_nodes) 0)

-- with the edge number e, from u to v, of weight x
unfoldable pub push : ℕ → ℕ → ℕ → Float → Adjacency → Adjacency
push e u v x g =
    adjacency
    (set (set g.ends e u) (e + edge_room) v)
    (set g.weights e x)
    (set (set g.next (e + edge_room) (get_or g.heads u 0)) e (get_or g.heads (v + most_nodes) 0))
    (set (set g.heads u (e + (edge_room + 1))) (v + most_nodes) (e + 1))

-- with the edges es, the first of which has the number i
unfoldable pub pushed : ℕ → List Edge → Adjacency → Adjacency
unfolding push
pushed i [] g = g
pushed i (e ∷ es) g = pushed (suc i) es (push i e.a e.b e.weight g)

-- the flat lists of a graph's edges
unfoldable pub lists : List Edge → Adjacency
unfolding pushed
lists es = pushed 0 es no_edges

-- the arc, or the one to go on with where it is none
abbrev pub or_else : ℕ → ℕ → ℕ
or_else k other = cond (eqb k 0) other k

-- the first arc of a node, and the arc after another; 0 where there is none
unfoldable pub first_arc : List ℕ → ℕ → ℕ
first_arc hs v = or_else (get_or hs v 0) (get_or hs (v + most_nodes) 0)

unfoldable pub next_arc : List ℕ → List ℕ → ℕ → ℕ → ℕ
next_arc ns hs v k = cond (leb k edge_room) (get_or ns (k - 1) 0) (or_else (get_or ns (k - 1) 0) (get_or hs (v + most_nodes) 0))

-- the number of an arc's edge
unfoldable pub edge_number : ℕ → ℕ
edge_number k = cond (leb k edge_room) (k - 1) (k - (edge_room + 1))

-- what is known of an arc
unfoldable pub arc_at : Adjacency → ℕ → Arc
unfolding edge_number
arc_at g k = record { number = edge_number k; to = get_or g.ends (k - 1) 0; weight = get_or g.weights (edge_number k) nan }
