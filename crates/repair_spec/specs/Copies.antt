-- The copies that a retrace lays: one for each edge of its path.
use Rattle.std.specs.Prelude.{ℕ, List, [], ◌∷◌, ◌++◌, true, false, eqb, Float}
use Rattle.std.specs.Float.{binary64}
use Rattle.std.specs.Float.Ieee.{add}
use Rattle.graph_spec.specs.Graph.{Edge, edge, Arc, edges_at}
use Rattle.repair_spec.specs.Distance.{zero_length}

-- the weight of the first of a node's edges that leads to v
unfoldable pub weight_to : ℕ → List Arc → Float
weight_to v [] = zero_length
weight_to v (r ∷ rs) = elim (eqb r.to v) [ true ↦ r.weight | false ↦ weight_to v rs ]

-- a graph's edges, the copies last, and the running sum of the copies' weights
pub record Laid : Type 0 where
  pub edges : List Edge
  pub sum : Float

-- one copy for each edge of a path, which goes on from u
unfoldable pub lay : ℕ → List ℕ → Laid → Laid
unfolding weight_to edges_at add
lay u [] l = l
lay u (v ∷ vs) l =
    let w = weight_to v (edges_at l.edges u) in
    lay v vs (record { edges = l.edges ++ (edge u v w ∷ []); sum = add binary64 l.sum w })

unfoldable pub lay_path : List ℕ → Laid → Laid
unfolding lay
lay_path [] l = l
lay_path (u ∷ vs) l = lay u vs l
