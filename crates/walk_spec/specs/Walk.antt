-- Hierholzer's walk of 1873: go on along edges not yet used; where none is left at the node in hand, it is taken off and the walk goes on from the one before it.
use Rattle.std.specs.Prelude.{ℕ, zero, suc, ◌+◌, ◌*◌, List, [], ◌∷◌, map, Bool, true, false, length, get_or, set, replicate}
use Rattle.graph_spec.specs.Graph.{Edge, Arc, edges_at}

-- How a node was entered: by the edge with a number, or not by an edge, as the first one.
pub data By : Type 0 where
  start : By
  edge : ℕ → By

pub record Entry : Type 0 where
  pub node : ℕ
  pub by : By

abbrev pub nodes_of : List Entry → List ℕ
nodes_of ts = map (λ (t : Entry). t.node) ts

-- the first of a node's edges that is not used
pub data Next : Type 0 where
  spent : Next
  along : ℕ → ℕ → Next

unfoldable pub next_of : List Bool → List Arc → Next
next_of used [] = spent
next_of used (r ∷ rs) = elim (get_or used r.number true) [ false ↦ along r.number r.to | true ↦ next_of used rs ]

abbrev pub next : List Edge → List Bool → ℕ → Next
next es used v = next_of used (edges_at es v)

-- The node in hand is on top of the stack. What is taken off goes in front of `out`, so that the whole reads from the start on. At most k steps.
unfoldable pub walk : ℕ → List Edge → List Bool → Entry → List Entry → List Entry → List Entry
unfolding next_of edges_at
walk zero es used top stack out = top ∷ out
walk (suc k) es used top stack out =
    elim (next es used top.node) [
      | along i v ↦ walk k es (set used i true) (record { node = v; by = edge i }) (top ∷ stack) out
      | spent ↦ elim stack [ [] ↦ top ∷ out | below ∷ rest ↦ walk k es used below rest (top ∷ out) ]
    ]

-- each edge is gone along once, and each entry taken off once
unfoldable pub circuit : List Edge → ℕ → List Entry
unfolding walk
circuit es s = walk (2 * length es + 1) es (replicate (length es) false) (record { node = s; by = start }) [] []
