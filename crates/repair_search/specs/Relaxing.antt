-- Looking along the arcs of a node: of the costs that they offer each that is lower is taken, and nothing else changes.
use Rattle.std.specs.Prelude.{◌≡◌, List, [], ◌∷◌, ℕ, Float}
use Rattle.std.specs.Float.{binary64}
use Rattle.std.specs.Float.Ieee.{add}
use Rattle.graph_spec.specs.Graph.{Arc}
use Rattle.repair_spec.specs.Distance.{improve}
use Rattle.repair_search.specs.Offer.{Held, Together}

-- from a node at the distance d, along the arcs in their order
unfoldable pub relax_arcs : Float → List Arc → List Float → List Float
relax_arcs d [] ds = ds
relax_arcs d (r ∷ rs) ds = relax_arcs d rs (improve ds r.to (add binary64 d r.weight))

-- the distances and the tournament after the last arc
pub record Relaxed (n : ℕ) (arcs : List Arc) (d : Float) (from tree ds t : List Float) : Type 0 where
  pub improved : ds ≡ relax_arcs d arcs from
  pub held : Held n ds t
  pub together : Together n from tree ds t
