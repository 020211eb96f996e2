-- A stroke's edge pushed onto the edges, unless it leads from a point to itself.
use Rattle.std.specs.Prelude.{cond, ℕ, ◌+◌}
use Rattle.length.specs.Root.{length_of}
use Rattle.drawing_spec.specs.Drawing.{Point, same}
use Rattle.graph_spec.specs.Chain.{squared}
use Rattle.graph_adjacency.specs.Lists.{Adjacency, push}

-- the edges, and how many there are
pub record Drawn : Type 0 where
  pub count : ℕ
  pub edges : Adjacency

abbrev pub drawn_as : ℕ → Adjacency → Drawn
drawn_as m g = record { count = m; edges = g }

-- with the edge from node u at p to node v at q, as number m; nothing is drawn from a point to itself
unfoldable pub with_stroke : ℕ → ℕ → ℕ → Point → Point → Adjacency → Drawn
with_stroke m u v p q g = cond (same p q) (drawn_as m g) (drawn_as (m + 1) (push m u v (length_of (squared p q)) g))
