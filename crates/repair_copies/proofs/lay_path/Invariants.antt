-- `repair_copies::lay_path` meets its contract.
use mathlib.Core.Path.{◌≡◌}
use lib.ListN.{drop}
use Rattle.graph_spec.specs.Graph.{edges_at}
use Rattle.repair_spec.specs.Copies.{lay_path, weight_to}
use Rattle.graph_arrays.specs.Arrays.{edges_in}
use Rattle.repair_search.proofs.Along.{From}
use Rattle.repair_copies.specs.Laying.{laid_of}
use Rattle.repair_copies.proofs.Laying.{Laying}
use Rattle.repair_copies.proofs.lay_path.Given as goal

-- nothing has changed yet; the weight of the first arc from u to v is that of the arcs from k on
abbrev pub invariant-loop-k : goal.invariant-loop-k
invariant-loop-k l =
    let arcs = edges_at (edges_in l.e l.edges) l.u in
    (l.edges ≡ l.initial.edges) × (l.e ≡ l.initial.e) × (l.total ≡ l.initial.total) × From (weight_to l.v) l.edges arcs l.u l.k (weight_to l.v arcs)

abbrev pub decreases-loop-k : goal.decreases-loop-k
decreases-loop-k l = l.k

abbrev pub invariant-step : goal.invariant-step
invariant-step l = Laying l.n l.path l.first l.m (lay_path (drop l.first l.path) (laid_of (edges_in l.m l.initial.edges) l.sum)) l.edges l.i l.e l.total
