-- `repair_way_back::way_back` meets its contract.
use mathlib.Core.Path.{◌≡◌}
use Prim.Native.Nat.{◌-◌}
use lib.ListN.{drop}
use Rattle.limits.specs.Limits.{most_nodes}
use Rattle.graph_spec.specs.Graph.{edges_at}
use Rattle.repair_spec.specs.Distance.{distance_at}
use Rattle.repair_spec.specs.Retrace.{step_back}
use Rattle.graph_arrays.specs.Arrays.{edges_in}
use Rattle.repair_search.proofs.Along.{From}
use Rattle.repair_way_back.proofs.Back.{Going}
use Rattle.repair_way_back.proofs.way_back.Given as goal

abbrev pub invariant-loop-k : goal.invariant-loop-k
invariant-loop-k l =
    let step_from = step_back l.dist (distance_at l.dist l.initial.v) (drop l.at l.path) in
    let arcs = edges_at (edges_in l.m l.edges) l.initial.v in
    (l.v ≡ l.initial.v) × From step_from l.edges arcs l.initial.v l.k (step_from arcs)

abbrev pub decreases-loop-k : goal.decreases-loop-k
decreases-loop-k l = l.k

abbrev pub invariant-back : goal.invariant-back
invariant-back l = Going l.n (edges_in l.m l.edges) l.dist l.s l.t l.v (most_nodes - l.step) l.path l.seen
