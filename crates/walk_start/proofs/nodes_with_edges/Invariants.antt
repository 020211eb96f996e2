-- The nodes with edges that are left, listed behind those that are listed, give the list of all.
use Prim.Native.Nat.{◌≤◌}
use Rattle.graph_arrays.specs.Arrays.{edges_in}
use Rattle.graph_arrays.proofs.Listing.{Listing}
use Rattle.walk_spec.specs.Start.{with_edges}
use Rattle.walk_start.proofs.nodes_with_edges.Given as goal

abbrev pub invariant-loop-v : goal.invariant-loop-v
invariant-loop-v l = (l.count ≤ l.v) × Listing (with_edges (edges_in l.m l.edges)) l.initial.list l.n l.v l.list l.count
