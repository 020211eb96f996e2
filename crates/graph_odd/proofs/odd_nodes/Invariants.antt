-- The odd ones of the nodes that are left, listed behind those that are listed, give the list of all.
use Prim.Native.Nat.{◌≤◌}
use Rattle.graph_spec.specs.Odd.{odd_from}
use Rattle.graph_arrays.specs.Arrays.{edges_in}
use Rattle.graph_arrays.proofs.Listing.{Listing}
use Rattle.graph_odd.proofs.odd_nodes.Given as goal

abbrev pub invariant-loop-v : goal.invariant-loop-v
invariant-loop-v l = (l.count ≤ l.v) × Listing (odd_from (edges_in l.m l.edges)) l.initial.odd l.n l.v l.odd l.count
