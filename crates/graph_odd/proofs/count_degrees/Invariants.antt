-- What is counted and the degrees by the edges that are left make the degrees by all; so no count is above a degree, and no degree is above 4,001.
use Rattle.graph_arrays.specs.Arrays.{edges_in}
use Rattle.graph_odd.proofs.Degrees.{Counted}
use Rattle.graph_odd.proofs.count_degrees.Given as goal

abbrev pub invariant-loop-i : goal.invariant-loop-i
invariant-loop-i l = Counted (edges_in l.m l.edges) l.i l.degrees
