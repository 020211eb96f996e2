-- Marking where the arcs that are left lead gives what marking where all of them lead gives. The arc falls along a list.
use Rattle.graph_arrays.specs.Arrays.{edges_in}
use Rattle.graph_reach.specs.Marks.{targets_of}
use Rattle.graph_reach.proofs.Targets.{Going}
use Rattle.graph_reach.proofs.Marks.mark_neighbours.Given as goal

abbrev pub invariant-loop-k : goal.invariant-loop-k
invariant-loop-k l = Going l.edges l.v (targets_of (edges_in l.m l.edges) l.v) l.initial.self l.k l.self

abbrev pub decreases-loop-k : goal.decreases-loop-k
decreases-loop-k l = l.k
