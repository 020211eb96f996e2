-- Node 0 is marked, what is marked can be reached, and each marked node waits in the queue or has all its neighbours marked. The measure is the places of the queue that are left.
use Prim.Native.Nat.{◌-◌}
use Rattle.limits.specs.Limits.{most_nodes}
use Rattle.graph_arrays.specs.Arrays.{edges_in}
use Rattle.graph_reach.proofs.Spread.{Walking}
use Rattle.graph_reach.proofs.all_reached.Given as goal

abbrev pub invariant-loop-head : goal.invariant-loop-head
invariant-loop-head l = Walking (edges_in l.m l.edges) l.marks l.head

abbrev pub decreases-loop-head : goal.decreases-loop-head
decreases-loop-head l = most_nodes - l.head
