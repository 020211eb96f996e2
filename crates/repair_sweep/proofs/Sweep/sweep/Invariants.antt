-- `repair_sweep::Sweep::sweep` meets its contract.
use Prim.Native.Nat.{◌-◌}
use Rattle.limits.specs.Limits.{most_nodes}
use Rattle.graph_arrays.specs.Arrays.{edges_in}
use Rattle.repair_sweep.specs.Sweeps.{Looked, GoesOn}
use Rattle.repair_sweep.proofs.Sweep.sweep.Given as goal

abbrev pub invariant-loop-j : goal.invariant-loop-j
invariant-loop-j l = Looked l.n l.self l.listed × GoesOn (edges_in l.m l.edges) l.initial.self l.self

abbrev pub decreases-loop-j : goal.decreases-loop-j
decreases-loop-j l = most_nodes - l.j
