-- `repair_sweep::Sweep::look_along` meets its contract.
use mathlib.Core.Path.{◌≡◌}
use Rattle.graph_spec.specs.Graph.{edges_at}
use Rattle.graph_arrays.specs.Arrays.{edges_in}
use Rattle.repair_sweep.proofs.Along.{Looking}
use Rattle.repair_sweep.proofs.Sweep.look_along.Given as goal

abbrev pub invariant-loop-k : goal.invariant-loop-k
invariant-loop-k l = Looking l.n l.edges (edges_at (edges_in l.m l.edges) l.u) l.u l.d l.initial.self.dist l.k l.self.dist l.self.touched l.listed × (l.self.done ≡ l.initial.self.done)

abbrev pub decreases-loop-k : goal.decreases-loop-k
decreases-loop-k l = l.k
