-- `repair_sweep::Sweep::sweep_from` meets its contract.
use Rattle.graph_arrays.specs.Arrays.{edges_in}
use Rattle.repair_sweep.specs.Sweeps.{Looked, Sweeping}
use Rattle.repair_sweep.proofs.Sweep.sweep_from.Given as goal

abbrev pub invariant-loop : goal.invariant-loop
invariant-loop l = Looked l.n l.self l.count × Sweeping (edges_in l.m l.edges) l.s l.self.dist l.self.done
