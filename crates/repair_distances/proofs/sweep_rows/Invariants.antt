-- The rows before i are right, and the sweeps have reached no node.
use Rattle.std.proofs.Common.{◌≡◌, length}
use Rattle.graph_arrays.specs.Arrays.{edges_in}
use Rattle.repair_sweep.specs.Sweeps.{Unswept}
use Rattle.repair_distances.specs.Rows.{Rows}
use Rattle.repair_distances.proofs.sweep_rows.Given as goal

abbrev pub invariant-loop-i : goal.invariant-loop-i
invariant-loop-i l = (length l.table ≡ length l.initial.table) × Rows l.n (edges_in l.m l.edges) l.odd l.count l.base l.i l.table × Unswept l.sweep
