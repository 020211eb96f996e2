-- The rows before i are right, and the search has reached no node.
use Rattle.std.proofs.Common.{◌≡◌, length}
use Rattle.graph_arrays.specs.Arrays.{edges_in}
use Rattle.repair_search.specs.Touched.{Unreached}
use Rattle.repair_distances.specs.Rows.{Rows}
use Rattle.repair_distances.proofs.search_rows.Given as goal

abbrev pub invariant-loop-i : goal.invariant-loop-i
invariant-loop-i l = (length l.table ≡ length l.initial.table) × Rows l.n (edges_in l.m l.edges) l.odd l.count l.base l.i l.table × Unreached l.n l.search
