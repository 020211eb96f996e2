-- The distances of the nodes so far are copied.
use Rattle.std.proofs.Common.{◌≡◌, length}
use Rattle.repair_distances.specs.Rows.{Copied}
use Rattle.repair_distances.proofs.copy_row.Given as goal

abbrev pub invariant-loop-j : goal.invariant-loop-j
invariant-loop-j l = (length l.table ≡ length l.initial.table) × Copied l.at l.odd l.j l.start l.initial.table l.table
