-- The places that are left, from the least so far, give the same as all.
use Rattle.std.proofs.Common.{◌≡◌, ◌-◌}
use Rattle.repair_masks.specs.Table.{least}
use Rattle.repair_masks.specs.Left.{leave_each, left_out}
use Rattle.repair_table.specs.Tables.{costs}
use Rattle.repair_optimal.proofs.left_out.Given as goal

abbrev pub invariant-loop-u : goal.invariant-loop-u
invariant-loop-u l =
    leave_each (l.n - l.u) (costs l.table) l.full l.u (least l.best.cost l.best.at) ≡ left_out l.n (costs l.table)
