-- The places that are left, from the least so far, give the same as all.
use Rattle.std.proofs.Common.{◌≡◌, ◌-◌}
use Rattle.repair_masks.specs.Table.{least}
use Rattle.repair_masks.specs.Left.{leave_from}
use Rattle.repair_table.specs.Tables.{costs}
use Rattle.repair_optimal.proofs.leave_from.Given as goal

abbrev pub invariant-loop-v : goal.invariant-loop-v
invariant-loop-v l =
    leave_from (l.n - l.v) (costs l.table) l.mask l.v (least l.best.cost l.best.at) ≡ leave_from (l.n - l.start) (costs l.table) l.mask l.start (least l.initial.best.cost l.initial.best.at)
