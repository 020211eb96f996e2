-- The tries that are left, from the least so far, give the same as all tries. The measure is the mask of the tries that are left.
use Prim.Native.Nat.{◌≤◌, ◌<◌}
use mathlib.Core.Path.{◌≡◌}
use Rattle.repair_masks.specs.Table.{least, tries, tried}
use Rattle.repair_table.specs.Tables.{costs, row_at}
use Rattle.repair_table.proofs.try_partners.Given as goal

abbrev pub invariant-loop-rest : goal.invariant-loop-rest
invariant-loop-rest l =
    (l.rest ≤ l.others) × (tries l.rest (costs l.table) (row_at l.table l.row) l.others l.rest (least l.b.cost l.b.at) ≡ tried (costs l.table) (row_at l.table l.row) l.others) × (l.b.at < l.n)

abbrev pub decreases-loop-rest : goal.decreases-loop-rest
decreases-loop-rest l = l.rest
