-- Both places are of rows that are not the last.
use Rattle.std.proofs.Common.{◌≡◌, ◌+◌, ◌*◌, ◌%◌, ◌<◌}
use Rattle.repair_greedy.proofs.least_row.Given as goal

abbrev pub invariant-loop : goal.invariant-loop
invariant-loop l = (l.one.at + 1 < l.left) × (l.other.at + 1 < l.left) × (l.i ≡ l.rows % 2 + 2 * l.counter)
