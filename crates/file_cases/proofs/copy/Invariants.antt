-- The end stays within the room.
use Rattle.std.proofs.Common.{◌≤◌}
use Rattle.file_cases.proofs.copy.Given as goal

abbrev pub invariant-loop-i : goal.invariant-loop-i
invariant-loop-i l = l.end ≤ 65600
