-- No more cases are wrong than were looked at.
use Rattle.std.proofs.Common.{◌≤◌}
use Rattle.file_cases.proofs.count_wrong.Given as goal

abbrev pub invariant-loop-i : goal.invariant-loop-i
invariant-loop-i l = l.found ≤ l.i
