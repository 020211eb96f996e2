-- The length stays within the room.
use Rattle.std.proofs.Common.{◌≤◌}
use Rattle.file_cases.proofs.build.Given as goal

abbrev pub invariant-runs : goal.invariant-runs
invariant-runs l = l.len ≤ 65600

abbrev pub invariant-copies : goal.invariant-copies
invariant-copies l = l.len ≤ 65600
