-- The coordinates that are left are all on the grid exactly if all are.
use Rattle.std.proofs.Common.{◌≡◌, drop}
use Rattle.writer_checks.specs.Checked.{all_on}
use Rattle.writer_checks.proofs.all_on.Given as goal

abbrev pub invariant-loop-i : goal.invariant-loop-i
invariant-loop-i l = all_on (drop l.i l.words) ≡ all_on l.words
