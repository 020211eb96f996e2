-- The coordinates that are left are all on the grid exactly if all of them are.
use Rattle.file_checks.proofs.CoordinatesLaws.{RowLeft}
use Rattle.file_checks.proofs.coordinates.words_on_grid.Given as goal

abbrev pub invariant-loop-i : goal.invariant-loop-i
invariant-loop-i l = RowLeft l.body l.at l.count l.i
