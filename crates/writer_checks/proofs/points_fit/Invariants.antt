-- The invariant: what is left of the coordinates, with all that the lines ask, is all coordinates with what the lines that are left ask.
use Rattle.writer_checks.proofs.CheckedLaws.{Counting}
use Rattle.writer_checks.proofs.points_fit.Given as goal

abbrev pub invariant-loop-points : goal.invariant-loop-points
invariant-loop-points l = Counting l.sizes l.coordinates l.left l.points-index
