-- `file_checks::coordinates::coordinates_fit` meets its contract: its loop keeps `Checking`. Assumes nothing.
use Prim.Native.Nat.{◌-◌}
use lib.ListN.{length}
use Rattle.file_checks.proofs.CoordinatesLaws.{Checking}
use Rattle.file_checks.proofs.coordinates.coordinates_fit.Given as goal

abbrev pub invariant-loop-at : goal.invariant-loop-at
invariant-loop-at l = Checking l.file l.at

abbrev pub decreases-loop-at : goal.decreases-loop-at
decreases-loop-at l = length l.file - l.at
