-- `file_checks::heads::tally_of` meets its contract: its loop keeps `Counting`. Assumes nothing.
use Prim.Native.Nat.{◌-◌}
use lib.ListN.{length}
use Rattle.file_checks.proofs.TallyLaws.{Counting}
use Rattle.file_checks.proofs.heads.tally_of.Given as goal

abbrev pub invariant-loop-at : goal.invariant-loop-at
invariant-loop-at l = Counting l.file l.at l.t

abbrev pub decreases-loop-at : goal.decreases-loop-at
decreases-loop-at l = length l.file - l.at
