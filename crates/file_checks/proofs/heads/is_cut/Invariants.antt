-- `file_checks::heads::is_cut` meets its contract. The invariant: from here on a record passes the end exactly if one of the file does. Assumes nothing.
use mathlib.Core.Path.{◌≡◌}
use Prim.Native.Nat.{◌≤◌, ◌-◌}
use lib.ListN.{length}
use Rattle.drawing_spec.specs.Read.{is_cut}
use Rattle.file_records.specs.Walk.{cut_from}
use Rattle.file_checks.proofs.heads.is_cut.Given as goal

abbrev pub invariant-loop-at : goal.invariant-loop-at
invariant-loop-at l = (l.at ≤ length l.file) × (cut_from l.file l.at ≡ is_cut l.file)

abbrev pub decreases-loop-at : goal.decreases-loop-at
decreases-loop-at l = length l.file - l.at
