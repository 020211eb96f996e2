-- The invariant: with the coordinates that are left behind those stored, the array is whole.
use Prim.Native.Nat.{ℕ, ◌*◌}
use lib.ListN.{get_or, replicate}
use Rattle.limits.specs.Limits.{most_points}
use Rattle.writer_again.specs.Filled.{bits_of}
use Rattle.writer_again.proofs.Filled.{Filling}
use Rattle.writer_again.proofs.coordinates_of.Given as goal

abbrev pub invariant-loop-point : goal.invariant-loop-point
invariant-loop-point l = Filling (λ (i : ℕ). bits_of (get_or l.xs i 0) (get_or l.ys i 0)) 2 (replicate (2 * most_points) 0) l.points l.point l.coordinates
