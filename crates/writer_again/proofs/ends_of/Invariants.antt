-- The invariant: with the coordinates that are left behind those stored, the array is whole.
use Prim.Native.Nat.{ℕ, ◌*◌}
use lib.ListN.{get_or, replicate}
use Rattle.limits.specs.Limits.{most_links}
use Rattle.file_drawing.specs.Held.{past_end}
use Rattle.writer_again.specs.Filled.{ends_of}
use Rattle.writer_again.proofs.Filled.{Filling}
use Rattle.writer_again.proofs.ends_of.Given as goal

abbrev pub invariant-loop-link : goal.invariant-loop-link
invariant-loop-link l = Filling (λ (i : ℕ). ends_of (get_or l.edges i past_end)) 4 (replicate (4 * most_links) 0) l.links l.link l.ends
