-- The invariant: with the sizes that are left behind those stored, the array is whole.
use Prim.Native.Nat.{ℕ}
use mathlib.Core.List.{[], ◌∷◌}
use lib.ListN.{replicate}
use Rattle.limits.specs.Limits.{most_lines}
use Rattle.writer_again.specs.Filled.{size_at}
use Rattle.writer_again.proofs.Filled.{Filling}
use Rattle.writer_again.proofs.sizes_of.Given as goal

abbrev pub invariant-loop-line : goal.invariant-loop-line
invariant-loop-line l = Filling (λ (i : ℕ). size_at l.starts i ∷ []) 1 (replicate most_lines 0) l.lines l.line l.sizes
