-- `writer_again::sizes_of` meets its contract.
use Prim.Native.Nat.{ℕ}
use mathlib.Core.Path.{refl, ap}
use mathlib.Core.List.{[], ◌∷◌}
use lib.ListN.{set, replicate}
use Rattle.limits.specs.Limits.{most_lines}
use Rattle.writer_again.specs.Filled.{size_at}
use Rattle.writer_again.proofs.Filled.{fill_start, fill_turn, fill_end}
use native.Mathlib.Omega.{arith}
use Rattle.writer_again.proofs.sizes_of.Goals as goal

pub loop-line-init : goal.loop-line-init
loop-line-init c = fill_start (λ (i : ℕ). size_at c.args.starts.now i ∷ []) 1 (replicate most_lines 0) c.args.lines

pub size_at-requires : goal.size_at-requires
size_at-requires c = (omega arith, c.requires.1.up _ c.loop-line-test.true)

pub loop-line-preserved : goal.loop-line-preserved
loop-line-preserved c = fill_turn (λ (i : ℕ). size_at c.args.starts.now i ∷ []) 1 (replicate most_lines 0) _ c.loop-line.line c.loop-line.sizes c.loop-line.invariant c.loop-line-test.true refl c.loop-line.line (omega arith) _ (ap (set c.loop-line.sizes c.loop-line.line) c.size_at.ensures)

pub returns : goal.returns
returns c = fill_end (λ (i : ℕ). size_at c.args.starts.now i ∷ []) 1 (replicate most_lines 0) _ c.loop-line.line c.loop-line.sizes c.loop-line.invariant c.loop-line-test.false
