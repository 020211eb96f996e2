-- `writer_again::coordinates_of` meets its contract.
use Prim.Native.Nat.{ℕ, ◌*◌}
use mathlib.Core.Path.{refl}
use lib.ListN.{get_or, replicate}
use Rattle.limits.specs.Limits.{most_points}
use Rattle.writer_again.specs.Filled.{bits_of}
use Rattle.writer_again.proofs.Filled.{fill_start, fill_turn, fill_end}
use Rattle.writer_again.proofs.coordinates_of.Goals as goal

pub loop-point-init : goal.loop-point-init
loop-point-init c = fill_start (λ (i : ℕ). bits_of (get_or c.args.xs.now i 0) (get_or c.args.ys.now i 0)) 2 (replicate (2 * most_points) 0) c.args.points

pub loop-point-preserved : goal.loop-point-preserved
loop-point-preserved c = fill_turn (λ (i : ℕ). bits_of (get_or c.args.xs.now i 0) (get_or c.args.ys.now i 0)) 2 (replicate (2 * most_points) 0) _ c.loop-point.point c.loop-point.coordinates c.loop-point.invariant c.loop-point-test.true refl (2 * c.loop-point.point) refl _ c.put_point.ensures

pub returns : goal.returns
returns c = fill_end (λ (i : ℕ). bits_of (get_or c.args.xs.now i 0) (get_or c.args.ys.now i 0)) 2 (replicate (2 * most_points) 0) _ c.loop-point.point c.loop-point.coordinates c.loop-point.invariant c.loop-point-test.false
