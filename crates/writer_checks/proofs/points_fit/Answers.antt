-- `writer_checks::points_fit` meets its contract. Assumes nothing.
use Rattle.std.proofs.Common.{refl}
use Rattle.writer_checks.proofs.CheckedLaws.{counting_more, counting_short, counting_end}
use Rattle.writer_checks.proofs.points_fit.Goals as goal

pub returns-then-left-both : goal.returns-then-left-both
returns-then-left-both c = counting_short _ _ _ _ _ c.loop-points.invariant c.loop-points-test.true refl c.if-left-both.true

pub loop-points-preserved : goal.loop-points-preserved
loop-points-preserved c = counting_more _ _ _ _ _ c.loop-points.invariant c.loop-points-test.true refl c.if-left-both.false

pub returns : goal.returns
returns c = counting_end _ _ _ _ c.loop-points.invariant c.loop-points-test.false
