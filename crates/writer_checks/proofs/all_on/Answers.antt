-- Each turn tests one coordinate.
use Rattle.writer_checks.proofs.CheckedLaws.{row_on, row_off, row_end}
use Rattle.writer_checks.proofs.all_on.Goals as goal

pub returns-then-not-on : goal.returns-then-not-on
returns-then-not-on c = row_off _ _ c.loop-i.invariant c.loop-i-test.true _ c.on_grid-on.ensures c.if-not-on.true

pub loop-i-preserved : goal.loop-i-preserved
loop-i-preserved c = row_on _ _ c.loop-i.invariant c.loop-i-test.true _ c.on_grid-on.ensures c.if-not-on.false

pub returns : goal.returns
returns c = row_end _ _ c.loop-i.invariant c.loop-i-test.false
