-- One coordinate after the other.
use mathlib.Core.Path.{sym, ◌∙◌}
use Rattle.file_checks.proofs.CoordinatesLaws.{row_start, row_on, row_off, row_end}
use Rattle.file_checks.proofs.coordinates.words_on_grid.Goals as goal

pub returns-then-not-on_grid : goal.returns-then-not-on_grid
returns-then-not-on_grid c = row_off c.args.body.now c.args.at c.args.count _ c.loop-i.invariant c.loop-i-test.true (sym c.on_grid.ensures ∙ c.if-not-on_grid.true)

pub loop-i-init : goal.loop-i-init
loop-i-init c = row_start c.args.body.now c.args.at c.args.count

pub loop-i-preserved : goal.loop-i-preserved
loop-i-preserved c = row_on c.args.body.now c.args.at c.args.count _ c.loop-i.invariant c.loop-i-test.true (sym c.on_grid.ensures ∙ c.if-not-on_grid.false)

pub returns : goal.returns
returns c = row_end c.args.body.now c.args.at c.args.count _ c.loop-i.invariant c.loop-i-test.false
