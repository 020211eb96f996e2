-- `writer::slices_fit` meets its contract.
use Rattle.std.proofs.Common.{arith}
use Rattle.std.proofs.lemmas.Grind.{common_steps}
use Rattle.writer_spec.specs.Given.{fitting}
use Rattle.writer.proofs.slices_fit.Goals as goal

pub returns-then-drawing-eq0 : goal.returns-then-drawing-eq0
unfolding fitting
returns-then-drawing-eq0 c = grind (arith, common_steps)

pub returns-else-drawing-eq0 : goal.returns-else-drawing-eq0
unfolding fitting
returns-else-drawing-eq0 c = grind (arith, common_steps)
