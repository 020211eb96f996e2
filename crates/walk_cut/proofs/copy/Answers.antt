-- One node more is copied.
use Rattle.walk_cut.proofs.CopyLaws.{copied_none, copied_more, copied_all}
use native.Mathlib.Omega.{arith}
use Rattle.walk_cut.proofs.copy.Goals as goal

pub loop-p-init : goal.loop-p-init
loop-p-init c = copied_none _ _ _ _ _ (omega arith)

pub loop-p-preserved : goal.loop-p-preserved
loop-p-preserved c = copied_more _ _ _ _ _ _ _ _ c.loop-p-test.true (omega (arith, c.loop-p.invariant.count)) c.loop-p.invariant

pub returns : goal.returns
returns c = copied_all _ _ _ _ _ _ _ _ c.loop-p-test.false c.loop-p.invariant
