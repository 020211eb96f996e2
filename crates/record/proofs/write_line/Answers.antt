-- `record::write_line` meets its contract.
use native.Mathlib.Omega.{arith}
use Rattle.record.proofs.Written.{writing_none, writing_more, writing_all}
use Rattle.record.proofs.write_line.Goals as goal

pub loop-i-init : goal.loop-i-init
loop-i-init c = writing_none _ _ _ _ _

pub bounds-nodes-v : goal.bounds-nodes-v
bounds-nodes-v c = omega (arith, c.from-v.ensures, c.requires.nodes.nodes_in_known _ c.loop-i-test.true)

pub loop-i-preserved : goal.loop-i-preserved
loop-i-preserved c = writing_more _ _ _ _ c.requires.nodes _ _ _ _ _ c.loop-i-test.true c.from-v.ensures c.write_point.ensures c.loop-i.invariant

pub returns : goal.returns
returns c = writing_all _ _ _ _ c.requires.nodes _ _ _ c.write_number.ensures (rw c.from.ensures at c.write_number-2.ensures) _ _ c.loop-i-test.false c.requires.room c.loop-i.invariant
