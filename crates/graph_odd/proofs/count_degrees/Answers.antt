-- Each edge counts at both of its ends.
use Rattle.std.proofs.Common.{refl}
use Rattle.graph_odd.proofs.Degrees.{counted_start, counted_fits, counted_next, counted_all}
use Rattle.graph_odd.proofs.count_degrees.Goals as goal

pub loop-i-init : goal.loop-i-init
loop-i-init c = counted_start _ _ refl

pub count_edge-requires : goal.count_edge-requires
count_edge-requires c = counted_fits _ _ _ _ _ c.requires c.loop-i.invariant c.loop-i-test.true

pub loop-i-preserved : goal.loop-i-preserved
loop-i-preserved c = counted_next _ _ _ _ _ c.requires c.loop-i.invariant _ c.loop-i-test.true c.count_edge.ensures

pub returns : goal.returns
returns c = counted_all _ _ _ _ _ c.requires c.loop-i.invariant c.loop-i-test.false
